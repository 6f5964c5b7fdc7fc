use Rattle.inc_laws.proofs.Answered.{kind, could_before}
use Rattle.inc_laws.proofs.expects.own_steps_are_answered_in_kind.Goals as goal

pub returns-clause-kind : goal.returns-clause-kind
returns-clause-kind c = kind

pub returns-clause-before : goal.returns-clause-before
returns-clause-before c = could_before
