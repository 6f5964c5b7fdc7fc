use Rattle.std.proofs.Common.{◌∙◌}
use Rattle.inc_engine.proofs.Indexes.{looked-found, looked-none}
use Rattle.inc_engine.proofs.memo.Memo.find.Goals as goal

pub returns-clause-found : goal.returns-clause-found
returns-clause-found c = rw (← c.self.view_is) (looked-found c.args.q.now _ c.self.invariant.1 (c.copied.ensures ∙ c.get.ensures.value))

pub returns-clause-none : goal.returns-clause-none
returns-clause-none c = rw (← c.self.view_is) (looked-none c.args.q.now _ c.self.invariant.1 (c.copied.ensures ∙ c.get.ensures.value))
