use Rattle.std.proofs.Common.{List, take, sym, subst}
use Rattle.std.specs.List.{All}
use Rattle.rs_object.specs.declared.object.Func.{Func}
use Rattle.rs_object.specs.Grammar.{HasRelocs}
use Rattle.rs_emit.proofs.Codes.{all_right}
use Rattle.rs_emit.proofs.unit.emit.Goals as goal

pub returns-clause-grammar : goal.returns-clause-grammar
returns-clause-grammar c =
    subst (λ (fs : List Func). All HasRelocs fs) (sym c.loop-member.invariant) (all_right c.args.unit.now (take c.loop-member.member-index _))
