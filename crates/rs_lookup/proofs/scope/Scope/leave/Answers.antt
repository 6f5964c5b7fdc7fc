use Rattle.std.proofs.Common.{arith, length-drop}
use Rattle.rs_lookup.proofs.ScopeLemmas.{left_one}
use Rattle.rs_lookup.proofs.scope.Scope.leave.Goals as goal

pub loop-self-preserved : goal.loop-self-preserved
loop-self-preserved c = (grind (arith, length-drop), grind (arith, left_one))
