-- Answered trees: the places of expressions stay.
use Rattle.std.specs.Prelude.{◌≡◌, List}
use Rattle.std.proofs.Common.{refl}
use Rattle.rs_tree.specs.declared.answers.Found.{Found}
use Rattle.rs_tree.specs.declared.answers.Found.TheVariants.{Absent}
use Rattle.rs_tree.specs.declared.tree.Path as path
use Rattle.rs_tree.specs.Plain.{at_of, Exp, Number, Truth, Path, Call, Group, Unary, Arith, Compare, And, Or}
use Rattle.rs_tree.specs.Leaves.{filled}

pub at_filled : (bs : List Found) (e : Exp path.Path) → at_of (filled Absent bs e) ≡ at_of e
at_filled bs (Number at n) = refl
at_filled bs (Truth at b) = refl
at_filled bs (Path at p) = refl
at_filled bs (Call at p args) = refl
at_filled bs (Group at e) = refl
at_filled bs (Unary at op e) = refl
at_filled bs (Arith at first more) = refl
at_filled bs (Compare at op a b) = refl
at_filled bs (And at parts) = refl
at_filled bs (Or at parts) = refl
