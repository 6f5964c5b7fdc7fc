-- Lines of functions that are never used.
use Rattle.std.proofs.Common.{◌≡◌, List, [], ◌∷◌, refl}
use Rattle.rs_tree.specs.declared.tree.Placed.{Placed}
use Rattle.plan_laws.specs.Assembled.{unused_lines}

-- of no function that is never used
pub none_unused : (ps : List Placed) → unused_lines [] ps ≡ []
none_unused [] = refl
none_unused (p ∷ ps) = none_unused ps
