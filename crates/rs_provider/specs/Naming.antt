-- How the items that paths lead to are gathered, and places that were seen.
use Rattle.std.specs.Prelude.{◌≡◌, List, [], ◌∷◌, ◌++◌, if◌then◌else◌}
use Rattle.rs_tree.specs.declared.place.Place.{Place}
use Rattle.rs_plans.specs.Names.{is_among}

-- those of them that are new, behind the others
abbrev pub with_new : List Place → List Place → List Place
with_new all [] = all
with_new all (p ∷ ps) = with_new (if is_among all p then all else all ++ p ∷ []) ps

-- these places and those are the same, whatever their order and however often each is there
pub record HaveSame (these those : List Place) : Type 0 where
  pub each : (q : Place) → is_among these q ≡ is_among those q
