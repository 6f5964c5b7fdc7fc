-- The value of one constant among those that are known.
use Rattle.std.proofs.Common.{◌≡◌, List, ap}
use Rattle.std.specs.Prelude.{slice_get, option_and_then}
use Rattle.std.specs.Option.{option_map_or}
use Rattle.rs_const.specs.Constants.{AreValues, Entry, names}
use Rattle.rs_lookup.specs.Places.{place_from, place_name}
use Rattle.rs_tree.specs.declared.answers.Const.{Const}
use Rattle.rs_tree.specs.declared.answers.Const.TheVariants.{Bad}
use Rattle.rs_tree.specs.declared.place.Place.{Place}
use Rattle.rs_reach.proofs.Found.{ends, finds_once, finds_reached}
use Rattle.rs_queries.proofs.Values.{one, there}
use Rattle.rs_plans.specs.Plans.{const_at, values_of}

-- there is one list of values
pub worth_is : (known : List Entry) (cs : List Const) (at : Place) → AreValues known cs → option_map_or (λ c. c) (option_and_then (slice_get cs) (place_from (place_name at) 0 (names known))) Bad ≡ const_at known at
unfolding values_of
worth_is known cs at h = ap (λ xs. option_map_or (λ c. c) (option_and_then (slice_get xs) (place_from (place_name at) 0 (names known))) Bad) (one known cs (there ends finds_reached finds_once known).0 h (there ends finds_reached finds_once known).1)
