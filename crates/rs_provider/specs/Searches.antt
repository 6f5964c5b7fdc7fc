-- What a search asks for and finds, by the calls that are known.
use Rattle.std.specs.Prelude.{◌≡◌, ℕ, Bool, List, Option, Some, None, map}
use Rattle.std.proofs.Common.{zero, suc}
use Rattle.rs_tree.specs.declared.index.Index.{Index}
use Rattle.rs_tree.specs.declared.index.IndexItem.{IndexItem}
use Rattle.rs_tree.specs.declared.place.Place.{Place}
use Rattle.rs_lookup.specs.Places.{item_name}
use Rattle.rs_reach.specs.Dead.{dead_of, is_function, is_main, numbers_where}
use Rattle.rs_units.specs.Members.{is_inline, members_of, wanted_of}
use Rattle.rs_units.specs.Units.{is_own}
use Rattle.rs_plans.specs.Plans.{wanted_from_main}
use Rattle.rs_provider.specs.Walks.{IsWalk}
use Rattle.rs_provider.specs.declared.state.Search.{Search}
use Rattle.rs_provider.specs.declared.state.Search.TheVariants as search
use Rattle.rs_provider.specs.declared.walk.Walk.{Walk}

abbrev pub wanted_by : Search → Index → List (Place × List Place) → Option Place
wanted_by search.Dead index calls = wanted_from_main index calls
wanted_by (search.Members unit) index calls = wanted_of unit index.items calls

-- while one more may be asked for
abbrev pub next_by : Search → Index → List (Place × List Place) → ℕ → Option Place
next_by search index calls zero = None
next_by search index calls (suc n) = wanted_by search index calls

abbrev pub found_by : Search → Index → List (Place × List Place) → List Place
found_by search.Dead index calls = dead_of index.items calls
found_by (search.Members unit) index calls = members_of unit index.items calls

-- ---- Where it stands.

-- an item may be found by it
abbrev pub may_find : Search → IndexItem → Bool
may_find search.Dead item = is_function item
may_find (search.Members unit) item = is_inline item

-- it begins with an item
abbrev pub begins_with : Search → IndexItem → Bool
begins_with search.Dead item = is_main item
begins_with (search.Members unit) item = is_own unit item

-- a walk has come as far as these calls lead the search
abbrev pub IsThere : Search → List IndexItem → List (Place × List Place) → Walk → Type 0
IsThere s items calls w = IsWalk (map item_name items) (map (may_find s) items) (numbers_where (begins_with s) 0 items) calls w

-- and this function's calls are wanted then
pub record IsAsking (s : Search) (index : Index) (calls : List (Place × List Place)) (w : Walk) (wanted : Place) : Type 0 where
  pub there : IsThere s index.items calls w
  pub asks : wanted_by s index calls ≡ Some wanted
