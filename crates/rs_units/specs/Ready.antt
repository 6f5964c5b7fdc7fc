-- An index and the calls that are known, made ready for searches.
use Rattle.std.specs.Prelude.{◌≡◌, ℕ, Bool, List, map, Option, slice_get, option_and_then}
use Rattle.std.specs.Option.{option_map}
use Rattle.std.specs.declared.vec.Vec.{Vec}
use Rattle.std.specs.declared.alloc.Global.{Global}
use Rattle.rs_tree.specs.declared.place.Place.{Place}
use Rattle.rs_tree.specs.declared.index.IndexItem.{IndexItem}
use Rattle.rs_lookup.specs.Places.{item_name}
use Rattle.rs_reach.specs.Places.{ask}
use Rattle.rs_reach.specs.Dead.{numbers_where}
use Rattle.rs_units.specs.Members.{is_inline}

-- what is kept of the calls of the function with this number
abbrev pub kept : List (Option (Vec ℕ Global)) → ℕ → Option (List ℕ)
kept its i = option_and_then (option_map (λ (v : Vec ℕ Global). v.items)) (slice_get its i)

-- of each function the numbers of those that it calls, where its calls are known; of each item whether it is of
-- kind 2; and the numbers of those that are
pub record IsReady (items : List IndexItem) (calls : List (Place × List Place)) (known : List (Option (Vec ℕ Global))) (marks : List Bool) (inlines : List ℕ) : Type 0 where
  pub asked : (i : ℕ) → kept known i ≡ ask (map item_name items) calls i
  pub marked : marks ≡ map is_inline items
  pub numbered : inlines ≡ numbers_where is_inline 0 items
