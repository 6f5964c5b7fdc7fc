-- How a search goes on.
use Rattle.std.proofs.Common.{◌≡◌, ℕ, zero, suc, List, length, map, Option, Some, None, refl, sym, ap, ◌∙◌}
use Rattle.std.specs.Prelude.{slice_get, option_and_then}
use Rattle.std.specs.Option.{option_map}
use Rattle.std.proofs.lemmas.List.{length-map}
use Rattle.std.proofs.lemmas.Option.{none-some, slice_get-map}
use Rattle.rs_tree.specs.declared.index.Index.{Index}
use Rattle.rs_tree.specs.declared.index.IndexItem.{IndexItem}
use Rattle.rs_tree.specs.declared.place.Place.{Place}
use Rattle.rs_lookup.specs.Places.{item_name, place_name}
use Rattle.rs_reach.specs.Dead.{numbers_where, place_of}
use Rattle.rs_reach.specs.Laws.{AreRoots}
use Rattle.rs_reach.specs.Search.{next}
use Rattle.rs_reach.proofs.Numbered.{roots_differ}
use Rattle.rs_units.specs.Members.{place_numbered}
use Rattle.rs_provider.specs.Searches.{IsAsking, begins_with, may_find, next_by, wanted_by}
use Rattle.rs_provider.specs.Walks.{state_of}
use Rattle.rs_provider.specs.declared.state.Search.{Search}
use Rattle.rs_provider.specs.declared.walk.Walk.{Walk}
use Rattle.rs_provider.proofs.Searched.{wanted_is}

-- ---- What is asked for, while one more may be.

pub next_one : (s : Search) (index : Index) (calls : List (Place × List Place)) (left : ℕ) → (left ≡ 0 → ⊥) → wanted_by s index calls ≡ next_by s index calls left
next_one s index calls zero some = absurd (some refl)
next_one s index calls (suc n) some = refl

pub asks_next : (s : Search) (index : Index) (calls : List (Place × List Place)) (left : ℕ) (p : Place) → Some p ≡ next_by s index calls left → wanted_by s index calls ≡ Some p
asks_next s index calls zero p e = absurd (none-some p (sym e))
asks_next s index calls (suc n) p e = sym e

-- ---- With the calls of the one that is wanted.

name_numbered : (items : List IndexItem) (o : Option ℕ) (p : Place) → option_and_then (place_numbered items) o ≡ Some p → option_and_then (slice_get (map item_name items)) o ≡ Some (place_name p)
name_numbered items None p e = absurd (none-some p e)
name_numbered items (Some i) p e = slice_get-map item_name items i ∙ by (slice_get items i) e
  where
    by : (x : Option IndexItem) → option_map place_of x ≡ Some p → option_map item_name x ≡ Some (place_name p)
    by None h = absurd (none-some p h)
    by (Some x) h = ap (option_map place_name) h

pub roots_of : (s : Search) (items : List IndexItem) → AreRoots (map (may_find s) items) (numbers_where (begins_with s) 0 items)
roots_of s items = roots_differ (begins_with s) (may_find s) items

pub named_next : (s : Search) (index : Index) (calls : List (Place × List Place)) (w : Walk) (p : Place) → IsAsking s index calls w p → option_and_then (slice_get (map item_name index.items)) (next (state_of w.reached)) ≡ Some (place_name p)
named_next s index calls w p is = name_numbered index.items (next (state_of w.reached)) p (wanted_is s index calls w is.there ∙ is.asks)

-- ---- Before any are known.

pub as_long : (s : Search) (items : List IndexItem) → length (map item_name items) ≡ length (map (may_find s) items)
as_long s items = length-map items item_name ∙ sym (length-map items (may_find s))
