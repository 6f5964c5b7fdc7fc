-- Names in values, as tests.
use Rattle.std.specs.Prelude.{ℕ, ◌&&◌, ◌||◌, Bool, true, not, nat_lt, nat_le, codes, List, [], ◌∷◌, length, if◌then◌else◌}
use Rattle.std.specs.List.{list_all, list_any}
use Rattle.std.specs.Str.{bytes_eq}
use Rattle.inc_base.specs.Texts.{is_name_byte}
use Rattle.rs_tree.specs.declared.place.Place.{Place}
use Rattle.rs_tree.specs.declared.index.Index.{Index}
use Rattle.rs_tree.specs.declared.index.IndexItem.{IndexItem}
use Rattle.rs_lookup.specs.Places.{same, place_name}

-- a name of 1 to 64 letters, digits and `_`
abbrev pub is_name : List ℕ → Bool
is_name text = nat_lt 0 (length text) && (nat_le (length text) 64 && list_all is_name_byte text)

-- empty, or a name
abbrev pub is_name_or_none : List ℕ → Bool
is_name_or_none text = bytes_eq text [] || is_name text

-- the root, which is empty, or a module's name, which `crate` isn't
abbrev pub is_module : List ℕ → Bool
is_module text = is_name_or_none text && not (bytes_eq text (codes "crate"))

-- a place of an item
abbrev pub is_placed : List ℕ → List ℕ → Bool
is_placed m name = is_module m && is_name_or_none name

abbrev pub is_place : Place → Bool
is_place p = is_placed p.«module» p.name

abbrev pub is_item_place : IndexItem → Bool
is_item_place x = is_placed x.«module» x.name

-- the names of an index are such
abbrev pub is_index : Index → Bool
is_index x = list_all is_module x.modules && list_all is_item_place x.items

-- this place is among these
abbrev pub is_among : List Place → Place → Bool
is_among ps p = list_any (λ (o : Place). same (place_name p) (place_name o)) ps

-- none of these is among those seen, or twice
abbrev pub are_new : List Place → List Place → Bool
are_new seen [] = true
are_new seen (p ∷ ps) = not (is_among seen p) && are_new (p ∷ seen) ps

-- places of items, each once
abbrev pub are_places : List Place → Bool
are_places ps = list_all is_place ps && are_new [] ps

-- those of them that are new, each the first time only
abbrev pub once_from : List Place → List Place → List Place
once_from seen [] = []
once_from seen (p ∷ ps) = if is_among seen p then once_from seen ps else p ∷ once_from (p ∷ seen) ps

abbrev pub once : List Place → List Place
once ps = once_from [] ps
