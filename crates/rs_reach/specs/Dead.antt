-- Functions that are never used (docs/LANGUAGE.md, "Functions that are never used").
use Rattle.std.specs.Prelude.{ℕ, ◌+◌, ◌&&◌, ◌||◌, ◌==◌, Bool, not, nat_eq, codes, List, [], ◌∷◌, length, map, if◌then◌else◌}
use Rattle.std.specs.List.{list_any, starts_with}
use Rattle.std.specs.Str.{bytes_eq}
use Rattle.rs_tree.specs.declared.place.Place.{Place}
use Rattle.rs_tree.specs.declared.index.IndexItem.{IndexItem}
use Rattle.rs_lookup.specs.Places.{item_name}
use Rattle.rs_reach.specs.Search.{State, start, walk}
use Rattle.rs_reach.specs.Places.{ask}

-- the numbers, counted from i, of the items that pass
abbrev pub numbers_where : (IndexItem → Bool) → ℕ → List IndexItem → List ℕ
numbers_where p i [] = []
numbers_where p i (x ∷ xs) = if p x then i ∷ numbers_where p (i + 1) xs else numbers_where p (i + 1) xs

abbrev pub place_of : IndexItem → Place
place_of x = record { «module» = x.«module»; name = x.name }

-- the places of the items that pass, with their numbers counted from i
abbrev pub places_where : (ℕ → IndexItem → Bool) → ℕ → List IndexItem → List Place
places_where p i [] = []
places_where p i (x ∷ xs) = if p i x then place_of x ∷ places_where p (i + 1) xs else places_where p (i + 1) xs

-- the search from some items through those that may be found
abbrev pub search : (IndexItem → Bool) → (IndexItem → Bool) → List IndexItem → List (Place × List Place) → State
search from may items calls = walk (map may items) (ask (map item_name items) calls) (start (numbers_where from 0 items)) (length (map may items) + 1)

abbrev pub is_function : IndexItem → Bool
is_function x = x.kind == 1 || x.kind == 2

abbrev pub is_main : IndexItem → Bool
is_main x = bytes_eq x.«module» [] && bytes_eq x.name (codes "main") && is_function x

-- whether its name begins with `_`
abbrev pub is_silent : IndexItem → Bool
is_silent x = starts_with nat_eq x.name (codes "_")

-- the functions that aren't found from `main`, without those whose names begin with `_`, in the index's order
abbrev pub dead_of : List IndexItem → List (Place × List Place) → List Place
dead_of items calls = places_where (λ i x. is_function x && not (list_any (nat_eq i) (search is_main is_function items calls).found) && not (is_silent x)) 0 items
