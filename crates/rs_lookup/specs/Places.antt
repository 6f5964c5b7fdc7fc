-- Places in a list of places.
use Rattle.std.specs.Prelude.{ℕ, ◌+◌, ◌&&◌, Bool, List, [], ◌∷◌, if◌then◌else◌, Option, Some, None}
use Rattle.std.specs.Str.{bytes_eq}
use Rattle.rs_tree.specs.declared.place.Place.{Place}
use Rattle.rs_tree.specs.declared.index.IndexItem.{IndexItem}

-- a module, empty for the root, and a name
abbrev pub Name : Type 0
Name = List ℕ × List ℕ

abbrev pub same : Name → Name → Bool
same a b = bytes_eq a.0 b.0 && bytes_eq a.1 b.1

abbrev pub place_name : Place → Name
place_name p = (p.«module», p.name)

abbrev pub item_name : IndexItem → Name
item_name x = (x.«module», x.name)

-- the position of the first of the names that is q, counted from i
abbrev pub place_from : Name → ℕ → List Name → Option ℕ
place_from q i [] = None
place_from q i (k ∷ ks) = if same q k then Some i else place_from q (i + 1) ks
