-- The units of an index.
use Rattle.std.specs.Prelude.{ℕ, ◌==◌, ◌&&◌, Bool, List, [], ◌∷◌, filter}
use Rattle.std.specs.List.{list_any}
use Rattle.std.specs.Str.{bytes_eq}
use Rattle.rs_tree.specs.declared.index.Index.{Index}
use Rattle.rs_tree.specs.declared.index.IndexItem.{IndexItem}

-- an item is a function of kind 1 of this module
abbrev pub is_own : List ℕ → IndexItem → Bool
is_own m item = item.kind == 1 && bytes_eq m item.module

-- a module has one
abbrev pub has_own : List IndexItem → List ℕ → Bool
has_own items m = list_any (is_own m) items

-- the root and the modules, in index order, that have one
abbrev pub units_of : Index → List (List ℕ)
units_of index = filter (has_own index.items) ([] ∷ index.modules)
