-- The index of a crate (docs/LANGUAGE.md, "Names").
use Rattle.std.specs.Prelude.{ℕ, ◌&&◌, Bool, not, codes, List, [], map, if◌then◌else◌}
use Rattle.std.specs.Str.{bytes_eq}
use Rattle.rs_tree.specs.declared.index.Index.{Index}
use Rattle.rs_tree.specs.declared.index.IndexItem.{IndexItem}
use Rattle.rs_tree.specs.Plain.{Definition, Const, Func, PlainPlaced, PlainCrate}

-- whether this is the name of the root's `main`
abbrev pub is_root_main : List ℕ → List ℕ → Bool
is_root_main m name = bytes_eq m [] && bytes_eq name (codes "main")

-- 0 for a constant, 1 for a function, 2 for one with `#[inline]`, which the root's `main` never counts as
abbrev pub kind_of : {A : Type 0} → Bool → Definition A → ℕ
kind_of main (Const typ value) = 0
kind_of main (Func inlined params gives stmts tail) = if inlined && not main then 2 else 1

abbrev pub index_item : {A : Type 0} → PlainPlaced A → IndexItem
index_item placed = record {
  «module» = placed.module;
  name = placed.item.name;
  kind = kind_of (is_root_main placed.module placed.item.name) placed.item.body;
  public = placed.item.public;
}

-- its modules and its items, in the order of the text
abbrev pub index_of : {A : Type 0} → PlainCrate A → Index
index_of krate = record { modules = krate.modules; items = map index_item krate.items }
