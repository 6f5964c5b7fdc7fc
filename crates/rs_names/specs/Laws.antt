-- The answers of an item are as many as its paths.
use Rattle.std.specs.Prelude.{◌≡◌, ℕ, List, length}
use Rattle.rs_tree.specs.declared.index.IndexItem.{IndexItem}
use Rattle.rs_tree.specs.declared.tree.Path as path
use Rattle.rs_tree.specs.Plain.{Definition}
use Rattle.rs_tree.specs.Leaves.{definition_leaves}
use Rattle.rs_names.specs.Resolved.{answers_of}

abbrev pub OneEach : Type 0
OneEach = (items : List IndexItem) (m : List ℕ) (d : Definition path.Path) → length (answers_of items m d) ≡ length (definition_leaves d)
