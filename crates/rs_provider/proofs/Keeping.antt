-- What is kept between calls, used.
use Rattle.std.proofs.Common.{◌≡◌, ℕ, List, Some, sym, ap, ◌∙◌}
use Rattle.std.specs.Coded.{Coded-set, coded_list, coded_option, coded_ℕ}
use Rattle.std.proofs.Math.Logic.{∥∥₁_elim}
use Rattle.rs_lookup.specs.Places.{Name}
use Rattle.rs_text.specs.Text.{text_of}
use Rattle.rs_queries.specs.Reading.{IsReading, what_was_read}
use Rattle.rs_queries.specs.declared.reading.Reading.{Reading}
use Rattle.rs_tree.specs.contracts.index.Index as row
use Rattle.rs_tree.specs.contracts.tree.Item as item_row
use Rattle.rs_tree.specs.declared.index.Index.{Index}
use Rattle.rs_tree.specs.declared.tree.Item.{Item}
use Rattle.rs_plans.specs.Plans.{index_by, item_value}
use Rattle.rs_plans.specs.Readings.{index_in, item_in}

-- the index of a text that was read
pub index_of_read : (bytes : List ℕ) (reading : Reading) (v : List ℕ) → ∥ IsReading bytes reading ∥₁ → v ≡ index_by (what_was_read reading) → v ≡ index_by (text_of bytes)
index_of_read bytes reading v is e = e ∙ ∥∥₁_elim is (Coded-set (coded_list coded_ℕ) _ _) (λ r. ap index_by (sym r))

-- and an item of it
pub item_of_read : (bytes : List ℕ) (reading : Reading) (name : Name) (v : List ℕ) → ∥ IsReading bytes reading ∥₁ → v ≡ item_value name (what_was_read reading) → v ≡ item_value name (text_of bytes)
item_of_read bytes reading name v is e = e ∙ ∥∥₁_elim is (Coded-set (coded_list coded_ℕ) _ _) (λ r. ap (item_value name) (sym r))

-- an index that was read
pub index_of_kept : (bytes : List ℕ) (index : Index) → ∥ Some index ≡ index_in bytes ∥₁ → Some index ≡ index_in bytes
index_of_kept bytes index is = ∥∥₁_elim is (Coded-set (coded_option row.the_row.coded) _ _) (λ e. e)

-- an item that was read
pub item_of_kept : (bytes : List ℕ) (item : Item) → ∥ Some item ≡ item_in bytes ∥₁ → Some item ≡ item_in bytes
item_of_kept bytes item is = ∥∥₁_elim is (Coded-set (coded_option item_row.the_row.coded) _ _) (λ e. e)
