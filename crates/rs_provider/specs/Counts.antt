-- How often labels have places.
use Rattle.std.specs.Prelude.{◌≡◌, ℕ, List, unwrap_or}
use Rattle.std.specs.BTreeMap.{get}
use Rattle.std.specs.Ordering.{nat_cmp}
use Rattle.std.specs.declared.alloc.Global.{Global}
use Rattle.std.specs.declared.collections.BTreeMap.{BTreeMap}
use Rattle.rs_tree.specs.Labels.{count_of_places}
use Rattle.rs_tree.specs.declared.ir.Instr.{Instr}

-- the map has how many places each label has among these, where it has any
pub record AreCounted (counts : BTreeMap ℕ ℕ Global) (code : List Instr) : Type 0 where
  pub each : (label : ℕ) → unwrap_or (get nat_cmp counts label) 0 ≡ count_of_places label code
