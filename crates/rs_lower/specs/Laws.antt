-- What holds of each intermediate form that lowering gives.
use Rattle.std.specs.Prelude.{ℕ, ◌<◌}
use Rattle.inc_wire.specs.Fits.{Each}
use Rattle.rs_tree.specs.declared.ir.Ir.{Ir}
use Rattle.rs_tree.specs.declared.ir.Instr.{Instr}
use Rattle.rs_tree.specs.declared.ir.Instr.TheVariants as i
use Rattle.rs_tree.specs.Labels.{LabelsHavePlaces}
use Rattle.rs_forms.specs.Fits.{HasOwnCode}

-- a slot that an instruction names is below m
abbrev pub HasSlot : ℕ → Instr → Type 0
HasSlot m (i.Push value) = Unit {0}
HasSlot m (i.Load slot) = slot < m
HasSlot m (i.Store slot) = slot < m
HasSlot m (i.Plain c) = Unit {0}
HasSlot m (i.Jump c label) = Unit {0}
HasSlot m (i.Label label) = Unit {0}
HasSlot m (i.Call inline place) = Unit {0}

-- each code is one of its kind's, each slot is one of the form's, each label that a jump names has one place
pub record IsForm (ir : Ir) : Type 0 where
  pub codes : Each HasOwnCode ir.code
  pub slots : Each (HasSlot ir.slots) ir.code
  pub labels : LabelsHavePlaces ir.code
