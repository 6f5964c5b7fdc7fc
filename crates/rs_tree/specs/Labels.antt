-- The labels of an intermediate form.
use Rattle.std.specs.Prelude.{◌≡◌, ℕ, ◌+◌, ◌==◌, Bool, false, if◌then◌else◌, List, [], ◌∷◌}
use Rattle.std.specs.List.{Contains}
use Rattle.rs_tree.specs.declared.ir.Instr.{Instr}
use Rattle.rs_tree.specs.declared.ir.Instr.TheVariants as i

-- whether an instruction is the place of a label
abbrev pub places : ℕ → Instr → Bool
places label (i.Push value) = false
places label (i.Load slot) = false
places label (i.Store slot) = false
places label (i.Plain code) = false
places label (i.Jump code other) = false
places label (i.Label other) = other == label
places label (i.Call inline place) = false

-- how many places a label has
abbrev pub count_of_places : ℕ → List Instr → ℕ
count_of_places label [] = 0
count_of_places label (instr ∷ more) = (if places label instr then 1 else 0) + count_of_places label more

-- each label that a jump names has exactly one place
abbrev pub LabelsHavePlaces : List Instr → Type 0
LabelsHavePlaces code = (jump label : ℕ) → Contains code (i.Jump jump label) → count_of_places label code ≡ 1
