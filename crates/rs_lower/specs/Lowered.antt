-- The intermediate form of a function. Level 1 is level 0 of the reduced tree.
use Rattle.std.specs.Prelude.{ℕ, ◌+◌, ◌==◌, ◌&&◌, not, Bool, true, false, nat_le, if◌then◌else◌, List, [], ◌∷◌, ◌++◌, length, drop, Option}
use Rattle.rs_tree.specs.declared.answers.Found.{Found}
use Rattle.rs_tree.specs.declared.answers.Found.TheVariants.{Absent}
use Rattle.rs_tree.specs.declared.answers.Const.{Const}
use Rattle.rs_tree.specs.declared.index.Sig.{Sig}
use Rattle.rs_tree.specs.declared.ir.Ir.{Ir}
use Rattle.rs_tree.specs.declared.ir.Instr.TheVariants as i
use Rattle.rs_tree.specs.declared.place.Place.{Place}
use Rattle.rs_tree.specs.declared.tree.Item.{Item}
use Rattle.rs_tree.specs.declared.tree.Param.{Param}
use Rattle.rs_tree.specs.declared.tree.Path as path
use Rattle.rs_tree.specs.declared.tree.Typ.{Typ}
use Rattle.rs_tree.specs.Plain.{Exp, Stas, Definition, Const as constant, Func, definition}
use Rattle.rs_tree.specs.Leaves.{stas_leaves, stas_filled, filled_in}
use Rattle.rs_lower.specs.Meanings.{Leaf, Meanings, is_value_type}
use Rattle.rs_lower.specs.Locals.{with_params}
use Rattle.rs_lower.specs.Counts.{places_all, lets_all, labels_in}
use Rattle.rs_lower.specs.Code.{body_all, after_all, returned}
use Rattle.rs_lower.specs.Reduced.{stas_reduced, reduced_in}

-- the most slots, and the most labels, of a function
abbrev pub most : ℕ
most = 65535

-- what stands for a function past one of these numbers, and for what is no function
abbrev pub no_code : Bool → Ir
no_code inlined = record { inline = inlined; params = 0; slots = 0; code = i.Plain 0x31 ∷ [] }

abbrev pub function_code : Meanings → Bool → List Param → Stas Leaf → Option (Exp Leaf) → Ir
function_code w inlined params stmts tail = record {
  inline = inlined;
  params = length params;
  slots = length params + lets_all stmts;
  code = body_all w (with_params 0 params []) (length params) 0 stmts ++ returned w (after_all w (with_params 0 params []) (length params) stmts) (places_all stmts) tail;
}

-- its parameters and its `let`s have slots, and labels are counted as they stand in the tree
abbrev pub is_within : {A : Type 0} → List Param → Stas A → Option (Exp A) → Bool
is_within params stmts tail = nat_le (length params + lets_all stmts) most && nat_le (places_all stmts + labels_in tail) most

abbrev pub within_definition : Definition path.Path → Bool
within_definition (constant typ value) = true
within_definition (Func inlined params gives stmts tail) = is_within params stmts tail

-- an item that isn't past one of these numbers
abbrev pub is_within_limits : Item → Bool
is_within_limits item = within_definition (definition item.body)

-- level 0 folds nothing; any other folds
abbrev pub meanings : ℕ → List (Place × Sig) → List (Place × Const) → Typ → Meanings
meanings level sigs consts gives = record { sigs = sigs; consts = consts; gives = is_value_type gives; folds = not (level == 0) }

-- the statements and the end of a function, reduced
abbrev pub reduced_code : Meanings → Bool → List Param → Stas Leaf → Option (Exp Leaf) → Ir
reduced_code w inlined params stmts tail = function_code w inlined params (stas_reduced w stmts) (reduced_in w tail)

abbrev pub lowered_definition : ℕ → List Found → List (Place × Sig) → List (Place × Const) → Definition path.Path → Ir
lowered_definition level found sigs consts (constant typ value) = no_code false
lowered_definition level found sigs consts (Func inlined params gives stmts tail) =
    if is_within params stmts tail
    then reduced_code (meanings level sigs consts gives) inlined params (stas_filled Absent found stmts) (filled_in Absent (drop (length (stas_leaves stmts)) found) tail)
    else no_code inlined

-- each path of the item has its answer, in order of the text
abbrev pub lowered : ℕ → List Found → List (Place × Sig) → List (Place × Const) → Item → Ir
lowered level found sigs consts item = lowered_definition level found sigs consts (definition item.body)
