-- What lowering gives is a form.
use Rattle.std.proofs.Common.{◌≡◌, ℕ, zero, suc, ◌+◌, ◌<◌, Bool, true, false, if◌then◌else◌, Option, List, [], ◌∷◌, ◌++◌, length, drop, refl, subst, arith}
use Rattle.std.specs.List.{Contains}
use Rattle.inc_wire.specs.Fits.{Each}
use Rattle.rs_forms.specs.Fits.{HasOwnCode}
use Rattle.rs_tree.specs.declared.answers.Const.{Const}
use Rattle.rs_tree.specs.declared.answers.Found.{Found}
use Rattle.rs_tree.specs.declared.answers.Found.TheVariants.{Absent}
use Rattle.rs_tree.specs.declared.index.Sig.{Sig}
use Rattle.rs_tree.specs.declared.ir.Instr.{Instr}
use Rattle.rs_tree.specs.declared.ir.Instr.TheVariants as i
use Rattle.rs_tree.specs.declared.ir.Ir.{Ir}
use Rattle.rs_tree.specs.declared.place.Place.{Place}
use Rattle.rs_tree.specs.declared.tree.Item.{Item}
use Rattle.rs_tree.specs.declared.tree.Param.{Param}
use Rattle.rs_tree.specs.declared.tree.Path as path
use Rattle.rs_tree.specs.Labels.{count_of_places}
use Rattle.rs_tree.specs.Plain.{Exp, Stas, Definition, Const as constant, Func, definition}
use Rattle.rs_tree.specs.Leaves.{stas_leaves, stas_filled, filled_in}
use Rattle.rs_lower.specs.Code.{body_all, after_all, returned}
use Rattle.rs_lower.specs.Counts.{places_all, lets_all, labels_in}
use Rattle.rs_lower.specs.Laws.{IsForm, HasSlot}
use Rattle.rs_lower.specs.Locals.{with_params}
use Rattle.rs_lower.specs.Lowered.{function_code, is_within, lowered, lowered_definition, meanings, no_code}
use Rattle.rs_lower.specs.Reduced.{stas_reduced, reduced_in}
use Rattle.rs_lower.specs.Meanings.{Leaf, Meanings}
use Rattle.rs_lower.proofs.Placed.{within_all, within_sum, count-append, block_placed, returned_placed}
use Rattle.rs_lower.proofs.Sound.{IsSound, Below, each_append, each_weaker, return_plain, body_all_sound, returned_sound, after_all_below, params_below, own_code, own_slot}

each_contains : (P : Instr → Type 0) (xs : List Instr) (x : Instr) → Each P xs → Contains xs x → P x
each_contains P [] x all (k, less, is) = absurd (omega (arith, less))
each_contains P (y ∷ ys) x all (zero, less, is) = subst P is all.0
each_contains P (y ∷ ys) x all (suc k, less, is) = each_contains P ys x all.1 (k, omega (arith, less), is)

no_code_form : (inlined : Bool) → IsForm (no_code inlined)
no_code_form inlined = record { codes = (return_plain false, tt); slots = (tt, tt); labels = λ jump label within. absurd (none jump label within) }
  where
    none : (jump label : ℕ) → Contains (i.Plain 0x31 ∷ []) (i.Jump jump label) → ⊥
    none jump label (zero, less, is) = cc
    none jump label (suc k, less, is) = omega (arith, less)

function_form : (w : Meanings) (inlined : Bool) (ps : List Param) (ts : Stas Leaf) (tail : Option (Exp Leaf)) → IsForm (function_code w inlined ps ts tail)
function_form w inlined ps ts tail =
    let env = with_params 0 ps [] in
    let m = length ps + lets_all ts in
    let n = places_all ts + labels_in tail in
    let last = after_all w env (length ps) ts in
    let first = body_all w env (length ps) 0 ts in
    let end = returned w last (places_all ts) tail in
    let below : Below m env = params_below m 0 ps [] tt (omega arith) in
    let sound : Each (IsSound n m) (first ++ end) =
    each_append (IsSound n m) first end (body_all_sound w env n m (length ps) 0 ts below (omega arith) (omega arith)) (returned_sound w last n m (places_all ts) tail (after_all_below w env m (length ps) ts below (omega arith)) (omega arith)) in
    let once : (l : ℕ) → l < n → count_of_places l (first ++ end) ≡ 1 =
    (λ (l : ℕ) (less : l < n). omega (
      arith,
      count-append l first end,
      block_placed l w env (length ps) 0 ts,
      returned_placed l w last (places_all ts) tail,
      within_sum l 0 (places_all ts) (labels_in tail) (places_all ts) n (omega arith) refl,
      within_all l n less,
    )) in
    record {
      codes = each_weaker (IsSound n m) HasOwnCode (own_code n m) (first ++ end) sound;
      slots = each_weaker (IsSound n m) (HasSlot m) (own_slot n m) (first ++ end) sound;
      labels = λ jump label within. once label (each_contains (IsSound n m) (first ++ end) (i.Jump jump label) sound within).1;
    }

either_form : (b : Bool) (x y : Ir) → IsForm x → IsForm y → IsForm (if b then x else y)
either_form true x y first second = first
either_form false x y first second = second

definition_form : (level : ℕ) (found : List Found) (sigs : List (Place × Sig)) (consts : List (Place × Const)) (d : Definition path.Path) → IsForm (lowered_definition level found sigs consts d)
definition_form level found sigs consts (constant typ value) = no_code_form false
definition_form level found sigs consts (Func inlined ps gives stmts tail) =
    let w : Meanings = meanings level sigs consts gives in
    either_form (is_within ps stmts tail) _ _ (function_form w inlined ps (stas_reduced w (stas_filled Absent found stmts)) (reduced_in w (filled_in Absent (drop (length (stas_leaves stmts)) found) tail))) (no_code_form inlined)

pub lowered_form : (level : ℕ) (found : List Found) (sigs : List (Place × Sig)) (consts : List (Place × Const)) (item : Item) → IsForm (lowered level found sigs consts item)
lowered_form level found sigs consts item = definition_form level found sigs consts (definition item.body)
