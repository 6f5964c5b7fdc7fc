-- Parameters, and a whole function.
use Rattle.std.proofs.Common.{◌≡◌, ℕ, Bool, suc, ◌+◌, ◌<◌, List, [], ◌∷◌, ◌++◌, length, get_or, drop, Option, refl, sym, ap, ◌∙◌, add-zero, arith}
use Rattle.std.proofs.lemmas.List.{at_drop_more}
use Rattle.rs_tree.specs.declared.tree.Param.{Param}
use Rattle.rs_lower.specs.declared.expr.Lowerer.{Lowerer}
use Rattle.rs_lower.specs.Meanings.{is_truth_type}
use Rattle.rs_lower.specs.Locals.{with_params}
use Rattle.rs_tree.specs.declared.answers.Found.{Found}
use Rattle.rs_tree.specs.declared.answers.Found.TheVariants.{Absent}
use Rattle.rs_tree.specs.declared.tree.Path as path
use Rattle.rs_tree.specs.Leaves.{filled_in, stas_filled, stas_leaves}
use Rattle.rs_tree.specs.Plain.{Exp, Stas}
use Rattle.rs_lower.specs.Code.{body_all, after_all, returned}
use Rattle.rs_lower.specs.Counts.{places_all, lets_all}
use Rattle.rs_lower.specs.Lowered.{reduced_code}
use Rattle.rs_lower.specs.Reduced.{stas_reduced, reduced_in}
use Rattle.rs_lower.specs.State.{declared_params, with_return, with_stas}
use Rattle.rs_lower.proofs.Reducing.{same_lets_all}

pub declared_none : (s : Lowerer) → declared_params [] s ≡ s
declared_none s = simp add-zero

abbrev declared_one : Param → Lowerer → Lowerer
declared_one p s = record s { slots = s.slots + 1; locals = record { name = p.name; slot = s.slots; truth = is_truth_type p.typ } ∷ s.locals }

pub declared_next : (p : Param) (ps : List Param) (s : Lowerer) → declared_params (p ∷ ps) s ≡ declared_params ps (declared_one p s)
declared_next p ps s =
    let n : s.slots + suc (length ps) ≡ s.slots + 1 + length ps = omega arith in
    rw n refl

pub params_at : (ps : List Param) (i : ℕ) (p : Param) (s : Lowerer) → i < length ps → p ≡ get_or ps i p → declared_params (drop i ps) s ≡ declared_params (drop (i + 1) ps) (declared_one p s)
params_at ps i p s less is =
    at_drop_more (λ qs. declared_params qs s) ps i p less ∙ ap (λ q. declared_params (q ∷ drop (i + 1) ps) s) (sym is) ∙ declared_next p (drop (i + 1) ps) s

-- a function is its parameters, its statements and its end, from a beginning without any
pub whole : (inlined : Bool) (ps : List Param) (ts : Stas path.Path) (tail : Option (Exp path.Path)) (bs : List Found) (s one two three : Lowerer)
    → s.code ≡ [] → s.labels ≡ 0 → s.slots ≡ 0 → s.locals ≡ [] → s.answers ≡ bs
    → one ≡ declared_params ps s → two ≡ with_stas ts one → three ≡ with_return tail two
    → record { inline = inlined; params = length ps; slots = three.slots; code = three.code } ≡ reduced_code s.meanings.now inlined ps (stas_filled Absent bs ts) (filled_in Absent (drop (length (stas_leaves ts)) bs) tail)
whole inlined ps ts tail bs s one two three no_code no_labels no_slots no_locals all_left begun worked ended =
    let w = s.meanings.now in
    let env = with_params 0 ps [] in
    let first = stas_reduced w (stas_filled Absent bs ts) in
    let last = reduced_in w (filled_in Absent (drop (length (stas_leaves ts)) bs) tail) in
    let made : three ≡ with_return tail (with_stas ts (declared_params ps s)) = ended ∙ ap (with_return tail) (worked ∙ ap (with_stas ts) begun) in
    let n : 0 + places_all first ≡ places_all first = omega arith in
    let m : 0 + length ps ≡ length ps = omega arith in
    let code : three.code ≡ body_all w env (length ps) 0 first ++ returned w (after_all w env (length ps) first) (places_all first) last =
    ap (λ (x : Lowerer). x.code) made
    ∙ (λ j. (no_code j ++ body_all w (with_params (no_slots j) ps (no_locals j)) (no_slots j + length ps) (no_labels j) (stas_reduced w (stas_filled Absent (all_left j) ts)))
    ++ returned w (after_all w (with_params (no_slots j) ps (no_locals j)) (no_slots j + length ps) (stas_reduced w (stas_filled Absent (all_left j) ts))) (no_labels j + places_all (stas_reduced w (stas_filled Absent (all_left j) ts))) (reduced_in w (filled_in Absent (drop (length (stas_leaves ts)) (all_left j)) tail)))
    ∙ (λ j. body_all w env (m j) 0 first ++ returned w (after_all w env (m j) first) (n j) last) in
    let slots : three.slots ≡ length ps + lets_all first =
    let k : three.slots ≡ s.slots + length ps + lets_all ts = ap (λ (x : Lowerer). x.slots) made in
    omega (arith, k, no_slots, same_lets_all w bs ts) in
    (λ j. record { inline = inlined; params = length ps; slots = slots j; code = code j })

pub ruleset wholes = (declared_none, params_at)
