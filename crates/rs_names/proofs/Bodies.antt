-- Resolving statements, one step on.
use Rattle.std.proofs.Common.{◌≡◌, ℕ, ◌+◌, ◌-◌, ◌<◌, ◌≤◌, List, [], ◌∷◌, ◌++◌, length, get_or, drop, refl, sym, ap, ◌∙◌, append_assoc, arith}
use Rattle.std.specs.Prelude.{Option}
use Rattle.std.proofs.lemmas.List.{append-nil, length-append}
use Rattle.std.proofs.Math.Seq.{drop-append_seam}
use Rattle.rs_tree.specs.declared.tree.Expr.{Expr}
use Rattle.rs_tree.specs.declared.tree.Stmt.{Stmt}
use Rattle.rs_tree.specs.declared.tree.Path as path
use Rattle.rs_tree.specs.Plain.{Exp, Sta, Stas, Arms, Let, Assign, Return, Eval, While, If, Print, Bare, Arm, exp, statements, choices}
use Rattle.rs_tree.specs.Equations.{turns, known_forms, known_statements, known_bodies, choices_at}
use Rattle.rs_tree.specs.Weight.{weighs}
use Rattle.rs_names.specs.declared.resolve.Resolver.{Resolver}
use Rattle.rs_names.specs.Resolved.{Locals, after, after_all}
use Rattle.rs_names.specs.State.{told_exp, told_sta, told_stas, told_block, told_arms}

pub told_none : (s : Resolver) → told_stas Stas.Empty s ≡ s
told_none s = simp append-nil

pub told_next : (t : Sta path.Path) (more : Stas path.Path) (s : Resolver) → told_stas (Stas.Of t more) s ≡ told_stas more (told_sta t s)
told_next t more s = simp append_assoc

pub told_bare : (s : Resolver) → told_arms Bare s ≡ s
told_bare s = simp append-nil

pub told_arm : (cond : Exp path.Path) (inner : Stas path.Path) (more : Arms path.Path) (s : Resolver) → told_arms (Arm cond inner more) s ≡ told_arms more (told_block inner (told_exp cond s))
told_arm cond inner more s = simp append_assoc

pub told_while : (cond : Exp path.Path) (inner : Stas path.Path) (s : Resolver) → told_sta (While cond inner) s ≡ told_block inner (told_exp cond s)
told_while cond inner s = simp append_assoc

pub told_if : (arms : Arms path.Path) (s : Resolver) → told_sta (If arms) s ≡ told_arms arms s
told_if arms s = refl

after_front : (t : Sta path.Path) (locals : Locals) → (front : Locals) × (after t locals ≡ front ++ locals)
after_front (Let mutable at name typ value) locals = (name ∷ [], refl)
after_front (Assign at name value) locals = ([], refl)
after_front (Return at value) locals = ([], refl)
after_front (Eval value) locals = ([], refl)
after_front (While cond body) locals = ([], refl)
after_front (If arms) locals = ([], refl)
after_front (Print value) locals = ([], refl)

after_all_front : (ts : Stas path.Path) (locals : Locals) → (front : Locals) × (after_all ts locals ≡ front ++ locals)
after_all_front Stas.Empty locals = ([], refl)
after_all_front (Stas.Of t more) locals =
    let one = after_front t locals in
    let rest = after_all_front more (after t locals) in
    (rest.0 ++ one.0, rest.1 ∙ ap (λ x. rest.0 ++ x) one.1 ∙ sym (append_assoc rest.0 one.0 locals))

pub block_left : (ts : Stas path.Path) (locals : Locals) → drop (length (after_all ts locals) - length locals) (after_all ts locals) ≡ locals
block_left ts locals =
    let f = after_all_front ts locals in
    let n : length (f.0 ++ locals) - length locals ≡ length f.0 = omega (arith, length-append f.0 locals) in
    rw f.1 (rw n (drop-append_seam f.0 locals))

pub block_deeper : (ts : Stas path.Path) (locals : Locals) → length locals ≤ length (after_all ts locals)
block_deeper ts locals =
    let f = after_all_front ts locals in
    rw f.1 (omega (arith, length-append f.0 locals))

pub arm_step : (s s1 s2 : Resolver) (cs : List (Expr × List Stmt)) (other : Option (List Stmt)) (i : ℕ) (c : Expr × List Stmt) (b : List Stmt) (x : Resolver)
    → i < length cs → c ≡ get_or cs i c → told_arms (choices (drop i cs) other) s ≡ x
    → s1 ≡ told_exp (exp c.0) s → b ≡ c.1 → s2 ≡ told_block (statements b) s1
    → told_arms (choices (drop (i + 1) cs) other) s2 ≡ x
arm_step s s1 s2 cs other i c b x h is inv e1 eb e2 =
    let rest = choices (drop (i + 1) cs) other in
    rw (e2, eb, e1) (sym (told_arm (exp c.0) (statements c.1) rest s) ∙ ap (λ (a : Arms path.Path). told_arms a s) (sym (choices_at cs other i c h is)) ∙ inv)

pub ruleset bodies = (turns, known_forms, known_statements, known_bodies, weighs, told_none, told_next, told_bare, told_arm, told_while, told_if, block_left, block_deeper, append_assoc)
