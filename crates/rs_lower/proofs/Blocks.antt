-- Each statement is lowered by lowering its parts one after another.
use Rattle.std.proofs.Common.{◌≡◌, ℕ, ◌+◌, ◌-◌, ◌<◌, ◌≤◌, get_or, Bool, Option, None, Some, List, [], ◌∷◌, ◌++◌, length, drop, refl, sym, ap, ◌∙◌, append_assoc, add_assoc, add-zero, arith}
use Rattle.std.proofs.lemmas.List.{append-nil, length-append}
use Rattle.std.proofs.Math.Seq.{drop-append_seam}
use Rattle.rs_tree.specs.declared.answers.Found.{Found}
use Rattle.rs_tree.specs.declared.answers.Found.TheVariants.{Absent}
use Rattle.rs_tree.specs.declared.ir.Instr.{Instr}
use Rattle.rs_tree.specs.declared.ir.Instr.TheVariants as i
use Rattle.rs_tree.specs.declared.place.At.{At}
use Rattle.rs_tree.specs.declared.tree.Path as path
use Rattle.rs_tree.specs.declared.tree.Typ.{Typ}
use Rattle.rs_tree.specs.declared.tree.Expr.{Expr}
use Rattle.rs_tree.specs.declared.tree.Stmt.{Stmt}
use Rattle.rs_tree.specs.declared.tree.Stmt.TheVariants as stmt
use Rattle.rs_tree.specs.Equations.{turns, statements_at, choices_at, is_let, is_assign, is_return, is_eval, is_print, is_while, is_if}
use Rattle.rs_tree.specs.Weight.{weights, weight_arms, weighs}
use Rattle.rs_tree.specs.Plain.{Exp, Sta, Stas, Arms, Let, Assign, Return, Eval, While, If, Print, Bare, Else, Arm, exp, statements, choices, sta, optional}
use Rattle.rs_tree.specs.Leaves.{leaves, sta_leaves, stas_leaves, arms_leaves, stas_filled, arms_filled}
use Rattle.rs_tree.specs.LeafLaws.{left_after}
use Rattle.rs_lower.specs.declared.expr.Lowerer.{Lowerer}
use Rattle.rs_lower.specs.Meanings.{Leaf, Meanings}
use Rattle.rs_lower.specs.Locals.{Env}
use Rattle.rs_lower.specs.Counts.{labels, labels_in, places, places_all, places_arms, lets, lets_all, lets_arms}
use Rattle.rs_lower.specs.Code.{code, body, body_all, body_arms, after, after_all, return_code}
use Rattle.rs_lower.specs.Reduced.{stas_reduced, arms_reduced}
use Rattle.rs_lower.specs.State.{put, numbered, reduce, reduce_sta, reduce_stas, with_exp, with_let, with_assign, with_eval, with_print, with_return, with_sta, with_stas, with_block, with_arm, with_arms}
use Rattle.rs_lower.proofs.Reducing.{fewer, fewer_places, fewer_places_all, same_lets, same_lets_all}

pub with_return_none : (s : Lowerer) → with_return None s ≡ put (i.Plain 0x31 ∷ []) s
with_return_none s = simp add-zero

pub with_return_some : (e : Exp path.Path) (s : Lowerer) → with_return (Some e) s ≡ put (i.Plain (return_code s.meanings.now.gives) ∷ []) (with_exp e s)
with_return_some e s = simp append_assoc

pub with_assign_is : (at : At) (name : List ℕ) (value : Exp path.Path) (s : Lowerer) → with_sta (Assign at name value) s ≡ with_assign name value s
with_assign_is at name value s = simp (append_assoc, add-zero)

pub with_return_is : (at : At) (value : Option (Exp path.Path)) (s : Lowerer) → with_sta (Return at value) s ≡ with_return value s
with_return_is at value s = simp add-zero

pub with_eval_is : (value : Exp path.Path) (s : Lowerer) → with_sta (Eval value) s ≡ with_eval value s
with_eval_is value s = simp (append_assoc, add-zero)

pub with_print_is : (value : Exp path.Path) (s : Lowerer) → with_sta (Print value) s ≡ with_print value s
with_print_is value s = simp (append_assoc, add-zero)

pub with_while : (cond : Exp path.Path) (inner : Stas path.Path) (s : Lowerer) → with_sta (While cond inner) s ≡
    put (i.Label (s.labels + 1 + labels (reduce s cond)) ∷ []) (put (i.Jump 0x28 s.labels ∷ []) (with_block inner (put (i.Jump 0x29 (s.labels + 1 + labels (reduce s cond)) ∷ [])
    (numbered 1 (with_exp cond (put (i.Label s.labels ∷ []) (numbered 1 s)))))))
with_while cond inner s =
    let rest = reduce_stas (with_exp cond s) inner in
    let n : s.labels + (2 + labels (reduce s cond) + places_all rest) ≡ s.labels + 1 + labels (reduce s cond) + 1 + places_all rest = omega arith in
    let m : s.labels + 2 + labels (reduce s cond) ≡ s.labels + 1 + labels (reduce s cond) + 1 = omega arith in
    simp (append_assoc, n, m, left_after (leaves cond) (stas_leaves inner) s.answers)

pub with_empty : (s : Lowerer) → with_stas Stas.Empty s ≡ s
with_empty s = simp (append-nil, add-zero)

pub with_next : (t : Sta path.Path) (more : Stas path.Path) (s : Lowerer) → with_stas (Stas.Of t more) s ≡ with_stas more (with_sta t s)
with_next t more s =
    let w = s.meanings.now in
    let now = reduce_sta s t in
    let rest = stas_reduced w (stas_filled Absent (drop (length (sta_leaves t)) s.answers) more) in
    let env = after w s.locals s.slots now in
    let one = body w s.locals s.slots s.labels now in
    let grown : s.code ++ (one ++ body_all w env (s.slots + lets now) (s.labels + places now) rest) ≡ (s.code ++ one) ++ body_all w env (s.slots + lets t) (s.labels + places now) rest =
    (λ j. s.code ++ (one ++ body_all w env (s.slots + same_lets w s.answers t j) (s.labels + places now) rest)) ∙ sym (append_assoc s.code one (body_all w env (s.slots + lets t) (s.labels + places now) rest)) in
    let labelled : s.labels + (places now + places_all rest) ≡ s.labels + places now + places_all rest = omega arith in
    let slotted : s.slots + (lets t + lets_all more) ≡ s.slots + lets t + lets_all more = omega arith in
    let scoped : after_all w env (s.slots + lets now) rest ≡ after_all w env (s.slots + lets t) rest = (λ j. after_all w env (s.slots + same_lets w s.answers t j) rest) in
    let left : drop (length (sta_leaves t ++ stas_leaves more)) s.answers ≡ drop (length (stas_leaves more)) (drop (length (sta_leaves t)) s.answers) = left_after (sta_leaves t) (stas_leaves more) s.answers in
    (λ j. record s { code = grown j; labels = labelled j; slots = slotted j; locals = scoped j; answers = left j })

pub with_bare : (e : ℕ) (s : Lowerer) → with_arms e Bare s ≡ s
with_bare e s = simp (append-nil, add-zero)

pub with_else : (e : ℕ) (inner : Stas path.Path) (s : Lowerer) → with_arms e (Else inner) s ≡ with_block inner s
with_else e inner s = refl

left_arm : (cond : Exp path.Path) (inner : Stas path.Path) (more : Arms path.Path) (bs : List Found) → drop (length (leaves cond ++ (stas_leaves inner ++ arms_leaves more))) bs ≡ drop (length (arms_leaves more)) (drop (length (stas_leaves inner)) (drop (length (leaves cond)) bs))
left_arm cond inner more bs =
    left_after (leaves cond) (stas_leaves inner ++ arms_leaves more) bs ∙ left_after (stas_leaves inner) (arms_leaves more) (drop (length (leaves cond)) bs)

-- the label behind an arm's block, and the next one
abbrev past_arm : Exp path.Path → Lowerer → ℕ
past_arm cond s = s.labels + labels (reduce s cond)

abbrev behind_arm : Exp path.Path → Stas path.Path → Lowerer → ℕ
behind_arm cond inner s = s.labels + labels (reduce s cond) + 1 + places_all (reduce_stas (with_exp cond s) inner)

regroup_arm : (x c : List Instr) (j : Instr) (b : List Instr) (k l : Instr) (r : List Instr)
    → x ++ (c ++ (j ∷ (b ++ (k ∷ l ∷ r)))) ≡ ((((x ++ c) ++ (j ∷ [])) ++ b) ++ (k ∷ l ∷ [])) ++ r
regroup_arm x c j b k l r = simp append_assoc

regroup : (x c : List Instr) (j : Instr) (b : List Instr) (k l : Instr) (r : List Instr) (e : Instr)
    → x ++ (c ++ (j ∷ (b ++ (k ∷ l ∷ (r ++ e ∷ []))))) ≡ (((((x ++ c) ++ (j ∷ [])) ++ b) ++ (k ∷ l ∷ [])) ++ r) ++ (e ∷ [])
regroup x c j b k l r e = simp append_assoc

pub with_arms_more : (e : ℕ) (cond : Exp path.Path) (inner : Stas path.Path) (more : Arms path.Path) (s : Lowerer) → with_arms e (Arm cond inner more) s ≡
    with_arms e more (put (i.Jump 0x28 e ∷ i.Label (past_arm cond s) ∷ []) (with_arm cond inner s))
with_arms_more e cond inner more s =
    let w = s.meanings.now in
    let here = drop (length (leaves cond)) s.answers in
    let first = reduce s cond in
    let middle = stas_reduced w (stas_filled Absent here inner) in
    let rest = arms_reduced w (arms_filled Absent (drop (length (stas_leaves inner)) here) more) in
    let end = behind_arm cond inner s in
    let numbers : s.labels + (1 + labels first + places_all middle + places_arms rest) ≡ end + places_arms rest = omega arith in
    let slotted : s.slots + (lets_all inner + lets_arms more) ≡ s.slots + lets_all inner + lets_arms more = omega arith in
    let block = body_all w s.locals s.slots (past_arm cond s + 1) middle in
    let others : ℕ → List Instr = (λ (m : ℕ). body_arms w s.locals (s.slots + m) e end rest) in
    let grown : s.code ++ (code w s.locals s.labels first ++ (i.Jump 0x29 (past_arm cond s) ∷ (block ++ (i.Jump 0x28 e ∷ i.Label (past_arm cond s) ∷ others (lets_all middle)))))
    ≡ ((((s.code ++ code w s.locals s.labels first) ++ (i.Jump 0x29 (past_arm cond s) ∷ [])) ++ block) ++ (i.Jump 0x28 e ∷ i.Label (past_arm cond s) ∷ [])) ++ others (lets_all inner) =
    (λ j. s.code ++ (code w s.locals s.labels first ++ (i.Jump 0x29 (past_arm cond s) ∷ (block ++ (i.Jump 0x28 e ∷ i.Label (past_arm cond s) ∷ others (same_lets_all w here inner j))))))
    ∙ regroup_arm s.code (code w s.locals s.labels first) (i.Jump 0x29 (past_arm cond s)) block (i.Jump 0x28 e) (i.Label (past_arm cond s)) (others (lets_all inner)) in
    (λ j. record s { code = grown j; labels = numbers j; slots = slotted j; answers = left_arm cond inner more s.answers j })

-- the first arm decides the label past the end
pub with_if : (cond : Exp path.Path) (inner : Stas path.Path) (more : Arms path.Path) (s : Lowerer) →
    with_sta (If (Arm cond inner more)) s ≡
    put (i.Label (behind_arm cond inner s) ∷ []) (with_arms (behind_arm cond inner s) more
    (put (i.Jump 0x28 (behind_arm cond inner s) ∷ i.Label (past_arm cond s) ∷ []) (numbered 1 (with_arm cond inner s))))
with_if cond inner more s =
    let w = s.meanings.now in
    let here = drop (length (leaves cond)) s.answers in
    let first = reduce s cond in
    let middle = stas_reduced w (stas_filled Absent here inner) in
    let rest = arms_reduced w (arms_filled Absent (drop (length (stas_leaves inner)) here) more) in
    let end = behind_arm cond inner s in
    let numbers : s.labels + (1 + (1 + labels first + places_all middle + places_arms rest)) ≡ end + 1 + places_arms rest = omega arith in
    let next : s.labels + labels first + 2 + places_all middle ≡ end + 1 = omega arith in
    let slotted : s.slots + (lets_all inner + lets_arms more) ≡ s.slots + lets_all inner + lets_arms more = omega arith in
    let block = body_all w s.locals s.slots (past_arm cond s + 1) middle in
    let others : ℕ → ℕ → List Instr = (λ (m k : ℕ). body_arms w s.locals (s.slots + m) end k rest) in
    let grown : s.code ++ (code w s.locals s.labels first ++ (i.Jump 0x29 (past_arm cond s) ∷ (block ++ (i.Jump 0x28 end ∷ i.Label (past_arm cond s) ∷ (others (lets_all middle) (s.labels + labels first + 2 + places_all middle) ++ i.Label end ∷ [])))))
    ≡ (((((s.code ++ code w s.locals s.labels first) ++ (i.Jump 0x29 (past_arm cond s) ∷ [])) ++ block) ++ (i.Jump 0x28 end ∷ i.Label (past_arm cond s) ∷ [])) ++ others (lets_all inner) (end + 1)) ++ (i.Label end ∷ []) =
    (λ j. s.code ++ (code w s.locals s.labels first ++ (i.Jump 0x29 (past_arm cond s) ∷ (block ++ (i.Jump 0x28 end ∷ i.Label (past_arm cond s) ∷ (others (same_lets_all w here inner j) (next j) ++ i.Label end ∷ []))))))
    ∙ regroup s.code (code w s.locals s.labels first) (i.Jump 0x29 (past_arm cond s)) block (i.Jump 0x28 end) (i.Label (past_arm cond s)) (others (lets_all inner) (end + 1)) (i.Label end) in
    (λ j. record s { code = grown j; labels = numbers j; slots = slotted j; answers = left_arm cond inner more s.answers j })

-- the labels behind a condition, a block and an arm are at most those that stand in them
pub arm_fits : (cond : Exp path.Path) (inner : Stas path.Path) (s t : Lowerer) → t ≡ with_arm cond inner s → t.labels ≤ s.labels + labels cond + 1 + places_all inner
arm_fits cond inner s t step =
    omega (arith, ap (λ (x : Lowerer). x.labels) step, fewer s.meanings.now s.answers cond, fewer_places_all s.meanings.now (drop (length (leaves cond)) s.answers) inner)

pub statements_next : (ts : List Stmt) (k : ℕ) (t : Stmt) (s next whole : Lowerer) → k < length ts → t ≡ get_or ts k t → next ≡ with_sta (sta t) s
    → with_stas (statements (drop k ts)) s ≡ whole → with_stas (statements (drop (k + 1) ts)) next ≡ whole
statements_next ts k t s next whole less is step so_far =
    ap (with_stas (statements (drop (k + 1) ts))) step ∙ sym (with_next (sta t) (statements (drop (k + 1) ts)) s) ∙ sym (ap (λ x. with_stas x s) (statements_at ts k t less is)) ∙ so_far

pub statements_lighter : (ts : List Stmt) (k : ℕ) (t : Stmt) (n : ℕ) → k < length ts → t ≡ get_or ts k t → weights (statements (drop k ts)) ≤ n → weights (statements (drop (k + 1) ts)) ≤ n
statements_lighter ts k t n less is light = omega (arith, ap weights (statements_at ts k t less is))

pub statements_hold : (ts : List Stmt) (k : ℕ) (t : Stmt) (s next : Lowerer) → k < length ts → t ≡ get_or ts k t → next ≡ with_sta (sta t) s
    → s.slots + lets_all (statements (drop k ts)) ≤ 65535 → next.slots + lets_all (statements (drop (k + 1) ts)) ≤ 65535
statements_hold ts k t s next less is step fit = omega (arith, ap lets_all (statements_at ts k t less is), ap (λ (x : Lowerer). x.slots) step)

pub statements_fit : (ts : List Stmt) (k : ℕ) (t : Stmt) (s next : Lowerer) → k < length ts → t ≡ get_or ts k t → next ≡ with_sta (sta t) s
    → s.labels + places_all (statements (drop k ts)) ≤ 65535 → next.labels + places_all (statements (drop (k + 1) ts)) ≤ 65535
statements_fit ts k t s next less is step fit =
    omega (arith, ap places_all (statements_at ts k t less is), ap (λ (x : Lowerer). x.labels) step, fewer_places s.meanings.now s.answers (sta t))

-- behind the first block of an `if`
pub choice_begins : (arms : List (Expr × List Stmt)) (first : Expr × List Stmt) (more : List (Expr × List Stmt)) (other : Option (List Stmt)) (past end : ℕ) (s one two next : Lowerer) → arms ≡ first ∷ more
    → one ≡ with_arm (exp first.0) (statements first.1) s → past ≡ past_arm (exp first.0) s → end ≡ one.labels → two ≡ numbered 1 one → next ≡ put (i.Jump 0x28 end ∷ i.Label past ∷ []) two
    → s.labels + (1 + places_arms (choices arms other)) ≤ 65535 → s.slots + lets_arms (choices arms other) ≤ 65535
    → (put (i.Label end ∷ []) (with_arms end (choices more other) next) ≡ with_sta (If (choices arms other)) s) × (weight_arms (choices more other) ≤ weight_arms (choices arms other))
    × (next.labels + places_arms (choices more other) ≤ 65535) × (next.slots + lets_arms (choices more other) ≤ 65535)
choice_begins arms first more other past end s one two next are step at fresh counted joined fit_labels fit_slots =
    let cond = exp first.0 in
    let inner = statements first.1 in
    let n : end ≡ behind_arm cond inner s = fresh ∙ ap (λ (x : Lowerer). x.labels) step in
    let whole : next ≡ put (i.Jump 0x28 end ∷ i.Label past ∷ []) (numbered 1 (with_arm cond inner s)) = joined ∙ ap (put (i.Jump 0x28 end ∷ i.Label past ∷ [])) (counted ∙ ap (numbered 1) step) in
    let k : next.labels ≡ one.labels + 1 = ap (λ (x : Lowerer). x.labels) (joined ∙ ap (put (i.Jump 0x28 end ∷ i.Label past ∷ [])) counted) in
    let m : next.slots ≡ s.slots + lets_all inner = ap (λ (x : Lowerer). x.slots) whole in
    let ps : places_arms (choices arms other) ≡ 1 + labels cond + places_all inner + places_arms (choices more other) = ap (λ a. places_arms (choices a other)) are in
    let ls : lets_arms (choices arms other) ≡ lets_all inner + lets_arms (choices more other) = ap (λ a. lets_arms (choices a other)) are in
    let ws : weight_arms (choices arms other) ≡ weights inner + weight_arms (choices more other) = ap (λ a. weight_arms (choices a other)) are in (
      ap (λ x. put (i.Label end ∷ []) (with_arms end (choices more other) x)) whole
          ∙ (λ j. put (i.Label (n j) ∷ []) (with_arms (n j) (choices more other) (put (i.Jump 0x28 (n j) ∷ i.Label (at j) ∷ []) (numbered 1 (with_arm cond inner s)))))
          ∙ sym (with_if cond inner (choices more other) s) ∙ sym (ap (λ a. with_sta (If (choices a other)) s) are),
      omega arith,
      omega (arith, arm_fits cond inner s one step),
      omega arith,
    )

-- one arm more
pub arms_next : (arms : List (Expr × List Stmt)) (other : Option (List Stmt)) (i' : ℕ) (arm : Expr × List Stmt) (past end : ℕ) (s one next whole : Lowerer) → i' < length arms → arm ≡ get_or arms i' arm
    → one ≡ with_arm (exp arm.0) (statements arm.1) s → past ≡ past_arm (exp arm.0) s → next ≡ put (i.Jump 0x28 end ∷ i.Label past ∷ []) one
    → put (i.Label end ∷ []) (with_arms end (choices (drop i' arms) other) s) ≡ whole → put (i.Label end ∷ []) (with_arms end (choices (drop (i' + 1) arms) other) next) ≡ whole
arms_next arms other i' arm past end s one next whole less is step at joined so_far =
    let rest = choices (drop (i' + 1) arms) other in
    ap (λ x. put (i.Label end ∷ []) (with_arms end rest x)) (joined ∙ (λ j. put (i.Jump 0x28 end ∷ i.Label (at j) ∷ []) (step j)))
    ∙ ap (put (i.Label end ∷ [])) (sym (with_arms_more end (exp arm.0) (statements arm.1) rest s))
    ∙ ap (λ x. put (i.Label end ∷ []) (with_arms end x s)) (sym (choices_at arms other i' arm less is)) ∙ so_far

pub arms_lighter : (arms : List (Expr × List Stmt)) (other : Option (List Stmt)) (i' : ℕ) (arm : Expr × List Stmt) (n : ℕ) → i' < length arms → arm ≡ get_or arms i' arm
    → weight_arms (choices (drop i' arms) other) ≤ n → weight_arms (choices (drop (i' + 1) arms) other) ≤ n
arms_lighter arms other i' arm n less is light = omega (arith, ap weight_arms (choices_at arms other i' arm less is))

pub arms_fit : (arms : List (Expr × List Stmt)) (other : Option (List Stmt)) (i' : ℕ) (arm : Expr × List Stmt) (s one next : Lowerer) → i' < length arms → arm ≡ get_or arms i' arm
    → one ≡ with_arm (exp arm.0) (statements arm.1) s → next.labels ≡ one.labels
    → s.labels + places_arms (choices (drop i' arms) other) ≤ 65535 → next.labels + places_arms (choices (drop (i' + 1) arms) other) ≤ 65535
arms_fit arms other i' arm s one next less is step same fit = omega (arith, ap places_arms (choices_at arms other i' arm less is), arm_fits (exp arm.0) (statements arm.1) s one step)

pub arms_hold : (arms : List (Expr × List Stmt)) (other : Option (List Stmt)) (i' : ℕ) (arm : Expr × List Stmt) (s one next : Lowerer) → i' < length arms → arm ≡ get_or arms i' arm
    → one ≡ with_arm (exp arm.0) (statements arm.1) s → next.slots ≡ one.slots
    → s.slots + lets_arms (choices (drop i' arms) other) ≤ 65535 → next.slots + lets_arms (choices (drop (i' + 1) arms) other) ≤ 65535
arms_hold arms other i' arm s one next less is step same fit = omega (arith, ap lets_arms (choices_at arms other i' arm less is), ap (λ (x : Lowerer). x.slots) step)

pub with_if_none : (s : Lowerer) → with_sta (If Bare) s ≡ put (i.Label s.labels ∷ []) (numbered 1 s)
with_if_none s = simp add-zero

pub with_if_other : (inner : Stas path.Path) (s : Lowerer) → with_sta (If (Else inner)) s ≡ put (i.Label s.labels ∷ []) (with_block inner (numbered 1 s))
with_if_other inner s = simp (append_assoc, add_assoc)

-- a statement adds at most one local to those in scope
after_front : (w : Meanings) (env : Env) (m : ℕ) (t : Sta Leaf) → (front : Env) × (after w env m t ≡ front ++ env)
after_front w env m (Let mutable at name typ value) = (_ ∷ [], refl)
after_front w env m (Assign at name value) = ([], refl)
after_front w env m (Return at value) = ([], refl)
after_front w env m (Eval value) = ([], refl)
after_front w env m (While cond body) = ([], refl)
after_front w env m (If arms) = ([], refl)
after_front w env m (Print value) = ([], refl)

after_all_front : (w : Meanings) (env : Env) (m : ℕ) (ts : Stas Leaf) → (front : Env) × (after_all w env m ts ≡ front ++ env)
after_all_front w env m Stas.Empty = ([], refl)
after_all_front w env m (Stas.Of t more) =
    let one = after_front w env m t in
    let rest = after_all_front w (after w env m t) (m + lets t) more in
    (rest.0 ++ one.0, rest.1 ∙ ap (λ x. rest.0 ++ x) one.1 ∙ sym (append_assoc rest.0 one.0 env))

pub block_left : (w : Meanings) (env : Env) (m : ℕ) (ts : Stas Leaf) → drop (length (after_all w env m ts) - length env) (after_all w env m ts) ≡ env
block_left w env m ts =
    let f = after_all_front w env m ts in
    let n : length (f.0 ++ env) - length env ≡ length f.0 = omega (arith, length-append f.0 env) in
    rw f.1 (rw n (drop-append_seam f.0 env))

pub block_deeper : (w : Meanings) (env : Env) (m : ℕ) (ts : Stas Leaf) → length env ≤ length (after_all w env m ts)
block_deeper w env m ts =
    let f = after_all_front w env m ts in
    rw f.1 (omega (arith, length-append f.0 env))

-- what each statement needs, and makes
pub of_let : (s : Stmt) (mutable : Bool) (at : At) (name : List ℕ) (typ : Option Typ) (value : Expr) (l : Lowerer) → s ≡ stmt.Let mutable at name typ value → with_sta (sta s) l ≡ with_let name typ (exp value) l
of_let s mutable at name typ value l is = ap (λ x. with_sta x l) (is_let s mutable at name typ value is)

pub of_assign : (s : Stmt) (at : At) (name : List ℕ) (value : Expr) (l : Lowerer) → s ≡ stmt.Assign at name value → with_sta (sta s) l ≡ with_assign name (exp value) l
of_assign s at name value l is = ap (λ x. with_sta x l) (is_assign s at name value is) ∙ with_assign_is at name (exp value) l

pub of_return : (s : Stmt) (at : At) (value : Option Expr) (l : Lowerer) → s ≡ stmt.Return at value → with_sta (sta s) l ≡ with_return (optional value) l
of_return s at value l is = ap (λ x. with_sta x l) (is_return s at value is) ∙ with_return_is at (optional value) l

pub of_eval : (s : Stmt) (value : Expr) (l : Lowerer) → s ≡ stmt.Eval value → with_sta (sta s) l ≡ with_eval (exp value) l
of_eval s value l is = ap (λ x. with_sta x l) (is_eval s value is) ∙ with_eval_is (exp value) l

pub of_print : (s : Stmt) (value : Expr) (l : Lowerer) → s ≡ stmt.Print value → with_sta (sta s) l ≡ with_print (exp value) l
of_print s value l is = ap (λ x. with_sta x l) (is_print s value is) ∙ with_print_is (exp value) l

pub of_while : (s : Stmt) (cond : Expr) (body : List Stmt) (l : Lowerer) → s ≡ stmt.While cond body → with_sta (sta s) l ≡ with_sta (While (exp cond) (statements body)) l
of_while s cond body l is = ap (λ x. with_sta x l) (is_while s cond body is)

pub of_if : (s : Stmt) (cs : List (Expr × List Stmt)) (other : Option (List Stmt)) (l : Lowerer) → s ≡ stmt.If cs other → with_sta (sta s) l ≡ with_sta (If (choices cs other)) l
of_if s cs other l is = ap (λ x. with_sta x l) (is_if s cs other is)

pub places_let : (s : Stmt) (mutable : Bool) (at : At) (name : List ℕ) (typ : Option Typ) (value : Expr) → s ≡ stmt.Let mutable at name typ value → places (sta s) ≡ labels (exp value)
places_let s mutable at name typ value is = ap places (is_let s mutable at name typ value is)

pub lets_let : (s : Stmt) (mutable : Bool) (at : At) (name : List ℕ) (typ : Option Typ) (value : Expr) → s ≡ stmt.Let mutable at name typ value → lets (sta s) ≡ 1
lets_let s mutable at name typ value is = ap lets (is_let s mutable at name typ value is)

pub places_assign : (s : Stmt) (at : At) (name : List ℕ) (value : Expr) → s ≡ stmt.Assign at name value → places (sta s) ≡ labels (exp value)
places_assign s at name value is = ap places (is_assign s at name value is)

pub places_return : (s : Stmt) (at : At) (value : Option Expr) → s ≡ stmt.Return at value → places (sta s) ≡ labels_in (optional value)
places_return s at value is = ap places (is_return s at value is)

pub places_eval : (s : Stmt) (value : Expr) → s ≡ stmt.Eval value → places (sta s) ≡ labels (exp value)
places_eval s value is = ap places (is_eval s value is)

pub places_print : (s : Stmt) (value : Expr) → s ≡ stmt.Print value → places (sta s) ≡ labels (exp value)
places_print s value is = ap places (is_print s value is)

pub places_while : (s : Stmt) (cond : Expr) (body : List Stmt) → s ≡ stmt.While cond body → places (sta s) ≡ 2 + labels (exp cond) + places_all (statements body)
places_while s cond body is = ap places (is_while s cond body is)

pub lets_while : (s : Stmt) (cond : Expr) (body : List Stmt) → s ≡ stmt.While cond body → lets (sta s) ≡ lets_all (statements body)
lets_while s cond body is = ap lets (is_while s cond body is)

pub places_if : (s : Stmt) (cs : List (Expr × List Stmt)) (other : Option (List Stmt)) → s ≡ stmt.If cs other → places (sta s) ≡ 1 + places_arms (choices cs other)
places_if s cs other is = ap places (is_if s cs other is)

pub lets_if : (s : Stmt) (cs : List (Expr × List Stmt)) (other : Option (List Stmt)) → s ≡ stmt.If cs other → lets (sta s) ≡ lets_arms (choices cs other)
lets_if s cs other is = ap lets (is_if s cs other is)

pub ruleset needs = (places_let, lets_let, places_assign, places_return, places_eval, places_print, places_while, lets_while, places_if, lets_if)

pub ruleset bodies = (needs, weighs, turns, of_let, of_assign, of_return, of_eval, of_print, of_while, of_if, with_return_none, with_return_some, with_while, with_empty, with_next, with_bare, with_else, with_arms_more, with_if, with_if_none, with_if_other, block_left, block_deeper)
