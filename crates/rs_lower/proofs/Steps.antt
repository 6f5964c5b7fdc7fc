-- Each form is lowered by lowering its parts one after another.
use Rattle.std.proofs.Common.{◌≡◌, ℕ, suc, ◌+◌, ◌-◌, ◌<◌, ◌≤◌, ℤ, get_or, take, Bool, true, false, List, [], ◌∷◌, length, drop, Option, None, Some, refl, sym, ap, ◌∙◌, append_assoc, add_assoc, add-zero, arith}
use Rattle.std.proofs.lemmas.List.{append-nil}
use Rattle.std.proofs.Math.Seq.{take-length, take-append_seam}
use Rattle.rs_tree.specs.declared.answers.Found.TheVariants.{Absent}
use Rattle.rs_tree.specs.declared.ir.Instr.{Instr}
use Rattle.rs_tree.specs.declared.ir.Instr.TheVariants as i
use Rattle.rs_tree.specs.declared.place.At.{At}
use Rattle.rs_tree.specs.declared.tree.Path as path
use Rattle.rs_tree.specs.declared.tree.UnaryOp.{UnaryOp}
use Rattle.rs_tree.specs.declared.tree.ArithOp.{ArithOp}
use Rattle.rs_tree.specs.declared.tree.CmpOp.{CmpOp}
use Rattle.rs_tree.specs.declared.tree.Expr.{Expr}
use Rattle.rs_tree.specs.declared.tree.Form.TheVariants as form
use Rattle.rs_tree.specs.Plain.{Exp, Exps, Operands, Number, Truth, Call, Unary, Arith, Compare, And, Or, Done, By, exp, expressions, operations}
use Rattle.rs_tree.specs.Equations.{turns, operations_at, expressions_at, is_number, is_truth, is_path, is_call, is_group, is_unary, is_arith, is_compare, is_and, is_or}
use Rattle.rs_tree.specs.Weight.{size, sizes, sizes_by, measures}
use Rattle.rs_tree.specs.Leaves.{answer, filled, filled_by, leaves, leaves_all, leaves_by}
use Rattle.rs_tree.specs.LeafLaws.{left_after}
use Rattle.rs_value.specs.Value.{number_of}
use Rattle.rs_lower.specs.declared.expr.Lowerer.{Lowerer}
use Rattle.rs_lower.specs.Counts.{labels, labels_all, labels_by}
use Rattle.rs_lower.specs.Code.{code, path_code, chain_end, arith_code, unary_code, compare_code, jump_code, is_not}
use Rattle.rs_lower.specs.Meanings.{Leaf}
use Rattle.rs_lower.specs.Reduced.{Fixed, folded, folded_or, outcome}
use Rattle.rs_lower.specs.State.{put, numbered, emitted, with_exp, with_exps, with_operands, with_call, with_chain, with_parts, with_unary, with_arith, with_compare, with_logic, reduce, reduce_all, reduce_by, value_of, shown_in, settled, settled_by, start_of}
use Rattle.rs_lower.proofs.Outcomes.{unary_outcome, arith_outcome, compare_outcome, outcomes}
use Rattle.rs_lower.proofs.Reducing.{fewer}

pub with_number : (at : At) (v : ℤ) (s : Lowerer) → with_exp (Number at v) s ≡ put (i.Push v ∷ []) s
with_number at v s = simp add-zero

pub with_truth : (at : At) (b : Bool) (s : Lowerer) → with_exp (Truth at b) s ≡ put (i.Push (number_of b) ∷ []) s
with_truth at b s = simp add-zero

pub with_call_is : (at : At) (p : path.Path) (args : Exps path.Path) (s : Lowerer) → with_exp (Call at p args) s ≡ with_call p args s
with_call_is at p args s = simp (append_assoc, left_after (p ∷ []) (leaves_all args) s.answers)

-- a tree that stands as so many answers, lowered
abbrev lowered_as : Exp Leaf → ℕ → Lowerer → Lowerer
lowered_as e k s = emitted (code s.meanings.now s.locals s.labels e) (labels e) k s

-- a value is pushed in place of the parts
settles_at : (at : At) (truth : Bool) (v : Option ℤ) (parts : Exp Leaf) (k : ℕ) (s : Lowerer) → lowered_as (folded_or at truth v parts) k s ≡ settled (start_of s) (shown_in truth v) (lowered_as parts k s)
settles_at at truth None parts k s = refl
settles_at at false (Some v) parts k s = let e = take-append_seam s.code (code s.meanings.now s.locals s.labels parts) in simp (e, add-zero)
settles_at at true (Some v) parts k s = let e = take-append_seam s.code (code s.meanings.now s.locals s.labels parts) in simp (e, add-zero)

settles_by : (at : At) (truth : Bool) (e parts : Exp Leaf) (x : Fixed) (k : ℕ) (s t : Lowerer) → outcome s.meanings.now e ≡ x → lowered_as parts k s ≡ t
    → lowered_as (folded_or at truth (folded s.meanings.now e) parts) k s ≡ settled_by truth x s t
settles_by at truth e parts x k s t known made =
    settles_at at truth (folded s.meanings.now e) parts k s ∙ (λ j. settled (start_of s) (shown_in truth (value_of s (known j))) (made j))

pub with_unary_is : (at : At) (op : UnaryOp) (e : Exp path.Path) (s : Lowerer) → with_exp (Unary at op e) s ≡ with_unary op e s
with_unary_is at op e s =
    settles_by at (is_not op) (Unary at op (filled Absent s.answers e)) (Unary at op (reduce s e)) _ (length (leaves e)) s _ (unary_outcome s.meanings.now at op (filled Absent s.answers e)) made
  where
    made : lowered_as (Unary at op (reduce s e)) (length (leaves e)) s ≡ put (i.Plain (unary_code op) ∷ []) (with_exp e s)
    made = simp append_assoc

pub with_arith_is : (at : At) (e : Exp path.Path) (more : Operands path.Path) (s : Lowerer) → with_exp (Arith at e more) s ≡ with_arith e more s
with_arith_is at e more s =
    settles_by at false (filled Absent s.answers (Arith at e more)) (Arith at (reduce s e) (reduce_by (with_exp e s) more)) _ (length (leaves (Arith at e more))) s _ (arith_outcome s.meanings.now at (filled Absent s.answers e) (filled_by Absent (drop (length (leaves e)) s.answers) more)) made
  where
    made : lowered_as (Arith at (reduce s e) (reduce_by (with_exp e s) more)) (length (leaves (Arith at e more))) s ≡ with_operands more (with_exp e s)
    made = simp (append_assoc, add_assoc, left_after (leaves e) (leaves_by more) s.answers)

pub with_compare_is : (at : At) (op : CmpOp) (a b : Exp path.Path) (s : Lowerer) → with_exp (Compare at op a b) s ≡ with_compare op a b s
with_compare_is at op a b s =
    settles_by at true (filled Absent s.answers (Compare at op a b)) (Compare at op (reduce s a) (reduce (with_exp a s) b)) _ (length (leaves (Compare at op a b))) s _ (compare_outcome s.meanings.now at op (filled Absent s.answers a) (filled Absent (drop (length (leaves a)) s.answers) b)) made
  where
    made : lowered_as (Compare at op (reduce s a) (reduce (with_exp a s) b)) (length (leaves (Compare at op a b))) s ≡ put (i.Plain (compare_code op) ∷ []) (with_exp b (with_exp a s))
    made = simp (append_assoc, add_assoc, left_after (leaves a) (leaves b) s.answers)

pub with_and_is : (at : At) (es : Exps path.Path) (s : Lowerer) → with_exp (And at es) s ≡ with_logic false es s
with_and_is at es s = settles_by at true (filled Absent s.answers (And at es)) (And at (reduce_all s es)) _ (length (leaves_all es)) s _ refl refl

pub with_or_is : (at : At) (es : Exps path.Path) (s : Lowerer) → with_exp (Or at es) s ≡ with_logic true es s
with_or_is at es s = settles_by at true (filled Absent s.answers (Or at es)) (Or at (reduce_all s es)) _ (length (leaves_all es)) s _ refl refl

pub with_none : (s : Lowerer) → with_exps Exps.Empty s ≡ s
with_none s = simp (append-nil, add-zero)

pub with_more : (e : Exp path.Path) (more : Exps path.Path) (s : Lowerer) → with_exps (Exps.Of e more) s ≡ with_exps more (with_exp e s)
with_more e more s = simp (append_assoc, add_assoc, left_after (leaves e) (leaves_all more) s.answers)

pub with_done : (s : Lowerer) → with_operands Done s ≡ s
with_done s = simp (append-nil, add-zero)

pub with_by : (op : ArithOp) (e : Exp path.Path) (more : Operands path.Path) (s : Lowerer) → with_operands (By op e more) s ≡ with_operands more (put (i.Plain (arith_code op) ∷ []) (with_exp e s))
with_by op e more s = simp (append_assoc, add_assoc, left_after (leaves e) (leaves_by more) s.answers)

pub with_parts_none : (either : Bool) (f : ℕ) (s : Lowerer) → with_parts either f Exps.Empty s ≡ put (chain_end (number_of either) f s.labels) (numbered 1 s)
with_parts_none either f s = refl

pub with_parts_more : (either : Bool) (f : ℕ) (e : Exp path.Path) (more : Exps path.Path) (s : Lowerer) → with_parts either f (Exps.Of e more) s ≡ with_parts either f more (with_exp e (put (i.Jump (jump_code either) f ∷ []) s))
with_parts_more either f e more s =
    let n : s.labels + (1 + (labels (reduce s e) + labels_all (reduce_all (with_exp e s) more))) ≡ s.labels + labels (reduce s e) + (1 + labels_all (reduce_all (with_exp e s) more)) = omega arith in
    simp (append_assoc, n, left_after (leaves e) (leaves_all more) s.answers)

pub with_chain_none : (either : Bool) (s : Lowerer) → with_chain either Exps.Empty s ≡ put (chain_end (number_of either) s.labels (s.labels + 1)) (numbered 1 (numbered 1 s))
with_chain_none either s =
    let n : s.labels + 2 ≡ s.labels + 1 + 1 = omega arith in
    simp n

pub with_chain_more : (either : Bool) (e : Exp path.Path) (more : Exps path.Path) (s : Lowerer) → with_chain either (Exps.Of e more) s ≡ with_parts either (s.labels + labels (reduce s e)) more (numbered 1 (with_exp e s))
with_chain_more either e more s =
    let n : s.labels + (2 + (labels (reduce s e) + labels_all (reduce_all (with_exp e s) more))) ≡ s.labels + labels (reduce s e) + 1 + (1 + labels_all (reduce_all (with_exp e s) more)) = omega arith in
    simp (append_assoc, n, left_after (leaves e) (leaves_all more) s.answers)

-- the labels behind an expression are at most those that stand in it
pub behind : (e : Exp path.Path) (s t : Lowerer) → t ≡ with_exp e s → t.labels ≤ s.labels + labels e
behind e s t step = omega (arith, ap (λ (x : Lowerer). x.labels) step, fewer s.meanings.now s.answers e)

-- one operand more
pub operands_next : (os : List (ArithOp × Expr)) (k : ℕ) (o : ArithOp × Expr) (s next whole : Lowerer) → k < length os → o ≡ get_or os k o
    → next ≡ put (i.Plain (arith_code o.0) ∷ []) (with_exp (exp o.1) s) → with_operands (operations (drop k os)) s ≡ whole → with_operands (operations (drop (k + 1) os)) next ≡ whole
operands_next os k o s next whole less is step so_far =
    ap (with_operands (operations (drop (k + 1) os))) step ∙ sym (with_by o.0 (exp o.1) (operations (drop (k + 1) os)) s) ∙ sym (ap (λ x. with_operands x s) (operations_at os k o less is)) ∙ so_far

pub operands_lighter : (os : List (ArithOp × Expr)) (k : ℕ) (o : ArithOp × Expr) (n : ℕ) → k < length os → o ≡ get_or os k o → sizes_by (operations (drop k os)) ≤ n → sizes_by (operations (drop (k + 1) os)) ≤ n
operands_lighter os k o n less is light = omega (arith, ap sizes_by (operations_at os k o less is))

pub operands_fit : (os : List (ArithOp × Expr)) (k : ℕ) (o : ArithOp × Expr) (s next : Lowerer) → k < length os → o ≡ get_or os k o
    → next ≡ put (i.Plain (arith_code o.0) ∷ []) (with_exp (exp o.1) s) → s.labels + labels_by (operations (drop k os)) ≤ 65535 → next.labels + labels_by (operations (drop (k + 1) os)) ≤ 65535
operands_fit os k o s next less is step fit =
    let n : next.labels ≡ s.labels + labels (reduce s (exp o.1)) = ap (λ (x : Lowerer). x.labels) step in
    omega (arith, ap labels_by (operations_at os k o less is), fewer s.meanings.now s.answers (exp o.1))

-- one argument more
pub exps_fit : (es : List Expr) (k : ℕ) (e : Expr) (s next : Lowerer) (n : ℕ) → k < length es → e ≡ get_or es k e → next.labels ≡ s.labels + labels (reduce s (exp e))
    → s.labels + n + labels_all (expressions (drop k es)) ≤ 65535 → next.labels + n + labels_all (expressions (drop (k + 1) es)) ≤ 65535
exps_fit es k e s next n less is step fit = omega (arith, ap labels_all (expressions_at es k e less is), fewer s.meanings.now s.answers (exp e))

pub exps_lighter : (es : List Expr) (k : ℕ) (e : Expr) (n : ℕ) → k < length es → e ≡ get_or es k e → sizes (expressions (drop k es)) ≤ n → sizes (expressions (drop (k + 1) es)) ≤ n
exps_lighter es k e n less is light = omega (arith, ap sizes (expressions_at es k e less is))

pub exps_next : (es : List Expr) (k : ℕ) (e : Expr) (s next whole : Lowerer) → k < length es → e ≡ get_or es k e → next ≡ with_exp (exp e) s
    → with_exps (expressions (drop k es)) s ≡ whole → with_exps (expressions (drop (k + 1) es)) next ≡ whole
exps_next es k e s next whole less is step so_far =
    ap (with_exps (expressions (drop (k + 1) es))) step ∙ sym (with_more (exp e) (expressions (drop (k + 1) es)) s) ∙ sym (ap (λ x. with_exps x s) (expressions_at es k e less is)) ∙ so_far

-- one part more
pub parts_next : (either : Bool) (f : ℕ) (es : List Expr) (k : ℕ) (e : Expr) (s next whole : Lowerer) → k < length es → e ≡ get_or es k e → next ≡ with_exp (exp e) (put (i.Jump (jump_code either) f ∷ []) s)
    → with_parts either f (expressions (drop k es)) s ≡ whole → with_parts either f (expressions (drop (k + 1) es)) next ≡ whole
parts_next either f es k e s next whole less is step so_far =
    ap (with_parts either f (expressions (drop (k + 1) es))) step ∙ sym (with_parts_more either f (exp e) (expressions (drop (k + 1) es)) s) ∙ sym (ap (λ x. with_parts either f x s) (expressions_at es k e less is)) ∙ so_far

-- a list that isn't empty is its first and the rest
pub first_and_rest : {A : Type 0} (xs : List A) (x : A) → 1 ≤ length xs → x ≡ get_or xs 0 x → xs ≡ x ∷ take (length xs - 1) (drop 1 xs)
first_and_rest [] x long is = absurd (omega (arith, long))
first_and_rest (y ∷ ys) x long is =
    let n : suc (length ys) - 1 ≡ length ys = omega arith in
    (λ j. sym is j ∷ ys) ∙ sym (ap (λ zs. x ∷ zs) (ap (λ k. take k ys) n ∙ take-length ys))

-- behind the first part of a chain
pub chain_begins : (either : Bool) (parts : List Expr) (first : Expr) (more : List Expr) (f : ℕ) (s one next : Lowerer) → parts ≡ first ∷ more → one ≡ with_exp (exp first) s → f ≡ one.labels → next ≡ numbered 1 one
    → s.labels + (2 + labels_all (expressions parts)) ≤ 65535
    → (with_parts either f (expressions more) next ≡ with_chain either (expressions parts) s) × (sizes (expressions more) ≤ sizes (expressions parts)) × (next.labels + 1 + labels_all (expressions more) ≤ 65535)
chain_begins either parts first more f s one next are step label fresh fit =
    let n : f ≡ s.labels + labels (reduce s (exp first)) = label ∙ ap (λ (x : Lowerer). x.labels) step in
    let both : next ≡ numbered 1 (with_exp (exp first) s) = fresh ∙ ap (numbered 1) step in
    let k : next.labels ≡ s.labels + labels (reduce s (exp first)) + 1 = ap (λ (x : Lowerer). x.labels) both in
    let ls : labels_all (expressions parts) ≡ labels (exp first) + labels_all (expressions more) = ap (λ ps. labels_all (expressions ps)) are in
    let ss : sizes (expressions parts) ≡ size (exp first) + sizes (expressions more) = ap (λ ps. sizes (expressions ps)) are in
    ((λ j. with_parts either (n j) (expressions more) (both j)) ∙ sym (with_chain_more either (exp first) (expressions more) s) ∙ sym (ap (λ ps. with_chain either (expressions ps) s) are), omega arith, omega (arith, fewer s.meanings.now s.answers (exp first)))

pub put_four : (a b c d : Instr) (s : Lowerer) → put (d ∷ []) (put (c ∷ []) (put (b ∷ []) (put (a ∷ []) s))) ≡ put (a ∷ b ∷ c ∷ d ∷ []) s
put_four a b c d s = simp append_assoc

-- the same, of an expression whose form is known
pub of_number : (e : Expr) (v : ℤ) (s : Lowerer) → e.form ≡ form.Number v → with_exp (exp e) s ≡ put (i.Push v ∷ []) s
of_number e v s is = ap (λ x. with_exp x s) (is_number e v is) ∙ with_number e.at v s

pub of_truth : (e : Expr) (b : Bool) (s : Lowerer) → e.form ≡ form.Truth b → with_exp (exp e) s ≡ put (i.Push (number_of b) ∷ []) s
of_truth e b s is = ap (λ x. with_exp x s) (is_truth e b is) ∙ with_truth e.at b s

pub of_path : (e : Expr) (p : path.Path) (s : Lowerer) → e.form ≡ form.Path p → with_exp (exp e) s ≡ emitted (path_code s.meanings.now s.locals (p, answer Absent s.answers) ∷ []) 0 1 s
of_path e p s is = ap (λ x. with_exp x s) (is_path e p is)

pub of_call : (e : Expr) (p : path.Path) (args : List Expr) (s : Lowerer) → e.form ≡ form.Call p args → with_exp (exp e) s ≡ with_call p (expressions args) s
of_call e p args s is = ap (λ x. with_exp x s) (is_call e p args is) ∙ with_call_is e.at p (expressions args) s

pub of_group : (e a : Expr) (s : Lowerer) → e.form ≡ form.Group a → with_exp (exp e) s ≡ with_exp (exp a) s
of_group e a s is = ap (λ x. with_exp x s) (is_group e a is)

pub of_unary : (e : Expr) (op : UnaryOp) (a : Expr) (s : Lowerer) → e.form ≡ form.Unary op a → with_exp (exp e) s ≡ with_unary op (exp a) s
of_unary e op a s is = ap (λ x. with_exp x s) (is_unary e op a is) ∙ with_unary_is e.at op (exp a) s

pub of_arith : (e : Expr) (a : Expr) (more : List (ArithOp × Expr)) (s : Lowerer) → e.form ≡ form.Arith a more → with_exp (exp e) s ≡ with_arith (exp a) (operations more) s
of_arith e a more s is = ap (λ x. with_exp x s) (is_arith e a more is) ∙ with_arith_is e.at (exp a) (operations more) s

pub of_compare : (e : Expr) (op : CmpOp) (a b : Expr) (s : Lowerer) → e.form ≡ form.Compare op a b → with_exp (exp e) s ≡ with_compare op (exp a) (exp b) s
of_compare e op a b s is = ap (λ x. with_exp x s) (is_compare e op a b is) ∙ with_compare_is e.at op (exp a) (exp b) s

pub of_and : (e : Expr) (parts : List Expr) (s : Lowerer) → e.form ≡ form.And parts → with_exp (exp e) s ≡ with_logic false (expressions parts) s
of_and e parts s is = ap (λ x. with_exp x s) (is_and e parts is) ∙ with_and_is e.at (expressions parts) s

pub of_or : (e : Expr) (parts : List Expr) (s : Lowerer) → e.form ≡ form.Or parts → with_exp (exp e) s ≡ with_logic true (expressions parts) s
of_or e parts s is = ap (λ x. with_exp x s) (is_or e parts is) ∙ with_or_is e.at (expressions parts) s

pub labels_call : (e : Expr) (p : path.Path) (args : List Expr) → e.form ≡ form.Call p args → labels (exp e) ≡ labels_all (expressions args)
labels_call e p args is = ap labels (is_call e p args is)

pub labels_group : (e a : Expr) → e.form ≡ form.Group a → labels (exp e) ≡ labels (exp a)
labels_group e a is = ap labels (is_group e a is)

pub labels_unary : (e : Expr) (op : UnaryOp) (a : Expr) → e.form ≡ form.Unary op a → labels (exp e) ≡ labels (exp a)
labels_unary e op a is = ap labels (is_unary e op a is)

pub labels_arith : (e : Expr) (a : Expr) (more : List (ArithOp × Expr)) → e.form ≡ form.Arith a more → labels (exp e) ≡ labels (exp a) + labels_by (operations more)
labels_arith e a more is = ap labels (is_arith e a more is)

pub labels_compare : (e : Expr) (op : CmpOp) (a b : Expr) → e.form ≡ form.Compare op a b → labels (exp e) ≡ labels (exp a) + labels (exp b)
labels_compare e op a b is = ap labels (is_compare e op a b is)

pub labels_and : (e : Expr) (parts : List Expr) → e.form ≡ form.And parts → labels (exp e) ≡ 2 + labels_all (expressions parts)
labels_and e parts is = ap labels (is_and e parts is)

pub labels_or : (e : Expr) (parts : List Expr) → e.form ≡ form.Or parts → labels (exp e) ≡ 2 + labels_all (expressions parts)
labels_or e parts is = ap labels (is_or e parts is)

pub ruleset lowers = (outcomes, turns, measures, with_none, with_more, with_done, with_by, with_parts_none, with_parts_more, with_chain_none, with_chain_more, of_number, of_truth, of_path, of_call, of_group, of_unary, of_arith, of_compare, of_and, of_or, labels_call, labels_group, labels_unary, labels_arith, labels_compare, labels_and, labels_or)
