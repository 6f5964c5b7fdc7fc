-- The value of an expression by its form, and chains one part on.
use Rattle.std.proofs.Common.{◌≡◌, ℕ, ◌+◌, ◌<◌, ℤ, pos, Bool, true, false, cond, not, List, length, get_or, drop, Option, None, Ok, Err, refl, sym, ap, ◌∙◌, add-one, length-append}
use Rattle.std.proofs.lemmas.List.{drop-drop}
use Rattle.rs_tree.specs.declared.tree.Path as path
use Rattle.rs_tree.specs.declared.tree.Expr.{Expr}
use Rattle.rs_tree.specs.declared.tree.UnaryOp.{UnaryOp}
use Rattle.rs_tree.specs.declared.tree.ArithOp.{ArithOp}
use Rattle.rs_tree.specs.declared.tree.CmpOp.{CmpOp}
use Rattle.rs_tree.specs.declared.tree.Form.TheVariants as form
use Rattle.rs_tree.specs.Plain.{Exps, exp, expressions, operations}
use Rattle.rs_tree.specs.Equations.{known_forms, is_number, is_truth, is_path, is_call, is_group, is_unary, is_arith, is_compare, is_and, is_or, expressions_at, operations_at}
use Rattle.rs_tree.specs.Leaves.{answer, filled, filled_all, filled_by, leaves, leaves_all, leaves_by}
use Rattle.rs_value.specs.declared.trap.Trap.TheVariants.{NoValue}
use Rattle.rs_value.specs.Value.{Outcome, and_then, is_zero, number_of, given, holds, unary, arithmetic, value, chain, all, any}
use Rattle.rs_value.specs.Chains.{truth_of, also, either}

abbrev pub Values : Type 0
Values = List (Option ℤ)

-- the value of an expression, and the values that are left behind it
abbrev value_at : Values → Expr → Outcome
value_at fs e = value (filled None fs (exp e))

abbrev left : Values → Expr → Values
left fs e = drop (length (leaves (exp e))) fs

drop_both : (n m k : ℕ) (fs : Values) → k ≡ n + m → drop k fs ≡ drop m (drop n fs)
drop_both n m k fs e = ap (λ j. drop j fs) e ∙ sym (drop-drop m n fs)

pub value_number : (fs : Values) (e : Expr) (n : ℤ) → e.form ≡ form.Number n → value_at fs e ≡ Ok n
value_number fs e n is = ap (λ x. value (filled None fs x)) (is_number e n is)

pub value_truth : (fs : Values) (e : Expr) (b : Bool) → e.form ≡ form.Truth b → value_at fs e ≡ Ok (number_of b)
value_truth fs e b is = ap (λ x. value (filled None fs x)) (is_truth e b is)

pub value_path : (fs : Values) (e : Expr) (p : path.Path) → e.form ≡ form.Path p → value_at fs e ≡ given (answer None fs)
value_path fs e p is = ap (λ x. value (filled None fs x)) (is_path e p is)

pub value_call : (fs : Values) (e : Expr) (p : path.Path) (args : List Expr) → e.form ≡ form.Call p args → value_at fs e ≡ Err NoValue
value_call fs e p args is = ap (λ x. value (filled None fs x)) (is_call e p args is)

pub value_group : (fs : Values) (e a : Expr) → e.form ≡ form.Group a → value_at fs e ≡ value_at fs a
value_group fs e a is = ap (λ x. value (filled None fs x)) (is_group e a is)

pub value_unary : (fs : Values) (e : Expr) (op : UnaryOp) (a : Expr) → e.form ≡ form.Unary op a → value_at fs e ≡ and_then (value_at fs a) (unary op)
value_unary fs e op a is = ap (λ x. value (filled None fs x)) (is_unary e op a is)

pub value_arith : (fs : Values) (e a : Expr) (os : List (ArithOp × Expr)) → e.form ≡ form.Arith a os → value_at fs e ≡ chain (filled_by None (left fs a) (operations os)) (value_at fs a)
value_arith fs e a os is = ap (λ x. value (filled None fs x)) (is_arith e a os is)

pub value_compare : (fs : Values) (e : Expr) (op : CmpOp) (a b : Expr) → e.form ≡ form.Compare op a b
    → value_at fs e ≡ and_then (value_at fs a) (λ x. and_then (value_at (left fs a) b) (λ y. Ok (number_of (holds op x y))))
value_compare fs e op a b is = ap (λ x. value (filled None fs x)) (is_compare e op a b is)

pub value_and : (fs : Values) (e : Expr) (parts : List Expr) → e.form ≡ form.And parts → value_at fs e ≡ all (filled_all None fs (expressions parts))
value_and fs e parts is = ap (λ x. value (filled None fs x)) (is_and e parts is)

pub value_or : (fs : Values) (e : Expr) (parts : List Expr) → e.form ≡ form.Or parts → value_at fs e ≡ any (filled_all None fs (expressions parts))
value_or fs e parts is = ap (λ x. value (filled None fs x)) (is_or e parts is)

pub left_number : (fs : Values) (e : Expr) (n : ℤ) → e.form ≡ form.Number n → left fs e ≡ fs
left_number fs e n is = ap (λ x. drop (length (leaves x)) fs) (is_number e n is)

pub left_truth : (fs : Values) (e : Expr) (b : Bool) → e.form ≡ form.Truth b → left fs e ≡ fs
left_truth fs e b is = ap (λ x. drop (length (leaves x)) fs) (is_truth e b is)

pub left_path : (fs : Values) (e : Expr) (p : path.Path) → e.form ≡ form.Path p → left fs e ≡ drop 1 fs
left_path fs e p is = ap (λ x. drop (length (leaves x)) fs) (is_path e p is)

pub left_call : (fs : Values) (e : Expr) (p : path.Path) (args : List Expr) → e.form ≡ form.Call p args → left fs e ≡ drop (length (leaves_all (expressions args)) + 1) fs
left_call fs e p args is = ap (λ x. drop (length (leaves x)) fs) (is_call e p args is) ∙ ap (λ k. drop k fs) (sym (add-one (length (leaves_all (expressions args)))))

pub left_group : (fs : Values) (e a : Expr) → e.form ≡ form.Group a → left fs e ≡ left fs a
left_group fs e a is = ap (λ x. drop (length (leaves x)) fs) (is_group e a is)

pub left_unary : (fs : Values) (e : Expr) (op : UnaryOp) (a : Expr) → e.form ≡ form.Unary op a → left fs e ≡ left fs a
left_unary fs e op a is = ap (λ x. drop (length (leaves x)) fs) (is_unary e op a is)

pub left_arith : (fs : Values) (e a : Expr) (os : List (ArithOp × Expr)) → e.form ≡ form.Arith a os → left fs e ≡ drop (length (leaves_by (operations os))) (left fs a)
left_arith fs e a os is = ap (λ x. drop (length (leaves x)) fs) (is_arith e a os is) ∙ drop_both _ _ _ fs (length-append (leaves (exp a)) (leaves_by (operations os)))

pub left_compare : (fs : Values) (e : Expr) (op : CmpOp) (a b : Expr) → e.form ≡ form.Compare op a b → left fs e ≡ left (left fs a) b
left_compare fs e op a b is = ap (λ x. drop (length (leaves x)) fs) (is_compare e op a b is) ∙ drop_both _ _ _ fs (length-append (leaves (exp a)) (leaves (exp b)))

pub left_and : (fs : Values) (e : Expr) (parts : List Expr) → e.form ≡ form.And parts → left fs e ≡ drop (length (leaves_all (expressions parts))) fs
left_and fs e parts is = ap (λ x. drop (length (leaves x)) fs) (is_and e parts is)

pub left_or : (fs : Values) (e : Expr) (parts : List Expr) → e.form ≡ form.Or parts → left fs e ≡ drop (length (leaves_all (expressions parts))) fs
left_or fs e parts is = ap (λ x. drop (length (leaves x)) fs) (is_or e parts is)

pub ruleset forms = (known_forms, value_number, value_truth, value_path, value_call, value_group, value_unary, value_arith, value_compare, value_and, value_or, left_number, left_truth, left_path, left_call, left_group, left_unary, left_arith, left_compare, left_and, left_or)

-- what is left behind one more expression
pub left_more : (es : List Expr) (i : ℕ) (e : Expr) (fs gs hs : Values) → i < length es → e ≡ get_or es i e → gs ≡ left fs e
    → drop (length (leaves_all (expressions (drop i es)))) fs ≡ hs → drop (length (leaves_all (expressions (drop (i + 1) es)))) gs ≡ hs
left_more es i e fs gs hs l is on h =
    let rest = expressions (drop (i + 1) es) in
    ap (drop (length (leaves_all rest))) on
    ∙ sym (drop_both (length (leaves (exp e))) (length (leaves_all rest)) _ fs (length-append (leaves (exp e)) (leaves_all rest)))
    ∙ ap (λ x. drop (length (leaves_all x)) fs) (sym (expressions_at es i e l is)) ∙ h

pub left_by : (os : List (ArithOp × Expr)) (i : ℕ) (o : ArithOp × Expr) (fs gs hs : Values) → i < length os → o ≡ get_or os i o → gs ≡ left fs o.1
    → drop (length (leaves_by (operations (drop i os)))) fs ≡ hs → drop (length (leaves_by (operations (drop (i + 1) os)))) gs ≡ hs
left_by os i o fs gs hs l is on h =
    let rest = operations (drop (i + 1) os) in
    ap (drop (length (leaves_by rest))) on
    ∙ sym (drop_both (length (leaves (exp o.1))) (length (leaves_by rest)) _ fs (length-append (leaves (exp o.1)) (leaves_by rest)))
    ∙ ap (λ x. drop (length (leaves_by x)) fs) (sym (operations_at os i o l is)) ∙ h

-- the value of a chain, from what stands so far
pub chain_more : (os : List (ArithOp × Expr)) (i : ℕ) (o : ArithOp × Expr) (fs gs : Values) (s t r : Outcome) → i < length os → o ≡ get_or os i o → gs ≡ left fs o.1
    → t ≡ and_then s (λ x. and_then (value_at fs o.1) (arithmetic o.0 x)) → chain (filled_by None fs (operations (drop i os))) s ≡ r → chain (filled_by None gs (operations (drop (i + 1) os))) t ≡ r
chain_more os i o fs gs s t r l is on so h =
    (λ j. chain (filled_by None (on j) (operations (drop (i + 1) os))) (so j)) ∙ ap (λ x. chain (filled_by None fs x) s) (sym (operations_at os i o l is)) ∙ h

abbrev pub all_on : Outcome → Values → Exps path.Path → Outcome
all_on s fs es = and_then s (λ a. cond (is_zero a) (Ok (pos 0)) (all (filled_all None fs es)))

abbrev pub any_on : Outcome → Values → Exps path.Path → Outcome
any_on s fs es = and_then s (λ a. cond (is_zero a) (any (filled_all None fs es)) (Ok (pos 1)))

also_step : (s v r : Outcome) → and_then (also s v) (λ a. cond (is_zero a) (Ok (pos 0)) r) ≡ and_then s (λ a. cond (is_zero a) (Ok (pos 0)) (and_then v (λ x. cond (is_zero x) (Ok (pos 0)) r)))
also_step (Err t) v r = refl
also_step (Ok a) v r = by (is_zero a) v
  where
    known : (b : Bool) → and_then (Ok (number_of (not b))) (λ a. cond (is_zero a) (Ok (pos 0)) r) ≡ cond b (Ok (pos 0)) r
    known true = refl
    known false = refl

    by : (b : Bool) (v : Outcome) → and_then (cond b (Ok (pos 0)) (and_then v truth_of)) (λ a. cond (is_zero a) (Ok (pos 0)) r) ≡ cond b (Ok (pos 0)) (and_then v (λ x. cond (is_zero x) (Ok (pos 0)) r))
    by true v = refl
    by false (Err t) = refl
    by false (Ok x) = known (is_zero x)

either_step : (s v r : Outcome) → and_then (either s v) (λ a. cond (is_zero a) r (Ok (pos 1))) ≡ and_then s (λ a. cond (is_zero a) (and_then v (λ x. cond (is_zero x) r (Ok (pos 1)))) (Ok (pos 1)))
either_step (Err t) v r = refl
either_step (Ok a) v r = by (is_zero a) v
  where
    known : (b : Bool) → and_then (Ok (number_of (not b))) (λ a. cond (is_zero a) r (Ok (pos 1))) ≡ cond b r (Ok (pos 1))
    known true = refl
    known false = refl

    by : (b : Bool) (v : Outcome) → and_then (cond b (and_then v truth_of) (Ok (pos 1))) (λ a. cond (is_zero a) r (Ok (pos 1))) ≡ cond b (and_then v (λ x. cond (is_zero x) r (Ok (pos 1)))) (Ok (pos 1))
    by true (Err t) = refl
    by true (Ok x) = known (is_zero x)
    by false v = refl

pub all_more : (es : List Expr) (i : ℕ) (e : Expr) (fs gs : Values) (s t r : Outcome) → i < length es → e ≡ get_or es i e → gs ≡ left fs e → t ≡ also s (value_at fs e)
    → all_on s fs (expressions (drop i es)) ≡ r → all_on t gs (expressions (drop (i + 1) es)) ≡ r
all_more es i e fs gs s t r l is on so h =
    (λ j. all_on (so j) (on j) (expressions (drop (i + 1) es))) ∙ also_step s (value_at fs e) (all (filled_all None (left fs e) (expressions (drop (i + 1) es))))
    ∙ ap (all_on s fs) (sym (expressions_at es i e l is)) ∙ h

pub any_more : (es : List Expr) (i : ℕ) (e : Expr) (fs gs : Values) (s t r : Outcome) → i < length es → e ≡ get_or es i e → gs ≡ left fs e → t ≡ either s (value_at fs e)
    → any_on s fs (expressions (drop i es)) ≡ r → any_on t gs (expressions (drop (i + 1) es)) ≡ r
any_more es i e fs gs s t r l is on so h =
    (λ j. any_on (so j) (on j) (expressions (drop (i + 1) es))) ∙ either_step s (value_at fs e) (any (filled_all None (left fs e) (expressions (drop (i + 1) es))))
    ∙ ap (any_on s fs) (sym (expressions_at es i e l is)) ∙ h
