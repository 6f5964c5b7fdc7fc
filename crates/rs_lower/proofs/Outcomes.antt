-- What an expression comes to, by what its parts come to.
use Rattle.std.proofs.Common.{◌≡◌, ℕ, ◌+◌, ◌<◌, ℤ, pos, Bool, true, false, cond, not, ◌&&◌, List, [], ◌∷◌, length, get_or, drop, None, Some, Ok, Err, refl, sym, ap, ◌∙◌}
use Rattle.rs_tree.specs.declared.answers.Found.TheVariants.{Absent}
use Rattle.rs_tree.specs.declared.ir.Instr.{Instr}
use Rattle.rs_tree.specs.declared.ir.Instr.TheVariants as i
use Rattle.rs_tree.specs.declared.place.At.{At}
use Rattle.rs_tree.specs.declared.tree.Path as path
use Rattle.rs_tree.specs.declared.tree.UnaryOp.{UnaryOp}
use Rattle.rs_tree.specs.declared.tree.ArithOp.{ArithOp}
use Rattle.rs_tree.specs.declared.tree.CmpOp.{CmpOp}
use Rattle.rs_tree.specs.declared.tree.Expr.{Expr}
use Rattle.rs_tree.specs.declared.tree.Form.TheVariants as form
use Rattle.rs_tree.specs.Plain.{Exp, Exps, Operands, Unary, Arith, Compare, Done, By, exp, expressions, operations}
use Rattle.rs_tree.specs.Equations.{operations_at, expressions_at, is_number, is_truth, is_path, is_call, is_group, is_unary, is_arith, is_compare, is_and, is_or}
use Rattle.rs_tree.specs.Leaves.{answer, filled, filled_all, filled_by, leaves}
use Rattle.rs_value.specs.Value.{Outcome, and_then, is_zero, number_of, unary, arithmetic, chain}
use Rattle.rs_value.specs.Value as worth
use Rattle.rs_lower.specs.declared.expr.Lowerer.{Lowerer}
use Rattle.rs_lower.specs.Meanings.{Leaf, Meanings}
use Rattle.rs_lower.specs.Reduced.{Fixed, by_consts, is_fixed, is_fixed_all, is_fixed_by, outcome, valued, valued_all, valued_by}
use Rattle.rs_lower.specs.Code.{arith_code}
use Rattle.rs_lower.specs.Fixed.{also, as_truth, chained, combined, compared, conjoined, decides, joined, logic_fixed, logical, path_fixed, truth_of, unary_fixed}
use Rattle.rs_lower.specs.State.{put, numbered, with_exp, outcome_of, chained_of, arith_fixed, compare_fixed, logic_of, conjoined_of}

pub unary_outcome : (w : Meanings) (at : At) (op : UnaryOp) (e : Exp Leaf) → outcome w (Unary at op e) ≡ unary_fixed op (outcome w e)
unary_outcome w at op e = by (is_fixed e)
  where
    by : (b : Bool) → cond b (Some (and_then (worth.value (valued (by_consts w) e)) (unary op))) None ≡ unary_fixed op (cond b (Some (worth.value (valued (by_consts w) e))) None)
    by true = refl
    by false = refl

pub arith_outcome : (w : Meanings) (at : At) (e : Exp Leaf) (os : Operands Leaf) → outcome w (Arith at e os) ≡ chained w os (outcome w e)
arith_outcome w at e os = by (is_fixed e)
  where
    by : (b : Bool) → cond (b && is_fixed_by os) (Some (chain (valued_by (by_consts w) os) (worth.value (valued (by_consts w) e)))) None ≡ chained w os (cond b (Some (worth.value (valued (by_consts w) e))) None)
    by true = refl
    by false = refl

pub compare_outcome : (w : Meanings) (at : At) (op : CmpOp) (a b : Exp Leaf) → outcome w (Compare at op a b) ≡ compared op (outcome w a) (outcome w b)
compare_outcome w at op a b = by (is_fixed a) (is_fixed b)
  where
    x : Outcome
    x = worth.value (valued (by_consts w) a)

    y : Outcome
    y = worth.value (valued (by_consts w) b)

    by : (p q : Bool) → cond (p && q) (Some (and_then x (λ m. and_then y (λ n. Ok (number_of (worth.holds op m n)))))) None ≡ compared op (cond p (Some x) None) (cond q (Some y) None)
    by true true = refl
    by true false = refl
    by false q = refl

pub chained_done : (w : Meanings) (x : Fixed) → chained w Done x ≡ x
chained_done w None = refl
chained_done w (Some x) = refl

pub chained_by : (w : Meanings) (op : ArithOp) (e : Exp Leaf) (more : Operands Leaf) (x : Fixed) → chained w (By op e more) x ≡ chained w more (combined op x (outcome w e))
chained_by w op e more None = refl
chained_by w op e more (Some x) = by (is_fixed e)
  where
    y : Outcome
    y = worth.value (valued (by_consts w) e)

    by : (b : Bool) → cond (b && is_fixed_by more) (Some (chain (valued_by (by_consts w) more) (and_then x (λ m. and_then y (arithmetic op m))))) None ≡ chained w more (combined op (Some x) (cond b (Some y) None))
    by true = refl
    by false = refl

-- what decides a chain decides it as a truth value too
decided_once : (either : Bool) → decides either (number_of either) ≡ true
decided_once false = refl
decided_once true = refl

decided_same : (either : Bool) (v : ℤ) → decides either v ≡ decides either (number_of (not (is_zero v)))
decided_same false v = by (is_zero v)
  where
    by : (b : Bool) → b ≡ is_zero (number_of (not b))
    by false = refl
    by true = refl
decided_same true v = by (is_zero v)
  where
    by : (b : Bool) → not b ≡ not (is_zero (number_of (not b)))
    by false = refl
    by true = refl

joined_twice : (either : Bool) (s x r : Outcome) → joined either s (joined either x r) ≡ joined either (joined either s (and_then x truth_of)) r
joined_twice either (Err t) x r = refl
joined_twice either (Ok a) x r = by (decides either a) x
  where
    by : (b : Bool) (x : Outcome) → cond b (Ok (number_of either)) (joined either x r) ≡ joined either (cond b (Ok (number_of either)) (and_then x truth_of)) r
    by true x = ap (λ d. cond d (Ok (number_of either)) r) (sym (decided_once either))
    by false (Err t) = refl
    by false (Ok b) = ap (λ d. cond d (Ok (number_of either)) r) (decided_same either b)

logical_of : (either : Bool) (e : Exp worth.Leaf) (more : Exps worth.Leaf) → logical either (Exps.Of e more) ≡ joined either (worth.value e) (logical either more)
logical_of false e more = refl
logical_of true e more = by (worth.value e)
  where
    turned : (b : Bool) (x y : Outcome) → cond b x y ≡ cond (not b) y x
    turned true x y = refl
    turned false x y = refl

    by : (x : Outcome) → and_then x (λ v. cond (is_zero v) (worth.any more) (Ok (pos 1))) ≡ joined true x (worth.any more)
    by (Err t) = refl
    by (Ok v) = turned (is_zero v) (worth.any more) (Ok (pos 1))

pub logic_first : (either : Bool) (w : Meanings) (e : Exp Leaf) (more : Exps Leaf) → logic_fixed either w (Exps.Of e more) ≡ conjoined either w more (outcome w e)
logic_first either w e more = by (is_fixed e)
  where
    x : Exp worth.Leaf
    x = valued (by_consts w) e

    rest : Exps worth.Leaf
    rest = valued_all (by_consts w) more

    by : (b : Bool) → cond (b && is_fixed_all more) (Some (logical either (Exps.Of x rest))) None ≡ conjoined either w more (cond b (Some (worth.value x)) None)
    by true = ap (λ o. cond (is_fixed_all more) (Some o) None) (logical_of either x rest)
    by false = refl

pub logic_none : (either : Bool) (w : Meanings) → logic_fixed either w Exps.Empty ≡ Some (Ok (number_of (not either)))
logic_none false w = refl
logic_none true w = refl

pub conjoined_more : (either : Bool) (w : Meanings) (e : Exp Leaf) (more : Exps Leaf) (s : Fixed) → conjoined either w (Exps.Of e more) s ≡ conjoined either w more (also either s (outcome w e))
conjoined_more either w e more None = refl
conjoined_more either w e more (Some s) = by (is_fixed e)
  where
    x : Exp worth.Leaf
    x = valued (by_consts w) e

    rest : Exps worth.Leaf
    rest = valued_all (by_consts w) more

    by : (b : Bool) → cond (b && is_fixed_all more) (Some (joined either s (logical either (Exps.Of x rest)))) None ≡ conjoined either w more (also either (Some s) (cond b (Some (worth.value x)) None))
    by true = ap (λ o. cond (is_fixed_all more) (Some o) None) (ap (joined either s) (logical_of either x rest) ∙ joined_twice either s (worth.value x) (logical either rest))
    by false = refl

abbrev fixed : Outcome → Fixed
fixed x = Some x

pub conjoined_none : (either : Bool) (w : Meanings) (s : Fixed) → conjoined either w Exps.Empty s ≡ as_truth s
conjoined_none either w None = refl
conjoined_none either w (Some (Err t)) = refl
conjoined_none false w (Some (Ok v)) = by (is_zero v)
  where
    by : (b : Bool) → fixed (cond b (Ok (pos 0)) (Ok (pos 1))) ≡ fixed (Ok (number_of (not b)))
    by false = refl
    by true = refl
conjoined_none true w (Some (Ok v)) = by (is_zero v)
  where
    by : (b : Bool) → fixed (cond (not b) (Ok (pos 1)) (Ok (pos 0))) ≡ fixed (Ok (number_of (not b)))
    by false = refl
    by true = refl

-- of an expression whose form is known
pub fixed_number : (e : Expr) (v : ℤ) (s : Lowerer) → e.form ≡ form.Number v → outcome_of s (exp e) ≡ Some (Ok v)
fixed_number e v s is = ap (outcome_of s) (is_number e v is)

pub fixed_truth : (e : Expr) (b : Bool) (s : Lowerer) → e.form ≡ form.Truth b → outcome_of s (exp e) ≡ Some (Ok (number_of b))
fixed_truth e b s is = ap (outcome_of s) (is_truth e b is)

pub fixed_path : (e : Expr) (p : path.Path) (s : Lowerer) → e.form ≡ form.Path p → outcome_of s (exp e) ≡ path_fixed s.meanings.now (p, answer Absent s.answers)
fixed_path e p s is = ap (outcome_of s) (is_path e p is)

pub fixed_call : (e : Expr) (p : path.Path) (args : List Expr) (s : Lowerer) → e.form ≡ form.Call p args → outcome_of s (exp e) ≡ None
fixed_call e p args s is = ap (outcome_of s) (is_call e p args is)

pub fixed_group : (e a : Expr) (s : Lowerer) → e.form ≡ form.Group a → outcome_of s (exp e) ≡ outcome_of s (exp a)
fixed_group e a s is = ap (outcome_of s) (is_group e a is)

pub fixed_unary : (e : Expr) (op : UnaryOp) (a : Expr) (s : Lowerer) → e.form ≡ form.Unary op a → outcome_of s (exp e) ≡ unary_fixed op (outcome_of s (exp a))
fixed_unary e op a s is = ap (outcome_of s) (is_unary e op a is) ∙ unary_outcome s.meanings.now e.at op (filled Absent s.answers (exp a))

pub fixed_arith : (e : Expr) (a : Expr) (more : List (ArithOp × Expr)) (s : Lowerer) → e.form ≡ form.Arith a more → outcome_of s (exp e) ≡ arith_fixed (exp a) (operations more) s
fixed_arith e a more s is = ap (outcome_of s) (is_arith e a more is) ∙ arith_outcome s.meanings.now e.at (filled Absent s.answers (exp a)) (filled_by Absent (drop (length (leaves (exp a))) s.answers) (operations more))

pub fixed_compare : (e : Expr) (op : CmpOp) (a b : Expr) (s : Lowerer) → e.form ≡ form.Compare op a b → outcome_of s (exp e) ≡ compare_fixed op (exp a) (exp b) s
fixed_compare e op a b s is = ap (outcome_of s) (is_compare e op a b is) ∙ compare_outcome s.meanings.now e.at op (filled Absent s.answers (exp a)) (filled Absent (drop (length (leaves (exp a))) s.answers) (exp b))

pub fixed_and : (e : Expr) (parts : List Expr) (s : Lowerer) → e.form ≡ form.And parts → outcome_of s (exp e) ≡ logic_of false (expressions parts) s
fixed_and e parts s is = ap (outcome_of s) (is_and e parts is)

pub fixed_or : (e : Expr) (parts : List Expr) (s : Lowerer) → e.form ≡ form.Or parts → outcome_of s (exp e) ≡ logic_of true (expressions parts) s
fixed_or e parts s is = ap (outcome_of s) (is_or e parts is)

pub chained_none : (x : Fixed) (s : Lowerer) → chained_of Done x s ≡ x
chained_none x s = chained_done s.meanings.now x

pub conjoined_end : (either : Bool) (x : Fixed) (s : Lowerer) → conjoined_of either Exps.Empty x s ≡ as_truth x
conjoined_end either x s = conjoined_none either s.meanings.now x

-- one operand more
pub chained_next : (os : List (ArithOp × Expr)) (k : ℕ) (o : ArithOp × Expr) (s next : Lowerer) (x y z whole : Fixed) → k < length os → o ≡ get_or os k o
    → next ≡ put (i.Plain (arith_code o.0) ∷ []) (with_exp (exp o.1) s) → y ≡ outcome_of s (exp o.1) → z ≡ combined o.0 x y
    → chained_of (operations (drop k os)) x s ≡ whole → chained_of (operations (drop (k + 1) os)) z next ≡ whole
chained_next os k o s next x y z whole less is step known by so_far =
    let rest = operations (drop (k + 1) os) in
    (λ j. chained_of rest ((by ∙ ap (combined o.0 x) known) j) (step j))
    ∙ sym (chained_by s.meanings.now o.0 (filled Absent s.answers (exp o.1)) (filled_by Absent (drop (length (leaves (exp o.1))) s.answers) rest) x)
    ∙ ap (λ z. chained_of z x s) (sym (operations_at os k o less is)) ∙ so_far

-- one part more
pub conjoined_next : (either : Bool) (es : List Expr) (k : ℕ) (e : Expr) (jump : List Instr) (s next : Lowerer) (x y z whole : Fixed) → k < length es → e ≡ get_or es k e
    → next ≡ with_exp (exp e) (put jump s) → y ≡ outcome_of (put jump s) (exp e) → z ≡ also either x y
    → conjoined_of either (expressions (drop k es)) x s ≡ whole → conjoined_of either (expressions (drop (k + 1) es)) z next ≡ whole
conjoined_next either es k e jump s next x y z whole less is step known by so_far =
    let rest = expressions (drop (k + 1) es) in
    (λ j. conjoined_of either rest ((by ∙ ap (also either x) known) j) (step j))
    ∙ sym (conjoined_more either s.meanings.now (filled Absent s.answers (exp e)) (filled_all Absent (drop (length (leaves (exp e))) s.answers) rest) x)
    ∙ ap (λ z. conjoined_of either z x s) (sym (expressions_at es k e less is)) ∙ so_far

-- behind the first part
pub conjoined_begins : (either : Bool) (parts : List Expr) (first : Expr) (more : List Expr) (s one next : Lowerer) (x : Fixed) → parts ≡ first ∷ more → one ≡ with_exp (exp first) s → next ≡ numbered 1 one
    → x ≡ outcome_of s (exp first) → conjoined_of either (expressions more) x next ≡ logic_of either (expressions parts) s
conjoined_begins either parts first more s one next x are step fresh known =
    (λ j. conjoined_of either (expressions more) (known j) ((fresh ∙ ap (numbered 1) step) j))
    ∙ sym (logic_first either s.meanings.now (filled Absent s.answers (exp first)) (filled_all Absent (drop (length (leaves (exp first))) s.answers) (expressions more)))
    ∙ sym (ap (λ ps. logic_of either (expressions ps) s) are)

pub ruleset outcomes = (fixed_number, fixed_truth, fixed_path, fixed_call, fixed_group, fixed_unary, fixed_arith, fixed_compare, fixed_and, fixed_or, logic_none, chained_none, conjoined_end)
