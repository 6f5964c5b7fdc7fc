-- The weights of a list's elements, and of the parts of an `if`.
use Rattle.std.proofs.Common.{◌≡◌, ℕ, zero, suc, ◌+◌, ◌<◌, ◌≤◌, List, [], ◌∷◌, Option, None, length, get_or, drop, ap, arith}
use Rattle.rs_tree.specs.declared.tree.ArithOp.{ArithOp}
use Rattle.rs_tree.specs.declared.tree.Expr.{Expr}
use Rattle.rs_tree.specs.declared.tree.Stmt.{Stmt}
use Rattle.rs_tree.specs.declared.tree.Stmt.TheVariants as stmt
use Rattle.rs_tree.specs.Plain.{choices, exp, expressions, operations, sta, statements}
use Rattle.rs_tree.specs.Equations.{choices_at, statements_at}
use Rattle.rs_tree.specs.Weight.{ExpressionsWeighMore, StatementsWeighMore, size, sizes, sizes_by, weight, weight_arms, weights}
use Rattle.rs_tree.specs.Weight.{size_and, size_arith, size_call, size_compare, size_group, size_or, size_unary, weight_if, weight_while}

pub statement_weight : (all : List Stmt) (i : ℕ) (s : Stmt) → i < length all → s ≡ get_or all i s → weights (statements (drop i all)) ≡ weight (sta s) + weights (statements (drop (i + 1) all))
statement_weight all i s h is = ap weights (statements_at all i s h is)

pub arm_weight : (all : List (Expr × List Stmt)) (i : ℕ) (a : Expr × List Stmt) → i < length all → a ≡ get_or all i a → weight_arms (choices (drop i all) None) ≡ weights (statements a.1) + weight_arms (choices (drop (i + 1) all) None)
arm_weight all i a h is = ap weight_arms (choices_at all None i a h is)

-- an `if` weighs what its conditions' blocks and its last block weigh
parts_weight : (all : List (Expr × List Stmt)) (other : Option (List Stmt)) → weight_arms (choices all other) ≡ weight_arms (choices all None) + weight_arms (choices [] other)
parts_weight [] other = omega arith
parts_weight (a ∷ all) other = let rest = parts_weight all other in omega arith

arms_least : (all : List (Expr × List Stmt)) (other : Option (List Stmt)) → weight_arms (choices all None) ≤ weight_arms (choices all other)
arms_least all other = let parts = parts_weight all other in omega arith

other_least : (all : List (Expr × List Stmt)) (other : Option (List Stmt)) → weight_arms (choices [] other) ≤ weight_arms (choices all other)
other_least all other = let parts = parts_weight all other in omega arith

pub arms_below : (s : Stmt) (all taken : List (Expr × List Stmt)) (other : Option (List Stmt)) → s ≡ stmt.If all other → taken ≡ all → weight_arms (choices taken None) + 2 < weight (sta s)
arms_below s all taken other is same =
    let whole = weight_if s all other is in
    let least = arms_least all other in
    let parts : weight_arms (choices taken None) ≡ weight_arms (choices all None) = ap (λ cs. weight_arms (choices cs None)) same in
    omega arith

pub other_below : (s : Stmt) (all : List (Expr × List Stmt)) (other : Option (List Stmt)) → s ≡ stmt.If all other → weight_arms (choices [] other) + 2 < weight (sta s)
other_below s all other is =
    let whole = weight_if s all other is in
    let least = other_least all other in
    omega arith

pub ruleset weighing = (statement_weight, arm_weight, weight_while)

-- one of several weighs no more than all

expression_least : (es : List Expr) (i : ℕ) (e : Expr) → i < length es → e ≡ get_or es i e → size (exp e) ≤ sizes (expressions es)
expression_least [] i e h is = absurd (omega (arith, h))
expression_least (x ∷ more) zero e h is = let same : size (exp e) ≡ size (exp x) = ap (λ y. size (exp y)) is in omega (arith, same)
expression_least (x ∷ more) (suc i) e h is = let later = expression_least more i e (omega (arith, h)) is in omega (arith, later)

operand_least : (os : List (ArithOp × Expr)) (i : ℕ) (o : ArithOp × Expr) → i < length os → o ≡ get_or os i o → size (exp o.1) ≤ sizes_by (operations os)
operand_least [] i o h is = absurd (omega (arith, h))
operand_least (x ∷ more) zero o h is = let same : size (exp o.1) ≡ size (exp x.1) = ap (λ (y : ArithOp × Expr). size (exp y.1)) is in omega (arith, same)
operand_least (x ∷ more) (suc i) o h is = let later = operand_least more i o (omega (arith, h)) is in omega (arith, later)

statement_least : (ss : List Stmt) (i : ℕ) (s : Stmt) → i < length ss → s ≡ get_or ss i s → weight (sta s) ≤ weights (statements ss)
statement_least [] i s h is = absurd (omega (arith, h))
statement_least (x ∷ more) zero s h is = let same : weight (sta s) ≡ weight (sta x) = ap (λ y. weight (sta y)) is in omega (arith, same)
statement_least (x ∷ more) (suc i) s h is = let later = statement_least more i s (omega (arith, h)) is in omega (arith, later)

arm_least : (cs : List (Expr × List Stmt)) (i : ℕ) (c : Expr × List Stmt) → i < length cs → c ≡ get_or cs i c → weights (statements c.1) ≤ weight_arms (choices cs None)
arm_least [] i c h is = absurd (omega (arith, h))
arm_least (x ∷ more) zero c h is = let same : weights (statements c.1) ≡ weights (statements x.1) = ap (λ (y : Expr × List Stmt). weights (statements y.1)) is in omega (arith, same)
arm_least (x ∷ more) (suc i) c h is = let later = arm_least more i c (omega (arith, h)) is in omega (arith, later)

pub expressions_weigh_more : ExpressionsWeighMore
expressions_weigh_more = record {
  call = λ e n args is. omega (arith, size_call e n args is);
  group = λ e a is. omega (arith, size_group e a is);
  unary = λ e op a is. omega (arith, size_unary e op a is);
  arith = λ e a more is. omega (arith, size_arith e a more is);
  compare = λ e op a b is. omega (arith, size_compare e op a b is);
  both = λ e parts is. omega (arith, size_and e parts is);
  either = λ e parts is. omega (arith, size_or e parts is);
  one = expression_least;
  operand = operand_least;
}

pub statements_weigh_more : StatementsWeighMore
statements_weigh_more = record {
  loop = λ s cond body is. omega (arith, weight_while s cond body is);
  arms = λ s cs other is. (let whole = weight_if s cs other is in let least = arms_least cs other in omega arith);
  otherwise = λ s cs other is. (let whole = weight_if s cs other is in let least = other_least cs other in omega arith);
  one = statement_least;
  arm = arm_least;
}
