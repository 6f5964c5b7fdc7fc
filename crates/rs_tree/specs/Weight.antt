-- A number for each expression and each statement, above those of its parts: what recursions go down.
use Rattle.std.specs.Prelude.{◌≡◌, ℕ, ◌+◌, ◌<◌, ◌≤◌, List, [], Option, None, length}
use Rattle.std.proofs.Common.{ap, get_or}
use Rattle.rs_tree.specs.declared.tree.Path as path
use Rattle.rs_tree.specs.declared.tree.Expr.{Expr}
use Rattle.rs_tree.specs.declared.tree.Stmt.{Stmt}
use Rattle.rs_tree.specs.declared.tree.Stmt.TheVariants as stmt
use Rattle.rs_tree.specs.declared.tree.UnaryOp.{UnaryOp}
use Rattle.rs_tree.specs.declared.tree.ArithOp.{ArithOp}
use Rattle.rs_tree.specs.declared.tree.CmpOp.{CmpOp}
use Rattle.rs_tree.specs.declared.tree.Form.TheVariants as form
use Rattle.rs_tree.specs.Equations.{is_call, is_group, is_unary, is_arith, is_compare, is_and, is_or}
use Rattle.rs_tree.specs.Plain.{Exp, Exps, Operands, Number, Truth, Path, Call, Group, Unary, Arith, Compare, And, Or, Done, By, exp, expressions, operations}
use Rattle.rs_tree.specs.Plain.{Sta, Stas, Arms, Let, Assign, Return, Eval, While, If, Print, Bare, Else, Arm, sta, statements, choices}
use Rattle.rs_tree.specs.Equations.{is_while, is_if}

abbrev mutual
  pub size : {A : Type 0} → Exp A → ℕ
  size (Number at n) = 1
  size (Truth at b) = 1
  size (Path at name) = 1
  size (Call at name args) = sizes args + 2
  size (Group at e) = size e + 1
  size (Unary at op e) = size e + 3
  size (Arith at a more) = size a + sizes_by more + 3
  size (Compare at op a b) = size a + size b + 2
  size (And at parts) = sizes parts + 3
  size (Or at parts) = sizes parts + 3

  pub sizes : {A : Type 0} → Exps A → ℕ
  sizes Exps.Empty = 0
  sizes (Exps.Of e more) = size e + sizes more

  pub sizes_by : {A : Type 0} → Operands A → ℕ
  sizes_by Done = 0
  sizes_by (By op e more) = size e + sizes_by more

abbrev mutual
  pub weight : {A : Type 0} → Sta A → ℕ
  weight (Let mutable at name typ value) = 1
  weight (Assign at name value) = 1
  weight (Return at value) = 1
  weight (Eval value) = 1
  weight (While cond body) = weights body + 4
  weight (If arms) = weight_arms arms + 5
  weight (Print value) = 1

  pub weights : {A : Type 0} → Stas A → ℕ
  weights Stas.Empty = 0
  weights (Stas.Of s more) = weight s + weights more

  pub weight_arms : {A : Type 0} → Arms A → ℕ
  weight_arms Bare = 0
  weight_arms (Else body) = weights body
  weight_arms (Arm cond body more) = weights body + weight_arms more

pub weight_while : (s : Stmt) (cond : Expr) (body : List Stmt) → s ≡ stmt.While cond body → weight (sta s) ≡ weights (statements body) + 4
weight_while s cond body is = ap weight (is_while s cond body is)

pub weight_if : (s : Stmt) (cs : List (Expr × List Stmt)) (other : Option (List Stmt)) → s ≡ stmt.If cs other → weight (sta s) ≡ weight_arms (choices cs other) + 5
weight_if s cs other is = ap weight (is_if s cs other is)

pub ruleset weighs = (weight_while, weight_if)

pub size_call : (e : Expr) (n : path.Path) (args : List Expr) → e.form ≡ form.Call n args → size (exp e) ≡ sizes (expressions args) + 2
size_call e n args is = ap size (is_call e n args is)

pub size_group : (e : Expr) (a : Expr) → e.form ≡ form.Group a → size (exp e) ≡ size (exp a) + 1
size_group e a is = ap size (is_group e a is)

pub size_unary : (e : Expr) (op : UnaryOp) (a : Expr) → e.form ≡ form.Unary op a → size (exp e) ≡ size (exp a) + 3
size_unary e op a is = ap size (is_unary e op a is)

pub size_arith : (e : Expr) (a : Expr) (more : List (ArithOp × Expr)) → e.form ≡ form.Arith a more → size (exp e) ≡ size (exp a) + sizes_by (operations more) + 3
size_arith e a more is = ap size (is_arith e a more is)

pub size_compare : (e : Expr) (op : CmpOp) (a b : Expr) → e.form ≡ form.Compare op a b → size (exp e) ≡ size (exp a) + size (exp b) + 2
size_compare e op a b is = ap size (is_compare e op a b is)

pub size_and : (e : Expr) (parts : List Expr) → e.form ≡ form.And parts → size (exp e) ≡ sizes (expressions parts) + 3
size_and e parts is = ap size (is_and e parts is)

pub size_or : (e : Expr) (parts : List Expr) → e.form ≡ form.Or parts → size (exp e) ≡ sizes (expressions parts) + 3
size_or e parts is = ap size (is_or e parts is)

pub ruleset measures = (size_call, size_group, size_unary, size_arith, size_compare, size_and, size_or)

-- each part of an expression weighs less than the whole, and one of several no more than all
pub record ExpressionsWeighMore : Type 0 where
  pub call : (e : Expr) (n : path.Path) (args : List Expr) → e.form ≡ form.Call n args → sizes (expressions args) < size (exp e)
  pub group : (e : Expr) (a : Expr) → e.form ≡ form.Group a → size (exp a) < size (exp e)
  pub unary : (e : Expr) (op : UnaryOp) (a : Expr) → e.form ≡ form.Unary op a → size (exp a) < size (exp e)
  pub arith : (e : Expr) (a : Expr) (more : List (ArithOp × Expr)) → e.form ≡ form.Arith a more → size (exp a) + sizes_by (operations more) < size (exp e)
  pub compare : (e : Expr) (op : CmpOp) (a b : Expr) → e.form ≡ form.Compare op a b → size (exp a) + size (exp b) < size (exp e)
  pub both : (e : Expr) (parts : List Expr) → e.form ≡ form.And parts → sizes (expressions parts) < size (exp e)
  pub either : (e : Expr) (parts : List Expr) → e.form ≡ form.Or parts → sizes (expressions parts) < size (exp e)
  pub one : (es : List Expr) (i : ℕ) (e : Expr) → i < length es → e ≡ get_or es i e → size (exp e) ≤ sizes (expressions es)
  pub operand : (os : List (ArithOp × Expr)) (i : ℕ) (o : ArithOp × Expr) → i < length os → o ≡ get_or os i o → size (exp o.1) ≤ sizes_by (operations os)

-- each block of a statement weighs less than the statement, and one of several no more than all
pub record StatementsWeighMore : Type 0 where
  pub loop : (s : Stmt) (cond : Expr) (body : List Stmt) → s ≡ stmt.While cond body → weights (statements body) < weight (sta s)
  pub arms : (s : Stmt) (cs : List (Expr × List Stmt)) (other : Option (List Stmt)) → s ≡ stmt.If cs other → weight_arms (choices cs None) < weight (sta s)
  pub otherwise : (s : Stmt) (cs : List (Expr × List Stmt)) (other : Option (List Stmt)) → s ≡ stmt.If cs other → weight_arms (choices [] other) < weight (sta s)
  pub one : (ss : List Stmt) (i : ℕ) (s : Stmt) → i < length ss → s ≡ get_or ss i s → weight (sta s) ≤ weights (statements ss)
  pub arm : (cs : List (Expr × List Stmt)) (i : ℕ) (c : Expr × List Stmt) → i < length cs → c ≡ get_or cs i c → weights (statements c.1) ≤ weight_arms (choices cs None)
