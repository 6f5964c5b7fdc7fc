-- What the mirror of each form of tree is.
use Rattle.std.specs.Prelude.{◌≡◌, ℕ, ℤ, Bool, List, Option}
use Rattle.rs_tree.specs.declared.place.At.{At}
use Rattle.rs_tree.specs.declared.tree.Path as path
use Rattle.rs_tree.specs.declared.tree.Typ.{Typ}
use Rattle.rs_tree.specs.declared.tree.UnaryOp.{UnaryOp}
use Rattle.rs_tree.specs.declared.tree.ArithOp.{ArithOp}
use Rattle.rs_tree.specs.declared.tree.CmpOp.{CmpOp}
use Rattle.rs_tree.specs.declared.tree.Expr.{Expr}
use Rattle.rs_tree.specs.declared.tree.Form.TheVariants as form
use Rattle.rs_tree.specs.declared.tree.Stmt.{Stmt}
use Rattle.rs_tree.specs.declared.tree.Stmt.TheVariants as stmt
use Rattle.rs_tree.specs.Plain.{at_of, Number, Truth, Path, Call, Group, Unary, Arith, Compare, And, Or, exp, expressions, operations}
use Rattle.rs_tree.specs.Plain.{Let, Assign, Return, Eval, While, If, Print, sta, statements, choices, optional}

pub record MirrorsExpressions : Type 0 where
  pub number : (at : At) (n : ℤ) → exp (record { at = at; form = form.Number n }) ≡ Number at n
  pub truth : (at : At) (b : Bool) → exp (record { at = at; form = form.Truth b }) ≡ Truth at b
  pub named : (at : At) (n : path.Path) → exp (record { at = at; form = form.Path n }) ≡ Path at n
  pub call : (at : At) (n : path.Path) (args : List Expr) → exp (record { at = at; form = form.Call n args }) ≡ Call at n (expressions args)
  pub group : (at : At) (e : Expr) → exp (record { at = at; form = form.Group e }) ≡ Group at (exp e)
  pub unary : (at : At) (op : UnaryOp) (e : Expr) → exp (record { at = at; form = form.Unary op e }) ≡ Unary at op (exp e)
  pub arith : (at : At) (e : Expr) (more : List (ArithOp × Expr)) → exp (record { at = at; form = form.Arith e more }) ≡ Arith at (exp e) (operations more)
  pub compare : (at : At) (op : CmpOp) (a b : Expr) → exp (record { at = at; form = form.Compare op a b }) ≡ Compare at op (exp a) (exp b)
  pub both : (at : At) (parts : List Expr) → exp (record { at = at; form = form.And parts }) ≡ And at (expressions parts)
  pub either : (at : At) (parts : List Expr) → exp (record { at = at; form = form.Or parts }) ≡ Or at (expressions parts)
  pub place : (e : Expr) → at_of (exp e) ≡ e.at

pub record MirrorsStatements : Type 0 where
  pub binding : (mutable : Bool) (at : At) (name : List ℕ) (typ : Option Typ) (value : Expr) → sta (stmt.Let mutable at name typ value) ≡ Let mutable at name typ (exp value)
  pub assign : (at : At) (name : List ℕ) (value : Expr) → sta (stmt.Assign at name value) ≡ Assign at name (exp value)
  pub leave : (at : At) (value : Option Expr) → sta (stmt.Return at value) ≡ Return at (optional value)
  pub eval : (value : Expr) → sta (stmt.Eval value) ≡ Eval (exp value)
  pub loop : (cond : Expr) (body : List Stmt) → sta (stmt.While cond body) ≡ While (exp cond) (statements body)
  pub choice : (cs : List (Expr × List Stmt)) (other : Option (List Stmt)) → sta (stmt.If cs other) ≡ If (choices cs other)
  pub print : (value : Expr) → sta (stmt.Print value) ≡ Print (exp value)
