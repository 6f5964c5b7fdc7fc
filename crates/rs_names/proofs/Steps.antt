-- A walk over an expression, one step on.
use Rattle.std.proofs.Common.{◌≡◌, List, [], ◌∷◌, ◌++◌, sym, ap, ◌∙◌, append_assoc}
use Rattle.std.proofs.lemmas.List.{append-nil}
use Rattle.rs_tree.specs.declared.tree.Path as path
use Rattle.rs_tree.specs.declared.tree.Expr.{Expr}
use Rattle.rs_tree.specs.declared.tree.ArithOp.{ArithOp}
use Rattle.rs_tree.specs.declared.tree.CmpOp.{CmpOp}
use Rattle.rs_tree.specs.declared.tree.Form.TheVariants as form
use Rattle.rs_tree.specs.Plain.{Exp, Exps, Operands, Done, By, exp, expressions, operations}
use Rattle.rs_tree.specs.Equations.{turns, known_forms, is_call, is_arith, is_compare}
use Rattle.rs_tree.specs.Leaves.{leaves, leaves_all, leaves_by}

pub none : (ps : List path.Path) → ps ++ leaves_all {A = path.Path} Exps.Empty ≡ ps
none ps = append-nil ps

pub more : (ps : List path.Path) (e : Exp path.Path) (es : Exps path.Path) → ps ++ leaves_all (Exps.Of e es) ≡ (ps ++ leaves e) ++ leaves_all es
more ps e es = sym (append_assoc ps (leaves e) (leaves_all es))

pub done : (ps : List path.Path) → ps ++ leaves_by {A = path.Path} Done ≡ ps
done ps = append-nil ps

pub by : (ps : List path.Path) (op : ArithOp) (e : Exp path.Path) (os : Operands path.Path) → ps ++ leaves_by (By op e os) ≡ (ps ++ leaves e) ++ leaves_by os
by ps op e os = sym (append_assoc ps (leaves e) (leaves_by os))

pub of_call : (ps : List path.Path) (e : Expr) (p : path.Path) (args : List Expr) → e.form ≡ form.Call p args → ps ++ leaves (exp e) ≡ (ps ++ p ∷ []) ++ leaves_all (expressions args)
of_call ps e p args is = ap (λ x. ps ++ leaves x) (is_call e p args is) ∙ sym (append_assoc ps (p ∷ []) (leaves_all (expressions args)))

pub of_arith : (ps : List path.Path) (e : Expr) (a : Expr) (os : List (ArithOp × Expr)) → e.form ≡ form.Arith a os → ps ++ leaves (exp e) ≡ (ps ++ leaves (exp a)) ++ leaves_by (operations os)
of_arith ps e a os is = ap (λ x. ps ++ leaves x) (is_arith e a os is) ∙ sym (append_assoc ps (leaves (exp a)) (leaves_by (operations os)))

pub of_compare : (ps : List path.Path) (e : Expr) (op : CmpOp) (a b : Expr) → e.form ≡ form.Compare op a b → ps ++ leaves (exp e) ≡ (ps ++ leaves (exp a)) ++ leaves (exp b)
of_compare ps e op a b is = ap (λ x. ps ++ leaves x) (is_compare e op a b is) ∙ sym (append_assoc ps (leaves (exp a)) (leaves (exp b)))

pub ruleset steps = (append-nil, turns, known_forms, none, more, done, by, of_call, of_arith, of_compare)
