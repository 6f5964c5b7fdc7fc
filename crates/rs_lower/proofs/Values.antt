-- What the definitions on an expression's value say of each form.
use Rattle.std.proofs.Common.{◌≡◌, ℤ, Bool, true, false, List, ap, ◌∙◌}
use Rattle.rs_tree.specs.declared.answers.Found.{Found}
use Rattle.rs_tree.specs.declared.answers.Found.TheVariants.{Absent}
use Rattle.rs_tree.specs.declared.tree.Path as path
use Rattle.rs_tree.specs.declared.tree.UnaryOp.{UnaryOp}
use Rattle.rs_tree.specs.declared.tree.ArithOp.{ArithOp}
use Rattle.rs_tree.specs.declared.tree.CmpOp.{CmpOp}
use Rattle.rs_tree.specs.declared.tree.Expr.{Expr}
use Rattle.rs_tree.specs.declared.tree.Form.TheVariants as form
use Rattle.rs_tree.specs.Plain.{Exp, Unary, Arith, Compare, And, Or, exp, expressions, operations}
use Rattle.rs_tree.specs.Leaves.{answer, filled}
use Rattle.rs_tree.specs.Equations.{is_number, is_truth, is_path, is_call, is_group, is_unary, is_arith, is_compare, is_and, is_or}
use Rattle.rs_lower.specs.Meanings.{Meanings, sig_of, gives_truth, gives_value}
use Rattle.rs_lower.specs.Locals.{Env}
use Rattle.rs_lower.specs.Code as code
use Rattle.rs_lower.specs.Reduced.{reduced}
use Rattle.rs_lower.proofs.Reducing.{truth_reduced, value_reduced}

abbrev valued : Meanings → List Found → Exp path.Path → Bool
valued w bs e = code.has_value w (reduced w (filled Absent bs e))

abbrev truth : Meanings → Env → List Found → Exp path.Path → Bool
truth w env bs e = code.is_truth w env (reduced w (filled Absent bs e))

pub value_number : (w : Meanings) (bs : List Found) (e : Expr) (v : ℤ) → e.form ≡ form.Number v → valued w bs (exp e) ≡ true
value_number w bs e v is = ap (valued w bs) (is_number e v is)

pub value_truth : (w : Meanings) (bs : List Found) (e : Expr) (b : Bool) → e.form ≡ form.Truth b → valued w bs (exp e) ≡ true
value_truth w bs e b is = ap (valued w bs) (is_truth e b is)

pub value_path : (w : Meanings) (bs : List Found) (e : Expr) (p : path.Path) → e.form ≡ form.Path p → valued w bs (exp e) ≡ true
value_path w bs e p is = ap (valued w bs) (is_path e p is)

pub value_call : (w : Meanings) (bs : List Found) (e : Expr) (p : path.Path) (args : List Expr) → e.form ≡ form.Call p args → valued w bs (exp e) ≡ gives_value (sig_of w (answer Absent bs))
value_call w bs e p args is = ap (valued w bs) (is_call e p args is)

pub value_group : (w : Meanings) (bs : List Found) (e a : Expr) → e.form ≡ form.Group a → valued w bs (exp e) ≡ valued w bs (exp a)
value_group w bs e a is = ap (valued w bs) (is_group e a is)

pub value_unary : (w : Meanings) (bs : List Found) (e : Expr) (op : UnaryOp) (a : Expr) → e.form ≡ form.Unary op a → valued w bs (exp e) ≡ true
value_unary w bs e op a is = ap (valued w bs) (is_unary e op a is) ∙ value_reduced w (filled Absent bs (Unary e.at op (exp a)))

pub value_arith : (w : Meanings) (bs : List Found) (e a : Expr) (more : List (ArithOp × Expr)) → e.form ≡ form.Arith a more → valued w bs (exp e) ≡ true
value_arith w bs e a more is = ap (valued w bs) (is_arith e a more is) ∙ value_reduced w (filled Absent bs (Arith e.at (exp a) (operations more)))

pub value_compare : (w : Meanings) (bs : List Found) (e : Expr) (op : CmpOp) (a b : Expr) → e.form ≡ form.Compare op a b → valued w bs (exp e) ≡ true
value_compare w bs e op a b is = ap (valued w bs) (is_compare e op a b is) ∙ value_reduced w (filled Absent bs (Compare e.at op (exp a) (exp b)))

pub value_and : (w : Meanings) (bs : List Found) (e : Expr) (parts : List Expr) → e.form ≡ form.And parts → valued w bs (exp e) ≡ true
value_and w bs e parts is = ap (valued w bs) (is_and e parts is) ∙ value_reduced w (filled Absent bs (And e.at (expressions parts)))

pub value_or : (w : Meanings) (bs : List Found) (e : Expr) (parts : List Expr) → e.form ≡ form.Or parts → valued w bs (exp e) ≡ true
value_or w bs e parts is = ap (valued w bs) (is_or e parts is) ∙ value_reduced w (filled Absent bs (Or e.at (expressions parts)))

pub truth_number : (w : Meanings) (env : Env) (bs : List Found) (e : Expr) (v : ℤ) → e.form ≡ form.Number v → truth w env bs (exp e) ≡ false
truth_number w env bs e v is = ap (truth w env bs) (is_number e v is)

pub truth_truth : (w : Meanings) (env : Env) (bs : List Found) (e : Expr) (b : Bool) → e.form ≡ form.Truth b → truth w env bs (exp e) ≡ true
truth_truth w env bs e b is = ap (truth w env bs) (is_truth e b is)

pub truth_path : (w : Meanings) (env : Env) (bs : List Found) (e : Expr) (p : path.Path) → e.form ≡ form.Path p → truth w env bs (exp e) ≡ code.is_truth_path w env (p, answer Absent bs)
truth_path w env bs e p is = ap (truth w env bs) (is_path e p is)

pub truth_call : (w : Meanings) (env : Env) (bs : List Found) (e : Expr) (p : path.Path) (args : List Expr) → e.form ≡ form.Call p args → truth w env bs (exp e) ≡ gives_truth (sig_of w (answer Absent bs))
truth_call w env bs e p args is = ap (truth w env bs) (is_call e p args is)

pub truth_group : (w : Meanings) (env : Env) (bs : List Found) (e a : Expr) → e.form ≡ form.Group a → truth w env bs (exp e) ≡ truth w env bs (exp a)
truth_group w env bs e a is = ap (truth w env bs) (is_group e a is)

pub truth_unary : (w : Meanings) (env : Env) (bs : List Found) (e : Expr) (op : UnaryOp) (a : Expr) → e.form ≡ form.Unary op a → truth w env bs (exp e) ≡ code.is_not op
truth_unary w env bs e op a is = ap (truth w env bs) (is_unary e op a is) ∙ truth_reduced w env (filled Absent bs (Unary e.at op (exp a)))

pub truth_arith : (w : Meanings) (env : Env) (bs : List Found) (e a : Expr) (more : List (ArithOp × Expr)) → e.form ≡ form.Arith a more → truth w env bs (exp e) ≡ false
truth_arith w env bs e a more is = ap (truth w env bs) (is_arith e a more is) ∙ truth_reduced w env (filled Absent bs (Arith e.at (exp a) (operations more)))

pub truth_compare : (w : Meanings) (env : Env) (bs : List Found) (e : Expr) (op : CmpOp) (a b : Expr) → e.form ≡ form.Compare op a b → truth w env bs (exp e) ≡ true
truth_compare w env bs e op a b is = ap (truth w env bs) (is_compare e op a b is) ∙ truth_reduced w env (filled Absent bs (Compare e.at op (exp a) (exp b)))

pub truth_and : (w : Meanings) (env : Env) (bs : List Found) (e : Expr) (parts : List Expr) → e.form ≡ form.And parts → truth w env bs (exp e) ≡ true
truth_and w env bs e parts is = ap (truth w env bs) (is_and e parts is) ∙ truth_reduced w env (filled Absent bs (And e.at (expressions parts)))

pub truth_or : (w : Meanings) (env : Env) (bs : List Found) (e : Expr) (parts : List Expr) → e.form ≡ form.Or parts → truth w env bs (exp e) ≡ true
truth_or w env bs e parts is = ap (truth w env bs) (is_or e parts is) ∙ truth_reduced w env (filled Absent bs (Or e.at (expressions parts)))

pub ruleset kinds = (value_number, value_truth, value_path, value_call, value_group, value_unary, value_arith, value_compare, value_and, value_or, truth_number, truth_truth, truth_path, truth_call, truth_group, truth_unary, truth_arith, truth_compare, truth_and, truth_or)
