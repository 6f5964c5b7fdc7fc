-- A walk over a tree, one step on.
use Rattle.std.proofs.Common.{◌≡◌, ℕ, ◌+◌, ◌<◌, Bool, true, List, [], ◌∷◌, ◌++◌, length, get_or, drop, sym, ap, ◌∙◌, append_assoc}
use Rattle.std.specs.Prelude.{Option}
use Rattle.std.proofs.lemmas.List.{append-nil}
use Rattle.rs_tree.specs.declared.tree.Path as path
use Rattle.rs_tree.specs.declared.tree.Expr.{Expr}
use Rattle.rs_tree.specs.declared.tree.Stmt.{Stmt}
use Rattle.rs_tree.specs.declared.tree.ArithOp.{ArithOp}
use Rattle.rs_tree.specs.declared.tree.CmpOp.{CmpOp}
use Rattle.rs_tree.specs.declared.tree.Form.TheVariants as form
use Rattle.rs_tree.specs.declared.tree.Stmt.TheVariants as stmt
use Rattle.rs_tree.specs.Plain.{Exp, Exps, Operands, Done, By, exp, expressions, operations}
use Rattle.rs_tree.specs.Plain.{Sta, Stas, Arms, Bare, Arm, sta, statements, choices}
use Rattle.rs_tree.specs.Equations.{turns, known_forms, known_statements, known_bodies, is_call, is_arith, is_compare, is_while, choices_at}
use Rattle.rs_tree.specs.Weight.{weighs}
use Rattle.rs_reach.specs.Calls.{marks, marks_all, marks_by, sta_marks, stas_marks, arms_marks}

pub none : (ps : List Bool) → ps ++ marks_all {A = path.Path} Exps.Empty ≡ ps
none ps = append-nil ps

pub more : (ps : List Bool) (e : Exp path.Path) (es : Exps path.Path) → ps ++ marks_all (Exps.Of e es) ≡ (ps ++ marks e) ++ marks_all es
more ps e es = sym (append_assoc ps (marks e) (marks_all es))

pub done : (ps : List Bool) → ps ++ marks_by {A = path.Path} Done ≡ ps
done ps = append-nil ps

pub by : (ps : List Bool) (op : ArithOp) (e : Exp path.Path) (os : Operands path.Path) → ps ++ marks_by (By op e os) ≡ (ps ++ marks e) ++ marks_by os
by ps op e os = sym (append_assoc ps (marks e) (marks_by os))

pub of_call : (ps : List Bool) (e : Expr) (p : path.Path) (args : List Expr) → e.form ≡ form.Call p args → ps ++ marks (exp e) ≡ (ps ++ true ∷ []) ++ marks_all (expressions args)
of_call ps e p args is = ap (λ x. ps ++ marks x) (is_call e p args is) ∙ sym (append_assoc ps (true ∷ []) (marks_all (expressions args)))

pub of_arith : (ps : List Bool) (e : Expr) (a : Expr) (os : List (ArithOp × Expr)) → e.form ≡ form.Arith a os → ps ++ marks (exp e) ≡ (ps ++ marks (exp a)) ++ marks_by (operations os)
of_arith ps e a os is = ap (λ x. ps ++ marks x) (is_arith e a os is) ∙ sym (append_assoc ps (marks (exp a)) (marks_by (operations os)))

pub of_compare : (ps : List Bool) (e : Expr) (op : CmpOp) (a b : Expr) → e.form ≡ form.Compare op a b → ps ++ marks (exp e) ≡ (ps ++ marks (exp a)) ++ marks (exp b)
of_compare ps e op a b is = ap (λ x. ps ++ marks x) (is_compare e op a b is) ∙ sym (append_assoc ps (marks (exp a)) (marks (exp b)))

pub no_statement : (ps : List Bool) → ps ++ stas_marks {A = path.Path} Stas.Empty ≡ ps
no_statement ps = append-nil ps

pub next : (ps : List Bool) (s : Sta path.Path) (ss : Stas path.Path) → ps ++ stas_marks (Stas.Of s ss) ≡ (ps ++ sta_marks s) ++ stas_marks ss
next ps s ss = sym (append_assoc ps (sta_marks s) (stas_marks ss))

pub bare : (ps : List Bool) → ps ++ arms_marks {A = path.Path} Bare ≡ ps
bare ps = append-nil ps

arm : (ps : List Bool) (cond : Exp path.Path) (body : Stas path.Path) (rest : Arms path.Path) → ps ++ arms_marks (Arm cond body rest) ≡ ((ps ++ marks cond) ++ stas_marks body) ++ arms_marks rest
arm ps cond body rest = sym (append_assoc (ps ++ marks cond) (stas_marks body) (arms_marks rest) ∙ append_assoc ps (marks cond) (stas_marks body ++ arms_marks rest))

pub arm_step : (ps ms ns xs : List Bool) (cs : List (Expr × List Stmt)) (other : Option (List Stmt)) (i : ℕ) (c : Expr × List Stmt) (b : List Stmt) → i < length cs → c ≡ get_or cs i c
    → ps ++ arms_marks (choices (drop i cs) other) ≡ xs → ms ≡ ps ++ marks (exp c.0) → b ≡ c.1 → ns ≡ ms ++ stas_marks (statements b)
    → ns ++ arms_marks (choices (drop (i + 1) cs) other) ≡ xs
arm_step ps ms ns xs cs other i c b l is inv e1 eb e2 =
    rw (e2, eb, e1) (sym (arm ps (exp c.0) (statements c.1) (choices (drop (i + 1) cs) other)) ∙ ap (λ (a : Arms path.Path). ps ++ arms_marks a) (sym (choices_at cs other i c l is)) ∙ inv)

pub of_while : (ps : List Bool) (s : Stmt) (cond : Expr) (body : List Stmt) → s ≡ stmt.While cond body → ps ++ sta_marks (sta s) ≡ (ps ++ marks (exp cond)) ++ stas_marks (statements body)
of_while ps s cond body is = ap (λ x. ps ++ sta_marks x) (is_while s cond body is) ∙ sym (append_assoc ps (marks (exp cond)) (stas_marks (statements body)))

pub ruleset steps = (append-nil, append_assoc, turns, known_forms, known_statements, known_bodies, weighs, none, more, done, by, of_call, of_arith, of_compare, no_statement, next, bare, of_while)
