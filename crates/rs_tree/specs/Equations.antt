-- What each tree is, plainly.
use Rattle.std.specs.Prelude.{◌≡◌, ℕ, ℤ, Bool, List, [], ◌∷◌, map, Option, Some, None, refl}
use Rattle.std.proofs.Common.{sym, ap, ◌∙◌, ◌<◌, ◌+◌, length, get_or, drop, add-one}
use Rattle.std.proofs.Math.Seq.{drop-cons}
use Rattle.rs_tree.specs.Plain.{Const, Func, definition}
use Rattle.rs_tree.specs.Plain.{at_of, Exp, Number, Truth, Path, Call, Group, Unary, Arith, Compare, And, Or, exp, exps, operands, form_step, Sta, Let, Assign, Return, Eval, While, If, Print, sta, stas, arms, optional, arms_of, stmt_step, expressions, operations, statements, choices, Exps, Stas, By, Arm, Else}
use Rattle.rs_tree.specs.declared.place.At.{At}
use Rattle.rs_tree.specs.declared.tree.Path as path
use Rattle.rs_tree.specs.declared.tree.Typ.{Typ}
use Rattle.rs_tree.specs.declared.tree.UnaryOp.{UnaryOp}
use Rattle.rs_tree.specs.declared.tree.ArithOp.{ArithOp}
use Rattle.rs_tree.specs.declared.tree.CmpOp.{CmpOp}
use Rattle.rs_tree.specs.declared.tree.Body.{Body}
use Rattle.rs_tree.specs.declared.tree.Body.TheVariants as body
use Rattle.rs_tree.specs.declared.tree.Expr.{Expr}
use Rattle.rs_tree.specs.declared.tree.Form.{Form}
use Rattle.rs_tree.specs.declared.tree.Form.TheVariants as form
use Rattle.rs_tree.specs.declared.tree.Form.TheOpen.{Form-F}
use Rattle.rs_tree.specs.declared.tree.Form.TheViews.{roll-Form}
use Rattle.rs_tree.specs.declared.tree.Form.TheFolds.{fold-Form, fold-roll-Form, fold_out-Form, fold_out-Expr, map-Form}
use Rattle.rs_tree.specs.declared.tree.Param.{Param}
use Rattle.rs_tree.specs.declared.tree.Stmt.{Stmt}
use Rattle.rs_tree.specs.declared.tree.Stmt.TheVariants as stmt
use Rattle.rs_tree.specs.declared.tree.Stmt.TheOpen.{Stmt-F}
use Rattle.rs_tree.specs.declared.tree.Stmt.TheFolds.{fold-roll-Stmt}

abbrev tree : At → Form → Expr
tree at f = record { at = at; form = f }

expressions_map : (es : List Expr) → exps (map exp es) ≡ expressions es
expressions_map [] = refl
expressions_map (e ∷ more) = ap (Exps.Of (exp e)) (expressions_map more)

operations_map : (es : List (ArithOp × Expr)) → operands (map (λ o. (o.0, exp o.1)) es) ≡ operations es
operations_map [] = refl
operations_map (o ∷ more) = ap (By o.0 (exp o.1)) (operations_map more)

statements_map : (ss : List Stmt) → stas (map sta ss) ≡ statements ss
statements_map [] = refl
statements_map (s ∷ more) = ap (Stas.Of (sta s)) (statements_map more)

exp_by : (at : At) (f : Form) (x : Form-F Form Expr) → roll-Form x ≡ f → exp (tree at f) ≡ form_step (map-Form Form Expr (At → Exp path.Path) (Exp path.Path) (fold-Form (At → Exp path.Path) (Exp path.Path) form_step (λ e. e.form e.at)) exp x) at
exp_by at f x is =
    ap (λ g. exp (tree at g)) (sym is) ∙
    fold_out-Expr (At → Exp path.Path) (Exp path.Path) form_step (λ e. e.form e.at) (tree at (roll-Form x)) ∙
    ap (λ g. g at) (fold-roll-Form (At → Exp path.Path) (Exp path.Path) form_step (λ e. e.form e.at) x)

pub exp_number : (at : At) (n : ℤ) → exp (record { at = at; form = form.Number n }) ≡ Number at n
exp_number at n = exp_by at (form.Number n) (Form-F.Number n) (form.rolls-Number n)

pub exp_truth : (at : At) (b : Bool) → exp (record { at = at; form = form.Truth b }) ≡ Truth at b
exp_truth at b = exp_by at (form.Truth b) (Form-F.Truth b) (form.rolls-Truth b)

pub exp_path : (at : At) (n : path.Path) → exp (record { at = at; form = form.Path n }) ≡ Path at n
exp_path at n = exp_by at (form.Path n) (Form-F.Path n) (form.rolls-Path n)

pub exp_call : (at : At) (n : path.Path) (args : List Expr) → exp (record { at = at; form = form.Call n args }) ≡ Call at n (expressions args)
exp_call at n args = exp_by at (form.Call n args) (Form-F.Call n args) (form.rolls-Call n args) ∙ ap (Call at n) (expressions_map args)

pub exp_group : (at : At) (e : Expr) → exp (record { at = at; form = form.Group e }) ≡ Group at (exp e)
exp_group at e = exp_by at (form.Group e) (Form-F.Group e) (form.rolls-Group e)

pub exp_unary : (at : At) (op : UnaryOp) (e : Expr) → exp (record { at = at; form = form.Unary op e }) ≡ Unary at op (exp e)
exp_unary at op e = exp_by at (form.Unary op e) (Form-F.Unary op e) (form.rolls-Unary op e)

pub exp_arith : (at : At) (e : Expr) (more : List (ArithOp × Expr)) → exp (record { at = at; form = form.Arith e more }) ≡ Arith at (exp e) (operations more)
exp_arith at e more = exp_by at (form.Arith e more) (Form-F.Arith e more) (form.rolls-Arith e more) ∙ ap (Arith at (exp e)) (operations_map more)

pub exp_compare : (at : At) (op : CmpOp) (a b : Expr) → exp (record { at = at; form = form.Compare op a b }) ≡ Compare at op (exp a) (exp b)
exp_compare at op a b = exp_by at (form.Compare op a b) (Form-F.Compare op a b) (form.rolls-Compare op a b)

pub exp_and : (at : At) (parts : List Expr) → exp (record { at = at; form = form.And parts }) ≡ And at (expressions parts)
exp_and at parts = exp_by at (form.And parts) (Form-F.And parts) (form.rolls-And parts) ∙ ap (And at) (expressions_map parts)

pub exp_or : (at : At) (parts : List Expr) → exp (record { at = at; form = form.Or parts }) ≡ Or at (expressions parts)
exp_or at parts = exp_by at (form.Or parts) (Form-F.Or parts) (form.rolls-Or parts) ∙ ap (Or at) (expressions_map parts)

pub sta_let : (mutable : Bool) (at : At) (name : List ℕ) (typ : Option Typ) (value : Expr) → sta (stmt.Let mutable at name typ value) ≡ Let mutable at name typ (exp value)
sta_let mutable at name typ value = ap sta (sym (stmt.rolls-Let mutable at name typ value)) ∙ fold-roll-Stmt (Sta path.Path) stmt_step (Stmt-F.Let mutable at name typ value)

pub sta_assign : (at : At) (name : List ℕ) (value : Expr) → sta (stmt.Assign at name value) ≡ Assign at name (exp value)
sta_assign at name value = ap sta (sym (stmt.rolls-Assign at name value)) ∙ fold-roll-Stmt (Sta path.Path) stmt_step (Stmt-F.Assign at name value)

pub sta_return : (at : At) (value : Option Expr) → sta (stmt.Return at value) ≡ Return at (optional value)
sta_return at value = ap sta (sym (stmt.rolls-Return at value)) ∙ fold-roll-Stmt (Sta path.Path) stmt_step (Stmt-F.Return at value)

pub sta_eval : (value : Expr) → sta (stmt.Eval value) ≡ Eval (exp value)
sta_eval value = ap sta (sym (stmt.rolls-Eval value)) ∙ fold-roll-Stmt (Sta path.Path) stmt_step (Stmt-F.Eval value)

pub sta_print : (value : Expr) → sta (stmt.Print value) ≡ Print (exp value)
sta_print value = ap sta (sym (stmt.rolls-Print value)) ∙ fold-roll-Stmt (Sta path.Path) stmt_step (Stmt-F.Print value)

pub sta_while : (cond : Expr) (body : List Stmt) → sta (stmt.While cond body) ≡ While (exp cond) (statements body)
sta_while cond body =
    ap sta (sym (stmt.rolls-While cond body)) ∙ fold-roll-Stmt (Sta path.Path) stmt_step (Stmt-F.While cond body) ∙ ap (While (exp cond)) (statements_map body)

choices_none : (cs : List (Expr × List Stmt)) → arms (arms_of (map (λ a. (a.0, map sta a.1)) cs)) None ≡ choices cs None
choices_none [] = refl
choices_none (a ∷ more) = cc (statements_map a.1, choices_none more)

choices_some : (cs : List (Expr × List Stmt)) (body : List Stmt) → arms (arms_of (map (λ a. (a.0, map sta a.1)) cs)) (Some (stas (map sta body))) ≡ choices cs (Some body)
choices_some [] body = ap Else (statements_map body)
choices_some (a ∷ more) body = cc (statements_map a.1, choices_some more body)

pub sta_if : (cs : List (Expr × List Stmt)) (other : Option (List Stmt)) → sta (stmt.If cs other) ≡ If (choices cs other)
sta_if cs None = ap sta (sym (stmt.rolls-If cs None)) ∙ fold-roll-Stmt (Sta path.Path) stmt_step (Stmt-F.If cs None) ∙ ap If (choices_none cs)
sta_if cs (Some body) = ap sta (sym (stmt.rolls-If cs (Some body))) ∙ fold-roll-Stmt (Sta path.Path) stmt_step (Stmt-F.If cs (Some body)) ∙ ap If (choices_some cs body)

pub ruleset plain = (exp_number, exp_truth, exp_path, exp_call, exp_group, exp_unary, exp_arith, exp_compare, exp_and, exp_or, sta_let, sta_assign, sta_return, sta_eval, sta_print, sta_while, sta_if)

-- the next of several
pub expressions_at : (es : List Expr) (i : ℕ) (e : Expr) → i < length es → e ≡ get_or es i e → expressions (drop i es) ≡ Exps.Of (exp e) (expressions (drop (i + 1) es))
expressions_at es i e h is = rw (add-one, drop-cons es i e h, ← is) refl

pub operations_at : (os : List (ArithOp × Expr)) (i : ℕ) (o : ArithOp × Expr) → i < length os → o ≡ get_or os i o → operations (drop i os) ≡ By o.0 (exp o.1) (operations (drop (i + 1) os))
operations_at os i o h is = rw (add-one, drop-cons os i o h, ← is) refl

pub statements_at : (ss : List Stmt) (i : ℕ) (s : Stmt) → i < length ss → s ≡ get_or ss i s → statements (drop i ss) ≡ Stas.Of (sta s) (statements (drop (i + 1) ss))
statements_at ss i s h is = rw (add-one, drop-cons ss i s h, ← is) refl

pub choices_at : (cs : List (Expr × List Stmt)) (other : Option (List Stmt)) (i : ℕ) (c : Expr × List Stmt) → i < length cs → c ≡ get_or cs i c → choices (drop i cs) other ≡ Arm (exp c.0) (statements c.1) (choices (drop (i + 1) cs) other)
choices_at cs other i c h is = rw (add-one, drop-cons cs i c h, ← is) refl

pub ruleset turns = (expressions_at, operations_at, statements_at, choices_at)

-- the same, of an expression whose form is known
pub is_number : (e : Expr) (n : ℤ) → e.form ≡ form.Number n → exp e ≡ Number e.at n
is_number e n is = ap (λ f. exp (record { at = e.at; form = f })) is ∙ exp_number e.at n

pub is_truth : (e : Expr) (b : Bool) → e.form ≡ form.Truth b → exp e ≡ Truth e.at b
is_truth e b is = ap (λ f. exp (record { at = e.at; form = f })) is ∙ exp_truth e.at b

pub is_path : (e : Expr) (n : path.Path) → e.form ≡ form.Path n → exp e ≡ Path e.at n
is_path e n is = ap (λ f. exp (record { at = e.at; form = f })) is ∙ exp_path e.at n

pub is_call : (e : Expr) (n : path.Path) (args : List Expr) → e.form ≡ form.Call n args → exp e ≡ Call e.at n (expressions args)
is_call e n args is = ap (λ f. exp (record { at = e.at; form = f })) is ∙ exp_call e.at n args

pub is_group : (e : Expr) (a : Expr) → e.form ≡ form.Group a → exp e ≡ Group e.at (exp a)
is_group e a is = ap (λ f. exp (record { at = e.at; form = f })) is ∙ exp_group e.at a

pub is_unary : (e : Expr) (op : UnaryOp) (a : Expr) → e.form ≡ form.Unary op a → exp e ≡ Unary e.at op (exp a)
is_unary e op a is = ap (λ f. exp (record { at = e.at; form = f })) is ∙ exp_unary e.at op a

pub is_arith : (e : Expr) (a : Expr) (more : List (ArithOp × Expr)) → e.form ≡ form.Arith a more → exp e ≡ Arith e.at (exp a) (operations more)
is_arith e a more is = ap (λ f. exp (record { at = e.at; form = f })) is ∙ exp_arith e.at a more

pub is_compare : (e : Expr) (op : CmpOp) (a b : Expr) → e.form ≡ form.Compare op a b → exp e ≡ Compare e.at op (exp a) (exp b)
is_compare e op a b is = ap (λ f. exp (record { at = e.at; form = f })) is ∙ exp_compare e.at op a b

pub is_and : (e : Expr) (parts : List Expr) → e.form ≡ form.And parts → exp e ≡ And e.at (expressions parts)
is_and e parts is = ap (λ f. exp (record { at = e.at; form = f })) is ∙ exp_and e.at parts

pub is_or : (e : Expr) (parts : List Expr) → e.form ≡ form.Or parts → exp e ≡ Or e.at (expressions parts)
is_or e parts is = ap (λ f. exp (record { at = e.at; form = f })) is ∙ exp_or e.at parts

pub ruleset known_forms = (is_number, is_truth, is_path, is_call, is_group, is_unary, is_arith, is_compare, is_and, is_or)

pub is_let : (s : Stmt) (mutable : Bool) (at : At) (name : List ℕ) (typ : Option Typ) (value : Expr) → s ≡ stmt.Let mutable at name typ value → sta s ≡ Let mutable at name typ (exp value)
is_let s mutable at name typ value is = ap sta is ∙ sta_let mutable at name typ value

pub is_assign : (s : Stmt) (at : At) (name : List ℕ) (value : Expr) → s ≡ stmt.Assign at name value → sta s ≡ Assign at name (exp value)
is_assign s at name value is = ap sta is ∙ sta_assign at name value

pub is_return : (s : Stmt) (at : At) (value : Option Expr) → s ≡ stmt.Return at value → sta s ≡ Return at (optional value)
is_return s at value is = ap sta is ∙ sta_return at value

pub is_eval : (s : Stmt) (value : Expr) → s ≡ stmt.Eval value → sta s ≡ Eval (exp value)
is_eval s value is = ap sta is ∙ sta_eval value

pub is_print : (s : Stmt) (value : Expr) → s ≡ stmt.Print value → sta s ≡ Print (exp value)
is_print s value is = ap sta is ∙ sta_print value

pub is_while : (s : Stmt) (cond : Expr) (body : List Stmt) → s ≡ stmt.While cond body → sta s ≡ While (exp cond) (statements body)
is_while s cond body is = ap sta is ∙ sta_while cond body

pub is_if : (s : Stmt) (cs : List (Expr × List Stmt)) (other : Option (List Stmt)) → s ≡ stmt.If cs other → sta s ≡ If (choices cs other)
is_if s cs other is = ap sta is ∙ sta_if cs other

pub is_const : (b : Body) (typ : Typ) (value : Expr) → b ≡ body.Const typ value → definition b ≡ Const typ (exp value)
is_const b typ value is = ap definition is

pub is_func : (b : Body) (inlined : Bool) (params : List Param) (gives : Typ) (stmts : List Stmt) (tail : Option Expr) → b ≡ body.Func inlined params gives stmts tail → definition b ≡ Func inlined params gives (statements stmts) (optional tail)
is_func b inlined params gives stmts tail is = ap definition is

pub ruleset known_bodies = (is_const, is_func)

pub ruleset known_statements = (is_let, is_assign, is_return, is_eval, is_print, is_while, is_if)

at_step : (x : Form-F (At → Exp path.Path) (Exp path.Path)) (at : At) → at_of (form_step x at) ≡ at
at_step (Form-F.Number n) at = refl
at_step (Form-F.Truth b) at = refl
at_step (Form-F.Path n) at = refl
at_step (Form-F.Call n args) at = refl
at_step (Form-F.Group e) at = refl
at_step (Form-F.Unary op e) at = refl
at_step (Form-F.Arith a more) at = refl
at_step (Form-F.Compare op a b) at = refl
at_step (Form-F.And parts) at = refl
at_step (Form-F.Or parts) at = refl

pub at_is : (e : Expr) → at_of (exp e) ≡ e.at
at_is e =
    ap at_of (fold_out-Expr (At → Exp path.Path) (Exp path.Path) form_step (λ e. e.form e.at) e) ∙
    ap (λ g. at_of (g e.at)) (fold_out-Form (At → Exp path.Path) (Exp path.Path) form_step (λ e. e.form e.at) e.form) ∙
    at_step _ e.at
