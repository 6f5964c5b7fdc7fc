-- A tree is made again from its mirror.
use Rattle.std.proofs.Common.{◌≡◌, List, [], ◌∷◌, Option, Some, None, map, refl, sym, ap, subst, ◌∙◌}
use Rattle.rs_tree.specs.declared.place.At.{At}
use Rattle.rs_tree.specs.declared.tree.Path as path
use Rattle.rs_tree.specs.declared.tree.ArithOp.{ArithOp}
use Rattle.rs_tree.specs.declared.tree.Expr.{Expr}
use Rattle.rs_tree.specs.declared.tree.Form.{Form}
use Rattle.rs_tree.specs.declared.tree.Form.TheVariants as form
use Rattle.rs_tree.specs.declared.tree.Form.TheOpen.{Form-F, Expr-F}
use Rattle.rs_tree.specs.declared.tree.Form.TheViews.{roll-Form, roll-Expr}
use Rattle.rs_tree.specs.declared.tree.Form.TheFolds.{ind-Expr, map-Form}
use Rattle.rs_tree.specs.declared.tree.Stmt.{Stmt}
use Rattle.rs_tree.specs.declared.tree.Stmt.TheVariants as stmt
use Rattle.rs_tree.specs.declared.tree.Stmt.TheOpen.{Stmt-F}
use Rattle.rs_tree.specs.declared.tree.Stmt.TheFolds.{ind-Stmt, map-Stmt}
use Rattle.rs_tree.specs.declared.tree.Stmt.TheViews.{roll-Stmt}
use Rattle.rs_tree.specs.declared.tree.Body.{Body}
use Rattle.rs_tree.specs.declared.tree.Body.TheVariants as body
use Rattle.rs_tree.specs.declared.tree.Crate.{Crate}
use Rattle.rs_tree.specs.declared.tree.Item.{Item}
use Rattle.rs_tree.specs.declared.tree.Placed.{Placed}
use Rattle.rs_tree.specs.Plain.{Sta, Let, Assign, Return, Eval, While, If, Print, Stas, Arms, Bare, Else, Arm, sta, statements, choices, optional}
use Rattle.rs_tree.specs.Plain.{Definition, Const, Func, PlainItem, PlainPlaced, PlainCrate, definition, plain_item, plain_placed, plain_crate}
use Rattle.rs_tree.specs.Equations.{sta_let, sta_assign, sta_return, sta_eval, sta_print, sta_while, sta_if}
use Rattle.rs_tree.specs.Plain.{Exp, Number, Truth, Path, Call, Group, Unary, Arith, Compare, And, Or, Exps, Operands, Done, By, exp, expressions, operations}
use Rattle.rs_tree.specs.Equations.{exp_number, exp_truth, exp_path, exp_call, exp_group, exp_unary, exp_arith, exp_compare, exp_and, exp_or}

abbrev tree : At → Form → Expr
tree at f = record { at = at; form = f }

abbrev mutual
  back : Exp path.Path → Expr
  back (Number at n) = tree at (form.Number n)
  back (Truth at b) = tree at (form.Truth b)
  back (Path at n) = tree at (form.Path n)
  back (Call at n args) = tree at (form.Call n (backs args))
  back (Group at e) = tree at (form.Group (back e))
  back (Unary at op e) = tree at (form.Unary op (back e))
  back (Arith at first more) = tree at (form.Arith (back first) (back_operands more))
  back (Compare at op a b) = tree at (form.Compare op (back a) (back b))
  back (And at parts) = tree at (form.And (backs parts))
  back (Or at parts) = tree at (form.Or (backs parts))

  backs : Exps path.Path → List Expr
  backs Exps.Empty = []
  backs (Exps.Of e more) = back e ∷ backs more

  back_operands : Operands path.Path → List (ArithOp × Expr)
  back_operands Done = []
  back_operands (By op e more) = (op, back e) ∷ back_operands more

abbrev IsBack : Expr → Type 0
IsBack e = back (exp e) ≡ e

abbrev IsBackAnywhere : Form → Type 0
IsBackAnywhere f = (at : At) → IsBack (tree at f)

abbrev Made : Type 0
Made = (e : Expr) × IsBack e

abbrev MadeAnywhere : Type 0
MadeAnywhere = (f : Form) × IsBackAnywhere f

all_back : (es : List Made) → backs (expressions (map (λ e. e.0) es)) ≡ map (λ e. e.0) es
all_back [] = refl
all_back (e ∷ more) = ap (λ h. h ∷ backs (expressions (map (λ x. x.0) more))) e.1 ∙ ap (λ t. e.0 ∷ t) (all_back more)

operands_back : (os : List (ArithOp × Made)) → back_operands (operations (map (λ o. (o.0, o.1.0)) os)) ≡ map (λ o. (o.0, o.1.0)) os
operands_back [] = refl
operands_back (o ∷ more) = ap (λ h. (o.0, h) ∷ back_operands (operations (map (λ x. (x.0, x.1.0)) more))) o.1.1 ∙ ap (λ t. (o.0, o.1.0) ∷ t) (operands_back more)

form_back : (y : Form-F MadeAnywhere Made) → IsBackAnywhere (roll-Form (map-Form MadeAnywhere Made Form Expr (λ f. f.0) (λ e. e.0) y))
form_back (Form-F.Number n) = subst IsBackAnywhere (sym (form.rolls-Number n)) (λ at. ap back (exp_number at n))
form_back (Form-F.Truth b) = subst IsBackAnywhere (sym (form.rolls-Truth b)) (λ at. ap back (exp_truth at b))
form_back (Form-F.Path n) = subst IsBackAnywhere (sym (form.rolls-Path n)) (λ at. ap back (exp_path at n))
form_back (Form-F.Call n args) =
    let all = map (λ e. e.0) args in
    subst IsBackAnywhere (sym (form.rolls-Call n all)) (λ at. ap back (exp_call at n all) ∙ ap (λ es. tree at (form.Call n es)) (all_back args))
form_back (Form-F.Group e) =
    subst IsBackAnywhere (sym (form.rolls-Group e.0)) (λ at. ap back (exp_group at e.0) ∙ ap (λ a. tree at (form.Group a)) e.1)
form_back (Form-F.Unary op e) =
    subst IsBackAnywhere (sym (form.rolls-Unary op e.0)) (λ at. ap back (exp_unary at op e.0) ∙ ap (λ a. tree at (form.Unary op a)) e.1)
form_back (Form-F.Arith e more) =
    let all = map (λ o. (o.0, o.1.0)) more in
    subst IsBackAnywhere (sym (form.rolls-Arith e.0 all)) (λ at. ap back (exp_arith at e.0 all) ∙ ap (λ a. tree at (form.Arith a (back_operands (operations all)))) e.1 ∙ ap (λ os. tree at (form.Arith e.0 os)) (operands_back more))
form_back (Form-F.Compare op a b) =
    subst IsBackAnywhere (sym (form.rolls-Compare op a.0 b.0)) (λ at. ap back (exp_compare at op a.0 b.0) ∙ ap (λ e. tree at (form.Compare op e (back (exp b.0)))) a.1 ∙ ap (λ e. tree at (form.Compare op a.0 e)) b.1)
form_back (Form-F.And parts) =
    let all = map (λ e. e.0) parts in
    subst IsBackAnywhere (sym (form.rolls-And all)) (λ at. ap back (exp_and at all) ∙ ap (λ es. tree at (form.And es)) (all_back parts))
form_back (Form-F.Or parts) =
    let all = map (λ e. e.0) parts in
    subst IsBackAnywhere (sym (form.rolls-Or all)) (λ at. ap back (exp_or at all) ∙ ap (λ es. tree at (form.Or es)) (all_back parts))

expr_back : (e : Expr) → IsBack e
expr_back e =
    ind-Expr IsBackAnywhere IsBack
    (λ x y is. let Q : Form-F Form Expr → Type 0 = λ z. IsBackAnywhere (roll-Form z) in subst Q is (form_back y))
    (λ x y is. let Q : Expr-F Form Expr → Type 0 = λ z. IsBack (roll-Expr z) in subst Q is (y.form.1 y.at))
    e

pub expr_seen : (a b : Expr) → exp a ≡ exp b → a ≡ b
expr_seen a b same = sym (expr_back a) ∙ ap back same ∙ expr_back b

-- statements

abbrev back_value : Option (Exp path.Path) → Option Expr
back_value None = None
back_value (Some e) = Some (back e)

value_back : (value : Option Expr) → back_value (optional value) ≡ value
value_back None = refl
value_back (Some e) = ap Some (expr_back e)

abbrev mutual
  made : Sta path.Path → Stmt
  made (Let mutable at name typ value) = stmt.Let mutable at name typ (back value)
  made (Assign at name value) = stmt.Assign at name (back value)
  made (Return at value) = stmt.Return at (back_value value)
  made (Eval value) = stmt.Eval (back value)
  made (While cond body) = stmt.While (back cond) (mades body)
  made (If arms) = stmt.If (made_arms arms) (made_other arms)
  made (Print value) = stmt.Print (back value)

  mades : Stas path.Path → List Stmt
  mades Stas.Empty = []
  mades (Stas.Of s more) = made s ∷ mades more

  made_arms : Arms path.Path → List (Expr × List Stmt)
  made_arms Bare = []
  made_arms (Else body) = []
  made_arms (Arm cond body more) = (back cond, mades body) ∷ made_arms more

  made_other : Arms path.Path → Option (List Stmt)
  made_other Bare = None
  made_other (Else body) = Some (mades body)
  made_other (Arm cond body more) = made_other more

abbrev IsMade : Stmt → Type 0
IsMade s = made (sta s) ≡ s

abbrev Known : Type 0
Known = (s : Stmt) × IsMade s

body_made : (ss : List Known) → mades (statements (map (λ s. s.0) ss)) ≡ map (λ s. s.0) ss
body_made [] = refl
body_made (s ∷ more) = ap (λ h. h ∷ mades (statements (map (λ x. x.0) more))) s.1 ∙ ap (λ t. s.0 ∷ t) (body_made more)

abbrev plain_arm : Expr × List Known → Expr × List Stmt
plain_arm a = (a.0, map (λ s. s.0) a.1)

arms_made : (cs : List (Expr × List Known)) (other : Option (List Stmt)) → made_arms (choices (map plain_arm cs) other) ≡ map plain_arm cs
arms_made [] None = refl
arms_made [] (Some body) = refl
arms_made (a ∷ more) other =
    ap (λ e. (e, mades (statements (map (λ s. s.0) a.1))) ∷ made_arms (choices (map plain_arm more) other)) (expr_back a.0)
    ∙ ap (λ b. (a.0, b) ∷ made_arms (choices (map plain_arm more) other)) (body_made a.1)
    ∙ ap (λ t. plain_arm a ∷ t) (arms_made more other)

none_made : (cs : List (Expr × List Known)) → made_other (choices (map plain_arm cs) None) ≡ None
none_made [] = refl
none_made (a ∷ more) = none_made more

some_made : (cs : List (Expr × List Known)) (body : List Known) → made_other (choices (map plain_arm cs) (Some (map (λ s. s.0) body))) ≡ Some (map (λ s. s.0) body)
some_made [] body = ap Some (body_made body)
some_made (a ∷ more) body = some_made more body

stmt_made : (y : Stmt-F Known) → IsMade (roll-Stmt (map-Stmt Known Stmt (λ s. s.0) y))
stmt_made (Stmt-F.Let mutable at name typ value) =
    subst IsMade (sym (stmt.rolls-Let mutable at name typ value)) (ap made (sta_let mutable at name typ value) ∙ ap (stmt.Let mutable at name typ) (expr_back value))
stmt_made (Stmt-F.Assign at name value) =
    subst IsMade (sym (stmt.rolls-Assign at name value)) (ap made (sta_assign at name value) ∙ ap (stmt.Assign at name) (expr_back value))
stmt_made (Stmt-F.Return at value) =
    subst IsMade (sym (stmt.rolls-Return at value)) (ap made (sta_return at value) ∙ ap (stmt.Return at) (value_back value))
stmt_made (Stmt-F.Eval value) =
    subst IsMade (sym (stmt.rolls-Eval value)) (ap made (sta_eval value) ∙ ap stmt.Eval (expr_back value))
stmt_made (Stmt-F.While cond body) =
    let all = map (λ s. s.0) body in
    subst IsMade (sym (stmt.rolls-While cond all)) (ap made (sta_while cond all) ∙ ap (λ e. stmt.While e (mades (statements all))) (expr_back cond) ∙ ap (stmt.While cond) (body_made body))
stmt_made (Stmt-F.If cs None) =
    let all = map plain_arm cs in
    subst IsMade (sym (stmt.rolls-If all None)) (ap made (sta_if all None) ∙ ap (λ a. stmt.If a (made_other (choices all None))) (arms_made cs None) ∙ ap (stmt.If all) (none_made cs))
stmt_made (Stmt-F.If cs (Some body)) =
    let all = map plain_arm cs in
    let other = Some (map (λ s. s.0) body) in
    subst IsMade (sym (stmt.rolls-If all other)) (ap made (sta_if all other) ∙ ap (λ a. stmt.If a (made_other (choices all other))) (arms_made cs other) ∙ ap (stmt.If all) (some_made cs body))
stmt_made (Stmt-F.Print value) =
    subst IsMade (sym (stmt.rolls-Print value)) (ap made (sta_print value) ∙ ap stmt.Print (expr_back value))

made_is : (s : Stmt) → IsMade s
made_is = ind-Stmt IsMade (λ x y is. let Q : Stmt-F Stmt → Type 0 = λ z. IsMade (roll-Stmt z) in subst Q is (stmt_made y))

pub stmt_seen : (a b : Stmt) → sta a ≡ sta b → a ≡ b
stmt_seen a b same = sym (made_is a) ∙ ap made same ∙ made_is b

-- items

all_made : (ss : List Stmt) → mades (statements ss) ≡ ss
all_made [] = refl
all_made (s ∷ more) = ap (λ h. h ∷ mades (statements more)) (made_is s) ∙ ap (λ t. s ∷ t) (all_made more)

abbrev body_back : Definition path.Path → Body
body_back (Const typ value) = body.Const typ (back value)
body_back (Func inlined params gives stmts tail) = body.Func inlined params gives (mades stmts) (back_value tail)

body_is : (b : Body) → body_back (definition b) ≡ b
body_is (body.Const typ value) = ap (body.Const typ) (expr_back value)
body_is (body.Func inlined params gives stmts tail) =
    ap (λ ss. body.Func inlined params gives ss (back_value (optional tail))) (all_made stmts)
    ∙ ap (body.Func inlined params gives stmts) (value_back tail)

pub body_seen : (a b : Body) → definition a ≡ definition b → a ≡ b
body_seen a b same = sym (body_is a) ∙ ap body_back same ∙ body_is b

abbrev item_back : PlainItem path.Path → Item
item_back item = record { public = item.public; name = item.name; at = item.at; tokens = item.tokens; body = body_back item.body }

item_is : (item : Item) → item_back (plain_item item) ≡ item
item_is item = ap (λ b. record item { body = b }) (body_is item.body)

pub item_seen : (a b : Item) → plain_item a ≡ plain_item b → a ≡ b
item_seen a b same = sym (item_is a) ∙ ap item_back same ∙ item_is b

abbrev placed_back : PlainPlaced path.Path → Placed
placed_back placed = record { «module» = placed.module; start = placed.start; item = item_back placed.item }

placed_is : (placed : Placed) → placed_back (plain_placed placed) ≡ placed
placed_is placed = ap (λ i. record placed { item = i }) (item_is placed.item)

pub placed_seen : (a b : Placed) → plain_placed a ≡ plain_placed b → a ≡ b
placed_seen a b same = sym (placed_is a) ∙ ap placed_back same ∙ placed_is b

items_back : (items : List Placed) → map placed_back (map plain_placed items) ≡ items
items_back [] = refl
items_back (p ∷ more) = ap (λ h. h ∷ map placed_back (map plain_placed more)) (placed_is p) ∙ ap (λ t. p ∷ t) (items_back more)

abbrev crate_back : PlainCrate path.Path → Crate
crate_back krate = record { modules = krate.modules; items = map placed_back krate.items }

crate_is : (krate : Crate) → crate_back (plain_crate krate) ≡ krate
crate_is krate = ap (λ items. record krate { items = items }) (items_back krate.items)

pub crate_seen : (a b : Crate) → plain_crate a ≡ plain_crate b → a ≡ b
crate_seen a b same = sym (crate_is a) ∙ ap crate_back same ∙ crate_is b
