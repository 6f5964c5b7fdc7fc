-- Plain trees: what definitions go over by cases. `A` is what stands at a path: the mirror of a tree has the path itself,
-- an answered tree what the path leads to. Each mirror is made of a tree by one fold, and keeps its places and paths.
use Rattle.std.specs.Prelude.{ℕ, ℤ, Bool, List, [], ◌∷◌, map, Option, Some, None}
use Rattle.rs_tree.specs.declared.place.At.{At}
use Rattle.rs_tree.specs.declared.tree.Path as path
use Rattle.rs_tree.specs.declared.tree.Typ.{Typ}
use Rattle.rs_tree.specs.declared.tree.UnaryOp.{UnaryOp}
use Rattle.rs_tree.specs.declared.tree.ArithOp.{ArithOp}
use Rattle.rs_tree.specs.declared.tree.CmpOp.{CmpOp}
use Rattle.rs_tree.specs.declared.token.Token.{Token}
use Rattle.rs_tree.specs.declared.tree.Body.{Body}
use Rattle.rs_tree.specs.declared.tree.Body.TheVariants as body
use Rattle.rs_tree.specs.declared.tree.Crate.{Crate}
use Rattle.rs_tree.specs.declared.tree.Expr.{Expr}
use Rattle.rs_tree.specs.declared.tree.Item.{Item}
use Rattle.rs_tree.specs.declared.tree.Param.{Param}
use Rattle.rs_tree.specs.declared.tree.Placed.{Placed}
use Rattle.rs_tree.specs.declared.tree.Form.TheOpen.{Form-F}
use Rattle.rs_tree.specs.declared.tree.Form.TheFolds.{fold-Expr}
use Rattle.rs_tree.specs.declared.tree.Stmt.{Stmt}
use Rattle.rs_tree.specs.declared.tree.Stmt.TheOpen.{Stmt-F}
use Rattle.rs_tree.specs.declared.tree.Stmt.TheFolds.{fold-Stmt}

mutual
  pub data Exp (A : Type 0) : Type 0 where
    Number : (at : At) (n : ℤ) → Exp A
    Truth : (at : At) (b : Bool) → Exp A
    Path : (at : At) (path : A) → Exp A
    Call : (at : At) (path : A) (args : Exps A) → Exp A
    Group : (at : At) (e : Exp A) → Exp A
    Unary : (at : At) (op : UnaryOp) (e : Exp A) → Exp A
    Arith : (at : At) (first : Exp A) (more : Operands A) → Exp A
    Compare : (at : At) (op : CmpOp) (a b : Exp A) → Exp A
    And : (at : At) (parts : Exps A) → Exp A
    Or : (at : At) (parts : Exps A) → Exp A

  pub data Exps (A : Type 0) : Type 0 where
    Empty : Exps A
    Of : (e : Exp A) (more : Exps A) → Exps A

  pub data Operands (A : Type 0) : Type 0 where
    Done : Operands A
    By : (op : ArithOp) (e : Exp A) (more : Operands A) → Operands A

mutual
  pub data Sta (A : Type 0) : Type 0 where
    Let : (mutable : Bool) (at : At) (name : List ℕ) (typ : Option Typ) (value : Exp A) → Sta A
    Assign : (at : At) (name : List ℕ) (value : Exp A) → Sta A
    Return : (at : At) (value : Option (Exp A)) → Sta A
    Eval : (value : Exp A) → Sta A
    While : (cond : Exp A) (body : Stas A) → Sta A
    If : (arms : Arms A) → Sta A
    Print : (value : Exp A) → Sta A

  pub data Stas (A : Type 0) : Type 0 where
    Empty : Stas A
    Of : (s : Sta A) (more : Stas A) → Stas A

  pub data Arms (A : Type 0) : Type 0 where
    Bare : Arms A
    Else : (body : Stas A) → Arms A
    Arm : (cond : Exp A) (body : Stas A) (more : Arms A) → Arms A

-- what an item defines
pub data Definition (A : Type 0) : Type 0 where
  Const : (typ : Typ) (value : Exp A) → Definition A
  Func : (inlined : Bool) (params : List Param) (gives : Typ) (stmts : Stas A) (tail : Option (Exp A)) → Definition A

pub record PlainItem (A : Type 0) : Type 0 where
  pub public : Bool
  pub name : List ℕ
  pub at : At
  pub tokens : List Token
  pub body : Definition A

pub record PlainPlaced (A : Type 0) : Type 0 where
  pub «module» : List ℕ
  pub start : At
  pub item : PlainItem A

pub record PlainCrate (A : Type 0) : Type 0 where
  pub modules : List (List ℕ)
  pub items : List (PlainPlaced A)

-- several expressions
abbrev pub exps : {A : Type 0} → List (Exp A) → Exps A
exps [] = Exps.Empty
exps (e ∷ more) = Exps.Of e (exps more)

abbrev pub operands : {A : Type 0} → List (ArithOp × Exp A) → Operands A
operands [] = Done
operands (o ∷ more) = By o.0 o.1 (operands more)

abbrev pub form_step : Form-F (At → Exp path.Path) (Exp path.Path) → At → Exp path.Path
form_step (Form-F.Number n) at = Number at n
form_step (Form-F.Truth b) at = Truth at b
form_step (Form-F.Path n) at = Path at n
form_step (Form-F.Call n args) at = Call at n (exps args)
form_step (Form-F.Group e) at = Group at e
form_step (Form-F.Unary op e) at = Unary at op e
form_step (Form-F.Arith a more) at = Arith at a (operands more)
form_step (Form-F.Compare op a b) at = Compare at op a b
form_step (Form-F.And parts) at = And at (exps parts)
form_step (Form-F.Or parts) at = Or at (exps parts)

abbrev pub exp : Expr → Exp path.Path
exp = fold-Expr (At → Exp path.Path) (Exp path.Path) form_step (λ e. e.form e.at)

abbrev pub stas : {A : Type 0} → List (Sta A) → Stas A
stas [] = Stas.Empty
stas (s ∷ more) = Stas.Of s (stas more)

abbrev pub arms : {A : Type 0} → List (Exp A × Stas A) → Option (Stas A) → Arms A
arms [] None = Bare
arms [] (Some body) = Else body
arms (a ∷ more) other = Arm a.0 a.1 (arms more other)

-- a tree that may be absent
abbrev pub optional : Option Expr → Option (Exp path.Path)
optional None = None
optional (Some e) = Some (exp e)

abbrev pub arms_of : List (Expr × List (Sta path.Path)) → List (Exp path.Path × Stas path.Path)
arms_of [] = []
arms_of (a ∷ more) = (exp a.0, stas a.1) ∷ arms_of more

abbrev pub other_of : {A : Type 0} → Option (List (Sta A)) → Option (Stas A)
other_of None = None
other_of (Some body) = Some (stas body)

abbrev pub stmt_step : Stmt-F (Sta path.Path) → Sta path.Path
stmt_step (Stmt-F.Let mutable at name typ value) = Let mutable at name typ (exp value)
stmt_step (Stmt-F.Assign at name value) = Assign at name (exp value)
stmt_step (Stmt-F.Return at value) = Return at (optional value)
stmt_step (Stmt-F.Eval value) = Eval (exp value)
stmt_step (Stmt-F.While cond body) = While (exp cond) (stas body)
stmt_step (Stmt-F.If arms' other) = If (arms (arms_of arms') (other_of other))
stmt_step (Stmt-F.Print value) = Print (exp value)

abbrev pub sta : Stmt → Sta path.Path
sta = fold-Stmt (Sta path.Path) stmt_step

-- several trees, plainly
abbrev pub expressions : List Expr → Exps path.Path
expressions [] = Exps.Empty
expressions (e ∷ more) = Exps.Of (exp e) (expressions more)

abbrev pub operations : List (ArithOp × Expr) → Operands path.Path
operations [] = Done
operations (o ∷ more) = By o.0 (exp o.1) (operations more)

abbrev pub statements : List Stmt → Stas path.Path
statements [] = Stas.Empty
statements (s ∷ more) = Stas.Of (sta s) (statements more)

abbrev pub choices : List (Expr × List Stmt) → Option (List Stmt) → Arms path.Path
choices [] None = Bare
choices [] (Some body) = Else (statements body)
choices (a ∷ more) other = Arm (exp a.0) (statements a.1) (choices more other)

-- an item, what it defines, and the items of a crate
abbrev pub definition : Body → Definition path.Path
definition (body.Const typ value) = Const typ (exp value)
definition (body.Func inlined params gives stmts tail) = Func inlined params gives (statements stmts) (optional tail)

abbrev pub plain_item : Item → PlainItem path.Path
plain_item item = record { public = item.public; name = item.name; at = item.at; tokens = item.tokens; body = definition item.body }

abbrev pub plain_placed : Placed → PlainPlaced path.Path
plain_placed placed = record { «module» = placed.module; start = placed.start; item = plain_item placed.item }

abbrev pub plain_crate : Crate → PlainCrate path.Path
plain_crate krate = record { modules = krate.modules; items = map plain_placed krate.items }

-- the place of its first byte
abbrev pub at_of : {A : Type 0} → Exp A → At
at_of (Number at n) = at
at_of (Truth at b) = at
at_of (Path at n) = at
at_of (Call at n args) = at
at_of (Group at e) = at
at_of (Unary at op e) = at
at_of (Arith at a more) = at
at_of (Compare at op a b) = at
at_of (And at parts) = at
at_of (Or at parts) = at
