-- The types of expressions and what is wrong in them (docs/LANGUAGE.md, "Types"). Trees are answered: beside each path
-- stands what it leads to.
use Rattle.std.specs.Prelude.{ℕ, ◌+◌, ◌==◌, ◌&&◌, Bool, true, false, if◌then◌else◌, List, [], ◌∷◌, ◌++◌, length, drop, map, Option, Some, None, slice_get, option_and_then}
use Rattle.std.specs.Option.{option_map}
use Rattle.rs_tree.specs.declared.place.At.{At}
use Rattle.rs_tree.specs.declared.place.Place.{Place}
use Rattle.rs_tree.specs.declared.answers.Diag.{Diag}
use Rattle.rs_tree.specs.declared.answers.Found.{Found}
use Rattle.rs_tree.specs.declared.answers.Found.TheVariants as f
use Rattle.rs_tree.specs.declared.index.Sig.{Sig}
use Rattle.rs_tree.specs.declared.tree.Path as path
use Rattle.rs_tree.specs.declared.tree.Typ.{Typ}
use Rattle.rs_tree.specs.declared.tree.Typ.TheVariants as t
use Rattle.rs_tree.specs.declared.tree.UnaryOp.{UnaryOp}
use Rattle.rs_tree.specs.declared.tree.UnaryOp.TheVariants as unary
use Rattle.rs_tree.specs.Plain.{at_of, Exp, Exps, Operands, Number, Truth, Path, Call, Group, Unary, Arith, Compare, And, Or, Done, By}
use Rattle.rs_lookup.specs.Env.{Env, find}
use Rattle.rs_lookup.specs.Places.{Name, place_name, place_from}
use Rattle.rs_diag.specs.Faults.{Wrong, diag, path_text}
use Rattle.rs_diag.specs.Faults.Wrong.{Lost, Private, Mistyped, Count, NoFunction, Function, ConstCall}
use Rattle.rs_diag.specs.declared.fault.Want.TheVariants.{Of, Value}
use Rattle.rs_types.specs.declared.locals.Local.{Local}

-- what stands at a path of an answered tree
abbrev pub Leaf : Type 0
Leaf = path.Path × Found

abbrev pub places_of : List (Place × Sig) → List Name
places_of entries = map (λ (e : Place × Sig). place_name e.0) entries

-- what is known of an item: the first entry of its place counts
abbrev pub sig_at : Name → List (Place × Sig) → Option Sig
sig_at q entries = option_map (λ (e : Place × Sig). e.1) (option_and_then (slice_get entries) (place_from q 0 (places_of entries)))

-- What an expression stands in: whether in a constant, what the items are, the names in scope with the numbers of their
-- locals, and the locals in the order of their declarations.
pub record Context : Type 0 where
  pub constant : Bool
  pub sigs : List (Place × Sig)
  pub scope : Env
  pub locals : List Local

abbrev pub wrong : At → Wrong → List Diag
wrong at what = diag at what ∷ []

abbrev pub same_typ : Typ → Typ → Bool
same_typ t.Unit t.Unit = true
same_typ t.Unit t.Int = false
same_typ t.Unit t.Bool = false
same_typ t.Int t.Unit = false
same_typ t.Int t.Int = true
same_typ t.Int t.Bool = false
same_typ t.Bool t.Unit = false
same_typ t.Bool t.Int = false
same_typ t.Bool t.Bool = true

abbrev pub is_typ : Typ → Option Typ → Bool
is_typ want None = false
is_typ want (Some typ) = same_typ want typ

-- `must have the type`: what has no type is asked nothing
abbrev pub need : At → Typ → Option Typ → List Diag
need at want None = []
need at want (Some typ) = if same_typ want typ then [] else wrong at (Mistyped (Of want) typ)

-- `must be a value`
abbrev pub need_value : At → Option Typ → List Diag
need_value at None = []
need_value at (Some t.Unit) = wrong at (Mistyped Value t.Unit)
need_value at (Some t.Int) = []
need_value at (Some t.Bool) = []

-- the right side of a comparison must have the left's type, where that is one of a value
abbrev pub need_same : At → Option Typ → Option Typ → List Diag
need_same at None right = []
need_same at (Some t.Unit) right = []
need_same at (Some t.Int) right = need at t.Int right
need_same at (Some t.Bool) right = need at t.Bool right

abbrev pub type_if : Bool → Typ → Option Typ
type_if true typ = Some typ
type_if false typ = None

abbrev pub compared : Option Typ → Option Typ → Option Typ
compared None right = None
compared (Some t.Unit) right = None
compared (Some t.Int) right = type_if (is_typ t.Int right) t.Bool
compared (Some t.Bool) right = type_if (is_typ t.Bool right) t.Bool

-- the local that a name leads to, and its type, where it has one
abbrev pub local_of : Context → List ℕ → Option Local
local_of c name = option_and_then (slice_get c.locals) (find name c.scope)

abbrev pub local_typ : Option Local → Option Typ
local_typ None = None
local_typ (Some l) = l.typ

abbrev pub sig_of : Context → Place → Option Sig
sig_of c at = sig_at (place_name at) c.sigs

-- a constant as a value has its type, a function none
abbrev pub item_typ : Option Sig → Option Typ
item_typ None = None
item_typ (Some s) = if s.kind == 0 then Some s.gives else None

abbrev pub path_typ : Context → path.Path → Found → Option Typ
path_typ c p f.Local = local_typ (local_of c p.name)
path_typ c p (f.Item at) = item_typ (sig_of c at)
path_typ c p f.Private = None
path_typ c p f.Absent = None

abbrev pub function_as_value : path.Path → Option Sig → List Diag
function_as_value p None = []
function_as_value p (Some s) = if s.kind == 0 then [] else wrong p.at (Function (path_text p))

abbrev pub path_wrongs : Context → path.Path → Found → List Diag
path_wrongs c p f.Local = []
path_wrongs c p (f.Item at) = function_as_value p (sig_of c at)
path_wrongs c p f.Private = wrong p.at (Private (path_text p))
path_wrongs c p f.Absent = wrong p.at (Lost (path_text p))

-- the numbers of the locals that a path leads to: one or none
abbrev pub number_list : Option ℕ → List ℕ
number_list None = []
number_list (Some n) = n ∷ []

abbrev pub path_reads : Env → path.Path → Found → List ℕ
path_reads scope p f.Local = number_list (find p.name scope)
path_reads scope p (f.Item at) = []
path_reads scope p f.Private = []
path_reads scope p f.Absent = []

-- the function that a call's path leads to
abbrev pub function_of : Option Sig → Option Sig
function_of None = None
function_of (Some s) = if s.kind == 0 then None else Some s

abbrev pub callee : Context → Found → Option Sig
callee c f.Local = None
callee c (f.Item at) = function_of (sig_of c at)
callee c f.Private = None
callee c f.Absent = None

abbrev pub no_callee : path.Path → Found → List Diag
no_callee p f.Local = wrong p.at (NoFunction (path_text p))
no_callee p (f.Item at) = wrong p.at (NoFunction (path_text p))
no_callee p f.Private = wrong p.at (Private (path_text p))
no_callee p f.Absent = wrong p.at (Lost (path_text p))

abbrev pub operand : UnaryOp → Typ
operand unary.Negate = t.Int
operand unary.Not = t.Bool

-- the function, where it takes this many arguments
abbrev pub counted : ℕ → Option Sig → Option Sig
counted n None = None
counted n (Some s) = if length s.params == n then Some s else None

-- The function that a call calls: its path leads to one, which takes as many arguments, and the call isn't in a constant.
abbrev pub called : Context → Found → ℕ → Option Sig
called c found n = if c.constant then None else counted n (callee c found)

abbrev pub wrong_callee : path.Path → Found → ℕ → Option Sig → List Diag
wrong_callee p found n None = no_callee p found
wrong_callee p found n (Some s) = if length s.params == n then [] else wrong p.at (Count (length s.params) n)

-- what is wrong with a call beside its arguments; in a constant it is wrong whatever it leads to
abbrev pub call_wrongs : Context → path.Path → Found → ℕ → List Diag
call_wrongs c p found n = if c.constant then wrong p.at ConstCall else wrong_callee p found n (callee c found)

-- the types that the arguments must have: none are asked where no function is called
abbrev pub wants : Option Sig → List Typ
wants None = []
wants (Some s) = s.params

-- a call has its function's type, where the arguments fit
abbrev pub given : Option Sig → Bool → Option Typ
given None fit = None
given (Some s) fit = type_if fit s.gives

-- an argument beside the types that it and those after it must have
abbrev pub first_fits : List Typ → Option Typ → Bool
first_fits [] found = true
first_fits (p ∷ ps) found = is_typ p found

abbrev pub need_first : At → List Typ → Option Typ → List Diag
need_first at [] found = []
need_first at (p ∷ ps) found = need at p found

abbrev pub count : {A : Type 0} → Exps A → ℕ
count Exps.Empty = 0
count (Exps.Of e more) = count more + 1

abbrev mutual
  pub type_of : Context → Exp Leaf → Option Typ
  type_of c (Number at n) = Some t.Int
  type_of c (Truth at b) = Some t.Bool
  type_of c (Path at p) = path_typ c p.0 p.1
  type_of c (Call at p args) = given (called c p.1 (count args)) (args_fit c (wants (called c p.1 (count args))) args)
  type_of c (Group at e) = type_of c e
  type_of c (Unary at op e) = type_if (is_typ (operand op) (type_of c e)) (operand op)
  type_of c (Arith at first more) = type_if (is_typ t.Int (type_of c first) && all_ints c more) t.Int
  type_of c (Compare at op a b) = compared (type_of c a) (type_of c b)
  type_of c (And at parts) = type_if (all_truths c parts) t.Bool
  type_of c (Or at parts) = type_if (all_truths c parts) t.Bool

  -- each argument has its parameter's type
  pub args_fit : Context → List Typ → Exps Leaf → Bool
  args_fit c ps Exps.Empty = true
  args_fit c ps (Exps.Of e more) = first_fits ps (type_of c e) && args_fit c (drop 1 ps) more

  pub all_ints : Context → Operands Leaf → Bool
  all_ints c Done = true
  all_ints c (By op e more) = is_typ t.Int (type_of c e) && all_ints c more

  pub all_truths : Context → Exps Leaf → Bool
  all_truths c Exps.Empty = true
  all_truths c (Exps.Of e more) = is_typ t.Bool (type_of c e) && all_truths c more

-- what is wrong in an expression
abbrev mutual
  pub wrongs : Context → Exp Leaf → List Diag
  wrongs c (Number at n) = []
  wrongs c (Truth at b) = []
  wrongs c (Path at p) = path_wrongs c p.0 p.1
  wrongs c (Call at p args) = call_wrongs c p.0 p.1 (count args) ++ args_wrongs c (wants (called c p.1 (count args))) args
  wrongs c (Group at e) = wrongs c e
  wrongs c (Unary at op e) = wrongs c e ++ need (at_of e) (operand op) (type_of c e)
  wrongs c (Arith at first more) = (wrongs c first ++ need (at_of first) t.Int (type_of c first)) ++ wrongs_by c more
  wrongs c (Compare at op a b) = (wrongs c a ++ wrongs c b) ++ (need_value (at_of a) (type_of c a) ++ need_same (at_of b) (type_of c a) (type_of c b))
  wrongs c (And at parts) = wrongs_of_truths c parts
  wrongs c (Or at parts) = wrongs_of_truths c parts

  -- arguments, each of which must have its parameter's type
  pub args_wrongs : Context → List Typ → Exps Leaf → List Diag
  args_wrongs c ps Exps.Empty = []
  args_wrongs c ps (Exps.Of e more) = (wrongs c e ++ need_first (at_of e) ps (type_of c e)) ++ args_wrongs c (drop 1 ps) more

  pub wrongs_by : Context → Operands Leaf → List Diag
  wrongs_by c Done = []
  wrongs_by c (By op e more) = (wrongs c e ++ need (at_of e) t.Int (type_of c e)) ++ wrongs_by c more

  pub wrongs_of_truths : Context → Exps Leaf → List Diag
  wrongs_of_truths c Exps.Empty = []
  wrongs_of_truths c (Exps.Of e more) = (wrongs c e ++ need (at_of e) t.Bool (type_of c e)) ++ wrongs_of_truths c more

-- the numbers of the locals that paths lead to
abbrev pub reads : Env → List Leaf → List ℕ
reads scope [] = []
reads scope (p ∷ more) = path_reads scope p.0 p.1 ++ reads scope more
