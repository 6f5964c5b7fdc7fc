-- What is wrong in statements, and which locals they declare and read (docs/LANGUAGE.md, "Statements"). Trees are
-- answered.
use Rattle.std.specs.Prelude.{ℕ, ◌==◌, ◌&&◌, ◌||◌, Bool, true, false, if◌then◌else◌, List, [], ◌∷◌, ◌++◌, length, map, Option, Some, None}
use Rattle.std.specs.Option.{is_some}
use Rattle.rs_tree.specs.declared.place.At.{At}
use Rattle.rs_tree.specs.declared.answers.Diag.{Diag}
use Rattle.rs_tree.specs.declared.index.IndexItem.{IndexItem}
use Rattle.rs_tree.specs.declared.tree.Param.{Param}
use Rattle.rs_tree.specs.declared.tree.Typ.{Typ}
use Rattle.rs_tree.specs.declared.tree.Typ.TheVariants as t
use Rattle.rs_tree.specs.Plain.{at_of, Exp, Sta, Stas, Arms, Let, Assign, Return, Eval, While, If, Print, Bare, Else, Arm}
use Rattle.rs_tree.specs.Leaves.{leaves}
use Rattle.rs_lookup.specs.Env.{find}
use Rattle.rs_names.specs.Resolved.{item_at}
use Rattle.rs_diag.specs.Faults.Wrong.{Lost, Fixed, Constant, ParamTwice}
use Rattle.rs_types.specs.declared.locals.Local.{Local}
use Rattle.rs_types.specs.Types.{Leaf, Context, local_of, wrong, need, need_value, type_of, wrongs, reads}

-- what a body stands in, beside its locals: its module, the items of the index, and what its function gives
pub record Around : Type 0 where
  pub items : List IndexItem
  pub home : List ℕ
  pub gives : Typ

-- one more local, the innermost
abbrev pub declare : List ℕ → Local → Context → Context
declare name l c = record c { scope = (name, length c.locals) ∷ c.scope; locals = c.locals ++ l ∷ [] }

-- after a block: its names are out of scope, its locals keep their numbers
abbrev pub outside : Context → Context → Context
outside c inner = record inner { scope = c.scope }

-- the type of a variable: the declared one, and else its value's, where that is a value
abbrev pub valued : Option Typ → Option Typ
valued None = None
valued (Some t.Unit) = None
valued (Some t.Int) = Some t.Int
valued (Some t.Bool) = Some t.Bool

abbrev pub let_typ : Option Typ → Option Typ → Option Typ
let_typ None found = valued found
let_typ (Some typ) found = Some typ

abbrev pub let_wrongs : At → Option Typ → Option Typ → List Diag
let_wrongs at None found = need_value at found
let_wrongs at (Some typ) found = need at typ found

-- a variable or a parameter with the name of a constant of its own module
abbrev pub is_constant : Option IndexItem → Bool
is_constant None = false
is_constant (Some x) = x.kind == 0

abbrev pub name_wrongs : Around → At → List ℕ → List Diag
name_wrongs g at name = if is_constant (item_at (g.home, name) g.items) then wrong at (Constant name) else []

-- a local without a type asks nothing
abbrev pub need_known : At → Option Typ → Option Typ → List Diag
need_known at None found = []
need_known at (Some typ) found = need at typ found

-- what may not be assigned to
abbrev pub fixed_wrongs : At → List ℕ → Bool → List Diag
fixed_wrongs at name mutable = if mutable then [] else wrong at (Fixed name)

-- an assignment: to no local; else to one that may not be assigned to, and of another type
abbrev pub assign_wrongs : At → List ℕ → At → Option Local → Option Typ → List Diag
assign_wrongs at name value None found = wrong at (Lost name)
assign_wrongs at name value (Some l) found = fixed_wrongs at name l.mutable ++ need_known value l.typ found

-- ---- Parameters.

abbrev pub as_local : Param → Local
as_local p = record { typ = Some p.typ; mutable = false }

abbrev pub with_params : List Param → Context → Context
with_params [] c = c
with_params (p ∷ more) c = with_params more (declare p.name (as_local p) c)

-- a parameter with the name of an earlier one, of which alone the scope is made so far
abbrev pub twice_wrongs : Context → Param → List Diag
twice_wrongs c p = if is_some (find p.name c.scope) then wrong p.at (ParamTwice p.name) else []

abbrev pub params_wrongs : Around → Context → List Param → List Diag
params_wrongs g c [] = []
params_wrongs g c (p ∷ more) = (twice_wrongs c p ++ name_wrongs g p.at p.name) ++ params_wrongs g (declare p.name (as_local p) c) more

-- ---- Statements.

-- the locals after a statement
abbrev mutual
  pub after : Sta Leaf → Context → Context
  after (Let mutable at name typ value) c = declare name (record { typ = let_typ typ (type_of c value); mutable = mutable }) c
  after (Assign at name value) c = c
  after (Return at value) c = c
  after (Eval value) c = c
  after (While cond body) c = outside c (after_all body c)
  after (If arms) c = after_arms arms c
  after (Print value) c = c

  pub after_all : Stas Leaf → Context → Context
  after_all Stas.Empty c = c
  after_all (Stas.Of s more) c = after_all more (after s c)

  pub after_arms : Arms Leaf → Context → Context
  after_arms Bare c = c
  after_arms (Else body) c = outside c (after_all body c)
  after_arms (Arm cond body more) c = after_arms more (outside c (after_all body c))

-- a condition must be a truth value
abbrev pub cond_wrongs : Context → Exp Leaf → List Diag
cond_wrongs c cond = wrongs c cond ++ need (at_of cond) t.Bool (type_of c cond)

-- a `return` gives what its function gives
abbrev pub return_wrongs : Around → Context → At → Option (Exp Leaf) → List Diag
return_wrongs g c at None = need at g.gives (Some t.Unit)
return_wrongs g c at (Some e) = wrongs c e ++ need (at_of e) g.gives (type_of c e)

abbrev mutual
  pub sta_wrongs : Around → Context → Sta Leaf → List Diag
  sta_wrongs g c (Let mutable at name typ value) = (wrongs c value ++ let_wrongs (at_of value) typ (type_of c value)) ++ name_wrongs g at name
  sta_wrongs g c (Assign at name value) = wrongs c value ++ assign_wrongs at name (at_of value) (local_of c name) (type_of c value)
  sta_wrongs g c (Return at value) = return_wrongs g c at value
  sta_wrongs g c (Eval value) = wrongs c value
  sta_wrongs g c (While cond body) = cond_wrongs c cond ++ stas_wrongs g c body
  sta_wrongs g c (If arms) = arms_wrongs g c arms
  sta_wrongs g c (Print value) = wrongs c value ++ need_value (at_of value) (type_of c value)

  pub stas_wrongs : Around → Context → Stas Leaf → List Diag
  stas_wrongs g c Stas.Empty = []
  stas_wrongs g c (Stas.Of s more) = sta_wrongs g c s ++ stas_wrongs g (after s c) more

  pub arms_wrongs : Around → Context → Arms Leaf → List Diag
  arms_wrongs g c Bare = []
  arms_wrongs g c (Else body) = stas_wrongs g c body
  arms_wrongs g c (Arm cond body more) = (cond_wrongs c cond ++ stas_wrongs g c body) ++ arms_wrongs g (outside c (after_all body c)) more

abbrev pub reads_in : Context → Option (Exp Leaf) → List ℕ
reads_in c None = []
reads_in c (Some e) = reads c.scope (leaves e)

-- the numbers of the locals that the paths of statements lead to; an assignment isn't a read
abbrev mutual
  pub sta_reads : Context → Sta Leaf → List ℕ
  sta_reads c (Let mutable at name typ value) = reads c.scope (leaves value)
  sta_reads c (Assign at name value) = reads c.scope (leaves value)
  sta_reads c (Return at value) = reads_in c value
  sta_reads c (Eval value) = reads c.scope (leaves value)
  sta_reads c (While cond body) = reads c.scope (leaves cond) ++ stas_reads c body
  sta_reads c (If arms) = arms_reads c arms
  sta_reads c (Print value) = reads c.scope (leaves value)

  pub stas_reads : Context → Stas Leaf → List ℕ
  stas_reads c Stas.Empty = []
  stas_reads c (Stas.Of s more) = sta_reads c s ++ stas_reads (after s c) more

  pub arms_reads : Context → Arms Leaf → List ℕ
  arms_reads c Bare = []
  arms_reads c (Else body) = stas_reads c body
  arms_reads c (Arm cond body more) = (reads c.scope (leaves cond) ++ stas_reads c body) ++ arms_reads (outside c (after_all body c)) more

-- the declared variables, each with the place of its name, in the order of the text
abbrev pub Declared : Type 0
Declared = List (At × List ℕ)

abbrev pub param_places : List Param → Declared
param_places params = map (λ (p : Param). (p.at, p.name)) params

abbrev mutual
  pub declared : {A : Type 0} → Sta A → Declared
  declared (Let mutable at name typ value) = (at, name) ∷ []
  declared (Assign at name value) = []
  declared (Return at value) = []
  declared (Eval value) = []
  declared (While cond body) = declared_all body
  declared (If arms) = declared_arms arms
  declared (Print value) = []

  pub declared_all : {A : Type 0} → Stas A → Declared
  declared_all Stas.Empty = []
  declared_all (Stas.Of s more) = declared s ++ declared_all more

  pub declared_arms : {A : Type 0} → Arms A → Declared
  declared_arms Bare = []
  declared_arms (Else body) = declared_all body
  declared_arms (Arm cond body more) = declared_all body ++ declared_arms more

-- a statement list ends where one of its statements is a `return`, or an `if` with an `else` whose blocks all end
abbrev mutual
  pub ends : {A : Type 0} → Sta A → Bool
  ends (Let mutable at name typ value) = false
  ends (Assign at name value) = false
  ends (Return at value) = true
  ends (Eval value) = false
  ends (While cond body) = false
  ends (If arms) = all_end arms
  ends (Print value) = false

  pub some_ends : {A : Type 0} → Stas A → Bool
  some_ends Stas.Empty = false
  some_ends (Stas.Of s more) = ends s || some_ends more

  pub all_end : {A : Type 0} → Arms A → Bool
  all_end Bare = false
  all_end (Else body) = some_ends body
  all_end (Arm cond body more) = some_ends body && all_end more
