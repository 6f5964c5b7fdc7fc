-- The diagnostics of an item (docs/LANGUAGE.md, "Diagnostics").
use Rattle.std.specs.Prelude.{ℕ, ◌+◌, ◌==◌, ◌&&◌, ◌||◌, Bool, true, false, not, nat_eq, if◌then◌else◌, List, [], ◌∷◌, ◌++◌, length, drop, fold, Option, Some, None}
use Rattle.std.specs.List.{list_any}
use Rattle.std.specs.BTreeSet.{insert_key}
use Rattle.rs_tree.specs.declared.place.At.{At}
use Rattle.rs_tree.specs.declared.place.Place.{Place}
use Rattle.rs_tree.specs.declared.answers.Const.{Const}
use Rattle.rs_tree.specs.declared.answers.Const.TheVariants as k
use Rattle.rs_tree.specs.declared.answers.Diag.{Diag}
use Rattle.rs_tree.specs.declared.answers.Found.{Found}
use Rattle.rs_tree.specs.declared.answers.Found.TheVariants.{Absent}
use Rattle.rs_tree.specs.declared.index.IndexItem.{IndexItem}
use Rattle.rs_tree.specs.declared.index.Sig.{Sig}
use Rattle.rs_tree.specs.declared.tree.Param.{Param}
use Rattle.rs_tree.specs.declared.tree.Path as path
use Rattle.rs_tree.specs.declared.tree.Typ.{Typ}
use Rattle.rs_tree.specs.declared.tree.Typ.TheVariants as t
use Rattle.rs_tree.specs.Order.{diag_cmp}
use Rattle.rs_tree.specs.Plain.{at_of, Exp, Stas, Definition, PlainItem}
use Rattle.rs_tree.specs.Plain.{Const as Constant, Func}
use Rattle.rs_tree.specs.Leaves.{filled, filled_in, stas_filled, stas_leaves}
use Rattle.rs_names.specs.Indexed.{is_root_main}
use Rattle.rs_diag.specs.Faults.Wrong.{Cycle, Overflow, DivZero, NoValue, BadMain, Unused}
use Rattle.rs_types.specs.Types.{Leaf, Context, wrong, need, same_typ, type_of, wrongs}
use Rattle.rs_check.specs.Bodies.{Around, Declared, after_all, declared_all, param_places, params_wrongs, reads_in, some_ends, stas_reads, stas_wrongs, with_params}

-- where an expression of a constant stands, and where a function begins: no local
abbrev pub begin : Bool → List (Place × Sig) → Context
begin constant sigs = record { constant = constant; sigs = sigs; scope = []; locals = [] }

-- a constant without a value: because it needs itself, overflows or divides by zero
abbrev pub value_wrongs : At → List ℕ → Option Const → List Diag
value_wrongs at name None = []
value_wrongs at name (Some (k.Int n)) = []
value_wrongs at name (Some (k.Bool b)) = []
value_wrongs at name (Some k.Cycle) = wrong at (Cycle name)
value_wrongs at name (Some k.Overflow) = wrong at (Overflow name)
value_wrongs at name (Some k.DivZero) = wrong at (DivZero name)
value_wrongs at name (Some k.Bad) = []

-- the last expression of a body must have what the function gives
abbrev pub tail_wrongs : Around → Context → Option (Exp Leaf) → List Diag
tail_wrongs g c None = []
tail_wrongs g c (Some e) = wrongs c e ++ need (at_of e) g.gives (type_of c e)

-- a function that gives something has a last expression, or its statements end
abbrev pub is_open : {A : Type 0} → Typ → Stas A → Option (Exp A) → Bool
is_open gives stmts None = not (same_typ gives t.Unit) && not (some_ends stmts)
is_open gives stmts (Some e) = false

abbrev pub end_wrongs : {A : Type 0} → At → List ℕ → Typ → Stas A → Option (Exp A) → List Diag
end_wrongs at name gives stmts tail = if is_open gives stmts tail then wrong at (NoValue name) else []

-- the root's `main` takes nothing and gives nothing
abbrev pub main_wrongs : At → Bool → List Param → Typ → List Diag
main_wrongs at main params gives = if main && (not (length params == 0) || not (same_typ gives t.Unit)) then wrong at BadMain else []

-- the name says that it isn't meant to be used
abbrev pub is_quiet : List ℕ → Bool
is_quiet [] = false
is_quiet (b ∷ bs) = nat_eq b 95

-- a local that no path leads to, unless its name says that it isn't meant to be used
abbrev pub unread : Bool → At → List ℕ → List Diag
unread read at name = if read || is_quiet name then [] else wrong at (Unused name)

-- the locals, numbered from i, that no path leads to
abbrev pub unused : ℕ → List ℕ → Declared → List Diag
unused i read [] = []
unused i read (d ∷ ds) = unread (list_any (nat_eq i) read) d.0 d.1 ++ unused (i + 1) read ds

-- what is wrong with an item
abbrev pub body_wrongs : List IndexItem → List (Place × Sig) → List ℕ → List Found → Option Const → At → List ℕ → Definition path.Path → List Diag
body_wrongs items sigs home found value at name (Constant typ e) =
    let c = begin true sigs in
    let it = filled Absent found e in
    (wrongs c it ++ need (at_of it) typ (type_of c it)) ++ value_wrongs at name value
body_wrongs items sigs home found value at name (Func inlined params gives stmts tail) =
    let g : Around = record { items = items; home = home; gives = gives } in
    let c = with_params params (begin false sigs) in
    let body = stas_filled Absent found stmts in
    let last = filled_in Absent (drop (length (stas_leaves stmts)) found) tail in
    let at_end = after_all body c in
    (main_wrongs at (is_root_main home name) params gives ++ params_wrongs g (begin false sigs) params)
    ++ (stas_wrongs g c body ++ tail_wrongs g at_end last)
    ++ end_wrongs at name gives stmts tail
    ++ unused 0 (stas_reads c body ++ reads_in at_end last) (param_places params ++ declared_all stmts)

abbrev pub item_wrongs : List IndexItem → List (Place × Sig) → List ℕ → List Found → Option Const → PlainItem path.Path → List Diag
item_wrongs items sigs home found value item = body_wrongs items sigs home found value item.at item.name item.body

-- in order of place, number and text, each once
abbrev pub lines : List Diag → List Diag
lines ds = fold (insert_key diag_cmp) [] ds
