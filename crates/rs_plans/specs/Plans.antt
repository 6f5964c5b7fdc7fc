-- What the compiler does for each kind of query (docs/FORMATS.md, "Queries"): which values it reads, in order, and which value it gives.
-- A value that isn't in its form, and an absent item, give the empty value.
use Rattle.std.specs.Prelude.{ℕ, ◌==◌, Bool, true, false, not, List, [], ◌∷◌, ◌++◌, filter, length, map, Option, Some, None, Result, Ok, Err, if◌then◌else◌, slice_index_or, option_and_then}
use Rattle.std.proofs.Common.{zero, suc}
use Rattle.std.specs.List.{filter_map, list_any}
use Rattle.std.specs.Option.{option_map, option_map_or}
use Rattle.inc_query.specs.Plans.{Plan, Give, Need}
use Rattle.inc_query.specs.declared.query.Query.{Query}
use Rattle.rs_tree.specs.declared.answers.Const.{Const}
use Rattle.rs_tree.specs.declared.answers.Const.TheVariants as k
use Rattle.rs_tree.specs.declared.answers.Diag.{Diag}
use Rattle.rs_tree.specs.declared.answers.Found.{Found}
use Rattle.rs_tree.specs.declared.index.Index.{Index}
use Rattle.rs_tree.specs.declared.index.IndexFault.{IndexFault}
use Rattle.rs_tree.specs.declared.index.IndexItem.{IndexItem}
use Rattle.rs_tree.specs.declared.index.Sig.{Sig}
use Rattle.rs_tree.specs.declared.index.TextFault.TheVariants as code
use Rattle.rs_tree.specs.declared.place.At.{At}
use Rattle.rs_tree.specs.declared.place.Place.{Place}
use Rattle.rs_tree.specs.declared.tree.Crate.{Crate}
use Rattle.rs_tree.specs.declared.tree.Item.{Item}
use Rattle.rs_tree.specs.declared.tree.Path as path
use Rattle.rs_tree.specs.declared.tree.Placed.{Placed}
use Rattle.rs_tree.specs.declared.tree.Typ.{Typ}
use Rattle.rs_tree.specs.declared.tree.Typ.TheVariants as t
use Rattle.rs_tree.specs.Plain.{Definition, Const as Constant, Func, definition, plain_crate, plain_item}
use Rattle.rs_text.specs.Text.{text_of}
use Rattle.rs_text.specs.declared.fault.TextFault.{TextFault}
use Rattle.rs_text.specs.declared.fault.TextFault.TheVariants as text
use Rattle.rs_forms.specs.Forms.{fault_form, index_form, ir_form, item_form, sig_form}
use Rattle.rs_answers.specs.Forms.{const_form, diags_form, places_form}
use Rattle.rs_lookup.specs.Places.{Name, same, place_name}
use Rattle.rs_names.specs.Indexed.{index_of, is_root_main, kind_of}
use Rattle.rs_names.specs.Resolved.{answers_of, item_at}
use Rattle.rs_reach.specs.Calls.{calls_in, with_item}
use Rattle.rs_reach.specs.Dead.{dead_of, is_function, is_main, search}
use Rattle.rs_reach.specs.Search.{next}
use Rattle.rs_reach.proofs.Found.{ends, finds_once, finds_reached}
use Rattle.rs_lines.specs.Lines.{is_warning}
use Rattle.rs_check.specs.Items.{item_wrongs, lines}
use Rattle.rs_const.specs.Constants.{Entry}
use Rattle.rs_lower.specs.Lowered.{lowered}
use Rattle.rs_units.specs.Members.{members_of, place_numbered, wanted_of}
use Rattle.rs_object.specs.Forms.{object_form}
use Rattle.rs_emit.specs.Objects.{object_of}
use Rattle.rs_queries.specs.Known.{gives_of, params_of, value_at}
use Rattle.rs_queries.proofs.Values.{there}
use Rattle.rs_plans.specs.Names.{is_among, once}
use Rattle.rs_plans.specs.Readings.{const_in, index_in, ir_in, item_in, places_in, sig_in}
use Rattle.rs_plans.specs.Steps.{ask, ask_calls, ask_each, query, whole}

-- what a query is about
abbrev pub subject : Query → Place
subject q = record { «module» = q.«module»; name = q.name }

-- ---- 1: the index of a text, or its fault.

abbrev pub fault_at : At → List ℕ → IndexFault
fault_at at name = record { at = at; code = code.Twice; name = name }

abbrev pub index_fault : TextFault → IndexFault
index_fault (text.Byte at) = record { at = at; code = code.Byte; name = [] }
index_fault (text.Nesting at) = record { at = at; code = code.Nesting; name = [] }
index_fault (text.Syntax at) = record { at = at; code = code.Syntax; name = [] }
index_fault (text.Twice at name) = record { at = at; code = code.Twice; name = name }
index_fault text.Memory = record { at = record { line = 0; column = 0 }; code = code.Byte; name = [] }

abbrev pub index_by : Result Crate TextFault → List ℕ
index_by (Ok krate) = index_form (index_of (plain_crate krate))
index_by (Err fault) = fault_form (index_fault fault)

abbrev pub index_plan : Plan
index_plan = Need (whole 0) (λ v. Give (index_by (text_of v)))

-- ---- 2: an item, or nothing where the text has none there.

abbrev pub item_in_place : Name → List Placed → Option Item
item_in_place name [] = None
item_in_place name (p ∷ ps) = if same name (p.«module», p.item.name) then Some p.item else item_in_place name ps

abbrev pub item_value : Name → Result Crate TextFault → List ℕ
item_value name (Ok krate) = option_map_or item_form (item_in_place name krate.items) []
item_value name (Err fault) = []

abbrev pub item_plan : Query → Plan
item_plan q = Need (whole 0) (λ v. Give (item_value (place_name (subject q)) (text_of v)))

-- ---- 3: a signature.

abbrev pub sig_by : Place → Item → Sig
sig_by at item = record {
  kind = kind_of (is_root_main at.«module» at.name) (definition item.body);
  public = item.public;
  params = params_of (definition item.body);
  gives = gives_of (definition item.body);
}

abbrev pub sig_plan : Query → Plan
sig_plan q = ask (query 2 (subject q)) item_in (λ item. Give (sig_form (sig_by (subject q) item)))

-- ---- What the paths of an item lead to.

abbrev pub answers : Index → Place → Item → List Found
answers index at item = answers_of index.items at.«module» (definition item.body)

-- the items that they lead to, each the first time only
abbrev pub places_found : List Found → List Place
places_found [] = []
places_found (f ∷ fs) = with_item f (places_found fs)

abbrev pub named_items : List Found → List Place
named_items fs = once (places_found fs)

-- by the index it is a constant
abbrev pub is_constant_at : Index → Place → Bool
is_constant_at index p = option_map_or (λ (x : IndexItem). x.kind == 0) (item_at (place_name p) index.items) false

-- and by its tokens
abbrev pub is_constant : Definition path.Path → Bool
is_constant (Constant typ e) = true
is_constant (Func inlined params gives stmts tail) = false

-- ---- 4: the value of a constant, by the constants that it reaches, depth first.

abbrev pub entry : Index → Place → Item → Entry
entry index p item = (p, item, answers index p item)

-- the constants that an expression with these answers names, in order
abbrev pub constants_in : Index → List Found → List Place
constants_in index fs = filter (is_constant_at index) (places_found fs)

abbrev pub places_known : List Entry → List Place
places_known es = map (λ (e : Entry). e.0) es

-- the first place whose constant isn't known, and those after it
abbrev pub first_new : List Entry → List Place → Option (Place × List Place)
first_new es [] = None
first_new es (p ∷ ps) = if is_among (places_known es) p then first_new es ps else Some (p, ps)

-- the item of the first that isn't known is asked, and then what is next
abbrev pub ask_constant : Index → (List Entry → List Place → Plan) → (List Entry → Plan) → List Entry → Option (Place × List Place) → Plan
ask_constant index next more es None = more es
ask_constant index next more es (Some p) = ask (query 2 p.0) item_in (λ item. next (es ++ entry index p.0 item ∷ []) (constants_in index (answers index p.0 item) ++ p.1))

-- one constant after the other, while one isn't known; n of them at most
abbrev pub ask_constants : ℕ → Index → List Entry → List Place → (List Entry → Plan) → Plan
ask_constants zero index es left more = more es
ask_constants (suc n) index es left more = ask_constant index (λ known rest. ask_constants n index known rest more) more es (first_new es left)

-- the values of constants (`specs/Constants.antt` of rs_const): there are some, and no others
unfoldable pub values_of : List Entry → List Const
values_of es = (there ends finds_reached finds_once es).0

abbrev pub const_at : List Entry → Place → Const
const_at es at = option_map_or (λ c. c) (value_at es (values_of es) at) k.Bad

abbrev pub const_from : Place → Item → Index → Plan
const_from at item index = ask_constants (length index.items) index (entry index at item ∷ []) (constants_in index (answers index at item)) (λ es. Give (const_form (const_at es at)))

abbrev pub const_plan : Query → Plan
const_plan q = ask (query 2 (subject q)) item_in (λ item.
    if is_constant (definition item.body) then ask (whole 1) index_in (const_from (subject q) item) else Give [])

-- ---- 5: what is wrong with an item.

abbrev pub diags_by : Index → Place → Item → List (Place × Sig) → Option Const → List Diag
diags_by index at item sigs value = lines (item_wrongs index.items sigs at.«module» (answers index at item) value (plain_item item))

abbrev pub check_of : Place → Item → Index → List (Place × Sig) → Plan
check_of at item index sigs =
    if is_constant (definition item.body)
    then ask (query 4 at) const_in (λ value. Give (diags_form (diags_by index at item sigs (Some value))))
    else Give (diags_form (diags_by index at item sigs None))

abbrev pub check_from : Place → Item → Index → Plan
check_from at item index = ask_each (query 3) (λ p. sig_in) (named_items (answers index at item)) (check_of at item index)

abbrev pub check_plan : Query → Plan
check_plan q = ask (query 2 (subject q)) item_in (λ item. ask (whole 1) index_in (check_from (subject q) item))

-- ---- 6: the functions that an item calls.

abbrev pub calls_by : Place → Item → Index → List Place
calls_by at item index = calls_in index.items (definition item.body) (answers index at item)

abbrev pub calls_plan : Query → Plan
calls_plan q = ask (query 2 (subject q)) item_in (λ item. ask (whole 1) index_in (λ index. Give (places_form (calls_by (subject q) item index))))

-- ---- 7: the functions that are never used.

-- the next function found from `main` whose calls are missing
abbrev pub wanted_from_main : Index → List (Place × List Place) → Option Place
wanted_from_main index calls = option_and_then (place_numbered index.items) (next (search is_main is_function index.items calls))

abbrev pub dead_from : Index → Plan
dead_from index = ask_calls (length index.items) (wanted_from_main index) [] (λ calls. Give (places_form (dead_of index.items calls)))

abbrev pub dead_plan : Plan
dead_plan = ask (whole 1) index_in dead_from

-- ---- 8: the members of a unit.

abbrev pub members_from : List ℕ → Index → Plan
members_from unit index = ask_calls (length index.items) (wanted_of unit index.items) [] (λ calls. Give (places_form (members_of unit index.items calls)))

abbrev pub members_plan : Query → Plan
members_plan q = ask (whole 1) index_in (members_from q.«module»)

-- ---- 9: the intermediate form of a function.

-- what is known of an item that a path leads to: its signature, and, of a constant, its value
abbrev pub Use : Type 0
Use = Sig × Option Const

-- a value's type
abbrev pub typ_of : Const → Option Typ
typ_of (k.Int v) = Some t.Int
typ_of (k.Bool b) = Some t.Bool
typ_of k.Cycle = None
typ_of k.Overflow = None
typ_of k.DivZero = None
typ_of k.Bad = None

-- a constant is known by its value, which is a number or a truth value, and by the index
abbrev pub constant_use : Bool → Const → Option Use
constant_use public c = option_map (λ typ. (record { kind = 0; public = public; params = []; gives = typ }, Some c)) (typ_of c)

abbrev pub is_public_at : Index → Place → Bool
is_public_at index p = option_map_or (λ (x : IndexItem). x.public) (item_at (place_name p) index.items) false

abbrev pub use_in : Index → Place → List ℕ → Option Use
use_in index p v = if is_constant_at index p then option_and_then (constant_use (is_public_at index p)) (const_in v) else option_map (λ sig. (sig, None)) (sig_in v)

abbrev pub use_query : Index → Place → Query
use_query index p = if is_constant_at index p then query 4 p else query 3 p

abbrev pub sigs_used : List (Place × Use) → List (Place × Sig)
sigs_used uses = map (λ (u : Place × Use). (u.0, u.1.0)) uses

abbrev pub consts_used : List (Place × Use) → List (Place × Const)
consts_used uses = filter_map (λ (u : Place × Use). option_map (λ c. (u.0, c)) u.1.1) uses

abbrev pub is_wrong : Diag → Bool
is_wrong d = not (is_warning d.code)

-- a function without an error has a form
abbrev pub ir_of : ℕ → Place → Item → Index → List (Place × Use) → List ℕ
ir_of level at item index uses =
    if list_any is_wrong (diags_by index at item (sigs_used uses) None)
    then []
    else ir_form (lowered level (answers index at item) (sigs_used uses) (consts_used uses) item)

abbrev pub ir_from : ℕ → Place → Item → Index → Plan
ir_from level at item index = ask_each (use_query index) (use_in index) (named_items (answers index at item)) (λ uses. Give (ir_of level at item index uses))

abbrev pub ir_plan : ℕ → Query → Plan
ir_plan level q = ask (query 2 (subject q)) item_in (λ item.
    if is_constant (definition item.body) then Give [] else ask (whole 1) index_in (ir_from level (subject q) item))

-- ---- 10: the object of a unit.

abbrev pub object_plan : Query → Plan
object_plan q = ask (record { kind = 8; «module» = q.«module»; name = [] }) places_in (λ places.
    ask_each (query 9) (λ p. ir_in) places (λ members. Give (object_form (object_of q.«module» members))))

-- ---- All kinds.

-- the level that a setting says, behind the compiler's version
abbrev pub level_of : List ℕ → ℕ
level_of setting = slice_index_or setting 1 0

unfoldable pub plan_of : List ℕ → Query → Plan
plan_of setting q =
    if q.kind == 1 then index_plan
    else if q.kind == 2 then item_plan q
    else if q.kind == 3 then sig_plan q
    else if q.kind == 4 then const_plan q
    else if q.kind == 5 then check_plan q
    else if q.kind == 6 then calls_plan q
    else if q.kind == 7 then dead_plan
    else if q.kind == 8 then members_plan q
    else if q.kind == 9 then ir_plan (level_of setting) q
    else if q.kind == 10 then object_plan q
    else Give []
