-- What is said of the items of a bounded tree: each diagnostic is in the ranges of its types, and they are few.
use Rattle.std.proofs.Common.{ℕ, ◌+◌, ◌*◌, ◌≤◌, Bool, true, false, List, [], ◌∷◌, ◌++◌, length, drop, fold, map, Option, Some, None, arith}
use Rattle.std.specs.Prelude.{◌^◌, ◌<◌, ◌==◌, ◌&&◌, ◌||◌, not, nat_eq, if◌then◌else◌}
use Rattle.std.specs.BTreeSet.{insert_key}
use Rattle.std.specs.List.{AllByRecursion, list_any}
use Rattle.std.specs.Option.{is_some}
use Rattle.std.specs.Ordering.{match_ordering}
use Rattle.std.specs.declared.cmp.Ordering.{Ordering}
use Rattle.std.specs.declared.cmp.Ordering.TheVariants as o
use Rattle.inc_wire.specs.Fits.{Each}
use Rattle.rs_tree.specs.declared.answers.Const.{Const}
use Rattle.rs_tree.specs.declared.answers.Const.TheVariants as k
use Rattle.rs_tree.specs.declared.answers.Found.{Found}
use Rattle.rs_tree.specs.declared.answers.Found.TheVariants as f
use Rattle.rs_tree.specs.declared.index.IndexItem.{IndexItem}
use Rattle.rs_tree.specs.declared.index.Sig.{Sig}
use Rattle.rs_tree.specs.declared.place.At.{At}
use Rattle.rs_tree.specs.declared.place.Place.{Place}
use Rattle.rs_tree.specs.declared.tree.Crate.{Crate}
use Rattle.rs_tree.specs.declared.tree.Param.{Param}
use Rattle.rs_tree.specs.declared.tree.Path as path
use Rattle.rs_tree.specs.declared.tree.Placed.{Placed}
use Rattle.rs_tree.specs.declared.tree.Typ.{Typ}
use Rattle.rs_tree.specs.declared.tree.Typ.TheVariants as t
use Rattle.rs_tree.specs.Order.{diag_cmp}
use Rattle.rs_tree.specs.Plain.{at_of, Exp, Sta, Stas, Arms, Let, Assign, Return, Eval, While, If, Print, Bare, Else, Arm, Definition, Func, definition}
use Rattle.rs_tree.specs.Plain.{Const as Constant}
use Rattle.rs_tree.specs.Leaves.{arms_filled, filled, filled_in, leaves, sta_filled, sta_leaves, stas_filled, stas_leaves}
use Rattle.rs_tree.specs.declared.answers.Diag.{Diag}
use Rattle.rs_answers.specs.Fits.{FitsDiag, FitsDiags}
use Rattle.rs_lookup.specs.Env.{find}
use Rattle.rs_names.specs.Indexed.{is_root_main}
use Rattle.rs_names.specs.Resolved.{item_at}
use Rattle.rs_diag.specs.Faults.Wrong.{Lost, Fixed, Cycle, Overflow, DivZero, NoValue, BadMain, ParamTwice, Constant as ConstantName, Unused}
use Rattle.rs_types.specs.Types.{Context, Leaf, local_of, same_typ, type_of, wrong}
use Rattle.rs_types.specs.declared.locals.Local.{Local}
use Rattle.rs_check.specs.Bodies.{Around, Declared, after, after_all, after_arms, arms_wrongs, as_local, assign_wrongs, declare, declared, declared_all, declared_arms, fixed_wrongs, is_constant, let_wrongs, name_wrongs, need_known, outside, param_places, params_wrongs, reads_in, sta_wrongs, stas_reads, stas_wrongs, twice_wrongs, with_params}
use Rattle.rs_check.specs.Items.{begin, body_wrongs, end_wrongs, is_open, is_quiet, lines, main_wrongs, tail_wrongs, unread, unused, value_wrongs}
use Rattle.rs_queries.specs.Known.{answered, constants_of, items_of, place_of, sig_of, sigs_of, value_at}
use Rattle.plan_laws.specs.Roots.{wrongs_of}
use Rattle.range_laws.specs.Bounded.{most, BoundedArms, BoundedCrate, BoundedDefinition, BoundedIn, BoundedItem, BoundedParam, BoundedSta, BoundedStas, IsNear, IsShort}
use Rattle.range_laws.specs.Sizes.{arms_size, definition_size, size_in, sta_size, stas_size}
use Rattle.range_laws.proofs.Fitting.{few_params}
use Rattle.range_laws.proofs.Told.{short_named}
use Rattle.range_laws.proofs.Said.{AtMost, FewParams, Said, asked, asked_more, exp_said, joined, known, near, need_exp_said, need_said, need_value_said, none, one, plain, said, within}

-- ---- Contexts: what is known of functions stays.

mutual
  after_few : (s : Sta Leaf) (c : Context) → FewParams c.sigs → FewParams (after s c).sigs
  after_few (Let mutable at name typ value) c h = h
  after_few (Assign at name value) c h = h
  after_few (Return at value) c h = h
  after_few (Eval value) c h = h
  after_few (While cond body) c h = all_few body c h
  after_few (If arms) c h = arms_few arms c h
  after_few (Print value) c h = h

  all_few : (ss : Stas Leaf) (c : Context) → FewParams c.sigs → FewParams (after_all ss c).sigs
  all_few Stas.Empty c h = h
  all_few (Stas.Of s more) c h = all_few more (after s c) (after_few s c h)

  arms_few : (arms : Arms Leaf) (c : Context) → FewParams c.sigs → FewParams (after_arms arms c).sigs
  arms_few Bare c h = h
  arms_few (Else body) c h = all_few body c h
  arms_few (Arm cond body more) c h = arms_few more (outside c (after_all body c)) (all_few body c h)

params_few : (params : List Param) (c : Context) → FewParams c.sigs → FewParams (with_params params c).sigs
params_few [] c h = h
params_few (p ∷ more) c h = params_few more (declare p.name (as_local p) c) h

-- ---- Statements.

name_said : (g : Around) (at : At) (name : List ℕ) → IsNear at → IsShort name → Said 1 (name_wrongs g at name)
name_said g at name n s = by (is_constant (item_at (g.home, name) g.items))
  where
    by : (b : Bool) → Said 1 (if b then wrong at (ConstantName name) else [])
    by true = said at (ConstantName name) n (short_named name s)
    by false = none

let_said : (at : At) (typ found : Option Typ) → IsNear at → Said (known found) (let_wrongs at typ found)
let_said at None found n = need_value_said at found n
let_said at (Some typ) found n = need_said at typ found n

fixed_said : (at : At) (name : List ℕ) (mutable : Bool) → IsNear at → IsShort name → Said 1 (fixed_wrongs at name mutable)
fixed_said at name true n s = none
fixed_said at name false n s = said at (Fixed name) n (short_named name s)

need_known_said : (at : At) (typ found : Option Typ) → IsNear at → Said (known found) (need_known at typ found)
need_known_said at None found n = none
need_known_said at (Some typ) found n = need_said at typ found n

assign_said : (at : At) (name : List ℕ) (value : At) (l : Option Local) (found : Option Typ) → IsNear at → IsShort name → IsNear value → Said (known found + 1) (assign_wrongs at name value l found)
assign_said at name value None found n s v = within (omega arith) (said at (Lost name) n (short_named name s))
assign_said at name value (Some l) found n s v = within (omega arith) (joined (fixed_said at name l.mutable n s) (need_known_said value l.typ found v))

module _ (g : Around) where
  mutual
    pub sta_said : (c : Context) → FewParams c.sigs → (gs : List Found) (s : Sta path.Path) → BoundedSta s → sta_size s ≤ most → Said (2 * sta_size s) (sta_wrongs g c (sta_filled f.Absent gs s))
    sta_said c sigs gs (Let mutable at name typ value) b few =
        let it = filled f.Absent gs value in
        within (omega arith) (joined (asked (exp_said c sigs gs value b.2 (omega (arith, few))) (let_said (at_of it) typ (type_of c it) (near gs value b.2))) (name_said g at name b.0 b.1))
    sta_said c sigs gs (Assign at name value) b few =
        let it = filled f.Absent gs value in
        within (omega arith) (asked_more (exp_said c sigs gs value b.2 (omega (arith, few))) (assign_said at name (at_of it) (local_of c name) (type_of c it) b.0 b.1 (near gs value b.2)))
    sta_said c sigs gs (Return at None) b few = within (omega arith) (need_said at g.gives (Some t.Unit) b.0)
    sta_said c sigs gs (Return at (Some e)) b few = within (omega arith) (need_exp_said c sigs gs g.gives e b.1 (omega (arith, few)))
    sta_said c sigs gs (Eval value) b few = within (omega arith) (plain (exp_said c sigs gs value b (omega (arith, few))))
    sta_said c sigs gs (While cond body) b few = within (omega arith) (
        joined (need_exp_said c sigs gs t.Bool cond b.0 (omega (arith, few))) (all_said c sigs (drop (length (leaves cond)) gs) body b.1 (omega (arith, few))))
    sta_said c sigs gs (If arms) b few = arms_said c sigs gs arms b few
    sta_said c sigs gs (Print value) b few =
        let it = filled f.Absent gs value in
        within (omega arith) (asked (exp_said c sigs gs value b (omega (arith, few))) (need_value_said (at_of it) (type_of c it) (near gs value b)))

    pub all_said : (c : Context) → FewParams c.sigs → (gs : List Found) (ss : Stas path.Path) → BoundedStas ss → stas_size ss ≤ most → Said (2 * stas_size ss) (stas_wrongs g c (stas_filled f.Absent gs ss))
    all_said c sigs gs Stas.Empty b few = none
    all_said c sigs gs (Stas.Of s more) b few =
        let it = sta_filled f.Absent gs s in
        within (omega arith) (joined (sta_said c sigs gs s b.0 (omega (arith, few)))
        (all_said (after it c) (after_few it c sigs) (drop (length (sta_leaves s)) gs) more b.1 (omega (arith, few))))

    arms_said : (c : Context) → FewParams c.sigs → (gs : List Found) (arms : Arms path.Path) → BoundedArms arms → arms_size arms ≤ most → Said (2 * arms_size arms) (arms_wrongs g c (arms_filled f.Absent gs arms))
    arms_said c sigs gs Bare b few = none
    arms_said c sigs gs (Else body) b few = within (omega arith) (all_said c sigs gs body b (omega (arith, few)))
    arms_said c sigs gs (Arm cond body more) b few =
        let here = drop (length (leaves cond)) gs in
        let it = stas_filled f.Absent here body in
        within (omega arith) (joined (joined (need_exp_said c sigs gs t.Bool cond b.0 (omega (arith, few))) (all_said c sigs here body b.1 (omega (arith, few))))
        (arms_said (outside c (after_all it c)) (all_few it c sigs) (drop (length (stas_leaves body)) here) more b.2 (omega (arith, few))))

  tail_said : (c : Context) → FewParams c.sigs → (gs : List Found) (tail : Option (Exp path.Path)) → BoundedIn tail → size_in tail ≤ most → Said (2 * size_in tail) (tail_wrongs g c (filled_in f.Absent gs tail))
  tail_said c sigs gs None b few = none
  tail_said c sigs gs (Some e) b few = need_exp_said c sigs gs g.gives e b few

  -- parameters
  twice_said : (c : Context) (p : Param) → BoundedParam p → Said 1 (twice_wrongs c p)
  twice_said c p b = by (is_some (find p.name c.scope))
    where
      by : (k : Bool) → Said 1 (if k then wrong p.at (ParamTwice p.name) else [])
      by true = said p.at (ParamTwice p.name) b.at (short_named p.name b.name)
      by false = none

  params_said : (c : Context) (params : List Param) → AllByRecursion BoundedParam params → Said (2 * length params) (params_wrongs g c params)
  params_said c [] b = none
  params_said c (p ∷ more) b = within (omega arith) (joined (joined (twice_said c p b.0) (name_said g p.at p.name b.0.at b.0.name)) (params_said (declare p.name (as_local p) c) more b.1))

-- ---- Locals.

abbrev NearName : At × List ℕ → Type 0
NearName d = IsNear d.0 × IsShort d.1

params_near : (params : List Param) → AllByRecursion BoundedParam params → AtMost NearName (length params) (param_places params)
params_near [] b = none
params_near (p ∷ more) b = within (omega arith) (joined (one (b.0.at, b.0.name)) (params_near more b.1))

mutual
  sta_near : (s : Sta path.Path) → BoundedSta s → AtMost NearName (sta_size s) (declared s)
  sta_near (Let mutable at name typ value) b = within (omega arith) (one (b.0, b.1))
  sta_near (Assign at name value) b = none
  sta_near (Return at value) b = none
  sta_near (Eval value) b = none
  sta_near (While cond body) b = within (omega arith) (all_near body b.1)
  sta_near (If arms) b = arms_near arms b
  sta_near (Print value) b = none

  all_near : (ss : Stas path.Path) → BoundedStas ss → AtMost NearName (stas_size ss) (declared_all ss)
  all_near Stas.Empty b = none
  all_near (Stas.Of s more) b = joined (sta_near s b.0) (all_near more b.1)

  arms_near : (arms : Arms path.Path) → BoundedArms arms → AtMost NearName (arms_size arms) (declared_arms arms)
  arms_near Bare b = none
  arms_near (Else body) b = within (omega arith) (all_near body b)
  arms_near (Arm cond body more) b = within (omega arith) (joined (all_near body b.1) (arms_near more b.2))

unread_said : (read : Bool) (at : At) (name : List ℕ) → IsNear at → IsShort name → Said 1 (unread read at name)
unread_said read at name n s = by (read || is_quiet name)
  where
    by : (k : Bool) → Said 1 (if k then [] else wrong at (Unused name))
    by true = none
    by false = said at (Unused name) n (short_named name s)

unused_said : (i : ℕ) (read : List ℕ) (ds : Declared) → Each NearName ds → Said (length ds) (unused i read ds)
unused_said i read [] h = none
unused_said i read (d ∷ ds) h = within (omega arith) (joined (unread_said (list_any (nat_eq i) read) d.0 d.1 h.0.0 h.0.1) (unused_said (i + 1) read ds h.1))

-- ---- Items.

value_said : (at : At) (name : List ℕ) (value : Option Const) → IsNear at → IsShort name → Said 1 (value_wrongs at name value)
value_said at name None n s = none
value_said at name (Some (k.Int v)) n s = none
value_said at name (Some (k.Bool b)) n s = none
value_said at name (Some k.Cycle) n s = said at (Cycle name) n (short_named name s)
value_said at name (Some k.Overflow) n s = said at (Overflow name) n (short_named name s)
value_said at name (Some k.DivZero) n s = said at (DivZero name) n (short_named name s)
value_said at name (Some k.Bad) n s = none

end_said : (at : At) (name : List ℕ) (gives : Typ) (stmts : Stas path.Path) (tail : Option (Exp path.Path)) → IsNear at → IsShort name → Said 1 (end_wrongs at name gives stmts tail)
end_said at name gives stmts tail n s = by (is_open gives stmts tail)
  where
    by : (b : Bool) → Said 1 (if b then wrong at (NoValue name) else [])
    by true = said at (NoValue name) n (short_named name s)
    by false = none

main_said : (at : At) (main : Bool) (params : List Param) (gives : Typ) → IsNear at → Said 1 (main_wrongs at main params gives)
main_said at main params gives n = by (main && (not (length params == 0) || not (same_typ gives t.Unit)))
  where
    by : (b : Bool) → Said 1 (if b then wrong at BadMain else [])
    by true = said at BadMain n tt
    by false = none

body_said : (items : List IndexItem) (sigs : List (Place × Sig)) → FewParams sigs → (home : List ℕ) (found : List Found) (value : Option Const) (at : At) (name : List ℕ) (d : Definition path.Path) → IsNear at → IsShort name
    → BoundedDefinition d → definition_size d ≤ most → Said (3 * definition_size d + 2) (body_wrongs items sigs home found value at name d)
body_said items sigs few home found value at name (Constant typ e) n s b small =
    within (omega arith) (joined (need_exp_said (begin true sigs) few found typ e b small) (value_said at name value n s))
body_said items sigs few home found value at name (Func inlined params gives stmts tail) n s b small =
    let g : Around = record { items = items; home = home; gives = gives } in
    let start = begin false sigs in
    let c = with_params params start in
    let started = params_few params start few in
    let body = stas_filled f.Absent found stmts in
    let rest = drop (length (stas_leaves stmts)) found in
    let last = filled_in f.Absent rest tail in
    let at_end = after_all body c in
    let locals = joined (params_near params b.0) (all_near stmts b.1) in
    within (omega arith) (joined (joined (joined (joined (main_said at (is_root_main home name) params gives n) (params_said g start params b.0))
    (joined (all_said g c started found stmts b.1 (omega (arith, small))) (tail_said g at_end (all_few body c started) rest tail b.2 (omega (arith, small)))))
    (end_said at name gives stmts tail n s))
    (within locals.few (unused_said 0 (stas_reads c body ++ reads_in at_end last) (param_places params ++ declared_all stmts) locals.each)))

-- ---- In order, each once.

inserted_few : (ds : List Diag) (d : Diag) → length (insert_key diag_cmp ds d) ≤ length ds + 1
inserted_few [] d = omega arith
inserted_few (e ∷ ds) d = by (diag_cmp d e) (inserted_few ds d)
  where
    by : (r : Ordering) → length (insert_key diag_cmp ds d) ≤ length ds + 1 → length (match_ordering r (d ∷ e ∷ ds) (e ∷ ds) (e ∷ insert_key diag_cmp ds d)) ≤ length (e ∷ ds) + 1
    by o.Less h = omega arith
    by o.Equal h = omega arith
    by o.Greater h = omega (arith, h)

inserted_fit : (ds : List Diag) (d : Diag) → Each FitsDiag ds → FitsDiag d → Each FitsDiag (insert_key diag_cmp ds d)
inserted_fit [] d h fit = (fit, tt)
inserted_fit (e ∷ ds) d h fit = by (diag_cmp d e) (inserted_fit ds d h.1 fit)
  where
    by : (r : Ordering) → Each FitsDiag (insert_key diag_cmp ds d) → Each FitsDiag (match_ordering r (d ∷ e ∷ ds) (e ∷ ds) (e ∷ insert_key diag_cmp ds d))
    by o.Less more = (fit, h)
    by o.Equal more = h
    by o.Greater more = (h.0, more)

inserted : {n : ℕ} (ds : List Diag) (d : Diag) → Said n ds → FitsDiag d → Said (n + 1) (insert_key diag_cmp ds d)
inserted ds d a fit = (let m = a.few in record { few = omega (arith, m, inserted_few ds d); each = inserted_fit ds d a.each fit })

ordered : (before ds : List Diag) {n : ℕ} → Said n before → Each FitsDiag ds → Said (n + length ds) (fold (insert_key diag_cmp) before ds)
ordered before [] a h = within (omega arith) a
ordered before (d ∷ ds) a h = within (omega arith) (ordered (insert_key diag_cmp before d) ds (inserted before d a h.0) h.1)

lines_fit : {n : ℕ} (ds : List Diag) → n < 2 ^ 32 → Said n ds → FitsDiags (lines ds)
lines_fit ds small a =
    let b = ordered [] ds (none {n = 0}) a.each in
    let l = a.few in
    let m = b.few in
    record { few = omega (arith, small, l, m); each = b.each }

sigs_few : (items : List IndexItem) (ps : List Placed) → AllByRecursion BoundedItem ps → FewParams (map (sig_of items) ps)
sigs_few items [] b = tt
sigs_few items (p ∷ ps) b = (few_params (definition p.item.body) b.0.small, sigs_few items ps b.1)

item_fits : (krate : Crate) (values : List Const) → BoundedCrate krate → (p : Placed) → BoundedItem p → FitsDiags (wrongs_of krate values p)
item_fits krate values whole p b =
    let small = b.small in
    lines_fit _ (omega (arith, small)) (body_said (items_of krate) (sigs_of krate) (sigs_few (items_of krate) krate.items whole.items) p.module (answered (items_of krate) p).1
    (value_at (constants_of krate) values (place_of p)) p.item.at p.item.name (definition p.item.body) b.at b.name b.inside small)

all_fit : (krate : Crate) (values : List Const) → BoundedCrate krate → (ps : List Placed) → AllByRecursion BoundedItem ps → AllByRecursion (λ p. FitsDiags (wrongs_of krate values p)) ps
all_fit krate values whole [] b = tt
all_fit krate values whole (p ∷ ps) b = (item_fits krate values whole p b.0, all_fit krate values whole ps b.1)

pub diags_fit : (krate : Crate) (values : List Const) → BoundedCrate krate → AllByRecursion (λ p. FitsDiags (wrongs_of krate values p)) krate.items
diags_fit krate values whole = all_fit krate values whole krate.items whole.items
