-- What is said of the expressions of a bounded tree: each diagnostic is in the ranges of its types, and they are few.
use Rattle.std.proofs.Common.{ℕ, zero, suc, ◌+◌, ◌*◌, ◌≤◌, Bool, true, false, List, [], ◌∷◌, ◌++◌, length, drop, Option, Some, None, arith, length-append}
use Rattle.std.specs.Prelude.{◌==◌, ◌&&◌, if◌then◌else◌, slice_get, option_and_then}
use Rattle.std.specs.List.{AllByRecursion}
use Rattle.std.specs.Option.{option_map}
use Rattle.inc_wire.specs.Fits.{Each}
use Rattle.rs_tree.specs.declared.answers.Diag.{Diag}
use Rattle.rs_tree.specs.declared.answers.Found.{Found}
use Rattle.rs_tree.specs.declared.answers.Found.TheVariants as f
use Rattle.rs_tree.specs.declared.index.Sig.{Sig}
use Rattle.rs_tree.specs.declared.place.At.{At}
use Rattle.rs_tree.specs.declared.place.Place.{Place}
use Rattle.rs_tree.specs.declared.tree.Path as path
use Rattle.rs_tree.specs.declared.tree.Typ.{Typ}
use Rattle.rs_tree.specs.declared.tree.Typ.TheVariants as t
use Rattle.rs_tree.specs.Plain.{at_of, Exp, Exps, Operands, Number, Truth, Path, Call, Group, Unary, Arith, Compare, And, Or, Done, By}
use Rattle.rs_tree.specs.Leaves.{answer, filled, filled_all, filled_by, leaves}
use Rattle.rs_answers.specs.Fits.{FitsDiag}
use Rattle.rs_lookup.specs.Places.{Name, place_from, place_name}
use Rattle.rs_lower.proofs.Sound.{each_append}
use Rattle.rs_diag.specs.Faults.{Wrong, path_text}
use Rattle.rs_diag.specs.Faults.Wrong.{Lost, Private, Mistyped, Count, NoFunction, Function, ConstCall}
use Rattle.rs_diag.specs.declared.fault.Want.TheVariants.{Of, Value}
use Rattle.rs_types.specs.Types.{Context, args_wrongs, call_wrongs, callee, called, count, function_as_value, function_of, is_typ, need, need_first, need_same, need_value, no_callee, operand, path_wrongs, places_of, same_typ, sig_at, sig_of, type_if, type_of, wants, wrong, wrong_callee, wrongs, wrongs_by, wrongs_of_truths}
use Rattle.range_laws.specs.Bounded.{most, BoundedAll, BoundedBy, BoundedExp, BoundedPath, IsNear}
use Rattle.range_laws.specs.Sizes.{size, size_all, size_by}
use Rattle.range_laws.proofs.Told.{IsSmall, diag_fits, path_named}

-- ---- Lists that are few.

-- at most n, and P holds of each
pub record AtMost {X : Type 0} (P : X → Type 0) (n : ℕ) (xs : List X) : Type 0 where
  pub few : length xs ≤ n
  pub each : Each P xs

pub none : {X : Type 0} {P : X → Type 0} {n : ℕ} → AtMost P n []
none = record { few = omega arith; each = tt }

pub one : {X : Type 0} {P : X → Type 0} {x : X} → P x → AtMost P 1 (x ∷ [])
one h = record { few = omega arith; each = (h, tt) }

pub joined : {X : Type 0} {P : X → Type 0} {n m : ℕ} {xs ys : List X} → AtMost P n xs → AtMost P m ys → AtMost P (n + m) (xs ++ ys)
joined {P} {xs} {ys} a b =
    let k = a.few in
    let l = b.few in
    record { few = omega (arith, length-append xs ys, k, l); each = each_append P xs ys a.each b.each }

pub within : {X : Type 0} {P : X → Type 0} {n m : ℕ} {xs : List X} → n ≤ m → AtMost P n xs → AtMost P m xs
within h a = (let k = a.few in record { few = omega (arith, h, k); each = a.each })

-- ---- What is said, and of what type.

abbrev pub Said : ℕ → List Diag → Type 0
Said n ds = AtMost FitsDiag n ds

pub said : (at : At) (w : Wrong) → IsNear at → IsSmall w → Said 1 (wrong at w)
said at w near small = one (diag_fits at w near small)

-- whether there is a type
abbrev pub known : Option Typ → ℕ
known None = 0
known (Some typ) = 1

known_one : (typ : Option Typ) → known typ ≤ 1
known_one None = omega arith
known_one (Some typ) = omega arith

-- what is said of an expression: less where it has a type
pub record Typed (n : ℕ) (typ : Option Typ) (ds : List Diag) : Type 0 where
  pub few : length ds + known typ ≤ n
  pub each : Each FitsDiag ds

wider : {n m : ℕ} {typ : Option Typ} {ds : List Diag} → n ≤ m → Typed n typ ds → Typed m typ ds
wider h a = (let k = a.few in record { few = omega (arith, h, k); each = a.each })

typed : {n m : ℕ} {typ : Option Typ} {ds : List Diag} → n + 1 ≤ m → Said n ds → Typed m typ ds
typed {typ} h a = (let k = a.few in record { few = omega (arith, h, k, known_one typ); each = a.each })

-- what is asked of a type is said only where there is one
pub asked : {n : ℕ} {typ : Option Typ} {ds es : List Diag} → Typed n typ ds → Said (known typ) es → Said n (ds ++ es)
asked {ds} {es} a b =
    let k = a.few in
    let l = b.few in
    record { few = omega (arith, length-append ds es, k, l); each = each_append FitsDiag ds es a.each b.each }

-- and one thing more may be said
pub asked_more : {n : ℕ} {typ : Option Typ} {ds es : List Diag} → Typed n typ ds → Said (known typ + 1) es → Said (n + 1) (ds ++ es)
asked_more {ds} {es} a b =
    let k = a.few in
    let l = b.few in
    record { few = omega (arith, length-append ds es, k, l); each = each_append FitsDiag ds es a.each b.each }

pub plain : {n : ℕ} {typ : Option Typ} {ds : List Diag} → Typed n typ ds → Said n ds
plain a = (let k = a.few in record { few = omega (arith, k); each = a.each })

-- ---- What is asked of types.

pub need_said : (at : At) (want : Typ) (found : Option Typ) → IsNear at → Said (known found) (need at want found)
need_said at want None near = none
need_said at want (Some typ) near = by (same_typ want typ)
  where
    by : (b : Bool) → Said 1 (if b then [] else wrong at (Mistyped (Of want) typ))
    by true = none
    by false = said at (Mistyped (Of want) typ) near tt

pub need_value_said : (at : At) (found : Option Typ) → IsNear at → Said (known found) (need_value at found)
need_value_said at None near = none
need_value_said at (Some t.Unit) near = said at (Mistyped Value t.Unit) near tt
need_value_said at (Some t.Int) near = none
need_value_said at (Some t.Bool) near = none

need_same_said : (at : At) (left right : Option Typ) → IsNear at → Said (known right) (need_same at left right)
need_same_said at None right near = none
need_same_said at (Some t.Unit) right near = none
need_same_said at (Some t.Int) right near = need_said at t.Int right near
need_same_said at (Some t.Bool) right near = need_said at t.Bool right near

need_first_said : (at : At) (wanted : List Typ) (found : Option Typ) → IsNear at → Said (known found) (need_first at wanted found)
need_first_said at [] found near = none
need_first_said at (typ ∷ more) found near = need_said at typ found near

-- a first operand that isn't a number is said so, and the whole has no type then
arith_few : (at : At) (found : Option Typ) (rest : Bool) → length (need at t.Int found) + known (type_if (is_typ t.Int found && rest) t.Int) ≤ known found
arith_few at None rest = omega arith
arith_few at (Some t.Unit) rest = omega arith
arith_few at (Some t.Int) rest = omega (arith, known_one (type_if rest t.Int))
arith_few at (Some t.Bool) rest = omega arith

arith_said : {n m : ℕ} {ds es : List Diag} (at : At) (found : Option Typ) (rest : Bool) → IsNear at → Typed n found ds → Said m es
    → Typed (n + m) (type_if (is_typ t.Int found && rest) t.Int) ((ds ++ need at t.Int found) ++ es)
arith_said {ds} {es} at found rest near a b =
    let k = a.few in
    let l = b.few in
    record {
      few = omega (arith, k, l, length-append (ds ++ need at t.Int found) es, length-append ds (need at t.Int found), arith_few at found rest);
      each = (joined (asked a (need_said at t.Int found near)) b).each;
    }

compared_said : {n m : ℕ} {left right : Option Typ} {xs ys vs ws : List Diag} → Typed n left xs → Typed m right ys → Said (known left) vs → Said (known right) ws → Said (n + m) ((xs ++ ys) ++ (vs ++ ws))
compared_said {xs} {ys} {vs} {ws} a b v w =
    let i = a.few in
    let j = b.few in
    let k = v.few in
    let l = w.few in
    record {
      few = omega (arith, i, j, k, l, length-append (xs ++ ys) (vs ++ ws), length-append xs ys, length-append vs ws);
      each = (joined (joined (plain a) (plain b)) (joined v w)).each;
    }

-- ---- Paths.

-- a function's parameters are few
abbrev pub FewIn : Option Sig → Type 0
FewIn None = Unit {0}
FewIn (Some s) = length s.params ≤ most

abbrev pub FewParams : List (Place × Sig) → Type 0
FewParams = AllByRecursion (λ e. length e.1.params ≤ most)

sig_few : (sigs : List (Place × Sig)) → FewParams sigs → (q : Name) → FewIn (sig_at q sigs)
sig_few sigs few q = by (place_from q 0 (places_of sigs))
  where
    got : (es : List (Place × Sig)) → FewParams es → (i : ℕ) → FewIn (option_map (λ (e : Place × Sig). e.1) (slice_get es i))
    got [] h i = tt
    got (e ∷ es) h zero = h.0
    got (e ∷ es) h (suc i) = got es h.1 i

    by : (o : Option ℕ) → FewIn (option_map (λ (e : Place × Sig). e.1) (option_and_then (slice_get sigs) o))
    by None = tt
    by (Some i) = got sigs few i

function_few : (s : Option Sig) → FewIn s → FewIn (function_of s)
function_few None h = tt
function_few (Some s) h = by (s.kind == 0)
  where
    by : (b : Bool) → FewIn (if b then None else Some s)
    by true = tt
    by false = h

callee_few : (c : Context) → FewParams c.sigs → (found : Found) → FewIn (callee c found)
callee_few c few f.Local = tt
callee_few c few (f.Item at) = function_few (sig_of c at) (sig_few c.sigs few (place_name at))
callee_few c few f.Private = tt
callee_few c few f.Absent = tt

as_value_said : (p : path.Path) (s : Option Sig) → BoundedPath p → Said 1 (function_as_value p s)
as_value_said p None b = none
as_value_said p (Some s) b = by (s.kind == 0)
  where
    by : (k : Bool) → Said 1 (if k then [] else wrong p.at (Function (path_text p)))
    by true = none
    by false = said p.at (Function (path_text p)) b.at (path_named p b)

path_said : (c : Context) (p : path.Path) (found : Found) → BoundedPath p → Said 1 (path_wrongs c p found)
path_said c p f.Local b = none
path_said c p (f.Item at) b = as_value_said p (sig_of c at) b
path_said c p f.Private b = said p.at (Private (path_text p)) b.at (path_named p b)
path_said c p f.Absent b = said p.at (Lost (path_text p)) b.at (path_named p b)

no_callee_said : (p : path.Path) (found : Found) → BoundedPath p → Said 1 (no_callee p found)
no_callee_said p f.Local b = said p.at (NoFunction (path_text p)) b.at (path_named p b)
no_callee_said p (f.Item at) b = said p.at (NoFunction (path_text p)) b.at (path_named p b)
no_callee_said p f.Private b = said p.at (Private (path_text p)) b.at (path_named p b)
no_callee_said p f.Absent b = said p.at (Lost (path_text p)) b.at (path_named p b)

wrong_callee_said : (p : path.Path) (found : Found) (n : ℕ) (s : Option Sig) → BoundedPath p → n ≤ most → FewIn s → Said 1 (wrong_callee p found n s)
wrong_callee_said p found n None b few h = no_callee_said p found b
wrong_callee_said p found n (Some s) b few h = by (length s.params == n)
  where
    by : (k : Bool) → Said 1 (if k then [] else wrong p.at (Count (length s.params) n))
    by true = none
    by false = said p.at (Count (length s.params) n) b.at (h, few)

call_said : (c : Context) → FewParams c.sigs → (p : path.Path) (found : Found) (n : ℕ) → BoundedPath p → n ≤ most → Said 1 (call_wrongs c p found n)
call_said c sigs p found n b few = by c.constant
  where
    by : (k : Bool) → Said 1 (if k then wrong p.at ConstCall else wrong_callee p found n (callee c found))
    by true = said p.at ConstCall b.at tt
    by false = wrong_callee_said p found n (callee c found) b few (callee_few c sigs found)

-- ---- Expressions.

pub near : (gs : List Found) (e : Exp path.Path) → BoundedExp e → IsNear (at_of (filled f.Absent gs e))
near gs (Number at n) b = b.0
near gs (Truth at v) b = b
near gs (Path at p) b = b.0
near gs (Call at p args) b = b.0
near gs (Group at e) b = b.0
near gs (Unary at op e) b = b.0
near gs (Arith at first more) b = b.0
near gs (Compare at op x y) b = b.0
near gs (And at parts) b = b.0
near gs (Or at parts) b = b.0

some_size : (e : Exp path.Path) → 1 ≤ size e
some_size (Number at n) = omega arith
some_size (Truth at v) = omega arith
some_size (Path at p) = omega arith
some_size (Call at p args) = omega arith
some_size (Group at e) = omega arith
some_size (Unary at op e) = omega arith
some_size (Arith at first more) = omega (arith, some_size first)
some_size (Compare at op x y) = omega arith
some_size (And at parts) = omega arith
some_size (Or at parts) = omega arith

count_small : (gs : List Found) (args : Exps path.Path) → count (filled_all f.Absent gs args) ≤ size_all args
count_small gs Exps.Empty = omega arith
count_small gs (Exps.Of e more) = omega (arith, some_size e, count_small (drop (length (leaves e)) gs) more)

-- an expression that must have a type
needing : (c : Context) (gs : List Found) (want : Typ) (e : Exp path.Path) → BoundedExp e → Typed (2 * size e) (type_of c (filled f.Absent gs e)) (wrongs c (filled f.Absent gs e))
    → Said (2 * size e) (wrongs c (filled f.Absent gs e) ++ need (at_of (filled f.Absent gs e)) want (type_of c (filled f.Absent gs e)))
needing c gs want e b it = asked it (need_said (at_of (filled f.Absent gs e)) want (type_of c (filled f.Absent gs e)) (near gs e b))

module _ (c : Context) (sigs : FewParams c.sigs) where
  mutual
    pub exp_said : (gs : List Found) (e : Exp path.Path) → BoundedExp e → size e ≤ most → Typed (2 * size e) (type_of c (filled f.Absent gs e)) (wrongs c (filled f.Absent gs e))
    exp_said gs (Number at n) b few = typed {n = 0} (omega arith) none
    exp_said gs (Truth at v) b few = typed {n = 0} (omega arith) none
    exp_said gs (Path at p) b few = typed (omega arith) (path_said c p (answer f.Absent gs) b.1)
    exp_said gs (Call at p args) b few = typed (omega arith) (joined (
        call_said c sigs p (answer f.Absent gs) (count (filled_all f.Absent (drop 1 gs) args)) b.1 (omega (arith, few, count_small (drop 1 gs) args))) (
        args_said (drop 1 gs) (wants (called c (answer f.Absent gs) (count (filled_all f.Absent (drop 1 gs) args)))) args b.2 (omega (arith, few))))
    exp_said gs (Group at e) b few = wider (omega arith) (exp_said gs e b.1 (omega (arith, few)))
    exp_said gs (Unary at op e) b few = typed (omega arith) (needing c gs (operand op) e b.1 (exp_said gs e b.1 (omega (arith, few))))
    exp_said gs (Arith at first more) b few = wider (omega arith) (
        arith_said (at_of (filled f.Absent gs first)) (type_of c (filled f.Absent gs first)) _ (near gs first b.1) (exp_said gs first b.1 (omega (arith, few))) (by_said (drop (length (leaves first)) gs) more b.2 (omega (arith, few))))
    exp_said gs (Compare at op x y) b few =
        let it = filled f.Absent gs x in
        let other = filled f.Absent (drop (length (leaves x)) gs) y in
        typed (omega arith) (compared_said (exp_said gs x b.1 (omega (arith, few))) (exp_said (drop (length (leaves x)) gs) y b.2 (omega (arith, few)))
        (need_value_said (at_of it) (type_of c it) (near gs x b.1)) (need_same_said (at_of other) (type_of c it) (type_of c other) (near (drop (length (leaves x)) gs) y b.2)))
    exp_said gs (And at parts) b few = typed (omega arith) (truths_said gs parts b.1 (omega (arith, few)))
    exp_said gs (Or at parts) b few = typed (omega arith) (truths_said gs parts b.1 (omega (arith, few)))

    args_said : (gs : List Found) (wanted : List Typ) (args : Exps path.Path) → BoundedAll args → size_all args ≤ most → Said (2 * size_all args) (args_wrongs c wanted (filled_all f.Absent gs args))
    args_said gs wanted Exps.Empty b few = none
    args_said gs wanted (Exps.Of e more) b few =
        let it = filled f.Absent gs e in
        within (omega arith) (joined (asked (exp_said gs e b.0 (omega (arith, few))) (need_first_said (at_of it) wanted (type_of c it) (near gs e b.0)))
        (args_said (drop (length (leaves e)) gs) (drop 1 wanted) more b.1 (omega (arith, few))))

    by_said : (gs : List Found) (more : Operands path.Path) → BoundedBy more → size_by more ≤ most → Said (2 * size_by more) (wrongs_by c (filled_by f.Absent gs more))
    by_said gs Done b few = none
    by_said gs (By op e more) b few = within (omega arith) (joined (needing c gs t.Int e b.0 (exp_said gs e b.0 (omega (arith, few)))) (by_said (drop (length (leaves e)) gs) more b.1 (omega (arith, few))))

    truths_said : (gs : List Found) (parts : Exps path.Path) → BoundedAll parts → size_all parts ≤ most → Said (2 * size_all parts) (wrongs_of_truths c (filled_all f.Absent gs parts))
    truths_said gs Exps.Empty b few = none
    truths_said gs (Exps.Of e more) b few = within (omega arith) (joined (needing c gs t.Bool e b.0 (exp_said gs e b.0 (omega (arith, few)))) (truths_said (drop (length (leaves e)) gs) more b.1 (omega (arith, few))))

  pub need_exp_said : (gs : List Found) (want : Typ) (e : Exp path.Path) → BoundedExp e → size e ≤ most
      → Said (2 * size e) (wrongs c (filled f.Absent gs e) ++ need (at_of (filled f.Absent gs e)) want (type_of c (filled f.Absent gs e)))
  need_exp_said gs want e b few = needing c gs want e b (exp_said gs e b few)
