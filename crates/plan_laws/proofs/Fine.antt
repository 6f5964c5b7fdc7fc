-- A constant's expression in which nothing is wrong has a value where its paths have, or a fault of numbers.
use Rattle.std.proofs.Common.{◌≡◌, ℕ, zero, suc, ◌&&◌, Bool, true, false, List, [], ◌∷◌, ◌++◌, length, drop, refl, sym, ap, ◌∙◌, subst, if◌then◌else◌}
use Rattle.std.specs.Prelude.{ℤ, pos, ◌+ℤ◌, ◌-ℤ◌, ◌*ℤ◌, neg_ℤ, int_div, int_rem, Option, Some, None, is_none, Ok, Err}
use Rattle.std.specs.List.{AllByRecursion, AllZip, list_any}
use Rattle.rs_tree.specs.declared.answers.Found.{Found}
use Rattle.rs_tree.specs.declared.answers.Found.TheVariants as f
use Rattle.rs_tree.specs.declared.index.Sig.{Sig}
use Rattle.rs_tree.specs.declared.place.At.{At}
use Rattle.rs_tree.specs.declared.place.Place.{Place}
use Rattle.rs_tree.specs.declared.tree.ArithOp.{ArithOp}
use Rattle.rs_tree.specs.declared.tree.ArithOp.TheVariants as arith
use Rattle.rs_tree.specs.declared.tree.Path as path
use Rattle.rs_tree.specs.declared.tree.Typ.{Typ}
use Rattle.rs_tree.specs.declared.tree.Typ.TheVariants as t
use Rattle.rs_tree.specs.declared.tree.UnaryOp.{UnaryOp}
use Rattle.rs_tree.specs.declared.tree.UnaryOp.TheVariants as unary
use Rattle.rs_tree.specs.Plain.{at_of, Exp, Exps, Operands, Number, Truth, Path, Call, Group, Unary, Arith, Compare, And, Or, Done, By}
use Rattle.rs_tree.specs.Leaves.{answer, filled, filled_all, filled_by, leaves, leaves_all, leaves_by}
use Rattle.rs_value.specs.Value as v
use Rattle.rs_value.specs.Value.{Outcome}
use Rattle.rs_value.specs.declared.trap.Trap.TheVariants.{DivZero, NoValue, Overflow}
use Rattle.rs_types.specs.Types.{Context, Leaf, all_ints, all_truths, compared, is_typ, need, need_same, need_value, operand, path_typ, path_wrongs, same_typ, type_if, type_of, wrong, wrongs, wrongs_by, wrongs_of_truths}
use Rattle.rs_diag.specs.Faults.Wrong.{Mistyped}
use Rattle.rs_diag.specs.declared.fault.Want.TheVariants.{Of}
use Rattle.link_laws.proofs.Calls.{Warns, is_fault, left, right}
use Rattle.link_laws.proofs.Lists.{each_append}
use Rattle.plan_laws.specs.Agree.{Agrees}
use Rattle.plan_laws.proofs.Agree.{AllAgree}

-- ---- Types and outcomes.

-- a type of values
abbrev pub IsValueTyp : Typ → Type 0
IsValueTyp t.Unit = ⊥
IsValueTyp t.Int = Unit {0}
IsValueTyp t.Bool = Unit {0}

abbrev pub HasValue : Outcome → Type 0
HasValue o = o ≡ Err NoValue → ⊥

then_has : (o : Outcome) (next : ℤ → Outcome) → HasValue o → ((x : ℤ) → HasValue (next x)) → HasValue (v.and_then o next)
then_has (Ok x) next h more = more x
then_has (Err e) next h more = h

within_has : (z x : ℤ) → HasValue (v.within z x)
within_has z x = by (v.fits z)
  where
    by : (b : Bool) → HasValue (if b then Ok x else Err Overflow)
    by true e = absurd (cc)
    by false e = absurd (cc)

unless_zero : (b : Bool) (o : Outcome) → HasValue o → HasValue (if b then Err DivZero else o)
unless_zero true o h e = absurd (cc)
unless_zero false o h e = h e

arithmetic_has : (op : ArithOp) (x y : ℤ) → HasValue (v.arithmetic op x y)
arithmetic_has arith.Add x y = within_has (x +ℤ y) (x +ℤ y)
arithmetic_has arith.Sub x y = within_has (x -ℤ y) (x -ℤ y)
arithmetic_has arith.Mul x y = within_has (x *ℤ y) (x *ℤ y)
arithmetic_has arith.Div x y = unless_zero (v.is_zero y) (v.within (int_div x y) (int_div x y)) (within_has (int_div x y) (int_div x y))
arithmetic_has arith.Rem x y = unless_zero (v.is_zero y) (v.within (int_div x y) (int_rem x y)) (within_has (int_div x y) (int_rem x y))

unary_has : (op : UnaryOp) (x : ℤ) → HasValue (v.unary op x)
unary_has unary.Negate x = within_has (neg_ℤ x) (neg_ℤ x)
unary_has unary.Not x = λ e. absurd (cc)

choose_has : (b : Bool) (o p : Outcome) → HasValue o → HasValue p → HasValue (if b then o else p)
choose_has true o p h k = h
choose_has false o p h k = k

-- nothing is needed that isn't there
pub record Needed (at : At) (want : Typ) (o : Option Typ) : Type 0 where
  pub none : need at want o ≡ []
  pub is : is_typ want o ≡ true

-- wherever it stands
pub never_needed : (at : At) (want : Typ) (o : Option Typ) → is_typ want o ≡ true → need at want o ≡ []
never_needed at want None is = absurd (cc)
never_needed at want (Some typ) is = ap (λ b. if b then [] else wrong at (Mistyped (Of want) typ)) is

needed_by : (at : At) (want typ : Typ) (b : Bool) → same_typ want typ ≡ b → Warns (need at want (Some typ)) → b ≡ true
needed_by at want typ true is w = refl
needed_by at want typ false is w = absurd (let bad : true ≡ false = sym (ap (λ b. list_any is_fault (if b then [] else wrong at (Mistyped (Of want) typ))) is) ∙ w.none in cc)

needed_some : (at : At) (want typ : Typ) → Warns (need at want (Some typ)) → Needed at want (Some typ)
needed_some at want typ w = (let is = needed_by at want typ (same_typ want typ) refl w in record { none = never_needed at want (Some typ) is; is = is })

pub needed : (at : At) (want : Typ) (o : Option Typ) (typ : Typ) → o ≡ Some typ → Warns (need at want o) → Needed at want o
needed at want None typ is w = absurd (cc)
needed at want (Some x) typ is w = needed_some at want x w

operand_typ : (op : UnaryOp) → IsValueTyp (operand op)
operand_typ unary.Negate = tt
operand_typ unary.Not = tt

if_so : (b : Bool) (typ : Typ) → b ≡ true → type_if b typ ≡ Some typ
if_so true typ e = refl
if_so false typ e = absurd (cc)

both_true : (a b : Bool) → a ≡ true → b ≡ true → (a && b) ≡ true
both_true true b e g = g
both_true false b e g = absurd (cc)

pub empty : {X : Type 0} (xs ys : List X) → xs ≡ [] → ys ≡ [] → xs ++ ys ≡ []
empty xs ys e g = ap (λ l. l ++ ys) e ∙ g

-- ---- Expressions.

module _ (sigs other : List (Place × Sig)) where
  abbrev pub c : Context
  c = record { constant = true; sigs = sigs; scope = []; locals = [] }

  -- a path of which nothing is wrong has a value of its type, and both lists say the same of it
  pub record IsFine (p : path.Path) (b : Found) (g : Option ℤ) : Type 0 where
    pub none : path_wrongs c p b ≡ []
    pub number : ℤ
    pub some : g ≡ Some number
    pub typ : Typ
    pub is : path_typ c p b ≡ Some typ
    pub kind : IsValueTyp typ
    pub agrees : Agrees sigs other b

  abbrev pub IsSound : Found → Option ℤ → Type 0
  IsSound b g = (p : path.Path) → Warns (path_wrongs c p b) → IsFine p b g

  abbrev pub HasNumber : path.Path × Option ℤ → Type 0
  HasNumber l = is_none l.1 ≡ false

  pub record Fine (e : Exp Leaf) (g : Exp (path.Path × Option ℤ)) : Type 0 where
    pub none : wrongs c e ≡ []
    pub value : HasValue (v.value g)
    pub typ : Typ
    pub is : type_of c e ≡ Some typ
    pub kind : IsValueTyp typ
    pub agree : AllAgree sigs other (leaves e)
    pub some : AllByRecursion HasNumber (leaves g)

  record FineAll (es : Exps Leaf) (gs : Exps (path.Path × Option ℤ)) : Type 0 where
    none : wrongs_of_truths c es ≡ []
    all : HasValue (v.all gs)
    any : HasValue (v.any gs)
    are : all_truths c es ≡ true
    agree : AllAgree sigs other (leaves_all es)
    some : AllByRecursion HasNumber (leaves_all gs)

  record FineBy (es : Operands Leaf) (gs : Operands (path.Path × Option ℤ)) : Type 0 where
    none : wrongs_by c es ≡ []
    chain : (o : Outcome) → HasValue o → HasValue (v.chain gs o)
    are : all_ints c es ≡ true
    agree : AllAgree sigs other (leaves_by es)
    some : AllByRecursion HasNumber (leaves_by gs)

  abbrev pub Zipped : List Found → List (Option ℤ) → Type 0
  Zipped fs gs = AllZip IsSound fs gs

  dropped : (n : ℕ) (fs : List Found) (gs : List (Option ℤ)) → Zipped fs gs → Zipped (drop n fs) (drop n gs)
  dropped zero fs gs h = h
  dropped (suc n) [] [] h = tt
  dropped (suc n) [] (g ∷ gs) h = absurd h
  dropped (suc n) (b ∷ fs) [] h = absurd h
  dropped (suc n) (b ∷ fs) (g ∷ gs) h = dropped n fs gs h.1

  absent_sound : IsSound f.Absent None
  absent_sound p w = absurd (let bad : true ≡ false = w.none in cc)

  first_sound : (fs : List Found) (gs : List (Option ℤ)) → Zipped fs gs → IsSound (answer f.Absent fs) (answer None gs)
  first_sound [] [] h = absent_sound
  first_sound [] (g ∷ gs) h = absurd h
  first_sound (b ∷ fs) [] h = absurd h
  first_sound (b ∷ fs) (g ∷ gs) h = h.0

  given_has : (g : Option ℤ) (x : ℤ) → g ≡ Some x → HasValue (v.given g)
  given_has None x is e = absurd (cc)
  given_has (Some y) x is e = absurd (cc)

  some_is : (g : Option ℤ) (x : ℤ) → g ≡ Some x → is_none g ≡ false
  some_is g x is = ap is_none is

  -- a comparison's sides
  record Sides (at other_at : At) (a b : Option Typ) : Type 0 where
    none : need_value at a ++ need_same other_at a b ≡ []
    is : compared a b ≡ Some t.Bool

  sides : (at other_at : At) (a b : Option Typ) (x y : Typ) → a ≡ Some x → IsValueTyp x → b ≡ Some y → Warns (need_value at a ++ need_same other_at a b) → Sides at other_at a b
  sides at other_at None b x y p k q w = absurd (cc)
  sides at other_at (Some t.Unit) b x y p k q w = absurd (let same : t.Unit ≡ x = cc in subst IsValueTyp (sym same) k)
  sides at other_at (Some t.Int) b x y p k q w = (let n = needed other_at t.Int b y q w in record { none = n.none; is = if_so (is_typ t.Int b) t.Bool n.is })
  sides at other_at (Some t.Bool) b x y p k q w = (let n = needed other_at t.Bool b y q w in record { none = n.none; is = if_so (is_typ t.Bool b) t.Bool n.is })

  mutual
    pub fine : (e : Exp path.Path) (fs : List Found) (gs : List (Option ℤ)) → Zipped fs gs → Warns (wrongs c (filled f.Absent fs e)) → Fine (filled f.Absent fs e) (filled None gs e)
    fine (Number at n) fs gs z w = record { none = refl; value = λ e. absurd (cc); typ = t.Int; is = refl; kind = tt; agree = tt; some = tt }
    fine (Truth at b) fs gs z w = record { none = refl; value = λ e. absurd (cc); typ = t.Bool; is = refl; kind = tt; agree = tt; some = tt }
    fine (Path at p) fs gs z w =
        let l = first_sound fs gs z p w in
        record { none = l.none; value = given_has (answer None gs) l.number l.some; typ = l.typ; is = l.is; kind = l.kind; agree = (l.agrees, tt); some = (some_is (answer None gs) l.number l.some, tt) }
    fine (Call at p args) fs gs z w = absurd (let bad : true ≡ false = w.none in cc)
    fine (Group at e) fs gs z w = (let i = fine e fs gs z w in record { none = i.none; value = i.value; typ = i.typ; is = i.is; kind = i.kind; agree = i.agree; some = i.some })
    fine (Unary at op e) fs gs z w =
        let it = filled f.Absent fs e in
        let i = fine e fs gs z (left (wrongs c it) (need (at_of it) (operand op) (type_of c it)) w) in
        let n = needed (at_of it) (operand op) (type_of c it) i.typ i.is (right (wrongs c it) (need (at_of it) (operand op) (type_of c it)) w) in
        record {
          none = empty (wrongs c it) (need (at_of it) (operand op) (type_of c it)) i.none n.none;
          value = then_has (v.value (filled None gs e)) (v.unary op) i.value (unary_has op);
          typ = operand op;
          is = if_so (is_typ (operand op) (type_of c it)) (operand op) n.is;
          kind = operand_typ op;
          agree = i.agree;
          some = i.some;
        }
    fine (Arith at e more) fs gs z w =
        let k = length (leaves e) in
        let it = filled f.Absent fs e in
        let rest = filled_by f.Absent (drop k fs) more in
        let front = wrongs c it ++ need (at_of it) t.Int (type_of c it) in
        let one = left front (wrongs_by c rest) w in
        let i = fine e fs gs z (left (wrongs c it) (need (at_of it) t.Int (type_of c it)) one) in
        let n = needed (at_of it) t.Int (type_of c it) i.typ i.is (right (wrongs c it) (need (at_of it) t.Int (type_of c it)) one) in
        let m = fine_by more (drop k fs) (drop k gs) (dropped k fs gs z) (right front (wrongs_by c rest) w) in
        record {
          none = empty front (wrongs_by c rest) (empty (wrongs c it) (need (at_of it) t.Int (type_of c it)) i.none n.none) m.none;
          value = m.chain (v.value (filled None gs e)) i.value;
          typ = t.Int;
          is = if_so (is_typ t.Int (type_of c it) && all_ints c rest) t.Int (both_true (is_typ t.Int (type_of c it)) (all_ints c rest) n.is m.are);
          kind = tt;
          agree = each_append (λ l. Agrees sigs other l.1) (leaves it) (leaves_by rest) i.agree m.agree;
          some = each_append HasNumber (leaves (filled None gs e)) (leaves_by (filled_by None (drop k gs) more)) i.some m.some;
        }
    fine (Compare at op a b) fs gs z w =
        let k = length (leaves a) in
        let x = filled f.Absent fs a in
        let y = filled f.Absent (drop k fs) b in
        let front = wrongs c x ++ wrongs c y in
        let back = need_value (at_of x) (type_of c x) ++ need_same (at_of y) (type_of c x) (type_of c y) in
        let one = left front back w in
        let i = fine a fs gs z (left (wrongs c x) (wrongs c y) one) in
        let m = fine b (drop k fs) (drop k gs) (dropped k fs gs z) (right (wrongs c x) (wrongs c y) one) in
        let s = sides (at_of x) (at_of y) (type_of c x) (type_of c y) i.typ m.typ i.is i.kind m.is (right front back w) in
        record {
          none = empty front back (empty (wrongs c x) (wrongs c y) i.none m.none) s.none;
          value = then_has (v.value (filled None gs a)) (λ u. v.and_then (v.value (filled None (drop k gs) b)) (λ t. Ok (v.number_of (v.holds op u t)))) i.value
              (λ u. then_has (v.value (filled None (drop k gs) b)) (λ t. Ok (v.number_of (v.holds op u t))) m.value (λ t e. absurd (cc)));
          typ = t.Bool;
          is = s.is;
          kind = tt;
          agree = each_append (λ l. Agrees sigs other l.1) (leaves x) (leaves y) i.agree m.agree;
          some = each_append HasNumber (leaves (filled None gs a)) (leaves (filled None (drop k gs) b)) i.some m.some;
        }
    fine (And at parts) fs gs z w =
        let m = fine_all parts fs gs z w in
        record { none = m.none; value = m.all; typ = t.Bool; is = if_so (all_truths c (filled_all f.Absent fs parts)) t.Bool m.are; kind = tt; agree = m.agree; some = m.some }
    fine (Or at parts) fs gs z w =
        let m = fine_all parts fs gs z w in
        record { none = m.none; value = m.any; typ = t.Bool; is = if_so (all_truths c (filled_all f.Absent fs parts)) t.Bool m.are; kind = tt; agree = m.agree; some = m.some }

    fine_all : (es : Exps path.Path) (fs : List Found) (gs : List (Option ℤ)) → Zipped fs gs → Warns (wrongs_of_truths c (filled_all f.Absent fs es)) → FineAll (filled_all f.Absent fs es) (filled_all None gs es)
    fine_all Exps.Empty fs gs z w = record { none = refl; all = λ e. absurd (cc); any = λ e. absurd (cc); are = refl; agree = tt; some = tt }
    fine_all (Exps.Of e more) fs gs z w =
        let k = length (leaves e) in
        let it = filled f.Absent fs e in
        let rest = filled_all f.Absent (drop k fs) more in
        let front = wrongs c it ++ need (at_of it) t.Bool (type_of c it) in
        let one = left front (wrongs_of_truths c rest) w in
        let i = fine e fs gs z (left (wrongs c it) (need (at_of it) t.Bool (type_of c it)) one) in
        let n = needed (at_of it) t.Bool (type_of c it) i.typ i.is (right (wrongs c it) (need (at_of it) t.Bool (type_of c it)) one) in
        let m = fine_all more (drop k fs) (drop k gs) (dropped k fs gs z) (right front (wrongs_of_truths c rest) w) in
        let gs_more = filled_all None (drop k gs) more in
        record {
          none = empty front (wrongs_of_truths c rest) (empty (wrongs c it) (need (at_of it) t.Bool (type_of c it)) i.none n.none) m.none;
          all = then_has (v.value (filled None gs e)) (λ x. if v.is_zero x then Ok (pos 0) else v.all gs_more) i.value (λ x. choose_has (v.is_zero x) (Ok (pos 0)) (v.all gs_more) (λ e. absurd (cc)) m.all);
          any = then_has (v.value (filled None gs e)) (λ x. if v.is_zero x then v.any gs_more else Ok (pos 1)) i.value (λ x. choose_has (v.is_zero x) (v.any gs_more) (Ok (pos 1)) m.any (λ e. absurd (cc)));
          are = both_true (is_typ t.Bool (type_of c it)) (all_truths c rest) n.is m.are;
          agree = each_append (λ l. Agrees sigs other l.1) (leaves it) (leaves_all rest) i.agree m.agree;
          some = each_append HasNumber (leaves (filled None gs e)) (leaves_all gs_more) i.some m.some;
        }

    fine_by : (os : Operands path.Path) (fs : List Found) (gs : List (Option ℤ)) → Zipped fs gs → Warns (wrongs_by c (filled_by f.Absent fs os)) → FineBy (filled_by f.Absent fs os) (filled_by None gs os)
    fine_by Done fs gs z w = record { none = refl; chain = λ o h. h; are = refl; agree = tt; some = tt }
    fine_by (By op e more) fs gs z w =
        let k = length (leaves e) in
        let it = filled f.Absent fs e in
        let rest = filled_by f.Absent (drop k fs) more in
        let front = wrongs c it ++ need (at_of it) t.Int (type_of c it) in
        let one = left front (wrongs_by c rest) w in
        let i = fine e fs gs z (left (wrongs c it) (need (at_of it) t.Int (type_of c it)) one) in
        let n = needed (at_of it) t.Int (type_of c it) i.typ i.is (right (wrongs c it) (need (at_of it) t.Int (type_of c it)) one) in
        let m = fine_by more (drop k fs) (drop k gs) (dropped k fs gs z) (right front (wrongs_by c rest) w) in
        let it_value = v.value (filled None gs e) in
        record {
          none = empty front (wrongs_by c rest) (empty (wrongs c it) (need (at_of it) t.Int (type_of c it)) i.none n.none) m.none;
          chain = λ o h. m.chain (v.and_then o (λ x. v.and_then it_value (v.arithmetic op x))) (then_has o (λ x. v.and_then it_value (v.arithmetic op x)) h (λ x. then_has it_value (v.arithmetic op x) i.value (arithmetic_has op x)));
          are = both_true (is_typ t.Int (type_of c it)) (all_ints c rest) n.is m.are;
          agree = each_append (λ l. Agrees sigs other l.1) (leaves it) (leaves_by rest) i.agree m.agree;
          some = each_append HasNumber (leaves (filled None gs e)) (leaves_by (filled_by None (drop k gs) more)) i.some m.some;
        }
