-- The values of constants are in the signed 64-bit range.
use Rattle.std.proofs.Common.{◌≡◌, ℕ, zero, suc, ◌<◌, ◌≤◌, ℤ, pos, negsuc, Bool, true, false, List, [], ◌∷◌, drop, length, map, Option, Some, None, Ok, Err, refl, sym, subst, arith}
use Rattle.std.specs.Prelude.{FitsSigned, ◌^◌, ◌-◌, ◌||◌, int_lt, int_le, int_div, int_rem, is_none, unsigned_abs, neg_ℤ, ◌+ℤ◌, ◌-ℤ◌, ◌*ℤ◌, if◌then◌else◌, slice_get, option_and_then, ltb}
use Rattle.std.specs.Int.{w64}
use Rattle.std.specs.List.{AllByRecursion, cons_option, filter_map, list_any}
use Rattle.std.specs.Option.{option_map_or}
use Rattle.std.proofs.lemmas.Bool.{leb-true, ltb-false, ltb-true}
use Rattle.std.proofs.lemmas.Int.{fits_signed_from_abs, rem_below}
use Rattle.rs_tree.proofs.Both.{left_of, right_of}
use Rattle.rs_tree.specs.declared.answers.Const.{Const}
use Rattle.rs_tree.specs.declared.answers.Const.TheVariants as k
use Rattle.rs_tree.specs.declared.answers.Found.{Found}
use Rattle.rs_tree.specs.declared.index.IndexItem.{IndexItem}
use Rattle.rs_tree.specs.declared.index.Sig.{Sig}
use Rattle.rs_tree.specs.declared.place.Place.{Place}
use Rattle.rs_tree.specs.declared.tree.ArithOp.{ArithOp}
use Rattle.rs_tree.specs.declared.tree.ArithOp.TheVariants.{Add, Sub, Mul, Div, Rem}
use Rattle.rs_tree.specs.declared.tree.Path as path
use Rattle.rs_tree.specs.declared.tree.Placed.{Placed}
use Rattle.rs_tree.specs.declared.tree.Typ.{Typ}
use Rattle.rs_tree.specs.declared.tree.Typ.TheVariants as t
use Rattle.rs_tree.specs.declared.tree.UnaryOp.{UnaryOp}
use Rattle.rs_tree.specs.declared.tree.UnaryOp.TheVariants.{Negate, Not}
use Rattle.rs_tree.specs.Plain.{Exp, Exps, Operands, Number, Truth, Path, Call, Group, Unary, Arith, Compare, And, Or, Done, By, Definition, Const as Constant, Func, definition}
use Rattle.rs_tree.specs.Leaves.{answer, filled, filled_all, filled_by, leaves}
use Rattle.rs_answers.specs.Fits.{FitsConst}
use Rattle.rs_const.specs.Constants.{AreValues, Entry, IsInCycle, IsValue, const_of, const_wrongs, given_by, is_some_wrong, named, names, number, sigs_of, value_at, worth, worth_by}
use Rattle.rs_lookup.specs.Places.{Name}
use Rattle.rs_queries.specs.Known.{answered, entry_by, entry_of}
use Rattle.rs_value.specs.Value.{Outcome, all, and_then, any, arithmetic, chain, fits, given, holds, is_zero, number_of, unary, value, within}
use Rattle.rs_value.specs.declared.trap.Trap.TheVariants.{Overflow, DivZero, NoValue}
use Rattle.range_laws.specs.Bounded.{BoundedAll, BoundedBy, BoundedDefinition, BoundedExp, BoundedItem}

-- ---- Numbers.

-- a number, where there is one, is in the range
abbrev pub InRange : Outcome → Type 0
InRange (Ok v) = FitsSigned w64 v
InRange (Err t) = Unit {0}

fits_is : (z : ℤ) → fits z ≡ true → FitsSigned w64 z
fits_is (pos n) e = (let h = ltb-true n (2 ^ 63) (right_of (int_le (negsuc (2 ^ 63 - 1)) (pos n)) (int_lt (pos n) (pos (2 ^ 63))) e) in record { sfits = h })
fits_is (negsuc n) e = (let h = leb-true n (2 ^ 63 - 1) (left_of (int_le (negsuc (2 ^ 63 - 1)) (negsuc n)) (int_lt (negsuc n) (pos (2 ^ 63))) e) in record { sfits = omega (arith, h) })

pub truth_fits : (b : Bool) → FitsSigned w64 (number_of b)
truth_fits true = record { sfits = omega arith }
truth_fits false = record { sfits = omega arith }

within_fits : (z : ℤ) → InRange (within z z)
within_fits z = by (fits z) refl
  where
    by : (b : Bool) → fits z ≡ b → InRange (if b then Ok z else Err Overflow)
    by true e = fits_is z e
    by false e = tt

rem_fits : (x y : ℤ) → FitsSigned w64 y → is_zero y ≡ false → FitsSigned w64 (int_rem x y)
rem_fits x y f e =
    let least = rem_below x y (above y e) in
    let most = small y f in
    fits_signed_from_abs w64 (int_rem x y) (omega (arith, least, most))
  where
    above : (z : ℤ) → is_zero z ≡ false → 0 < unsigned_abs z
    above (pos zero) h = absurd (let bad : true ≡ false = h in cc)
    above (pos (suc n)) h = omega arith
    above (negsuc n) h = omega arith

    small : (z : ℤ) → FitsSigned w64 z → unsigned_abs z ≤ 2 ^ 63
    small (pos n) g = (let l = g.sfits in omega (arith, l))
    small (negsuc n) g = (let l = g.sfits in omega (arith, l))

pub arithmetic_fits : (op : ArithOp) (x y : ℤ) → FitsSigned w64 y → InRange (arithmetic op x y)
arithmetic_fits Add x y f = within_fits (x +ℤ y)
arithmetic_fits Sub x y f = within_fits (x -ℤ y)
arithmetic_fits Mul x y f = within_fits (x *ℤ y)
arithmetic_fits Div x y f = by (is_zero y)
  where
    by : (b : Bool) → InRange (if b then Err DivZero else within (int_div x y) (int_div x y))
    by true = tt
    by false = within_fits (int_div x y)
arithmetic_fits Rem x y f = by (is_zero y) refl
  where
    of : (b : Bool) → FitsSigned w64 (int_rem x y) → InRange (if b then Ok (int_rem x y) else Err Overflow)
    of true g = g
    of false g = tt

    by : (b : Bool) → is_zero y ≡ b → InRange (if b then Err DivZero else within (int_div x y) (int_rem x y))
    by true e = tt
    by false e = of (fits (int_div x y)) (rem_fits x y f e)

pub and_then_fits : (o : Outcome) (f : ℤ → Outcome) → InRange o → ((v : ℤ) → FitsSigned w64 v → InRange (f v)) → InRange (and_then o f)
and_then_fits (Ok v) f h g = g v h
and_then_fits (Err t) f h g = tt

pub unary_fits : (op : UnaryOp) (v : ℤ) → InRange (unary op v)
unary_fits Negate v = within_fits (neg_ℤ v)
unary_fits Not v = truth_fits (is_zero v)

-- ---- Expressions.

-- the value of a path, where it has one, is in the range
abbrev pub Gives : Option ℤ → Type 0
Gives None = Unit {0}
Gives (Some v) = FitsSigned w64 v

pub given_fits : (o : Option ℤ) → Gives o → InRange (given o)
given_fits None h = tt
given_fits (Some v) h = h

answer_gives : (gs : List (Option ℤ)) → AllByRecursion Gives gs → Gives (answer None gs)
answer_gives [] h = tt
answer_gives (g ∷ gs) h = h.0

drop_gives : (n : ℕ) (gs : List (Option ℤ)) → AllByRecursion Gives gs → AllByRecursion Gives (drop n gs)
drop_gives zero gs h = h
drop_gives (suc n) [] h = tt
drop_gives (suc n) (g ∷ gs) h = drop_gives n gs h.1

pub all_step : (b : Bool) (o : Outcome) → InRange o → InRange (if b then Ok (pos 0) else o)
all_step true o h = truth_fits false
all_step false o h = h

pub any_step : (b : Bool) (o : Outcome) → InRange o → InRange (if b then o else Ok (pos 1))
any_step true o h = h
any_step false o h = truth_fits true

mutual
  value_fits : (e : Exp path.Path) (gs : List (Option ℤ)) → AllByRecursion Gives gs → BoundedExp e → InRange (value (filled None gs e))
  value_fits (Number at n) gs h b = b.1
  value_fits (Truth at b') gs h b = truth_fits b'
  value_fits (Path at p) gs h b = given_fits (answer None gs) (answer_gives gs h)
  value_fits (Call at p args) gs h b = tt
  value_fits (Group at e) gs h b = value_fits e gs h b.1
  value_fits (Unary at op e) gs h b = and_then_fits (value (filled None gs e)) (unary op) (value_fits e gs h b.1) (λ v f. unary_fits op v)
  value_fits (Arith at first more) gs h b = chain_fits more (drop (length (leaves first)) gs) (value (filled None gs first)) (drop_gives (length (leaves first)) gs h) b.2 (value_fits first gs h b.1)
  value_fits (Compare at op x y) gs h b = and_then_fits (value (filled None gs x)) (λ v. and_then (value (filled None (drop (length (leaves x)) gs) y)) (λ w. Ok (number_of (holds op v w)))) (value_fits x gs h b.1)
      (λ v f. and_then_fits (value (filled None (drop (length (leaves x)) gs) y)) (λ w. Ok (number_of (holds op v w))) (value_fits y (drop (length (leaves x)) gs) (drop_gives (length (leaves x)) gs h) b.2) (λ w g. truth_fits (holds op v w)))
  value_fits (And at parts) gs h b = all_fits parts gs h b.1
  value_fits (Or at parts) gs h b = any_fits parts gs h b.1

  chain_fits : (more : Operands path.Path) (gs : List (Option ℤ)) (o : Outcome) → AllByRecursion Gives gs → BoundedBy more → InRange o → InRange (chain (filled_by None gs more) o)
  chain_fits Done gs o h b i = i
  chain_fits (By op e more) gs o h b i =
      chain_fits more (drop (length (leaves e)) gs) (and_then o (λ x. and_then (value (filled None gs e)) (arithmetic op x))) (drop_gives (length (leaves e)) gs h) b.1
      (and_then_fits o (λ x. and_then (value (filled None gs e)) (arithmetic op x)) i (λ x f. and_then_fits (value (filled None gs e)) (arithmetic op x) (value_fits e gs h b.0) (λ y g. arithmetic_fits op x y g)))

  all_fits : (parts : Exps path.Path) (gs : List (Option ℤ)) → AllByRecursion Gives gs → BoundedAll parts → InRange (all (filled_all None gs parts))
  all_fits Exps.Empty gs h b = truth_fits true
  all_fits (Exps.Of e more) gs h b =
      and_then_fits (value (filled None gs e)) (λ v. if is_zero v then Ok (pos 0) else all (filled_all None (drop (length (leaves e)) gs) more)) (value_fits e gs h b.0)
      (λ v f. all_step (is_zero v) (all (filled_all None (drop (length (leaves e)) gs) more)) (all_fits more (drop (length (leaves e)) gs) (drop_gives (length (leaves e)) gs h) b.1))

  any_fits : (parts : Exps path.Path) (gs : List (Option ℤ)) → AllByRecursion Gives gs → BoundedAll parts → InRange (any (filled_all None gs parts))
  any_fits Exps.Empty gs h b = truth_fits false
  any_fits (Exps.Of e more) gs h b =
      and_then_fits (value (filled None gs e)) (λ v. if is_zero v then any (filled_all None (drop (length (leaves e)) gs) more) else Ok (pos 1)) (value_fits e gs h b.0)
      (λ v f. any_step (is_zero v) (any (filled_all None (drop (length (leaves e)) gs) more)) (any_fits more (drop (length (leaves e)) gs) (drop_gives (length (leaves e)) gs h) b.1))

-- ---- Constants.

number_gives : (c : Const) → FitsConst c → Gives (number c)
number_gives (k.Int v) h = h
number_gives (k.Bool b) h = truth_fits b
number_gives k.Cycle h = tt
number_gives k.Overflow h = tt
number_gives k.DivZero h = tt
number_gives k.Bad h = tt

const_fits : (typ : Typ) (o : Outcome) → InRange o → FitsConst (const_of typ o)
const_fits t.Unit (Ok v) h = tt
const_fits t.Int (Ok v) h = h
const_fits t.Bool (Ok v) h = tt
const_fits typ (Err Overflow) h = tt
const_fits typ (Err DivZero) h = tt
const_fits typ (Err NoValue) h = tt

worth_fits : (sigs : List (Place × Sig)) (d : Definition path.Path) (found : List Found) (gs : List (Option ℤ)) → BoundedDefinition d → AllByRecursion Gives gs → FitsConst (worth sigs d found gs)
worth_fits sigs (Constant typ e) found gs b h = by (is_some_wrong (const_wrongs sigs typ e found) || list_any is_none gs)
  where
    by : (bad : Bool) → FitsConst (if bad then k.Bad else const_of typ (value (filled None gs e)))
    by true = tt
    by false = const_fits typ (value (filled None gs e)) (value_fits e gs h b)
worth_fits sigs (Func inlined params gives stmts tail) found gs b h = tt

-- the item of a constant is bounded
abbrev pub BoundedEntry : Entry → Type 0
BoundedEntry e = BoundedDefinition (definition e.1.body)

given_gives : (v : ℕ → Option ℤ) → ((j : ℕ) → Gives (v j)) → (ns : List Name) (found : List Found) → AllByRecursion Gives (given_by v ns found)
given_gives v h ns [] = tt
given_gives v h ns (x ∷ xs) = (by (named ns x), given_gives v h ns xs)
  where
    by : (o : Option ℕ) → Gives (option_and_then v o)
    by None = tt
    by (Some j) = h j

at_fits : (known : List Entry) → AllByRecursion BoundedEntry known → (n i : ℕ) → FitsConst (value_at known n i)
at_fits known h zero i = tt
at_fits known h (suc n) i = by known h i (λ m. at_fits known h n m)
  where
    by : (rest : List Entry) → AllByRecursion BoundedEntry rest → (j : ℕ) → ((m : ℕ) → FitsConst (value_at known n m)) → FitsConst (option_map_or (worth_by (λ m. number (value_at known n m)) known) (slice_get rest j) k.Bad)
    by [] b j f = tt
    by (e ∷ rest) b zero f =
        worth_fits (sigs_of known) (definition e.1.body) e.2 (given_by (λ m. number (value_at known n m)) (names known) e.2) b.0
        (given_gives (λ m. number (value_at known n m)) (λ m. number_gives (value_at known n m) (f m)) (names known) e.2)
    by (e ∷ rest) b (suc j) f = by rest b.1 j f

-- what isn't out of the range is in it
small : (n : ℕ) (P : Type 0) → ((n < 2 ^ 63) → P) → (P → n < 2 ^ 63) → ¬ (¬ P) → P
small n P up down h = by (ltb n (2 ^ 63)) refl
  where
    by : (b : Bool) → ltb n (2 ^ 63) ≡ b → P
    by true e = up (ltb-true n (2 ^ 63) e)
    by false e = absurd (h (λ p. (let l = down p in let m = ltb-false n (2 ^ 63) e in omega (arith, l, m))))

stable : (c : Const) → ¬ (¬ FitsConst c) → FitsConst c
stable (k.Int (pos n)) h = small n (FitsSigned w64 (pos n)) (λ l. record { sfits = l }) (λ f. f.sfits) h
stable (k.Int (negsuc n)) h = small n (FitsSigned w64 (negsuc n)) (λ l. record { sfits = l }) (λ f. f.sfits) h
stable (k.Bool b) h = tt
stable k.Cycle h = tt
stable k.Overflow h = tt
stable k.DivZero h = tt
stable k.Bad h = tt

value_of_fits : (known : List Entry) → AllByRecursion BoundedEntry known → (i : ℕ) (c : Const) → IsValue known i c → FitsConst c
value_of_fits known h i c is =
    stable c (λ out. (let apart : ¬ IsInCycle known i = λ cyc. out (subst FitsConst (sym (is.cycle cyc)) tt) in out (subst FitsConst (sym (is.value apart)) (at_fits known h (length known) i))))

all_of : (values : List Const) → ((i : ℕ) (c : Const) → slice_get values i ≡ Some c → FitsConst c) → AllByRecursion FitsConst values
all_of [] h = tt
all_of (c ∷ cs) h = (h 0 c refl, all_of cs (λ i d e. h (suc i) d e))

pub values_fit : (known : List Entry) (values : List Const) → AllByRecursion BoundedEntry known → AreValues known values → AllByRecursion FitsConst values
values_fit known values h are = all_of values (λ i c e. value_of_fits known h i c (are.each i c e))

-- a tree's constants are items of it
one_more : (items : List IndexItem) (p : Placed) (rest : List Entry) (d : Definition path.Path) → BoundedDefinition (definition p.item.body) → AllByRecursion BoundedEntry rest
    → AllByRecursion BoundedEntry (cons_option (entry_by (answered items p) d) rest)
one_more items p rest (Constant typ e) b h = (b, h)
one_more items p rest (Func inlined params gives stmts tail) b h = h

pub entries_bounded : (items : List IndexItem) (ps : List Placed) → AllByRecursion BoundedItem ps → AllByRecursion BoundedEntry (filter_map entry_of (map (answered items) ps))
entries_bounded items [] h = tt
entries_bounded items (p ∷ ps) h = one_more items p (filter_map entry_of (map (answered items) ps)) (definition p.item.body) h.0.inside (entries_bounded items ps h.1)
