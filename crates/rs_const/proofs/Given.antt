-- What paths are given, and values one settled more.
use Rattle.std.proofs.Common.{◌≡◌, ℕ, ◌+◌, ◌<◌, ◌≤◌, ◌⊎◌, inl, inr, zero, suc, Bool, true, false, ◌&&◌, ◌||◌, List, [], ◌∷◌, length, set, Option, Some, None, refl, sym, ap, ◌∙◌, arith}
use Rattle.std.specs.Prelude.{ℤ, is_none, is_some, slice_get, option_and_then}
use Rattle.std.specs.List.{list_all, list_any, cons_option}
use Rattle.std.specs.Option.{option_map_or}
use Rattle.rs_tree.specs.declared.answers.Const.{Const}
use Rattle.rs_tree.specs.declared.answers.Found.{Found}
use Rattle.rs_lookup.specs.Places.{Name}
use Rattle.rs_const.specs.Constants.{Entry, named, named_by, given_by}
use Rattle.rs_const.specs.State.{Values, opens, done, is_done, is_open}

pub and_true : (a b : Bool) → (a && b) ≡ true → (a ≡ true) × (b ≡ true)
and_true true b e = (refl, e)
and_true false b e = absurd cc

or_true : (a b : Bool) → b ≡ true → (a || b) ≡ true
or_true true b e = refl
or_true false b e = e

-- where all that is named is in p, only the values of those in p tell
pub given_same : (v w : ℕ → Option ℤ) (p : ℕ → Bool) (ns : List Name) (found : List Found) → list_all p (named_by ns found) ≡ true → ((j : ℕ) → p j ≡ true → v j ≡ w j) → given_by v ns found ≡ given_by w ns found
given_same v w p ns [] all same = refl
given_same v w p ns (x ∷ found) all same = by (named ns x) all (λ h. given_same v w p ns found h same)
  where
    by : (o : Option ℕ) → list_all p (cons_option o (named_by ns found)) ≡ true → (list_all p (named_by ns found) ≡ true → given_by v ns found ≡ given_by w ns found) → option_and_then v o ∷ given_by v ns found ≡ option_and_then w o ∷ given_by w ns found
    by None h rest = ap (λ (xs : List (Option ℤ)). None ∷ xs) (rest h)
    by (Some j) h rest = (let a = and_true (p j) (list_all p (named_by ns found)) h in λ i. same j a.0 i ∷ rest a.1 i)

-- where something that is named isn't in p, and none that isn't has a value, a value is missing
pub lacks : (v : ℕ → Option ℤ) (p : ℕ → Bool) (ns : List Name) (found : List Found) → list_all p (named_by ns found) ≡ false → ((j : ℕ) → p j ≡ false → v j ≡ None) → list_any is_none (given_by v ns found) ≡ true
lacks v p ns [] all none = absurd cc
lacks v p ns (x ∷ found) all none = by (named ns x) all (λ h. lacks v p ns found h none)
  where
    at : (j : ℕ) (b : Bool) → p j ≡ b → (p j && list_all p (named_by ns found)) ≡ false → (list_all p (named_by ns found) ≡ false → list_any is_none (given_by v ns found) ≡ true) → list_any is_none (v j ∷ given_by v ns found) ≡ true
    at j false e h rest = ap (λ (o : Option ℤ). is_none o || list_any is_none (given_by v ns found)) (none j e)
    at j true e h rest = or_true (is_none (v j)) _ (rest (sym (ap (λ b. b && list_all p (named_by ns found)) e) ∙ h))

    by : (o : Option ℕ) → list_all p (cons_option o (named_by ns found)) ≡ false → (list_all p (named_by ns found) ≡ false → list_any is_none (given_by v ns found) ≡ true) → list_any is_none (option_and_then v o ∷ given_by v ns found) ≡ true
    by None h rest = refl
    by (Some j) h rest = at j (p j) refl h rest

-- ---- One value more.

pub got_set : {A : Type 0} (xs : List A) (i : ℕ) (x : A) → i < length xs → slice_get (set xs i x) i ≡ Some x
got_set [] i x l = absurd (omega (arith, l))
got_set (y ∷ xs) zero x l = refl
got_set (y ∷ xs) (suc i) x l = got_set xs i x (omega (arith, l))

-- another element, or the one at i
pub got_other : {A : Type 0} (xs : List A) (i j : ℕ) (x : A) → (j ≡ i) ⊎ (slice_get (set xs i x) j ≡ slice_get xs j)
got_other [] i j x = inr refl
got_other (y ∷ xs) zero zero x = inl refl
got_other (y ∷ xs) zero (suc j) x = inr refl
got_other (y ∷ xs) (suc i) zero x = inr refl
got_other (y ∷ xs) (suc i) (suc j) x = elim (got_other xs i j x) [ inl e ↦ inl (ap (λ n. suc n) e) | inr e ↦ inr e ]

pub done_set : (values : Values) (i : ℕ) (c : Const) → is_open values i ≡ true → done (set values i (Some c)) ≡ done values + 1
done_set [] i c e = absurd cc
done_set (None ∷ values) zero c e = refl
done_set (Some d ∷ values) zero c e = absurd cc
done_set (None ∷ values) (suc i) c e = done_set values i c e
done_set (Some d ∷ values) (suc i) c e = ap (λ n. n + 1) (done_set values i c e)

pub done_le : (values : Values) → done values ≤ length values
done_le [] = omega arith
done_le (None ∷ values) = omega (arith, done_le values)
done_le (Some d ∷ values) = omega (arith, done_le values)

pub none_done : (known : List Entry) → done (opens known) ≡ 0
none_done [] = refl
none_done (e ∷ known) = none_done known

pub none_at : (known : List Entry) (i : ℕ) → is_done (opens known) i ≡ false
none_at [] i = refl
none_at (e ∷ known) zero = refl
none_at (e ∷ known) (suc i) = none_at known i

pub open_is : (values : Values) (i : ℕ) → is_open values i ≡ true → slice_get values i ≡ Some None
open_is values i e = by (slice_get values i) e
  where
    by : (o : Option (Option Const)) → option_map_or is_none o false ≡ true → o ≡ Some None
    by None h = absurd cc
    by (Some None) h = refl
    by (Some (Some c)) h = absurd cc

pub done_is : (values : Values) (i : ℕ) → is_done values i ≡ true → (c : Const) × (slice_get values i ≡ Some (Some c))
done_is values i e = by (slice_get values i) e
  where
    by : (o : Option (Option Const)) → option_map_or is_some o false ≡ true → (c : Const) × (o ≡ Some (Some c))
    by None h = absurd cc
    by (Some None) h = absurd cc
    by (Some (Some c)) h = (c, refl)

pub is_done_by : (values : Values) (i : ℕ) (c : Const) → slice_get values i ≡ Some (Some c) → is_done values i ≡ true
is_done_by values i c e = ap (λ (o : Option (Option Const)). option_map_or is_some o false) e

-- what is in a list is in p, where all of the list is
pub all_weaker : (p q : ℕ → Bool) (xs : List ℕ) → ((j : ℕ) → p j ≡ true → q j ≡ true) → list_all p xs ≡ true → list_all q xs ≡ true
all_weaker p q [] so all = refl
all_weaker p q (x ∷ xs) so all = (let a = and_true (p x) (list_all p xs) all in λ i. (so x a.0 ∙ refl) i && all_weaker p q xs so a.1 i)
