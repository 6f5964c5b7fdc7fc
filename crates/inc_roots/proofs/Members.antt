-- Elements of lists.
use Rattle.std.proofs.Common.{◌≡◌, ℕ, zero, suc, ◌<◌, ◌⊎◌, inl, inr, Bool, true, false, List, [], ◌∷◌, ◌++◌, length, refl, sym, ◌∙◌, ap, subst, arith, if◌then◌else◌}
use Rattle.std.specs.Prelude.{filter, slice_index_or}
use Rattle.std.specs.List.{All, AllByRecursion, Contains, flat_map}
use Rattle.std.proofs.lemmas.List.Elements.{recursion_from_All}

-- it is one of them
abbrev pub IsIn : {X : Type 0} → List X → X → Type 0
IsIn [] q = ⊥
IsIn (x ∷ xs) q = (x ≡ q) ⊎ IsIn xs q

at_place : {X : Type 0} (xs : List X) (q : X) (k : ℕ) → (k < length xs) × (slice_index_or xs k q ≡ q) → IsIn xs q
at_place [] q k h = absurd (omega (arith, h.0))
at_place (x ∷ xs) q zero h = inl h.1
at_place (x ∷ xs) q (suc k) h = inr (at_place xs q k (omega (arith, h.0), h.1))

pub in_from : {X : Type 0} (xs : List X) (q : X) → Contains xs q → IsIn xs q
in_from xs q h = at_place xs q h.0 (h.1, h.2)

pub in_left : {X : Type 0} (xs ys : List X) (q : X) → IsIn xs q → IsIn (xs ++ ys) q
in_left [] ys q h = absurd h
in_left (x ∷ xs) ys q (inl e) = inl e
in_left (x ∷ xs) ys q (inr h) = inr (in_left xs ys q h)

pub in_right : {X : Type 0} (xs ys : List X) (q : X) → IsIn ys q → IsIn (xs ++ ys) q
in_right [] ys q h = h
in_right (x ∷ xs) ys q h = inr (in_right xs ys q h)

pub in_either : {X : Type 0} (xs ys : List X) (q : X) → IsIn (xs ++ ys) q → IsIn xs q ⊎ IsIn ys q
in_either [] ys q h = inr h
in_either (x ∷ xs) ys q (inl e) = inl (inl e)
in_either (x ∷ xs) ys q (inr h) = elim (in_either xs ys q h) [ inl l ↦ inl (inr l) | inr r ↦ inr r ]

-- of those that a function gives for some
pub in_flat : {X Y : Type 0} (f : X → List Y) (xs : List X) (x : X) (q : Y) → IsIn xs x → IsIn (f x) q → IsIn (flat_map f xs) q
in_flat f [] x q h k = absurd h
in_flat f (y ∷ ys) x q (inl e) k = in_left (f y) (flat_map f ys) q (subst (λ z. IsIn (f z) q) (sym e) k)
in_flat f (y ∷ ys) x q (inr h) k = in_right (f y) (flat_map f ys) q (in_flat f ys x q h k)

pub from_flat : {X Y : Type 0} (f : X → List Y) (xs : List X) (q : Y) → IsIn (flat_map f xs) q → (x : X) × IsIn xs x × IsIn (f x) q
from_flat f [] q h = absurd h
from_flat f (x ∷ xs) q h = elim (in_either (f x) (flat_map f xs) q h) [
  | inl here ↦ (x, inl refl, here)
  | inr there ↦ (let found = from_flat f xs q there in (found.0, inr found.1, found.2))
]

-- what holds of all holds of one
pub of_one : {X : Type 0} (P : X → Type 0) (xs : List X) (q : X) → AllByRecursion P xs → IsIn xs q → P q
of_one P [] q h k = absurd k
of_one P (x ∷ xs) q h (inl e) = subst P e h.0
of_one P (x ∷ xs) q h (inr k) = of_one P xs q h.1 k

pub of_any : {X : Type 0} (P : X → Type 0) (xs : List X) (q : X) → All P xs → IsIn xs q → P q
of_any P xs q h k = of_one P xs q (recursion_from_All P xs h) k

-- ---- Elements that pass a test.

pub passes_in : {X : Type 0} (p : X → Bool) (xs : List X) (x : X) → IsIn xs x → p x ≡ true → IsIn (filter p xs) x
passes_in p [] x h e = absurd h
passes_in p (y ∷ ys) x h e = go (p y) refl h (λ k. passes_in p ys x k e)
  where
    go : (b : Bool) → p y ≡ b → IsIn (y ∷ ys) x → (IsIn ys x → IsIn (filter p ys) x) → IsIn (if b then y ∷ filter p ys else filter p ys) x
    go true s (inl same) f = inl same
    go true s (inr k) f = inr (f k)
    go false s (inl same) f = absurd (let bad : true ≡ false = sym e ∙ ap p (sym same) ∙ s in cc)
    go false s (inr k) f = f k

pub passes_from : {X : Type 0} (p : X → Bool) (xs : List X) (x : X) → IsIn (filter p xs) x → IsIn xs x × (p x ≡ true)
passes_from p [] x h = absurd h
passes_from p (y ∷ ys) x h = go (p y) refl h (λ k. passes_from p ys x k)
  where
    go : (b : Bool) → p y ≡ b → IsIn (if b then y ∷ filter p ys else filter p ys) x → (IsIn (filter p ys) x → IsIn ys x × (p x ≡ true)) → IsIn (y ∷ ys) x × (p x ≡ true)
    go true s (inl same) f = (inl same, ap p (sym same) ∙ s)
    go true s (inr k) f = (let more = f k in (inr more.0, more.1))
    go false s k f = (let more = f k in (inr more.0, more.1))
