-- Where each is above the one before, the keys are sorted strictly, and the other way.
use Rattle.std.proofs.Common.{◌≡◌, ◌&&◌, Bool, true, false, List, [], ◌∷◌, Some, None, Decides, map, refl, ap, ◌∙◌}
use Rattle.std.specs.List.{AllByRecursion}
use Rattle.std.specs.List.Sorted.{IsStrictlySortedBy}
use Rattle.std.specs.Cmp.{IsTotalOrder}
use Rattle.std.specs.declared.cmp.Ordering.{Ordering}
use Rattle.std.specs.declared.cmp.Ordering.TheVariants.{Less}
use Rattle.inc_graph.specs.Order.{ascends}

pub both_of : (a b : Bool) → (a && b) ≡ true → (a ≡ true) × (b ≡ true)
both_of true b e = (refl, e)
both_of false b e = absurd (cc)

pub both_true : {a b : Bool} → a ≡ true → b ≡ true → (a && b) ≡ true
both_true {a} {b} p q = ap (λ c. c && b) p ∙ q

weaker_each : {K : Type 0} (P Q : K → Type 0) → ((x : K) → P x → Q x) → (xs : List K) → AllByRecursion P xs → AllByRecursion Q xs
weaker_each P Q f [] h = tt
weaker_each P Q f (x ∷ xs) h = (f x h.0, weaker_each P Q f xs h.1)

module _ {X K : Type 0} (R : K → K → Ordering) (o : IsTotalOrder R) (key : X → K) (below : X → X → Bool) (tells : (x y : X) → Decides (below x y) (R (key x) (key y) ≡ Less)) where
  sorted_after : (x : X) (xs : List X) → ascends below (Some x) xs ≡ true → IsStrictlySortedBy R (key x ∷ map key xs)
  unfolding IsStrictlySortedBy
  sorted_after x [] e = (tt, tt)
  sorted_after x (y ∷ ys) e =
      let parts = both_of (below x y) (ascends below (Some y) ys) e in
      let first = (tells x y).0 parts.0 in
      let rest = sorted_after y ys parts.1 in
      ((first, weaker_each (λ z. R (key y) z ≡ Less) (λ z. R (key x) z ≡ Less) (λ z h. o.trans (key x) (key y) z first h) (map key ys) rest.0), rest)

  ascends_after : (x : X) (xs : List X) → IsStrictlySortedBy R (key x ∷ map key xs) → ascends below (Some x) xs ≡ true
  unfolding IsStrictlySortedBy
  ascends_after x [] s = refl
  ascends_after x (y ∷ ys) s = both_true ((tells x y).1 s.0.0) (ascends_after y ys s.1)

  pub ascends_decides : (xs : List X) → Decides (ascends below None xs) (IsStrictlySortedBy R (map key xs))
  unfolding IsStrictlySortedBy
  ascends_decides [] = (λ e. tt, λ s. refl)
  ascends_decides (x ∷ xs) = (λ e. sorted_after x xs e, λ s. ascends_after x xs s)
