-- Lists: where they begin, where they are cut, and their ends.
use Rattle.std.proofs.Common.{◌≡◌, ℕ, ◌+◌, ◌-◌, ◌<◌, ◌⊎◌, inl, inr, List, [], ◌∷◌, ◌++◌, map, length, Some, refl, sym, ap, ◌∙◌, take, drop, get_or, add-one, arith, append-nil, length-append}
use Rattle.std.proofs.Math.Seq.{take-suc, drop-cons, drop-append_seam}
use Rattle.std.proofs.lemmas.List.{take-append-drop}

pub some_same : {X : Type 0} {x y : X} → Some x ≡ Some y → x ≡ y
some_same e = cc

pub cons_same : {A : Type 0} {x y : A} {u v : List A} → x ≡ y → u ≡ v → x ∷ u ≡ y ∷ v
cons_same e f = λ i. e i ∷ f i

pub same_head : {A : Type 0} {x y : A} {u v : List A} → x ∷ u ≡ y ∷ v → x ≡ y
same_head e = cc

pub same_rest : {A : Type 0} {x y : A} {u v : List A} → x ∷ u ≡ y ∷ v → u ≡ v
same_rest e = cc

pub no_tokens : {A : Type 0} {t : A} {r : List A} → [] ≡ t ∷ r → ⊥
no_tokens e = cc

-- where a list that two lists make is cut otherwise
pub cut_at : {A : Type 0} (a b p c : List A) → a ++ b ≡ p ++ c → ((q : List A) × (a ≡ p ++ q) × (c ≡ q ++ b)) ⊎ ((q : List A) × (p ≡ a ++ q) × (b ≡ q ++ c))
cut_at a b [] c z = inl (a, refl, sym z)
cut_at [] b (y ∷ p) c z = inr (y ∷ p, refl, z)
cut_at {A} (x ∷ a) b (y ∷ p) c z = elim (cut_at a b p c (same_rest z)) [
  | inl q ↦ inl (q.0, cons_same (same_head z) q.1, q.2)
  | inr q ↦ inr (q.0, cons_same (sym (same_head z)) q.1, q.2)
]

-- where a list with one more is cut
pub cut : {A : Type 0} (xs : List A) (x : A) (before : List A) (y : A) (rest : List A) → xs ++ x ∷ [] ≡ before ++ y ∷ rest → ((before ≡ xs) × (y ≡ x)) ⊎ ((more : List A) × (xs ≡ before ++ y ∷ more))
cut {A} xs x before y rest e = elim (cut_at xs (x ∷ []) before (y ∷ rest) e) [ inl p ↦ left p.0 p.1 p.2 | inr p ↦ right p.0 p.1 p.2 ]
  where
    left : (q : List A) → xs ≡ before ++ q → y ∷ rest ≡ q ++ x ∷ [] → ((before ≡ xs) × (y ≡ x)) ⊎ ((more : List A) × (xs ≡ before ++ y ∷ more))
    left [] f g = inl (sym (f ∙ append-nil before), same_head g)
    left (z ∷ q) f g = inr (q, f ∙ ap (λ w. before ++ w ∷ q) (sym (same_head g)))

    right : (q : List A) → before ≡ xs ++ q → x ∷ [] ≡ q ++ y ∷ rest → ((before ≡ xs) × (y ≡ x)) ⊎ ((more : List A) × (xs ≡ before ++ y ∷ more))
    right [] f g = inl (f ∙ append-nil xs, sym (same_head g))
    right (z ∷ []) f g = absurd (no_tokens (same_rest g))
    right (z ∷ w ∷ q) f g = absurd (no_tokens (same_rest g))

-- the same end, of the same length
pub same_end : {A : Type 0} (a b u v : List A) → a ++ u ≡ b ++ v → length u ≡ length v → u ≡ v
same_end [] [] u v e l = e
same_end [] (y ∷ b) u v e l = absurd (omega (arith, ap length e, length-append b v))
same_end (x ∷ a) [] u v e l = absurd (omega (arith, ap length e, length-append a u))
same_end (x ∷ a) (y ∷ b) u v e l = same_end a b u v (same_rest e) l

-- what is left of a list is its last part of that length
pub last : {X : Type 0} (xs a ys : List X) → xs ≡ a ++ ys → drop (length xs - length ys) xs ≡ ys
last xs a ys e =
    let n : length xs - length ys ≡ length a = omega (arith, ap length e, length-append a ys) in
    (λ i. drop (n i) (e i)) ∙ drop-append_seam a ys

-- a list about its element at a place, and up to it
pub about : {X : Type 0} (xs : List X) (i : ℕ) (x : X) → i < length xs → x ≡ get_or xs i x → xs ≡ take i xs ++ x ∷ drop (i + 1) xs
about xs i x h is = sym (take-append-drop i xs) ∙ ap (λ w. take i xs ++ w) (rw (add-one, drop-cons xs i x h, ← is) refl)

pub one_more : {X : Type 0} (xs : List X) (i : ℕ) (x : X) → i < length xs → x ≡ get_or xs i x → take (i + 1) xs ≡ take i xs ++ x ∷ []
one_more xs i x h is = rw (add-one, take-suc xs i x h, ← is) refl

-- where a list that a function makes is cut
pub record Split {X Y : Type 0} (f : X → Y) (xs : List X) (a b : List Y) : Type 0 where
  pub front : List X
  pub back : List X
  pub whole : xs ≡ front ++ back
  pub one : map f front ≡ a
  pub other : map f back ≡ b

pub split : {X Y : Type 0} (f : X → Y) (xs : List X) (a b : List Y) → map f xs ≡ a ++ b → Split f xs a b
split f xs [] b e = record { front = []; back = xs; whole = refl; one = refl; other = e }
split f [] (y ∷ a) b e = absurd (no_tokens e)
split f (x ∷ xs) (y ∷ a) b e =
    let r = split f xs a b (same_rest e) in
    record { front = x ∷ r.front; back = r.back; whole = cons_same refl r.whole; one = cons_same (same_head e) r.one; other = r.other }
