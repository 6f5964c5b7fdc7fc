-- Values that are read one after the other.
use Rattle.std.proofs.Common.{◌≡◌, ℕ, zero, suc, ◌<◌, List, [], ◌∷◌, ◌++◌, length, get_or, refl, ap, arith}
use Rattle.std.specs.List.{AllZip}

-- ---- Lists side by side.

pub same_length : {A B : Type 0} (R : A → B → Type 0) (xs : List A) (ys : List B) → AllZip R xs ys → length xs ≡ length ys
same_length R [] [] h = refl
same_length R [] (y ∷ ys) h = absurd h
same_length R (x ∷ xs) [] h = absurd h
same_length R (x ∷ xs) (y ∷ ys) h = ap suc (same_length R xs ys h.1)

pub one_more : {A B : Type 0} (R : A → B → Type 0) (xs : List A) (ys : List B) (x : A) (y : B) → AllZip R xs ys → R x y → AllZip R (xs ++ x ∷ []) (ys ++ y ∷ [])
one_more R [] [] x y h r = (r, tt)
one_more R [] (z ∷ ys) x y h r = absurd h
one_more R (z ∷ xs) [] x y h r = absurd h
one_more R (z ∷ xs) (w ∷ ys) x y h r = (h.0, one_more R xs ys x y h.1 r)

pub at_place : {A B : Type 0} (R : A → B → Type 0) (xs : List A) (ys : List B) (i : ℕ) (x : A) (y : B) → AllZip R xs ys → i < length xs → R (get_or xs i x) (get_or ys i y)
at_place R [] ys i x y h l = absurd (omega (arith, l))
at_place R (z ∷ xs) [] i x y h l = absurd h
at_place R (z ∷ xs) (w ∷ ys) zero x y h l = h.0
at_place R (z ∷ xs) (w ∷ ys) (suc i) x y h l = at_place R xs ys i x y h.1 (omega (arith, l))
