-- What stands somewhere among steps that are kept in their order.
use Rattle.std.specs.Prelude.{◌≡◌, ◌⊎◌, ◌↔◌, Bool, IsTrue, ◌<◌, ◌+◌, ◌-◌, ◌++◌, ℕ, zero, suc, List, [], ◌∷◌, length, reverse, take, drop}
use Rattle.std.proofs.Common.{ap, sym, ◌∙◌, subst, inl, inr, arith, get_or, length-drop}
use Rattle.std.proofs.lemmas.List.{reverse-append, take_more, take_all}
use Rattle.inc_fs.specs.Lists.{IsIn}
use Rattle.inc_fs.specs.declared.op.Op.{Op}
use Rattle.inc_fs.specs.declared.op.Reply.{Reply}
use Rattle.inc_proto.specs.Events.{Steps}
use Rattle.inc_proto.specs.Views.{HasAny}
use Rattle.inc_proto.proofs.Turned.{last_is_first}

any_left : (P : Op × Reply → Type 0) (xs ys : Steps) → HasAny P xs → HasAny P (xs ++ ys)
any_left P [] ys any = absurd any
any_left P (x ∷ xs) ys (inl is) = inl is
any_left P (x ∷ xs) ys (inr any) = inr (any_left P xs ys any)

any_right : (P : Op × Reply → Type 0) (xs ys : Steps) → HasAny P ys → HasAny P (xs ++ ys)
any_right P [] ys any = any
any_right P (x ∷ xs) ys any = inr (any_right P xs ys any)

-- one of them is such a one
pub any_at : (P : Op × Reply → Type 0) (xs : Steps) (i : ℕ) (d : Op × Reply) → i < length xs → P (get_or xs i d) → HasAny P (reverse xs)
any_at P [] i d within is = absurd (omega arith)
any_at P (x ∷ xs) zero d within is = subst (HasAny P) (sym (reverse-append (x ∷ []) xs)) (any_right P (reverse xs) (x ∷ []) (inl is))
any_at P (x ∷ xs) (suc i) d within is =
    subst (HasAny P) (sym (reverse-append (x ∷ []) xs)) (any_left P (reverse xs) (x ∷ []) (any_at P xs i d (omega arith) is))

-- none of the first i is, nor is the next one
pub none_more : (P : Op × Reply → Type 0) (xs : Steps) (i : ℕ) (d : Op × Reply) → i < length xs → (HasAny P (reverse (take i xs)) → ⊥) → (P (get_or xs i d) → ⊥)
    → HasAny P (reverse (take (i + 1) xs)) → ⊥
none_more P xs i d within before off any =
    go (subst (HasAny P) (last_is_first (take i xs) (get_or xs i d)) (subst (λ ys. HasAny P (reverse ys)) (take_more xs i d within) any))
  where
    go : P (get_or xs i d) ⊎ HasAny P (reverse (take i xs)) → ⊥
    go (inl is) = off is
    go (inr any) = before any

-- ---- The same for a list as it stands.

pub in_left : {X : Type 0} (xs ys : List X) (x : X) → IsIn xs x → IsIn (xs ++ ys) x
in_left [] ys x is = absurd is
in_left (y ∷ xs) ys x (inl is) = inl is
in_left (y ∷ xs) ys x (inr is) = inr (in_left xs ys x is)

pub in_right : {X : Type 0} (xs ys : List X) (x : X) → IsIn ys x → IsIn (xs ++ ys) x
in_right [] ys x is = is
in_right (y ∷ xs) ys x is = inr (in_right xs ys x is)

pub in_either : {X : Type 0} (xs ys : List X) (x : X) → IsIn (xs ++ ys) x → IsIn xs x ⊎ IsIn ys x
in_either [] ys x is = inr is
in_either (y ∷ xs) ys x (inl is) = inl (inl is)
in_either (y ∷ xs) ys x (inr is) = elim (in_either xs ys x is) [ inl here ↦ inl (inr here) | inr there ↦ inr there ]

pub in_end : {X : Type 0} (xs : List X) (y x : X) → y ≡ x → IsIn (xs ++ y ∷ []) x
in_end [] y x is = inl is
in_end (z ∷ xs) y x is = inr (in_end xs y x is)

pub in_at : {X : Type 0} (xs : List X) (i : ℕ) (d x : X) → i < length xs → get_or xs i d ≡ x → IsIn xs x
in_at [] i d x within is = absurd (omega arith)
in_at (y ∷ xs) zero d x within is = inl is
in_at (y ∷ xs) (suc i) d x within is = inr (in_at xs i d x (omega arith) is)

pub in_last : {X : Type 0} (xs : List X) (y x : X) → IsIn (xs ++ y ∷ []) x → IsIn xs x ⊎ (y ≡ x)
in_last [] y x (inl is) = inr is
in_last [] y x (inr is) = absurd is
in_last (z ∷ xs) y x (inl is) = inl (inl is)
in_last (z ∷ xs) y x (inr is) = go (in_last xs y x is)
  where
    go : IsIn xs x ⊎ (y ≡ x) → (((z ≡ x) ⊎ IsIn xs x) ⊎ (y ≡ x))
    go (inl is) = inl (inr is)
    go (inr is) = inr is

pub in_more : {X : Type 0} (xs : List X) (i : ℕ) (d x : X) → i < length xs → IsIn (take (i + 1) xs) x → IsIn (take i xs) x ⊎ (get_or xs i d ≡ x)
in_more xs i d x within is = in_last (take i xs) (get_or xs i d) x (subst (λ ys. IsIn ys x) (take_more xs i d within) is)

-- ---- Folds over steps that are kept in their order.

-- the next one comes first
pub next_first : (xs : Steps) (i : ℕ) (d : Op × Reply) → i < length xs → reverse (take (i + 1) xs) ≡ get_or xs i d ∷ reverse (take i xs)
next_first xs i d within = ap reverse (take_more xs i d within) ∙ last_is_first (take i xs) (get_or xs i d)

-- a fold over the first i, brought forward by the next one
pub fold_next : {X : Type 0} (f : Steps → X) (after : Op × Reply → X → X) → ((s : Op × Reply) (ss : Steps) → f (s ∷ ss) ≡ after s (f ss))
    → (xs : Steps) (i : ℕ) (x : Op × Reply) (before now : X) → i < length xs → x ≡ get_or xs i x
    → before ≡ f (reverse (take i xs)) → now ≡ after x before → now ≡ f (reverse (take (i + 1) xs))
fold_next f after by xs i x before now within at was is =
    is ∙ ap (after x) was ∙ sym (by x (reverse (take i xs))) ∙ ap (λ y. f (y ∷ reverse (take i xs))) at ∙ sym (ap f (next_first xs i x within))

-- a test of the first i, brought forward by the next one
pub test_next : (P : Steps → Type 0) (xs : Steps) (i : ℕ) (x : Op × Reply) (before now : Bool) → i < length xs → x ≡ get_or xs i x
    → (IsTrue before ↔ P (reverse (take i xs))) → ((steps : Steps) → (IsTrue before ↔ P steps) → (IsTrue now ↔ P (x ∷ steps)))
    → IsTrue now ↔ P (reverse (take (i + 1) xs))
test_next P xs i x before now within at was step =
    subst (λ ys. IsTrue now ↔ P ys) (ap (λ y. y ∷ reverse (take i xs)) at ∙ sym (next_first xs i x within)) (step (reverse (take i xs)) was)

-- one more isn't the one that is looked for
pub not_in_more : {X : Type 0} (xs : List X) (i : ℕ) (item x : X) → i < length xs → item ≡ get_or xs i item → (IsIn (take i xs) x → ⊥) → (item ≡ x → ⊥)
    → IsIn (take (i + 1) xs) x → ⊥
not_in_more {X = X} xs i item x within at before off is = go (in_more xs i item x within is)
  where
    go : IsIn (take i xs) x ⊎ (get_or xs i item ≡ x) → ⊥
    go (inl is) = before is
    go (inr same) = off (at ∙ same)

-- ---- The rest of a list as a slice.

pub rest_whole : {X : Type 0} (m : ℕ) (xs : List X) → take (length xs - m) (drop m xs) ≡ drop m xs
rest_whole m xs = take_all (length xs - m) (drop m xs) (let e : length (drop m xs) ≡ length xs - m = length-drop m xs in omega (arith, e))
