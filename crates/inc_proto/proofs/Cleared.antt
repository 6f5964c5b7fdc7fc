-- A clear `Look` among steps that are kept in their order.
use Rattle.std.specs.Prelude.{◌≡◌, ◌⊎◌, ◌++◌, ◌<◌, ◌+◌, ℕ, zero, suc, [], ◌∷◌, length, reverse, drop}
use Rattle.std.proofs.Common.{ap, sym, ◌∙◌, subst, inl, inr, append_assoc, add-one, arith, get_or}
use Rattle.std.proofs.lemmas.List.{reverse-append, reverse-reverse}
use Rattle.inc_fs.specs.Paths.{Text}
use Rattle.inc_fs.specs.declared.op.Op.{Op}
use Rattle.inc_fs.specs.declared.op.Reply.{Reply}
use Rattle.inc_names.specs.declared.session.SessionName.{SessionName}
use Rattle.inc_proto.specs.Events.{Steps}
use Rattle.inc_proto.specs.Clears.{IsClearLook, HasClearLook}

-- the same, the oldest first
abbrev pub HasClearIn : Text → SessionName → Steps → Type 0
HasClearIn krate n [] = ⊥
HasClearIn krate n (x ∷ xs) = IsClearLook krate n x (reverse xs) ⊎ HasClearIn krate n xs

clear_right : (krate : Text) (n : SessionName) (xs ys : Steps) → HasClearIn krate n ys → HasClearIn krate n (xs ++ ys)
clear_right krate n [] ys is = is
clear_right krate n (x ∷ xs) ys is = inr (clear_right krate n xs ys is)

pub clear_in : (krate : Text) (n : SessionName) (xs : Steps) → HasClearLook krate n (reverse xs) → HasClearIn krate n xs
clear_in krate n xs w =
    let later = w.0 in
    let earlier = w.1 in
    let step = w.2 in
    let turned : xs ≡ reverse (step ∷ earlier) ++ reverse later = sym (reverse-reverse xs) ∙ ap reverse w.3 ∙ reverse-append later (step ∷ earlier) in
    let first : reverse (step ∷ earlier) ≡ reverse earlier ++ step ∷ [] = reverse-append (step ∷ []) earlier in
    let whole : xs ≡ reverse earlier ++ (step ∷ reverse later) = turned ∙ ap (λ ys. ys ++ reverse later) first ∙ append_assoc (reverse earlier) (step ∷ []) (reverse later) in
    subst (HasClearIn krate n) (sym whole)
    (clear_right krate n (reverse earlier) (step ∷ reverse later) (inl (subst (IsClearLook krate n step) (sym (reverse-reverse later)) w.4)))

clear_look : (krate : Text) (n : SessionName) (xs : Steps) → HasClearIn krate n xs → HasClearLook krate n (reverse xs)
clear_look krate n [] is = absurd is
clear_look krate n (x ∷ xs) (inl is) = (reverse xs, [], x, reverse-append (x ∷ []) xs, is)
clear_look krate n (x ∷ xs) (inr is) =
    let w = clear_look krate n xs is in
    (w.0, w.1 ++ x ∷ [], w.2, reverse-append (x ∷ []) xs ∙ ap (λ ys. ys ++ x ∷ []) w.3 ∙ append_assoc w.0 (w.2 ∷ w.1) (x ∷ []), w.4)

clear_at : (krate : Text) (n : SessionName) (xs : Steps) (i : ℕ) (d : Op × Reply) → i < length xs → IsClearLook krate n (get_or xs i d) (reverse (drop (suc i) xs)) → HasClearIn krate n xs
clear_at krate n [] i d within is = absurd (omega arith)
clear_at krate n (x ∷ xs) zero d within is = inl is
clear_at krate n (x ∷ xs) (suc i) d within is = inr (clear_at krate n xs i d (omega arith) is)

clear_later : (krate : Text) (n : SessionName) (xs : Steps) (i : ℕ) (d : Op × Reply) → i < length xs → (IsClearLook krate n (get_or xs i d) (reverse (drop (suc i) xs)) → ⊥)
    → HasClearIn krate n (drop i xs) → HasClearIn krate n (drop (suc i) xs)
clear_later krate n [] i d within off is = absurd (omega arith)
clear_later krate n (x ∷ xs) zero d within off (inl is) = absurd (off is)
clear_later krate n (x ∷ xs) zero d within off (inr is) = is
clear_later krate n (x ∷ xs) (suc i) d within off is = clear_later krate n xs i d (omega arith) off is

-- the one at i is
pub clear_found : (krate : Text) (n : SessionName) (xs : Steps) (i : ℕ) (item : Op × Reply) → i < length xs → item ≡ get_or xs i item
    → IsClearLook krate n item (reverse (drop (i + 1) xs)) → HasClearLook krate n (reverse xs)
clear_found krate n xs i item within at is =
    let next : IsClearLook krate n item (reverse (drop (suc i) xs)) = subst (λ m. IsClearLook krate n item (reverse (drop m xs))) (add-one i) is in
    clear_look krate n xs (clear_at krate n xs i item within (subst (λ x. IsClearLook krate n x (reverse (drop (suc i) xs))) at next))

-- the one at i isn't, so it is one of those after it
pub clear_next : (krate : Text) (n : SessionName) (xs : Steps) (i : ℕ) (item : Op × Reply) → i < length xs → item ≡ get_or xs i item
    → (IsClearLook krate n item (reverse (drop (i + 1) xs)) → ⊥) → HasClearIn krate n (drop i xs) → HasClearIn krate n (drop (i + 1) xs)
clear_next krate n xs i item within at off has =
    let e : i + 1 ≡ suc i = add-one i in
    let not_it : IsClearLook krate n (get_or xs i item) (reverse (drop (suc i) xs)) → ⊥ = λ is.
    off (subst (λ m. IsClearLook krate n item (reverse (drop m xs))) (sym e) (subst (λ x. IsClearLook krate n x (reverse (drop (suc i) xs))) (sym at) is)) in
    subst (λ m. HasClearIn krate n (drop m xs)) (sym e) (clear_later krate n xs i item within not_it has)
