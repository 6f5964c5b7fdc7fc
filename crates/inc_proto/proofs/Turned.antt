-- Lists that are kept in the other direction.
use Rattle.std.proofs.Common.{◌≡◌, List, [], ◌∷◌, ◌++◌, reverse, sym, ap, ◌∙◌}
use Rattle.std.proofs.lemmas.List.{reverse-append, reverse-reverse}

-- what is first is last the other way round
pub first_is_last : {A : Type 0} (xs : List A) (y : A) (ys : List A) → reverse xs ≡ y ∷ ys → xs ≡ reverse ys ++ y ∷ []
first_is_last xs y ys is = sym (reverse-reverse xs) ∙ ap reverse is ∙ reverse-append (y ∷ []) ys

-- and the last is first
pub last_is_first : {A : Type 0} (xs : List A) (y : A) → reverse (xs ++ y ∷ []) ≡ y ∷ reverse xs
last_is_first xs y = reverse-append xs (y ∷ [])
