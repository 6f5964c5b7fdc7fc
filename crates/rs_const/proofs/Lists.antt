-- Lists one element on.
use Rattle.std.proofs.Common.{◌≡◌, ℕ, ◌+◌, ◌<◌, List, [], ◌∷◌, ◌++◌, length, get_or, take, Option, Some, refl, sym, ap, ◌∙◌, arith}
use Rattle.std.specs.Prelude.{map, Bool, true, false, if◌then◌else◌, slice_get}
use Rattle.std.specs.List.{cons_option, filter_map}
use Rattle.std.proofs.lemmas.Option.{slice_get-get_or}
use Rattle.rs_lookup.specs.Places.{Name, same, place_from}
use Rattle.std.proofs.lemmas.List.{take_more}
use Rattle.std.proofs.lemmas.List.Elements.{filter_map-append}

pub filtered_more : {X Y : Type 0} (h : X → Option Y) (xs : List X) (i : ℕ) (x : X) (o : Option Y) → i < length xs → x ≡ get_or xs i x → o ≡ h x → filter_map h (take (i + 1) xs) ≡ filter_map h (take i xs) ++ cons_option o []
filtered_more h xs i x o l is has =
    ap (filter_map h) (take_more xs i x l)
    ∙ filter_map-append h (take i xs) (get_or xs i x ∷ [])
    ∙ (λ j. filter_map h (take i xs) ++ cons_option ((ap h (sym is) ∙ sym has) j) [])

pub same_marks : {A B C : Type 0} (c : C) (xs : List A) (ys : List B) → length xs ≡ length ys → map (λ x. c) xs ≡ map (λ y. c) ys
same_marks c [] [] e = refl
same_marks c [] (y ∷ ys) e = absurd (omega (arith, e))
same_marks c (x ∷ xs) [] e = absurd (omega (arith, e))
same_marks c (x ∷ xs) (y ∷ ys) e = ap (λ cs. c ∷ cs) (same_marks c xs ys (omega (arith, e)))

pub got : {X : Type 0} (xs : List X) (i : ℕ) (x : X) → i < length xs → ((d : X) → x ≡ get_or xs i d) → slice_get xs i ≡ Some x
got xs i x l h = slice_get-get_or xs i x l ∙ ap Some (sym (h x))

pub place_below : (q : Name) (n : ℕ) (ks : List Name) (i : ℕ) → place_from q n ks ≡ Some i → i < n + length ks
place_below q n [] i e = absurd cc
place_below q n (k ∷ ks) i e = by (same q k) e (place_below q (n + 1) ks i)
  where
    by : (b : Bool) → (if b then Some n else place_from q (n + 1) ks) ≡ Some i → (place_from q (n + 1) ks ≡ Some i → i < n + 1 + length ks) → i < n + length (k ∷ ks)
    by true e rest = (let at : n ≡ i = cc in omega (arith, at))
    by false e rest = omega (arith, rest e)
