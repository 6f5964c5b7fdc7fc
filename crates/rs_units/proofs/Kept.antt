-- Calls that are kept, of one function more and of all.
use Rattle.std.proofs.Common.{◌≡◌, ℕ, ◌+◌, ◌<◌, inl, inr, zero, suc, List, [], ◌∷◌, ◌++◌, length, Option, Some, None, Vec, Global, refl, sym, ap, ◌∙◌, arith}
use Rattle.std.specs.Prelude.{slice_get, option_and_then}
use Rattle.std.specs.Option.{option_map}
use Rattle.std.proofs.lemmas.Bool.{cases_lt}
use Rattle.std.proofs.lemmas.Option.{slice_get_past}
use Rattle.rs_tree.specs.declared.place.Place.{Place}
use Rattle.rs_lookup.specs.Places.{Name}
use Rattle.rs_reach.specs.Places.{ask, numbers, calls_at}
use Rattle.rs_units.specs.Ready.{kept}

got_last : {X : Type 0} (xs : List X) (x : X) → slice_get (xs ++ x ∷ []) (length xs) ≡ Some x
got_last [] x = refl
got_last (y ∷ xs) x = got_last xs x

front : {X : Type 0} (xs ys : List X) (k : ℕ) → k < length xs → slice_get (xs ++ ys) k ≡ slice_get xs k
front [] ys k l = absurd (omega (arith, l))
front (x ∷ xs) ys zero l = refl
front (x ∷ xs) ys (suc k) l = front xs ys k (omega (arith, l))

-- one more
pub kept_more : (asks : ℕ → Option (List ℕ)) (its all : List (Option (Vec ℕ Global))) (o : Option (Vec ℕ Global)) (i : ℕ) → all ≡ its ++ o ∷ [] → length its ≡ i
    → option_map (λ (v : Vec ℕ Global). v.items) o ≡ asks i → ((k : ℕ) → k < i → kept its k ≡ asks k) → (k : ℕ) → k < i + 1 → kept all k ≡ asks k
kept_more asks its all o i is count at each k less = elim (cases_lt k i) [
  | inl l ↦ ap (λ xs. kept xs k) is ∙ ap (option_and_then value) (front its (o ∷ []) k (omega (arith, l, count))) ∙ each k l
  | inr l ↦
      (let here : k ≡ length its = omega (arith, l, less, count) in
      let there : i ≡ k = omega (arith, l, less) in
      ap (λ xs. kept xs k) is ∙ ap (λ n. kept (its ++ o ∷ []) n) here ∙ ap (option_and_then value) (got_last its o) ∙ at ∙ ap asks there)
]
  where
    value : Option (Vec ℕ Global) → Option (List ℕ)
    value = option_map (λ (v : Vec ℕ Global). v.items)

-- past the last item nothing is asked, and nothing is kept
pub kept_all : (names : List Name) (calls : List (Place × List Place)) (its : List (Option (Vec ℕ Global))) → length its ≡ length names → ((k : ℕ) → k < length names → kept its k ≡ ask names calls k) → (k : ℕ) → kept its k ≡ ask names calls k
kept_all names calls its long each k = elim (cases_lt k (length names)) [
  | inl l ↦ each k l
  | inr l ↦
      (let none : slice_get its k ≡ None = slice_get_past its k (omega (arith, l, long)) in
      let past : slice_get names k ≡ None = slice_get_past names k l in
      ap (option_and_then (option_map (λ (v : Vec ℕ Global). v.items))) none
      ∙ sym (ap (λ o. option_map (numbers names) (option_and_then (calls_at calls) o)) past))
]
