-- The first place of a name, and the calls of a function by its name.
use Rattle.std.proofs.Common.{◌≡◌, ℕ, ◌+◌, zero, suc, Bool, true, false, cond, List, [], ◌∷◌, ◌++◌, Option, Some, None, refl, sym, ap, ◌∙◌, arith}
use Rattle.std.specs.Prelude.{slice_get, option_and_then, if◌then◌else◌}
use Rattle.std.specs.Option.{option_map, option_or}
use Rattle.std.specs.Str.{bytes_eq}
use Rattle.std.proofs.lemmas.Bool.{and_from, and_parts}
use Rattle.std.proofs.lemmas.Option.{none-some, same_Some}
use Rattle.std.proofs.lemmas.Slice.Eq.{bytes_eq-Decides}
use Rattle.rs_tree.specs.declared.place.Place.{Place}
use Rattle.rs_lookup.specs.Places.{Name, place_from, place_name, same}
use Rattle.rs_reach.specs.Places.{call_names, calls_at}

pub same_names : (a b : Name) → same a b ≡ true → a ≡ b
same_names a b e =
    let both = and_parts (bytes_eq a.0 b.0) (bytes_eq a.1 b.1) e in
    λ j. ((bytes_eq-Decides a.0 b.0).0 both.0 j, (bytes_eq-Decides a.1 b.1).0 both.1 j)

pub names_same : (a b : Name) → a ≡ b → same a b ≡ true
names_same a b e = and_from (bytes_eq a.0 b.0) (bytes_eq a.1 b.1) ((bytes_eq-Decides a.0 b.0).1 (ap (λ (n : Name). n.0) e)) ((bytes_eq-Decides a.1 b.1).1 (ap (λ (n : Name). n.1) e))

-- the first place of a name has it
placed_from : (q : Name) (i : ℕ) (names : List Name) (k : ℕ) → place_from q i names ≡ Some k → (j : ℕ) × (k ≡ i + j) × (slice_get names j ≡ Some q)
placed_from q i [] k e = absurd (none-some k e)
placed_from q i (n ∷ names) k e = by (same q n) refl e (placed_from q (i + 1) names k)
  where
    by : (b : Bool) → same q n ≡ b → cond b (Some i) (place_from q (i + 1) names) ≡ Some k → (place_from q (i + 1) names ≡ Some k → (j : ℕ) × (k ≡ i + 1 + j) × (slice_get names j ≡ Some q)) → (j : ℕ) × (k ≡ i + j) × (slice_get (n ∷ names) j ≡ Some q)
    by true is e later = (let here : i ≡ k = same_Some i k e in (0, omega (arith, here), ap Some (sym (same_names q n is))))
    by false is e later = (let more = later e in (suc more.0, omega (arith, more.1), more.2))

pub placed_at : (q : Name) (names : List Name) (k : ℕ) → place_from q 0 names ≡ Some k → slice_get names k ≡ Some q
placed_at q names k e = (let its = placed_from q 0 names k e in let here : k ≡ its.0 = omega (arith, its.1) in ap (slice_get names) here ∙ its.2)

-- and a name that is there has a first place
pub some_place : (q : Name) (i : ℕ) (names : List Name) (j : ℕ) → slice_get names j ≡ Some q → (k : ℕ) × (place_from q i names ≡ Some k)
some_place q i [] j e = absurd (none-some q e)
some_place q i (n ∷ names) zero e = (i, ap (λ b. cond b (Some i) (place_from q (i + 1) names)) (names_same q n (sym (same_Some n q e))))
some_place q i (n ∷ names) (suc j) e = by (same q n) (some_place q (i + 1) names j e)
  where
    by : (b : Bool) → (k : ℕ) × (place_from q (i + 1) names ≡ Some k) → (k : ℕ) × (cond b (Some i) (place_from q (i + 1) names) ≡ Some k)
    by true more = (i, refl)
    by false more = more

-- counted from one more
one_later : (q : Name) (i : ℕ) (names : List Name) → place_from q (i + 1) names ≡ option_map suc (place_from q i names)
one_later q i [] = refl
one_later q i (n ∷ names) = by (same q n) (one_later q (i + 1) names)
  where
    by : (b : Bool) → place_from q (i + 1 + 1) names ≡ option_map suc (place_from q (i + 1) names) → cond b (Some (i + 1)) (place_from q (i + 1 + 1) names) ≡ option_map suc (cond b (Some i) (place_from q (i + 1) names))
    by true h = (let next : i + 1 ≡ suc i = omega arith in ap Some next)
    by false h = h

-- ---- Calls by the name of the function.

next_calls : (k : Name) (c : Place × List Place) (calls : List (Place × List Place)) → calls_at (c ∷ calls) k ≡ (if same k (place_name c.0) then Some c.1 else calls_at calls k)
next_calls k c calls = by (same k (place_name c.0))
  where
    its : List (Place × List Place) → ℕ → Option (List Place)
    its cs j = option_map (λ (c : Place × List Place). c.1) (slice_get cs j)

    later : (o : Option ℕ) → option_and_then (λ j. option_map (λ (c : Place × List Place). c.1) (slice_get (c ∷ calls) j)) (option_map suc o) ≡ option_and_then (λ j. option_map (λ (c : Place × List Place). c.1) (slice_get calls j)) o
    later None = refl
    later (Some j) = refl

    by : (b : Bool) → option_and_then (λ j. option_map (λ (c : Place × List Place). c.1) (slice_get (c ∷ calls) j)) (cond b (Some 0) (place_from k 1 (call_names calls))) ≡ cond b (Some c.1) (calls_at calls k)
    by true = refl
    by false = ap (option_and_then (λ j. option_map (λ (c : Place × List Place). c.1) (slice_get (c ∷ calls) j))) (one_later k 0 (call_names calls)) ∙ later (place_from k 0 (call_names calls))

-- with one more function's
pub calls_more : (k : Name) (calls : List (Place × List Place)) (p : Place) (ps : List Place) → calls_at (calls ++ (p, ps) ∷ []) k ≡ option_or (calls_at calls k) (if same k (place_name p) then Some ps else None)
calls_more k [] p ps = next_calls k (p, ps) []
calls_more k (c ∷ calls) p ps =
    next_calls k c (calls ++ (p, ps) ∷ []) ∙ by (same k (place_name c.0)) (calls_more k calls p ps)
    ∙ ap (λ o. option_or o (if same k (place_name p) then Some ps else None)) (sym (next_calls k c calls))
  where
    by : (b : Bool) → calls_at (calls ++ (p, ps) ∷ []) k ≡ option_or (calls_at calls k) (if same k (place_name p) then Some ps else None)
        → cond b (Some c.1) (calls_at (calls ++ (p, ps) ∷ []) k) ≡ option_or (cond b (Some c.1) (calls_at calls k)) (if same k (place_name p) then Some ps else None)
    by true h = refl
    by false h = h
