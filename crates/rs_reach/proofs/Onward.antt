-- What is reached from one number, by a search from those that it names.
use Rattle.std.proofs.Common.{◌≡◌, ℕ, ◌+◌, ◌<◌, inl, inr, zero, suc, Bool, true, List, [], ◌∷◌, length, refl, sym, ap, subst, ◌∙◌, arith, Vec, Global}
use Rattle.std.specs.Prelude.{◌↔◌, Option, Some, None, slice_index_or, option_and_then}
use Rattle.std.specs.Option.{option_map}
use Rattle.std.specs.List.{Contains, IsDistinct}
use Rattle.std.proofs.lemmas.List.{length-map}
use Rattle.std.proofs.lemmas.List.Elements.{All-contains}
use Rattle.std.proofs.lemmas.Option.{slice_get_within, slice_get_cases, get_or_from_slice_get}
use Rattle.rs_reach.specs.Search.{added, start, next, walk, Path}
use Rattle.rs_reach.specs.Laws.{AreRoots}
use Rattle.rs_reach.specs.Reached.{every, named, IsReachedFrom}
use Rattle.rs_reach.proofs.Found.{is_added, all_added, distinct_added, may_below, ends, finds_reached, finds_once}

pub only : (a x : ℕ) → Contains (a ∷ []) x → a ≡ x
only a x (zero, l, e) = e
only a x (suc k, l, e) = absurd (omega (arith, l))

module _ (may : List Bool) (ask : ℕ → Option (List ℕ)) (a : ℕ) (cs : List ℕ) (has : ask a ≡ Some cs) where
  -- one step leads to those named that may be found
  forth : (n b : ℕ) → Path may ask (a ∷ []) (suc n) b → Path may ask (added may [] cs) n b
  forth zero b (x, root, (ds, its, inside, m)) =
      let both : Some ds ≡ Some cs = sym its ∙ ap ask (sym (only a x root)) ∙ has in
      let same : ds ≡ cs = cc in
      is_added may cs [] b (subst (λ (xs : List ℕ). Contains xs b) same inside) m
  forth (suc n) b (x, path, calls) = (x, forth n x path, calls)

  named_first : (b : ℕ) → Contains (added may [] cs) b → Contains cs b × (slice_index_or may b Bool.false ≡ true)
  named_first b h = All-contains (λ c. Contains cs c × (slice_index_or may c Bool.false ≡ true)) (added may [] cs) b
      (all_added (λ c. Contains cs c × (slice_index_or may c Bool.false ≡ true)) may cs [] (λ k d l. absurd (omega (arith, l))) (λ c i m. (i, m))) h

  back : (n b : ℕ) → Path may ask (added may [] cs) n b → Path may ask (a ∷ []) (suc n) b
  back zero b h = let c = named_first b h in (a, (0, omega arith, refl), (cs, has, c.0, c.1))
  back (suc n) b (x, path, calls) = (x, back n x path, calls)

  first_roots : AreRoots may (added may [] cs)
  unfolding IsDistinct
  first_roots = record { distinct = distinct_added may cs [] Prim.search; below = all_added (λ c. c < length may) may cs [] (λ k d l. absurd (omega (arith, l))) (λ c h m. may_below may c m) }

-- a number below that of the lists has one
asked_below : (its : List (Vec ℕ Global)) (o : Option ℕ) → ((c : ℕ) → o ≡ Some c → c < length its) → option_and_then (named its) o ≡ None → o ≡ None
asked_below its None below none = refl
asked_below its (Some c) below none = elim (slice_get_cases its c).1 [
  | inl p ↦ absurd (let bad : Some p.0.items ≡ None = sym (ap (option_map (λ (v : Vec ℕ Global). v.items)) p.2) ∙ none in cc)
  | inr p ↦ absurd (omega (arith, p.0, below c refl))
]

pub reaches : (its : List (Vec ℕ Global)) (a b : ℕ) (cs found : List ℕ) → named its a ≡ Some cs → found ≡ (walk (every its) (named its) (start (added (every its) [] cs)) (length its + 1)).found
    → Contains found b ↔ IsReachedFrom its a b
reaches its a b cs found has is =
    let may = every its in
    let ask = named its in
    let roots = added may [] cs in
    let long : length may ≡ length its = length-map its (λ x. true) in
    let n = length may + 1 in
    let good = first_roots may ask a cs has in
    let s = walk may ask (start roots) n in
    let below : (c : ℕ) → next s ≡ Some c → c < length its = λ c e. omega (arith, long, below_all c e) in
    let none : next s ≡ None = asked_below its (next s) below (ends may ask roots good) in
    let exact = finds_reached may ask roots n none b in
    let same : found ≡ s.found = is ∙ ap (λ k. (walk may ask (start roots) (k + 1)).found) (sym long) in (
      λ h. (let r = exact.0 (subst (λ (xs : List ℕ). Contains xs b) same h) in (r.0, back may ask a cs has r.0 b r.1)),
      λ h. subst (λ (xs : List ℕ). Contains xs b) (sym same) (exact.1 (h.0, forth may ask a cs has h.0 b h.1)),
    )
  where
    below_all : (c : ℕ) → next (walk (every its) (named its) (start (added (every its) [] cs)) (length (every its) + 1)) ≡ Some c → c < length (every its)
    below_all c e =
        let s = walk (every its) (named its) (start (added (every its) [] cs)) (length (every its) + 1) in
        let once = finds_once (every its) (named its) (added (every its) [] cs) (length (every its) + 1) (first_roots (every its) (named its) a cs has) in
        subst (λ x. x < length (every its)) (get_or_from_slice_get s.found s.asked c c e) (once.below s.asked c (slice_get_within s.found s.asked c e))

-- and where the number has no list
pub reaches_none : (its : List (Vec ℕ Global)) (a b : ℕ) → named its a ≡ None → Contains [] b ↔ IsReachedFrom its a b
reaches_none its a b none = (λ h. absurd (omega (arith, h.1)), λ h. absurd (never h.0 b h.1))
  where
    never : (n b : ℕ) → Path (every its) (named its) (a ∷ []) (suc n) b → ⊥
    never zero b (x, root, (ds, has, inside, m)) = (let bad : Some ds ≡ None = sym has ∙ ap (named its) (sym (only a x root)) ∙ none in absurd cc)
    never (suc n) b (x, path, calls) = never n x path

pub of_none : (xs : List ℕ) (b : ℕ) (P : Type 0) → xs ≡ [] → Contains [] b ↔ P → Contains xs b ↔ P
of_none xs b P e h = subst (λ (ys : List ℕ). Contains ys b ↔ P) (sym e) h
