-- Reads that are made one after the other differ.
use Rattle.std.proofs.Common.{◌≡◌, ◌≢◌, ◌⊎◌, inl, inr, ℕ, ◌&&◌, ◌||◌, Bool, true, false, not, List, [], ◌∷◌, ◌++◌, refl, sym, ap, ◌∙◌, if◌then◌else◌}
use Rattle.std.specs.List.{AllByRecursion}
use Rattle.std.specs.Str.{bytes_eq}
use Rattle.std.proofs.lemmas.Slice.Eq.{bytes_eq-Decides}
use Rattle.inc_query.specs.declared.query.Query.{Query}
use Rattle.rs_tree.specs.declared.place.Place.{Place}
use Rattle.rs_tree.proofs.Both.{left_of, right_of}
use Rattle.rs_lookup.specs.Places.{Name, same, place_name}
use Rattle.rs_plans.specs.Names.{is_among, are_new, once_from}
use Rattle.rs_plans.specs.Steps.{query}

pub all_weaker : {X : Type 0} {P Q : X → Type 0} → ((x : X) → P x → Q x) → (xs : List X) → AllByRecursion P xs → AllByRecursion Q xs
all_weaker f [] h = tt
all_weaker f (x ∷ xs) h = (f x h.0, all_weaker f xs h.1)

-- names that are the same

pub same_self : (a : Name) → same a a ≡ true
same_self a =
    let one : bytes_eq a.0 a.0 ≡ true = (bytes_eq-Decides a.0 a.0).1 refl in
    let two : bytes_eq a.1 a.1 ≡ true = (bytes_eq-Decides a.1 a.1).1 refl in
    ap (λ b. b && bytes_eq a.1 a.1) one ∙ two

pub same_is : (a b : Name) → same a b ≡ true → a ≡ b
same_is a b e =
    let one : a.0 ≡ b.0 = (bytes_eq-Decides a.0 b.0).0 (left_of (bytes_eq a.0 b.0) (bytes_eq a.1 b.1) e) in
    let two : a.1 ≡ b.1 = (bytes_eq-Decides a.1 b.1).0 (right_of (bytes_eq a.0 b.0) (bytes_eq a.1 b.1) e) in
    ap (λ m. (m, a.1)) one ∙ ap (λ n. (b.0, n)) two

pub among_first : (p : Place) (seen : List Place) → is_among (p ∷ seen) p ≡ true
among_first p seen = ap (λ b. b || is_among seen p) (same_self (place_name p))

or_right : (a b : Bool) → b ≡ true → (a || b) ≡ true
or_right true b e = refl
or_right false b e = e

pub among_later : (x : Place) (seen : List Place) (p : Place) → is_among seen p ≡ true → is_among (x ∷ seen) p ≡ true
among_later x seen p e = or_right (same (place_name p) (place_name x)) (is_among seen p) e

pub among_front : (seen more : List Place) (p : Place) → is_among seen p ≡ true → is_among (seen ++ more) p ≡ true
among_front [] more p e = absurd (cc)
among_front (x ∷ seen) more p e = by (same (place_name p) (place_name x)) (among_front seen more p) e
  where
    by : (b : Bool) → (is_among seen p ≡ true → is_among (seen ++ more) p ≡ true) → (b || is_among seen p) ≡ true → (b || is_among (seen ++ more) p) ≡ true
    by true rest h = refl
    by false rest h = rest h

pub among_last : (seen : List Place) (p : Place) → is_among (seen ++ p ∷ []) p ≡ true
among_last [] p = among_first p []
among_last (x ∷ seen) p = or_right (same (place_name p) (place_name x)) (is_among (seen ++ p ∷ []) p) (among_last seen p)

-- A read is of none of these places, or of one of those seen.
abbrev pub IsTold : (Place → Query) → List Place → Query → Type 0
IsTold of seen m = ((p : Place) → m ≢ of p) ⊎ ((s : Place) × (is_among seen s ≡ true) × (m ≡ of s))

pub told_more : (of : Place → Query) (seen new : List Place) → ((s : Place) → is_among seen s ≡ true → is_among new s ≡ true) → (made : List Query) → AllByRecursion (IsTold of seen) made → AllByRecursion (IsTold of new) made
told_more of seen new grows made told = all_weaker (λ m is. elim is [ inl none ↦ inl none | inr one ↦ inr (one.0, grows one.0 one.1, one.2) ]) made told

-- queries of different places differ
abbrev pub AreApart : (Place → Query) → Type 0
AreApart of = (p s : Place) → of p ≡ of s → p ≡ s

pub told_apart : (of : Place → Query) → AreApart of → (seen : List Place) (p : Place) → is_among seen p ≡ false → (made : List Query) → AllByRecursion (IsTold of seen) made → AllByRecursion (λ m. m ≢ of p) made
told_apart of apart seen p new made told = all_weaker (λ m is e. by m e is) made told
  where
    by : (m : Query) → m ≡ of p → IsTold of seen m → ⊥
    by m e (inl none) = none p e
    by m e (inr one) = (let is : one.0 ≡ p = apart one.0 p (sym one.2 ∙ e) in let bad : true ≡ false = sym one.1 ∙ ap (is_among seen) is ∙ new in absurd (cc))

-- one after the other
abbrev pub Fresh : (Place → Query) → List Query → List Place → Type 0
Fresh of made [] = Unit {0}
Fresh of made (p ∷ ps) = AllByRecursion (λ m. m ≢ of p) made × Fresh of (of p ∷ made) ps

-- the reads after those of these places, the latest first
abbrev pub after : (Place → Query) → List Query → List Place → List Query
after of made [] = made
after of made (p ∷ ps) = after of (of p ∷ made) ps

pub after_all : (of : Place → Query) (K : Query → Type 0) → ((p : Place) → K (of p)) → (made : List Query) (ps : List Place) → AllByRecursion K made → AllByRecursion K (after of made ps)
after_all of K each made [] h = h
after_all of K each made (p ∷ ps) h = after_all of K each (of p ∷ made) ps (each p, h)

not_true : (b : Bool) → not b ≡ true → b ≡ false
not_true true e = absurd (cc)
not_true false e = refl

pub fresh : (of : Place → Query) → AreApart of → (seen : List Place) (made : List Query) (ps : List Place) → are_new seen ps ≡ true → AllByRecursion (IsTold of seen) made → Fresh of made ps
fresh of apart seen made [] e told = tt
fresh of apart seen made (p ∷ ps) e told =
    let new : is_among seen p ≡ false = not_true (is_among seen p) (left_of (not (is_among seen p)) (are_new (p ∷ seen) ps) e) in
    let rest : are_new (p ∷ seen) ps ≡ true = right_of (not (is_among seen p)) (are_new (p ∷ seen) ps) e in
    (told_apart of apart seen p new made told, fresh of apart (p ∷ seen) (of p ∷ made) ps rest (inr (p, among_first p seen, refl), told_more of seen (p ∷ seen) (among_later p seen) made told))

-- places of which each stands once are new
pub once_new : (seen ps : List Place) → are_new seen (once_from seen ps) ≡ true
once_new seen [] = refl
once_new seen (p ∷ ps) = by (is_among seen p) refl (once_new seen ps) (once_new (p ∷ seen) ps)
  where
    by : (b : Bool) → is_among seen p ≡ b → are_new seen (once_from seen ps) ≡ true → are_new (p ∷ seen) (once_from (p ∷ seen) ps) ≡ true → are_new seen (if b then once_from seen ps else p ∷ once_from (p ∷ seen) ps) ≡ true
    by true is old new = old
    by false is old new = ap (λ b. not b && are_new (p ∷ seen) (once_from (p ∷ seen) ps)) is ∙ new

pub once_all : (P : Place → Type 0) (seen ps : List Place) → AllByRecursion P ps → AllByRecursion P (once_from seen ps)
once_all P seen [] h = tt
once_all P seen (p ∷ ps) h = by (is_among seen p) (once_all P seen ps h.1) (once_all P (p ∷ seen) ps h.1)
  where
    by : (b : Bool) → AllByRecursion P (once_from seen ps) → AllByRecursion P (once_from (p ∷ seen) ps) → AllByRecursion P (if b then once_from seen ps else p ∷ once_from (p ∷ seen) ps)
    by true old new = old
    by false old new = (h.0, new)

pub query_apart : (kind : ℕ) → AreApart (query kind)
query_apart kind p s e = ap (λ (q : Query). record { «module» = q.«module»; name = q.name }) e
