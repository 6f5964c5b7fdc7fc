-- A set of names seen finds the first that is defined twice.
use Rattle.std.proofs.Common.{◌≡◌, ℕ, Bool, true, false, not, ◌&&◌, ◌||◌, List, [], ◌∷◌, ◌++◌, map, Option, Some, None, refl, sym, ap, ◌∙◌, Bor, Ordering, Less, Equal, Greater, nat_cmp, take, drop, ◌+◌, ◌<◌, length, get_or, cond}
use Rattle.std.specs.Cmp.Lexicographic.{slice_cmp}
use Rattle.std.specs.Ordering.{is_eq, ordering_then}
use Rattle.std.specs.Option.{option_eq, option_cmp, option_copied}
use Rattle.std.specs.List.{list_any}
use Rattle.std.specs.Str.{bytes_eq}
use Rattle.std.proofs.lemmas.Map.Text.{is_eq-slice_cmp}
use Rattle.std.proofs.lemmas.List.Folds.{list_any-append}
use Rattle.std.proofs.lemmas.List.{map-append}
use Rattle.std.specs.BTreeSet.{BTreeSet, contains, Updates}
use Rattle.std.proofs.Math.Bool.{or-false, or-true}
use Rattle.rs_grammar.specs.declared.named.Named.{Named}
use Rattle.rs_grammar.specs.Twice.{key, AllOnce, IsFirstTwice}
use Rattle.rs_grammar.proofs.Lists.{about}
use Rattle.rs_grammar.proofs.Names.{Key, same, same_equiv, seen_by, twice_from_seen}

-- keys as the set has them
abbrev pub Held : Type 0
Held = Option (Bor (List ℕ)) × Bor (List ℕ)

abbrev pub plain : Held → Key
plain k = (option_copied k.0, k.1.now)

abbrev pub held_cmp : Held → Held → Ordering
held_cmp a b = ordering_then (option_cmp (λ x y. slice_cmp nat_cmp x.now y.now) a.0 b.0) (slice_cmp nat_cmp a.1.now b.1.now)

then_eq : (o p : Ordering) → is_eq (ordering_then o p) ≡ (is_eq o && is_eq p)
then_eq Less p = refl
then_eq Equal p = refl
then_eq Greater p = refl

option_is_eq : (a b : Option (Bor (List ℕ))) → is_eq (option_cmp (λ x y. slice_cmp nat_cmp x.now y.now) a b) ≡ option_eq bytes_eq (option_copied a) (option_copied b)
option_is_eq None None = refl
option_is_eq None (Some y) = refl
option_is_eq (Some x) None = refl
option_is_eq (Some x) (Some y) = is_eq-slice_cmp x.now y.now

-- the set's order tells keys apart as they are
pub held_is_eq : (a b : Held) → is_eq (held_cmp a b) ≡ same (plain a) (plain b)
held_is_eq a b = then_eq (option_cmp (λ x y. slice_cmp nat_cmp x.now y.now) a.0 b.0) (slice_cmp nat_cmp a.1.now b.1.now)
    ∙ (λ i. option_is_eq a.0 b.0 i && is_eq-slice_cmp a.1.now b.1.now i)

pub seen_more : (q : Key) (ds : List Named) (d : Named) → seen_by q (ds ++ d ∷ []) ≡ (seen_by q ds || same q (key d))
seen_more q ds d = ap (list_any (same q)) (map-append key ds (d ∷ [])) ∙ list_any-append (same q) (map key ds) (key d ∷ []) ∙ ap (λ b. seen_by q ds || b) (or-false (same q (key d)))

-- a new key is seen from then on
pub held_more : (old new : BTreeSet Held) (k : Held) (d : Named) (ds : List Named) → plain k ≡ key d → Updates held_cmp old new k true
    → ((q : Held) → contains held_cmp old q ≡ seen_by (plain q) ds) → (q : Held) → contains held_cmp new q ≡ seen_by (plain q) (ds ++ d ∷ [])
held_more old new k d ds is up has q =
    up.0 q ∙ go (is_eq (held_cmp k q)) (held_is_eq k q ∙ same_equiv.symm (plain k) (plain q) ∙ ap (same (plain q)) is) ∙ sym (seen_more (plain q) ds d)
  where
    go : (b : Bool) → b ≡ same (plain q) (key d) → cond b true (contains held_cmp old q) ≡ (seen_by (plain q) ds || same (plain q) (key d))
    go true e = sym (ap (λ b. seen_by (plain q) ds || b) (sym e) ∙ or-true (seen_by (plain q) ds))
    go false e = has q ∙ sym (ap (λ b. seen_by (plain q) ds || b) (sym e) ∙ or-false (seen_by (plain q) ds))

-- what the set said of a key
pub was_seen : (old : BTreeSet Held) (k : Held) (d : Named) (ds : List Named) (b : Bool) → plain k ≡ key d
    → ((q : Held) → contains held_cmp old q ≡ seen_by (plain q) ds) → contains held_cmp old k ≡ b → seen_by (key d) ds ≡ b
was_seen old k d ds b is has e = ap (λ q. seen_by q ds) (sym is) ∙ sym (has k) ∙ e

pub first_is : (ds : List Named) (i : ℕ) (d : Named) → i < length ds → d ≡ get_or ds i d → AllOnce (take i ds) → seen_by (key d) (take i ds) ≡ true → IsFirstTwice ds d
first_is ds i d h is once e = record { before = take i ds; rest = drop (i + 1) ds; parts = about ds i d h is; twice = twice_from_seen d (take i ds) e; once = once }

pub not_true : {a b : Bool} → a ≡ not b → a ≡ false → b ≡ true
not_true {b = true} e f = refl
not_true {b = false} e f = absurd cc

pub not_false : {a b : Bool} → a ≡ not b → a ≡ true → b ≡ false
not_false {b = true} e f = absurd cc
not_false {b = false} e f = refl
