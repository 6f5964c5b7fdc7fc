-- The items that paths lead to, one after the other.
use Rattle.std.proofs.Common.{◌≡◌, ◌||◌, Bool, true, false, List, [], ◌∷◌, ◌++◌, refl, sym, ap, ◌∙◌, append_assoc, append-nil, if◌then◌else◌}
use Rattle.rs_lookup.specs.Places.{place_name, same}
use Rattle.rs_tree.specs.declared.place.Place.{Place}
use Rattle.rs_plans.specs.Names.{is_among, once, once_from}
use Rattle.rs_provider.specs.Naming.{HaveSame, with_new}

or_false : (a : Bool) → (a || false) ≡ a
or_false true = refl
or_false false = refl

or_last : (a b : Bool) → (a || b) ≡ (b || a)
or_last true true = refl
or_last true false = refl
or_last false true = refl
or_last false false = refl

or_assoc : (a b c : Bool) → ((a || b) || c) ≡ (a || (b || c))
or_assoc true b c = refl
or_assoc false b c = refl

-- one more at the end
pub among_last : (q : Place) (ps : List Place) (p : Place) → is_among (ps ++ p ∷ []) q ≡ (same (place_name q) (place_name p) || is_among ps q)
among_last q [] p = refl
among_last q (x ∷ xs) p =
    ap (λ b. same (place_name q) (place_name x) || b) (among_last q xs p)
    ∙ sym (or_assoc (same (place_name q) (place_name x)) (same (place_name q) (place_name p)) (is_among xs q))
    ∙ ap (λ b. b || is_among xs q) (or_last (same (place_name q) (place_name x)) (same (place_name q) (place_name p)))
    ∙ or_assoc (same (place_name q) (place_name p)) (same (place_name q) (place_name x)) (is_among xs q)

-- a set with one more place has those of the list with that place at its end
pub same_last : (seen more ps : List Place) (p : Place) → HaveSame seen ps → HaveSame more (p ∷ seen) → HaveSame more (ps ++ p ∷ [])
same_last seen more ps p has is = record { each = λ q. is.each q ∙ ap (λ b. same (place_name q) (place_name p) || b) (has.each q) ∙ sym (among_last q ps p) }

-- each the first time only, behind those that were gathered
abbrev Gathers : List Place → List Place → List Place → Type 0
Gathers all seen ps = with_new all ps ≡ all ++ once_from seen ps

-- one that was gathered, or one more
gathered_next : (all seen : List Place) (p : Place) (ps : List Place) (b : Bool) → is_among all p ≡ b → is_among seen p ≡ b → (b ≡ true → Gathers all seen ps) → (b ≡ false → Gathers (all ++ p ∷ []) (p ∷ seen) ps) → Gathers all seen (p ∷ ps)
gathered_next all seen p ps true e f old new =
    ap (λ b. with_new (if b then all else all ++ p ∷ []) ps) e ∙ old refl ∙ ap (λ b. all ++ (if b then once_from seen ps else p ∷ once_from (p ∷ seen) ps)) (sym f)
gathered_next all seen p ps false e f old new =
    ap (λ b. with_new (if b then all else all ++ p ∷ []) ps) e ∙ new refl ∙ append_assoc all (p ∷ []) (once_from (p ∷ seen) ps)
    ∙ ap (λ b. all ++ (if b then once_from seen ps else p ∷ once_from (p ∷ seen) ps)) (sym f)

gathered : (all seen ps : List Place) → ((q : Place) → is_among seen q ≡ is_among all q) → Gathers all seen ps
gathered all seen [] h = sym (append-nil all)
gathered all seen (p ∷ ps) h =
    gathered_next all seen p ps (is_among all p) refl (h p)
    (λ e. gathered all seen ps h)
    (λ e. gathered (all ++ p ∷ []) (p ∷ seen) ps (λ q. ap (λ b. same (place_name q) (place_name p) || b) (h q) ∙ sym (among_last q all p)))

pub gathered_once : (ps : List Place) → with_new [] ps ≡ once ps
gathered_once ps = gathered [] [] ps (λ q. refl)
