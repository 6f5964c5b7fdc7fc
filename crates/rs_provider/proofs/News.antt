-- Places that are new, one after the other.
use Rattle.std.proofs.Common.{◌≡◌, ℕ, ◌+◌, ◌<◌, ◌≤◌, ◌&&◌, ◌||◌, true, false, not, List, [], ◌∷◌, length, get_or, drop, sym, ap, ◌∙◌}
use Rattle.std.proofs.lemmas.List.{at_drop_all, at_drop_more}
use Rattle.rs_tree.specs.declared.place.Place.{Place}
use Rattle.rs_lookup.specs.Places.{place_name, same}
use Rattle.rs_plans.specs.Names.{are_new, is_among}
use Rattle.rs_provider.specs.Naming.{HaveSame}

-- the first of these places are new, and a set has them, by which the rest is tested
pub record AreSeen (set ps : List Place) (i : ℕ) : Type 0 where
  pub seen : List Place
  pub has : HaveSame set seen
  pub is : are_new [] ps ≡ are_new seen (drop i ps)

-- the next is tested
tested : (set ps : List Place) (i : ℕ) (p : Place) (h : AreSeen set ps i) → i < length ps → p ≡ get_or ps i p → are_new [] ps ≡ (not (is_among set p) && are_new (p ∷ h.seen) (drop (i + 1) ps))
tested set ps i p h l at =
    h.is ∙ at_drop_more (are_new h.seen) ps i p l ∙ ap (λ x. are_new h.seen (x ∷ drop (i + 1) ps)) (sym at)
    ∙ ap (λ b. not b && are_new (p ∷ h.seen) (drop (i + 1) ps)) (sym (h.has.each p))

-- and it is new, or it isn't
pub new_more : (set more ps : List Place) (i : ℕ) (p : Place) → AreSeen set ps i → i < length ps → p ≡ get_or ps i p → not (is_among set p) ≡ true → HaveSame more (p ∷ set) → AreSeen more ps (i + 1)
new_more set more ps i p h l at new is = record {
  seen = p ∷ h.seen;
  has = record { each = λ q. is.each q ∙ ap (λ b. same (place_name q) (place_name p) || b) (h.has.each q) };
  is = tested set ps i p h l at ∙ ap (λ b. b && are_new (p ∷ h.seen) (drop (i + 1) ps)) new;
}

pub not_new : (set ps : List Place) (i : ℕ) (p : Place) → AreSeen set ps i → i < length ps → p ≡ get_or ps i p → not (is_among set p) ≡ false → false ≡ are_new [] ps
not_new set ps i p h l at old = sym (tested set ps i p h l at ∙ ap (λ b. b && are_new (p ∷ h.seen) (drop (i + 1) ps)) old)

-- all of them were
pub all_new : (set ps : List Place) (i : ℕ) → AreSeen set ps i → length ps ≤ i → true ≡ are_new [] ps
all_new set ps i h l = sym (h.is ∙ at_drop_all (are_new h.seen) ps i l)
