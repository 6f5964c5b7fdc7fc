-- Places in a set.
use Rattle.std.proofs.Common.{◌≡◌, ◌||◌, Bool, true, false, cond, ◌∷◌, sym, ap, ◌∙◌, nat_cmp, Ordering}
use Rattle.std.specs.Ordering.{is_eq, ordering_then}
use Rattle.std.specs.Cmp.Lexicographic.{slice_cmp}
use Rattle.std.specs.List.{list_any}
use Rattle.std.specs.BTreeSet.{BTreeSet, contains, Updates}
use Rattle.rs_tree.specs.declared.place.Place.{Place}
use Rattle.rs_lookup.specs.Places.{place_name, same}
use Rattle.rs_lookup.specs.Keys.{Held}
use Rattle.rs_lookup.proofs.Lookups.{held_is_eq, same_symm}
use Rattle.rs_plans.specs.Names.{is_among}
use Rattle.rs_provider.specs.Naming.{HaveSame}

-- the set's order
abbrev pub place_cmp : Place → Place → Ordering
place_cmp a b = ordering_then (slice_cmp nat_cmp a.«module» b.«module») (slice_cmp nat_cmp a.name b.name)

abbrev as_key : Place → Held
as_key p = (record { ref_ptr = (0, 0); now = p.«module» }, record { ref_ptr = (0, 0); now = p.name })

-- tells places apart as they are
place_is_eq : (a b : Place) → is_eq (place_cmp a b) ≡ same (place_name a) (place_name b)
place_is_eq a b = held_is_eq (as_key a) (as_key b)

-- what a set has is among its places
pub has_is : (s : BTreeSet Place) (p : Place) → contains place_cmp s p ≡ is_among s.keys p
has_is s p = λ i. list_any (λ (o : Place). place_is_eq p o i) s.keys

or_cond : (a b c : Bool) → a ≡ b → cond a true c ≡ (b || c)
or_cond true b c e = ap (λ x. x || c) e
or_cond false b c e = ap (λ x. x || c) e

-- one more
pub more_is : (old new : BTreeSet Place) (p : Place) → Updates place_cmp old new p true → HaveSame new.keys (p ∷ old.keys)
more_is old new p up = record {
  each = λ q.
      sym (has_is new q) ∙ up.0 q ∙ or_cond (is_eq (place_cmp p q)) (same (place_name q) (place_name p)) (contains place_cmp old q) (place_is_eq p q ∙ same_symm (place_name p) (place_name q)) ∙ ap (λ b. same (place_name q) (place_name p) || b) (has_is old q);
}
