-- Constants among those that are known.
use Rattle.std.proofs.Common.{◌≡◌, true, false, if◌then◌else◌, List, [], ◌∷◌, ◌++◌, Some, ap, ◌∙◌, sym}
use Rattle.std.proofs.lemmas.List.{map-append}
use Rattle.rs_tree.specs.declared.place.Place.{Place}
use Rattle.rs_const.specs.Constants.{Entry}
use Rattle.rs_plans.specs.Names.{is_among}
use Rattle.rs_plans.specs.Plans.{first_new, places_known}
use Rattle.rs_provider.specs.Naming.{HaveSame}
use Rattle.rs_provider.proofs.Named.{same_last}

-- the first of those left is known, or it isn't
pub known_next : (es : List Entry) (p : Place) (ps : List Place) → is_among (places_known es) p ≡ true → first_new es (p ∷ ps) ≡ first_new es ps
known_next es p ps e = ap (λ b. if b then first_new es ps else Some (p, ps)) e

pub new_next : (es : List Entry) (p : Place) (ps : List Place) → is_among (places_known es) p ≡ false → first_new es (p ∷ ps) ≡ Some (p, ps)
new_next es p ps e = ap (λ b. if b then first_new es ps else Some (p, ps)) e

-- one more is known
pub known_more : (seen more : List Place) (es : List Entry) (e : Entry) → HaveSame seen (places_known es) → HaveSame more (e.0 ∷ seen) → HaveSame more (places_known (es ++ e ∷ []))
known_more seen more es e has is = record { each = λ q. (same_last seen more (places_known es) e.0 has is).each q ∙ ap (λ ps. is_among ps q) (sym (map-append (λ (x : Entry). x.0) es (e ∷ []))) }
