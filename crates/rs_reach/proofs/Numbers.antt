-- Numbers of places, and what is asked.
use Rattle.std.proofs.Common.{◌≡◌, ℕ, ◌+◌, ◌<◌, List, [], ◌∷◌, ◌++◌, length, get_or, take, Option, Some, None, refl, sym, ap, ◌∙◌}
use Rattle.std.specs.Prelude.{slice_get, option_and_then}
use Rattle.std.specs.Option.{option_map}
use Rattle.std.specs.List.{cons_option}
use Rattle.std.proofs.lemmas.List.{take_more}
use Rattle.std.proofs.lemmas.List.Elements.{filter_map-append}
use Rattle.std.proofs.lemmas.Option.{slice_get-get_or}
use Rattle.rs_tree.specs.declared.place.Place.{Place}
use Rattle.rs_lookup.specs.Places.{Name, place_name, place_from}
use Rattle.rs_reach.specs.Places.{numbers, call_names, calls_at, ask}

pub got : {X : Type 0} (xs : List X) (i : ℕ) (x : X) → i < length xs → ((d : X) → x ≡ get_or xs i d) → slice_get xs i ≡ Some x
got xs i x l h = slice_get-get_or xs i x l ∙ ap Some (sym (h x))

-- numbers of one more place
pub number_more : (names : List Name) (ps : List Place) (i : ℕ) (p : Place) (o : Option ℕ) → i < length ps → p ≡ get_or ps i p → o ≡ place_from (place_name p) 0 names → numbers names (take (i + 1) ps) ≡ numbers names (take i ps) ++ cons_option o []
number_more names ps i p o l is has =
    ap (numbers names) (take_more ps i p l)
    ∙ filter_map-append (λ p. place_from (place_name p) 0 names) (take i ps) (get_or ps i p ∷ [])
    ∙ (λ j. numbers names (take i ps) ++ cons_option (at j) [])
  where
    at : place_from (place_name (get_or ps i p)) 0 names ≡ o
    at = ap (λ x. place_from (place_name x) 0 names) (sym is) ∙ sym has

pub asked_calls : (names : List Name) (calls : List (Place × List Place)) (o : Option ℕ) (i j : ℕ) (k : Name) (e : Option (Place × List Place)) → o ≡ Some i → slice_get names i ≡ Some k
    → Some j ≡ place_from k 0 (call_names calls) → slice_get calls j ≡ e → option_and_then (ask names calls) o ≡ option_map (λ (c : Place × List Place). numbers names c.1) e
asked_calls names calls o i j k e item key at entry =
    ap (option_and_then (ask names calls)) item
    ∙ ap (λ x. option_map (numbers names) (option_and_then (calls_at calls) x)) key
    ∙ ap (λ x. option_map (numbers names) (option_and_then (λ j. option_map (λ (c : Place × List Place). c.1) (slice_get calls j)) x)) (sym at)
    ∙ ap (λ x. option_map (numbers names) (option_map (λ (c : Place × List Place). c.1) x)) entry
    ∙ twice e
  where
    twice : (e : Option (Place × List Place)) → option_map (numbers names) (option_map (λ (c : Place × List Place). c.1) e) ≡ option_map (λ (c : Place × List Place). numbers names c.1) e
    twice None = refl
    twice (Some c) = refl
