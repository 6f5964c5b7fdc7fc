-- One more called path, and one more place.
use Rattle.std.proofs.Common.{◌≡◌, ℕ, ◌+◌, ◌<◌, ◌≤◌, Bool, true, false, cond, List, [], ◌∷◌, ◌++◌, length, get_or, drop, refl, sym, ap, ◌∙◌, append_assoc, append-nil}
use Rattle.std.specs.Prelude.{slice_get}
use Rattle.std.specs.Option.{option_map, option_to_list}
use Rattle.std.proofs.lemmas.List.{at_drop_more, at_drop_all}
use Rattle.std.proofs.lemmas.List.Elements.{filter_map-append}
use Rattle.rs_tree.specs.declared.answers.Found.{Found}
use Rattle.rs_tree.specs.declared.answers.Found.TheVariants as f
use Rattle.rs_tree.specs.declared.index.IndexItem.{IndexItem}
use Rattle.rs_tree.specs.declared.place.Place.{Place}
use Rattle.rs_lookup.specs.Places.{Name, place_name, place_from}
use Rattle.rs_reach.specs.Dead.{place_of}
use Rattle.rs_reach.specs.Places.{numbers}
use Rattle.rs_reach.specs.Calls.{called, with_item, places_at}

item_first : (found : Found) (more : List Place) → with_item found [] ++ more ≡ with_item found more
item_first f.Local more = refl
item_first (f.Item p) more = refl
item_first f.Private more = refl
item_first f.Absent more = refl

one_first : (m : Bool) (found : Found) (ms : List Bool) (fs : List Found) → cond m (with_item found []) [] ++ called ms fs ≡ called (m ∷ ms) (found ∷ fs)
one_first true found ms fs = item_first found (called ms fs)
one_first false found ms fs = refl

-- the numbers of one called path more
pub called_more : (names : List Name) (marks : List Bool) (fs : List Found) (i : ℕ) (ns ms all : List ℕ) (found : Found) → i < length marks → i < length fs → found ≡ get_or fs i found
    → ms ≡ ns ++ numbers names (cond (get_or marks i false) (with_item found []) []) → ns ++ numbers names (called (drop i marks) (drop i fs)) ≡ all
    → ms ++ numbers names (called (drop (i + 1) marks) (drop (i + 1) fs)) ≡ all
called_more names marks fs i ns ms all found l k is more h =
    ap (λ xs. xs ++ numbers names rest) more
    ∙ append_assoc ns (numbers names one) (numbers names rest)
    ∙ ap (λ xs. ns ++ xs) (sym (filter_map-append (λ p. place_from (place_name p) 0 names) one rest)
    ∙ ap (numbers names) (one_first (get_or marks i false) found (drop (i + 1) marks) (drop (i + 1) fs)
    ∙ ap (λ (x : Found). called (get_or marks i false ∷ drop (i + 1) marks) (x ∷ drop (i + 1) fs)) is
    ∙ sym (at_drop_more (λ xs. called (get_or marks i false ∷ drop (i + 1) marks) xs) fs i found k)
    ∙ sym (at_drop_more (λ xs. called xs (drop i fs)) marks i false l)))
    ∙ h
  where
    one : List Place
    one = cond (get_or marks i false) (with_item found []) []

    rest : List Place
    rest = called (drop (i + 1) marks) (drop (i + 1) fs)

past : (ms : List Bool) → called ms [] ≡ []
past [] = refl
past (m ∷ ms) = refl

pub called_past : (marks : List Bool) (fs : List Found) (i : ℕ) → length fs ≤ i → called (drop i marks) (drop i fs) ≡ []
called_past marks fs i l = at_drop_all (λ xs. called (drop i marks) xs) fs i l ∙ past (drop i marks)

pub ruleset ended = (called_past, append-nil)

pub place_more : (items : List IndexItem) (ns : List ℕ) (i : ℕ) (ps qs all : List Place) → i < length ns → qs ≡ ps ++ option_to_list (option_map place_of (slice_get items (get_or ns i 0)))
    → ps ++ places_at items (drop i ns) ≡ all → qs ++ places_at items (drop (i + 1) ns) ≡ all
place_more items ns i ps qs all l more h =
    ap (λ xs. xs ++ places_at items (drop (i + 1) ns)) more
    ∙ append_assoc ps (option_to_list (option_map place_of (slice_get items (get_or ns i 0)))) (places_at items (drop (i + 1) ns))
    ∙ sym (at_drop_more (λ xs. ps ++ places_at items xs) ns i 0 l)
    ∙ h
