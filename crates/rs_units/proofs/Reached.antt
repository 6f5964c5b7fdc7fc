-- What the members of a unit are, and which function is wanted next.
use Rattle.std.proofs.Common.{◌≡◌, ℕ, ◌+◌, ◌<◌, inl, inr, zero, suc, Bool, List, get_or, [], ◌∷◌, ◌++◌, length, map, Option, Some, None, refl, sym, ap, ◌∙◌, subst, arith, append_assoc, append-nil, ◌↔◌}
use Rattle.std.specs.Prelude.{filter, slice_get, option_and_then}
use Rattle.std.specs.Option.{option_map}
use Rattle.std.specs.List.{Contains}
use Rattle.std.proofs.lemmas.Bool.{cases_lt}
use Rattle.std.proofs.lemmas.List.{length-map}
use Rattle.std.proofs.lemmas.List.Elements.{Contains-append_left, Contains-append_right, Contains-append_cases}
use Rattle.std.proofs.lemmas.Option.{option_and_then_some, slice_get_within, slice_get-get_or, get_or_from_slice_get}
use Rattle.rs_tree.specs.declared.place.Place.{Place}
use Rattle.rs_tree.specs.declared.index.IndexItem.{IndexItem}
use Rattle.rs_lookup.specs.Places.{item_name}
use Rattle.rs_reach.specs.Search.{State, next, start, told, walk}
use Rattle.rs_reach.specs.Places.{ask}
use Rattle.rs_reach.specs.Dead.{numbers_where, place_of}
use Rattle.rs_reach.specs.Laws.{AreRoots}
use Rattle.rs_reach.proofs.Found.{walked, grows, sound, got_front, none_past, finds_reached, finds_once, ends}
use Rattle.rs_reach.proofs.Numbered.{roots_differ}
use Rattle.rs_units.specs.Units.{is_own}
use Rattle.rs_units.specs.Members.{is_among, is_inline, member_numbers, members_of, place_numbered, search_of, wanted_of}
use Rattle.rs_units.specs.Laws.{IsReached, IsKnown, IsMember, IsFirstMissing}
use Rattle.rs_units.proofs.Numbers.{passing_numbers, filter_contains, among_contains, places_contain}

-- the calls of those asked are known
abbrev AskedKnown : (ℕ → Option (List ℕ)) → State → Type 0
AskedKnown asks s = (k i : ℕ) → k < s.asked → slice_get s.found k ≡ Some i → (cs : List ℕ) × (asks i ≡ Some cs)

asked_known : (may : List Bool) (asks : ℕ → Option (List ℕ)) (roots : List ℕ) (n : ℕ) → AskedKnown asks (walk may asks (start roots) n)
asked_known may asks roots = walked may asks (AskedKnown asks) (start roots) told_known (λ k i l. absurd (omega (arith, l)))
  where
    told_known : (s : State) (a : ℕ) (cs : List ℕ) → next s ≡ Some a → asks a ≡ Some cs → AskedKnown asks s → AskedKnown asks (told may s cs)
    told_known s a cs is has all k i less at =
        (let more = grows may cs s.found in
        let within = slice_get_within s.found s.asked a is in
        elim (cases_lt k s.asked) [
          | inl l ↦ all k i l (sym (got_front s.found more.0 k (omega (arith, l, within))) ∙ ap (λ (xs : List ℕ). slice_get xs k) (sym more.1) ∙ at)
          | inr l ↦
              (let here : k ≡ s.asked = omega (arith, l, less) in
              let both : Some i ≡ Some a = sym at ∙ ap (λ (xs : List ℕ). slice_get xs k) more.1 ∙ got_front s.found more.0 k (omega (arith, here, within)) ∙ ap (slice_get s.found) here ∙ is in
              let same : i ≡ a = cc in
              (cs, ap asks same ∙ has))
        ])

-- a number found is that of an item
item_numbered : (p : IndexItem → Bool) (items : List IndexItem) (found : List ℕ) (k i : ℕ) → AreRoots (map p items) found → slice_get found k ≡ Some i → (x : IndexItem) × (slice_get items i ≡ Some x)
item_numbered p items found k i are is =
    let below : get_or found k i < length (map p items) = are.below k i (slice_get_within found k i is) in
    let same : get_or found k i ≡ i = get_or_from_slice_get found k i i is in
    let within : i < length items = omega (arith, below, same, length-map items p) in
    (at items i within)
  where
    at : (items : List IndexItem) (i : ℕ) → i < length items → (x : IndexItem) × (slice_get items i ≡ Some x)
    at [] i l = absurd (omega (arith, l))
    at (x ∷ items) zero l = (x, refl)
    at (x ∷ items) (suc i) l = at items i (omega (arith, l))

module _ (unit : List ℕ) (items : List IndexItem) (calls : List (Place × List Place)) where
  abbrev may : List Bool
  may = map is_inline items

  abbrev asks : ℕ → Option (List ℕ)
  asks = ask (map item_name items) calls

  abbrev roots : List ℕ
  roots = numbers_where (is_own unit) 0 items

  abbrev s : State
  s = search_of unit items calls

  are_roots : AreRoots may s.found
  are_roots = finds_once may asks roots (length may + 1) (roots_differ (is_own unit) is_inline items)

  none_next : option_and_then asks (next s) ≡ None
  none_next = ends may asks roots (roots_differ (is_own unit) is_inline items)

  none_wanted : wanted_of unit items calls ≡ None → next s ≡ None
  none_wanted none = by (next s) refl
    where
      by : (o : Option ℕ) → next s ≡ o → next s ≡ None
      by None e = e
      by (Some i) e =
          (let its = item_numbered is_inline items s.found s.asked i are_roots e in
          let place : place_numbered items i ≡ Some (place_of its.0) = ap (option_map place_of) its.1 in
          let bad : Some (place_of its.0) ≡ None = sym place ∙ ap (option_and_then (place_numbered items)) (sym e) ∙ none in
          absurd cc)

  found_reached : next s ≡ None → (i : ℕ) → Contains s.found i ↔ IsReached unit items calls i
  found_reached none i = finds_reached may asks roots (length may + 1) none i

  pub none_missing : (wanted_of unit items calls ≡ None) ↔ ((i : ℕ) → IsReached unit items calls i → IsKnown items calls i)
  none_missing = (known, λ all. none all (next s) refl)
    where
      known : wanted_of unit items calls ≡ None → (i : ℕ) → IsReached unit items calls i → IsKnown items calls i
      known none i reached =
          (let nothing = none_wanted none in
          let at = (found_reached nothing i).1 reached in
          let past = none_past s.found s.asked nothing in
          asked_known may asks roots (length may + 1) at.0 i (omega (arith, past, at.1)) (slice_get-get_or s.found at.0 i at.1 ∙ ap Some at.2))

      none : ((i : ℕ) → IsReached unit items calls i → IsKnown items calls i) → (o : Option ℕ) → next s ≡ o → wanted_of unit items calls ≡ None
      none all None e = ap (option_and_then (place_numbered items)) e
      none all (Some i) e =
          (let there = sound may asks roots (length may + 1) s.asked i (slice_get_within s.found s.asked i e) in
          let reached : IsReached unit items calls i = subst (IsReached unit items calls) (get_or_from_slice_get s.found s.asked i i e) there in
          let its = all i reached in
          let bad : Some its.0 ≡ None = sym its.1 ∙ ap (option_and_then asks) (sym e) ∙ none_next in
          absurd cc)

  pub wants_first : (p : Place) → wanted_of unit items calls ≡ Some p → IsFirstMissing unit items calls p
  wants_first p e = option_and_then_some (place_numbered items) (next s) p e (λ i is has. record {
    at = s.asked;
    number = i;
    found = is;
    placed = has;
    missing = ap (option_and_then asks) (sym is) ∙ none_next;
    before = asked_known may asks roots (length may + 1);
  })

  pub own_first : (more : List ℕ) × (s.found ≡ roots ++ more)
  own_first = walked may asks (λ t. (more : List ℕ) × (t.found ≡ roots ++ more)) (start roots)
      (λ t a cs is has h. (let more = grows may cs t.found in (h.0 ++ more.0, more.1 ∙ ap (λ (xs : List ℕ). xs ++ more.0) h.1 ∙ append_assoc roots h.0 more.0)))
      ([], sym (append-nil roots)) (length may + 1)

  -- the numbers of members are those of the items that are members
  member_numbered : wanted_of unit items calls ≡ None → (i : ℕ) → Contains (member_numbers unit items calls) i ↔ IsMember unit items calls i
  member_numbered none i = (member, numbered)
    where
      member : Contains (member_numbers unit items calls) i → IsMember unit items calls i
      member h = elim (Contains-append_cases roots (filter (is_among s.found) (numbers_where is_inline 0 items)) i h) [
        | inl own ↦ (let its = (passing_numbers (is_own unit) items i).0 own in record { item = its.0; numbered = its.1; either = inl its.2 })
        | inr copy ↦
            (let both = (filter_contains (is_among s.found) (numbers_where is_inline 0 items) i).0 copy in
            let its = (passing_numbers is_inline items i).0 both.0 in
            record { item = its.0; numbered = its.1; either = inr (its.2, (found_reached (none_wanted none) i).0 ((among_contains s.found i).0 both.1)) })
      ]

      numbered : IsMember unit items calls i → Contains (member_numbers unit items calls) i
      numbered m = elim m.either [
        | inl own ↦ Contains-append_left roots (filter (is_among s.found) (numbers_where is_inline 0 items)) i ((passing_numbers (is_own unit) items i).1 (m.item, m.numbered, own))
        | inr copy ↦ Contains-append_right roots (filter (is_among s.found) (numbers_where is_inline 0 items)) i
            ((filter_contains (is_among s.found) (numbers_where is_inline 0 items) i).1
            ((passing_numbers is_inline items i).1 (m.item, m.numbered, copy.0), (among_contains s.found i).1 ((found_reached (none_wanted none) i).1 copy.1)))
      ]

  pub members_reached : wanted_of unit items calls ≡ None → (p : Place) → Contains (members_of unit items calls) p ↔ ((i : ℕ) × IsMember unit items calls i × (place_numbered items i ≡ Some p))
  members_reached none p = (
    λ h. (let its = (places_contain items (member_numbers unit items calls) p).0 h in (its.0, (member_numbered none its.0).0 its.1, its.2)),
    λ h. (places_contain items (member_numbers unit items calls) p).1 (h.0, (member_numbered none h.0).1 h.1, h.2),
  )
