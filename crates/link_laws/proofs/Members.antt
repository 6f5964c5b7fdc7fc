-- The members of a unit are closed under calls of functions of kind 2, and each function of kind 1 is one of its module's unit.
use Rattle.std.proofs.Common.{◌≡◌, ◌⊎◌, ℕ, ◌+◌, ◌<◌, ◌==◌, inl, inr, zero, suc, Bool, true, false, cond, List, [], ◌∷◌, length, map, Option, Some, None, refl, sym, ap, ◌∙◌, subst, arith}
use Rattle.std.specs.Prelude.{slice_get, slice_index_or, option_and_then}
use Rattle.std.specs.Option.{option_map, option_to_list}
use Rattle.std.specs.List.{Contains}
use Rattle.std.specs.Str.{bytes_eq}
use Rattle.std.proofs.lemmas.Bool.{and_from}
use Rattle.std.proofs.lemmas.List.{length-map}
use Rattle.std.proofs.lemmas.List.Elements.{All-contains, Contains-append_left, Contains-append_right, Contains-append_cases}
use Rattle.std.proofs.lemmas.Map.Keys.{any_passes_from_place}
use Rattle.std.proofs.lemmas.Option.{get_or_from_slice_get, slice_get_cases}
use Rattle.std.proofs.lemmas.Slice.Eq.{bytes_eq-Decides}
use Rattle.rs_tree.specs.declared.index.IndexItem.{IndexItem}
use Rattle.rs_tree.specs.declared.place.Place.{Place}
use Rattle.rs_tree.specs.declared.answers.Found.{Found}
use Rattle.rs_tree.specs.declared.tree.Crate.{Crate}
use Rattle.rs_tree.specs.declared.tree.Placed.{Placed}
use Rattle.rs_tree.specs.Plain.{definition}
use Rattle.rs_grammar.specs.Tidy.{IsListed, IsTidyCrate, place_in}
use Rattle.rs_lookup.specs.Places.{item_name, place_from, place_name}
use Rattle.rs_names.specs.Resolved.{answers_of}
use Rattle.rs_reach.specs.Calls.{called, calls_in, definition_marks, places_at}
use Rattle.rs_reach.specs.Dead.{is_function, numbers_where}
use Rattle.rs_reach.specs.Dead as dead
use Rattle.rs_reach.specs.Laws.{RootsDiffer}
use Rattle.rs_reach.specs.Places.{ask, call_names, calls_at, numbers}
use Rattle.rs_reach.specs.Search.{added, Calls}
use Rattle.rs_reach.proofs.Found.{is_added, may_below}
use Rattle.rs_units.specs.Laws.{IsKnown, IsMember, IsReached, MembersOnce, MembersReached, NoneMissing}
use Rattle.rs_units.specs.Members.{is_inline, member_numbers, place_numbered, wanted_of}
use Rattle.rs_units.specs.Units.{has_own, is_own, units_of}
use Rattle.rs_units.proofs.Numbers.{passing_numbers, places_contain}
use Rattle.rs_queries.specs.Built.{tree_index}
use Rattle.rs_queries.specs.Diagnosed.{calls_of}
use Rattle.rs_queries.specs.Known.{answered, items_of, place_of}
use Rattle.link_laws.proofs.Lists.{at_number, contains_filter, contains_filter_map, each_at, each_throughout, first, later}
use Rattle.link_laws.proofs.Makes.{calls}
use Rattle.link_laws.proofs.Places.{got_map, item_numbered, item_placed, map_some, name_numbered, names_differ, names_in, number_found, place_found, places_differ, the_item}

-- ---- The calls of a tree's items.

number_within : (items : List IndexItem) (i : ℕ) → i < length items → (x : IndexItem) × (slice_get items i ≡ Some x)
number_within items i l = elim (slice_get_cases items i).1 [ inl h ↦ (h.0, h.2) | inr h ↦ absurd (omega (arith, h.0, l)) ]

-- what the paths of an item lead to, and what it calls
abbrev pub found_of : Crate → Placed → List Found
found_of krate p = answers_of (items_of krate) p.«module» (definition p.item.body)

abbrev pub called_of : Crate → Placed → List Place
called_of krate p = called (definition_marks (definition p.item.body)) (found_of krate p)

abbrev pub callees : Crate → Placed → List Place
callees krate p = calls_in (items_of krate) (definition p.item.body) (found_of krate p)

call_places : (items : List IndexItem) (ps : List Placed) → call_names (map (calls_of items) (map (answered items) ps)) ≡ map place_in ps
call_places items [] = refl
call_places items (p ∷ ps) = ap (λ ns. place_in p ∷ ns) (call_places items ps)

module _ (krate : Crate) (tidy : IsTidyCrate krate) where
  abbrev items : List IndexItem
  items = items_of krate

  abbrev asks : ℕ → Option (List ℕ)
  asks = ask (names_in krate) (calls krate)

  -- the calls of each item are known
  pub calls_known : (i : ℕ) (p : Placed) → slice_get krate.items i ≡ Some p → calls_at (calls krate) (place_in p) ≡ Some (callees krate p)
  calls_known i p e =
      let found : place_from (place_in p) 0 (call_names (calls krate)) ≡ Some i = ap (place_from (place_in p) 0) (call_places items krate.items) ∙ place_found (place_in p) (map place_in krate.items) i (places_differ krate tidy) (got_map place_in krate.items i p e) in
      let here : slice_get (calls krate) i ≡ Some (place_of p, callees krate p) = got_map (calls_of items) (map (answered items) krate.items) i (answered items p) (got_map (answered items) krate.items i p e) in
      ap (option_and_then (λ j. option_map (λ (c : Place × List Place). c.1) (slice_get (calls krate) j))) found ∙ ap (option_map (λ (c : Place × List Place). c.1)) here

  asked : (i : ℕ) (p : Placed) → slice_get krate.items i ≡ Some p → asks i ≡ Some (numbers (names_in krate) (callees krate p))
  asked i p e = ap (λ o. option_map (numbers (names_in krate)) (option_and_then (calls_at (calls krate)) o)) (name_numbered krate tidy i p e) ∙ ap (option_map (numbers (names_in krate))) (calls_known i p e)

  -- a function that an item calls is among its calls
  called_number : (p q : Placed) (j : ℕ) → slice_get krate.items j ≡ Some q → is_function (the_item q) ≡ true → Contains (called_of krate p) (place_of q) → Contains (numbers (names_in krate) (callees krate p)) j
  called_number p q j e function has =
      let may = map is_function items in
      let here = item_numbered krate tidy j q e in
      let found = number_found krate tidy j q e in
      let passes : slice_index_or may j false ≡ true = get_or_from_slice_get may j true false (got_map is_function items j (the_item q) here ∙ ap Some function) in
      let listed = contains_filter_map (λ (r : Place). place_from (place_name r) 0 (names_in krate)) (called_of krate p) (place_of q) j has found in
      let kept = is_added may (numbers (names_in krate) (called_of krate p)) [] j listed passes in
      let placed = (places_contain items (added may [] (numbers (names_in krate) (called_of krate p))) (place_of q)).1 (j, kept, ap (option_map dead.place_of) here) in
      contains_filter_map (λ (r : Place). place_from (place_name r) 0 (names_in krate)) (callees krate p) (place_of q) j placed found

  numbered_once : (i j : ℕ) (q : Place) → place_numbered items i ≡ Some q → place_numbered items j ≡ Some q → i ≡ j
  numbered_once i j q a b =
      let x = map_some dead.place_of (slice_get items i) q a in
      let y = map_some dead.place_of (slice_get items j) q b in
      names_differ krate tidy i j (place_name q)
      (got_map item_name items i x.0 x.1 ∙ ap Some (ap place_name x.2))
      (got_map item_name items j y.0 y.1 ∙ ap Some (ap place_name y.2))

  module _ (roots : RootsDiffer) (unit : List ℕ) where
    reached_item : (i : ℕ) → IsReached unit items (calls krate) i → i < length items
    reached_item i (zero, has) = (let l = All-contains (λ r. r < length (map is_inline items)) (numbers_where (is_own unit) 0 items) i (roots (is_own unit) is_inline items).below has in omega (arith, l, length-map items is_inline))
    reached_item i (suc n, path) = (let l = may_below (map is_inline items) i path.2.3 in omega (arith, l, length-map items is_inline))

    all_known : (i : ℕ) → IsReached unit items (calls krate) i → IsKnown items (calls krate) i
    all_known i reached =
        let x = number_within items i (reached_item i reached) in
        let p = item_placed krate tidy i x.0 x.1 in
        (numbers (names_in krate) (callees krate p.0), asked i p.0 p.1)

    module _ (reached : MembersReached) (once : MembersOnce) (missing : NoneMissing) where
      none_wanted : wanted_of unit items (calls krate) ≡ None
      none_wanted = (missing unit items (calls krate)).1 all_known

      pub member : (i : ℕ) → Contains (member_numbers unit items (calls krate)) i → IsMember unit items (calls krate) i
      member i has =
          let within = All-contains (λ r. r < length items) (member_numbers unit items (calls krate)) i (once unit items (calls krate)).below has in
          let x = number_within items i within in
          let here : place_numbered items i ≡ Some (dead.place_of x.0) = ap (option_map dead.place_of) x.1 in
          let its = (reached unit items (calls krate) none_wanted (dead.place_of x.0)).0 ((places_contain items (member_numbers unit items (calls krate)) (dead.place_of x.0)).1 (i, has, here)) in
          subst (IsMember unit items (calls krate)) (numbered_once its.0 i (dead.place_of x.0) its.2 here) its.1

      pub numbered_member : (i : ℕ) → IsMember unit items (calls krate) i → Contains (member_numbers unit items (calls krate)) i
      numbered_member i m =
          let here : place_numbered items i ≡ Some (dead.place_of m.item) = ap (option_map dead.place_of) m.numbered in
          let its = (places_contain items (member_numbers unit items (calls krate)) (dead.place_of m.item)).0 ((reached unit items (calls krate) none_wanted (dead.place_of m.item)).1 (i, m, here)) in
          subst (Contains (member_numbers unit items (calls krate))) (numbered_once its.0 i (dead.place_of m.item) its.2 here) its.1

  -- ---- Calls of members.

  -- a function of kind 2 that a member calls is a member
  pub callee_member : (unit : List ℕ) (i j : ℕ) (p q : Placed) → slice_get krate.items i ≡ Some p → IsMember unit items (calls krate) i
      → slice_get krate.items j ≡ Some q → is_inline (the_item q) ≡ true → is_function (the_item q) ≡ true → Contains (called_of krate p) (place_of q) → IsMember unit items (calls krate) j
  callee_member unit i j p q at m there inline function has = record { item = the_item q; numbered = here; either = inr (inline, elim m.either [ inl own ↦ (1, (i, root own, step)) | inr copy ↦ (suc copy.1.0, (i, copy.1.1, step)) ]) }
    where
      here : slice_get items j ≡ Some (the_item q)
      here = item_numbered krate tidy j q there

      root : is_own unit m.item ≡ true → Contains (numbers_where (is_own unit) 0 items) i
      root own = (passing_numbers (is_own unit) items i).1 (m.item, m.numbered, own)

      step : Calls (map is_inline items) asks i j
      step = (numbers (names_in krate) (callees krate p), asked i p at, called_number p q j there function has, get_or_from_slice_get (map is_inline items) j true false (got_map is_inline items j (the_item q) here ∙ ap Some inline))

  own_item : (q : Placed) → ((the_item q).kind == 1) ≡ true → is_own q.«module» (the_item q) ≡ true
  own_item q kind = and_from ((the_item q).kind == 1) (bytes_eq q.«module» q.«module») kind ((bytes_eq-Decides q.«module» q.«module»).1 refl)

  -- a function of kind 1 is a member of its module's unit
  pub own_member : (j : ℕ) (q : Placed) → slice_get krate.items j ≡ Some q → ((the_item q).kind == 1) ≡ true → IsMember q.«module» items (calls krate) j
  own_member j q there kind = record { item = the_item q; numbered = item_numbered krate tidy j q there; either = inl (own_item q kind) }

  listed : (j : ℕ) (q : Placed) → slice_get krate.items j ≡ Some q → IsListed krate.modules q
  listed j q e = each_at (IsListed krate.modules) krate.items q (each_throughout (IsListed krate.modules) krate.items tidy.listed) (at_number krate.items j q e)

  pub own_unit : (j : ℕ) (q : Placed) → slice_get krate.items j ≡ Some q → ((the_item q).kind == 1) ≡ true → Contains (units_of (tree_index krate)) q.«module»
  own_unit j q e kind = contains_filter (has_own items) ([] ∷ krate.modules) q.«module» (among (listed j q e)) (any_passes_from_place (is_own q.«module») items j (the_item q) (item_numbered krate tidy j q e) (own_item q kind))
    where
      among : (q.«module» ≡ []) ⊎ Contains krate.modules q.«module» → Contains ([] ∷ krate.modules) q.«module»
      among (inl root) = (0, omega arith, sym root)
      among (inr has) = later [] krate.modules q.«module» has
