-- A search that asks for calls one after the other finds what the search over all calls finds.
use Rattle.std.proofs.Common.{◌≡◌, ◌⊎◌, inl, inr, ℕ, zero, suc, ◌+◌, ◌-◌, ◌<◌, nat_eq, Bool, true, false, List, [], ◌∷◌, ◌++◌, length, map, refl, sym, ap, ◌∙◌, arith, if◌then◌else◌, length-append}
use Rattle.std.specs.Prelude.{Option, Some, None, slice_get, option_and_then}
use Rattle.std.specs.Option.{option_map}
use Rattle.std.specs.List.{Contains, list_any}
use Rattle.std.proofs.lemmas.Bool.{false_from_ne_true}
use Rattle.std.proofs.lemmas.Cmp.{nat_eq_equiv}
use Rattle.std.proofs.lemmas.List.{length-map}
use Rattle.std.proofs.lemmas.List.Elements.{All-contains, All-push, Contains-append_cases}
use Rattle.std.proofs.lemmas.Map.Keys.{IsDistinct-push}
use Rattle.std.proofs.lemmas.Map.Steps.{length-le_from_distinct_below}
use Rattle.std.proofs.lemmas.Map.Views.{Contains-from_any, exact_unsigned_eq}
use Rattle.std.proofs.lemmas.Option.{get_or_from_slice_get, none-some, slice_get_cases, slice_get_within}
use Rattle.inc_query.specs.Plans.{Plan, given}
use Rattle.inc_query.specs.declared.query.Query.{Query}
use Rattle.rs_tree.specs.declared.index.IndexItem.{IndexItem}
use Rattle.rs_tree.specs.declared.place.Place.{Place}
use Rattle.rs_lookup.specs.Places.{Name, item_name, place_from, place_name, same}
use Rattle.rs_reach.specs.Dead.{numbers_where, place_of, search}
use Rattle.rs_reach.specs.Places.{ask, call_names, calls_at, numbers}
use Rattle.rs_reach.specs.Search.{State, next, start, walk}
use Rattle.rs_reach.specs.Laws.{AreRoots}
use Rattle.rs_reach.proofs.Found.{ends, finds_once, reads_agree, stays}
use Rattle.rs_reach.proofs.Numbered.{roots_differ}
use Rattle.rs_units.specs.Laws.{AreNumbers, IsKnown}
use Rattle.rs_units.specs.Members.{place_numbered}
use Rattle.rs_plans.specs.Readings.{places_in}
use Rattle.rs_plans.specs.Steps.{ask_calls, ask_wanted, query}
use Rattle.rs_plans.proofs.Fresh.{same_is, same_self}
use Rattle.link_laws.proofs.Lists.{none_distinct}
use Rattle.link_laws.proofs.Places.{got_map, map_some, then_some}
use Rattle.plan_laws.proofs.Given.{given_ask}
use Rattle.plan_laws.proofs.Lookups.{shifted}

-- ---- What is known of calls, by name.

abbrev Calls : Type 0
Calls = List (Place × List Place)

abbrev its_calls : Calls → ℕ → Option (List Place)
its_calls calls j = option_map (λ (c : Place × List Place). c.1) (slice_get calls j)

-- the first entry counts
call_first : (c : Place × List Place) (calls : Calls) (k : Name) → calls_at (c ∷ calls) k ≡ (if same k (place_name c.0) then Some c.1 else calls_at calls k)
call_first c calls k = by (same k (place_name c.0))
  where
    past : (o : Option ℕ) → option_and_then (its_calls (c ∷ calls)) (option_map suc o) ≡ option_and_then (its_calls calls) o
    past None = refl
    past (Some j) = refl

    by : (b : Bool) → option_and_then (its_calls (c ∷ calls)) (if b then Some 0 else place_from k (0 + 1) (call_names calls)) ≡ (if b then Some c.1 else calls_at calls k)
    by true = refl
    by false = ap (option_and_then (its_calls (c ∷ calls))) (shifted k 0 (call_names calls)) ∙ past (place_from k 0 (call_names calls))

-- what is known stays so
stays_known : (calls more : Calls) (k : Name) (ps : List Place) → calls_at calls k ≡ Some ps → calls_at (calls ++ more) k ≡ Some ps
stays_known [] more k ps e = absurd (none-some ps e)
stays_known (c ∷ calls) more k ps e = call_first c (calls ++ more) k ∙ by (same k (place_name c.0)) (stays_known calls more k ps) (sym (call_first c calls k) ∙ e)
  where
    by : (b : Bool) → (calls_at calls k ≡ Some ps → calls_at (calls ++ more) k ≡ Some ps) → (if b then Some c.1 else calls_at calls k) ≡ Some ps → (if b then Some c.1 else calls_at (calls ++ more) k) ≡ Some ps
    by true rest h = h
    by false rest h = rest h

-- of one more is known what was, and its own
known_last : (calls : Calls) (p : Place) (ps : List Place) (k : Name) (qs : List Place) → calls_at (calls ++ (p, ps) ∷ []) k ≡ Some qs → (calls_at calls k ≡ Some qs) ⊎ ((k ≡ place_name p) × (Some ps ≡ Some qs))
known_last [] p ps k qs e = by (same k (place_name p)) refl (sym (call_first (p, ps) [] k) ∙ e)
  where
    by : (b : Bool) → same k (place_name p) ≡ b → (if b then Some ps else calls_at [] k) ≡ Some qs → (calls_at [] k ≡ Some qs) ⊎ ((k ≡ place_name p) × (Some ps ≡ Some qs))
    by true is h = inr (same_is k (place_name p) is, h)
    by false is h = inl h
known_last (c ∷ calls) p ps k qs e = by (same k (place_name c.0)) refl (known_last calls p ps k qs) (sym (call_first c (calls ++ (p, ps) ∷ []) k) ∙ e)
  where
    by : (b : Bool) → same k (place_name c.0) ≡ b → (calls_at (calls ++ (p, ps) ∷ []) k ≡ Some qs → (calls_at calls k ≡ Some qs) ⊎ ((k ≡ place_name p) × (Some ps ≡ Some qs)))
        → (if b then Some c.1 else calls_at (calls ++ (p, ps) ∷ []) k) ≡ Some qs → (calls_at (c ∷ calls) k ≡ Some qs) ⊎ ((k ≡ place_name p) × (Some ps ≡ Some qs))
    by true is rest h = inl (call_first c calls k ∙ ap (λ b. if b then Some c.1 else calls_at calls k) is ∙ h)
    by false is rest h = elim (rest h) [ inl old ↦ inl (call_first c calls k ∙ ap (λ b. if b then Some c.1 else calls_at calls k) is ∙ old) | inr new ↦ inr new ]

last_known : (calls : Calls) (p : Place) (ps : List Place) → (qs : List Place) × (calls_at (calls ++ (p, ps) ∷ []) (place_name p) ≡ Some qs)
last_known [] p ps = (ps, call_first (p, ps) [] (place_name p) ∙ ap (λ b. if b then Some ps else calls_at [] (place_name p)) (same_self (place_name p)))
last_known (c ∷ calls) p ps = by (same (place_name p) (place_name c.0)) refl (last_known calls p ps)
  where
    whole : (b : Bool) → same (place_name p) (place_name c.0) ≡ b → calls_at (c ∷ calls ++ (p, ps) ∷ []) (place_name p) ≡ (if b then Some c.1 else calls_at (calls ++ (p, ps) ∷ []) (place_name p))
    whole b is = call_first c (calls ++ (p, ps) ∷ []) (place_name p) ∙ ap (λ b. if b then Some c.1 else calls_at (calls ++ (p, ps) ∷ []) (place_name p)) is

    by : (b : Bool) → same (place_name p) (place_name c.0) ≡ b → (qs : List Place) × (calls_at (calls ++ (p, ps) ∷ []) (place_name p) ≡ Some qs) → (qs : List Place) × (calls_at (c ∷ calls ++ (p, ps) ∷ []) (place_name p) ≡ Some qs)
    by true is rest = (c.1, whole true is)
    by false is rest = (rest.0, whole false is ∙ rest.1)

-- what is known of the one is known of the other, and the same
abbrev pub IsPart : Calls → Calls → Type 0
IsPart calls full = (k : Name) (ps : List Place) → calls_at calls k ≡ Some ps → calls_at full k ≡ Some ps

ask_part : (names : List Name) (calls full : Calls) → IsPart calls full → (i : ℕ) (cs : List ℕ) → ask names calls i ≡ Some cs → ask names full i ≡ Some cs
ask_part names calls full part i cs e =
    let outer = map_some (numbers names) (option_and_then (calls_at calls) (slice_get names i)) cs e in
    let inner = then_some (calls_at calls) (slice_get names i) outer.0 outer.1 in
    ap (λ o. option_map (numbers names) (option_and_then (calls_at full) o)) inner.1 ∙ ap (option_map (numbers names)) (part inner.0 outer.0 inner.2) ∙ ap Some outer.2

-- ---- One search.

module _ (from may : IndexItem → Bool) (items : List IndexItem) where
  abbrev names : List Name
  names = map item_name items

  abbrev marks : List Bool
  marks = map may items

  abbrev begun : State
  begun = start (numbers_where from 0 items)

  -- the next function whose calls are missing
  abbrev pub wanted : Calls → Option Place
  wanted calls = option_and_then (place_numbered items) (next (search from may items calls))

  are_roots : (calls : Calls) → AreRoots marks (search from may items calls).found
  are_roots calls = finds_once marks (ask names calls) (numbers_where from 0 items) (length marks + 1) (roots_differ from may items)

  none_asked : (calls : Calls) → option_and_then (ask names calls) (next (search from may items calls)) ≡ None
  none_asked calls = ends marks (ask names calls) (numbers_where from 0 items) (roots_differ from may items)

  -- a number that is found is that of an item
  found_item : (calls : Calls) (i : ℕ) → next (search from may items calls) ≡ Some i → (x : IndexItem) × (slice_get items i ≡ Some x)
  found_item calls i e =
      let s = search from may items calls in
      let below = All-contains (λ r. r < length marks) s.found i (are_roots calls).below (s.asked, slice_get_within s.found s.asked i e, get_or_from_slice_get s.found s.asked i i e) in
      elim (slice_get_cases items i).1 [ inl h ↦ (h.0, h.2) | inr h ↦ absurd (omega (arith, h.0, below, length-map items may)) ]

  record Missing (calls : Calls) (p : Place) : Type 0 where
    number : ℕ
    item : IndexItem
    numbered : slice_get items number ≡ Some item
    placed : place_of item ≡ p
    missing : ask names calls number ≡ None

  missing_next : (calls : Calls) (p : Place) → wanted calls ≡ Some p → Missing calls p
  missing_next calls p e =
      let outer = then_some (place_numbered items) (next (search from may items calls)) p e in
      let inner = map_some place_of (slice_get items outer.0) p outer.2 in
      record {
        number = outer.0;
        item = inner.0;
        numbered = inner.1;
        placed = inner.2;
        missing = ap (option_and_then (ask names calls)) (sym outer.1) ∙ none_asked calls;
      }

  none_next : (calls : Calls) → wanted calls ≡ None → next (search from may items calls) ≡ None
  none_next calls none = by (next (search from may items calls)) refl
    where
      by : (o : Option ℕ) → next (search from may items calls) ≡ o → o ≡ None
      by None e = refl
      by (Some i) e =
          let x = found_item calls i e in
          let place : option_and_then (place_numbered items) (Some i) ≡ Some (place_of x.0) = ap (option_map place_of) x.1 in
          absurd (none-some (place_of x.0) (sym none ∙ ap (option_and_then (place_numbered items)) e ∙ place))

  -- where nothing is wanted, what is known is enough
  pub same_search : (calls full : Calls) → IsPart calls full → wanted calls ≡ None → search from may items calls ≡ search from may items full
  same_search calls full part none = reads_agree marks (ask names calls) (ask names full) begun (length marks + 1) agree
    where
      walks : ℕ → State
      walks k = walk marks (ask names calls) begun k

      agree : (k : ℕ) → k < length marks + 1 → option_and_then (ask names calls) (next (walk marks (ask names calls) begun k)) ≡ option_and_then (ask names full) (next (walk marks (ask names calls) begun k))
      agree k l = by (next (walk marks (ask names calls) begun k)) refl
        where
          never : (i : ℕ) → next (walk marks (ask names calls) begun k) ≡ Some i → ask names calls i ≡ None → ⊥
          never i is lost =
              let stuck : option_and_then (ask names calls) (next (walk marks (ask names calls) begun k)) ≡ None = ap (option_and_then (ask names calls)) is ∙ lost in
              let rest : (m : ℕ) × (k + m ≡ length marks + 1) = (length marks + 1 - k, omega (arith, l)) in
              let same = stays marks (ask names calls) begun k rest.0 stuck in
              none-some i (sym (none_next calls none) ∙ ap (λ n. next (walk marks (ask names calls) begun n)) (sym rest.1) ∙ ap next same ∙ is)

          here : (i : ℕ) → next (walk marks (ask names calls) begun k) ≡ Some i → (o : Option (List ℕ)) → ask names calls i ≡ o → o ≡ ask names full i
          here i is None e = absurd (never i is e)
          here i is (Some cs) e = sym (ask_part names calls full part i cs e)

          by : (o : Option ℕ) → next (walk marks (ask names calls) begun k) ≡ o → option_and_then (ask names calls) o ≡ option_and_then (ask names full) o
          by None is = refl
          by (Some i) is = here i is (ask names calls i) refl

  -- ---- Calls that are asked for by queries, which give those of `full`.

  module _ (v : Query → List ℕ) (full : Calls) (knows : (i : ℕ) (x : IndexItem) → slice_get items i ≡ Some x → (ps : List Place) × (calls_at full (item_name x) ≡ Some ps) × (places_in (v (query 6 (place_of x))) ≡ Some ps)) where
    -- the calls of the items with these numbers are known
    record Asked (calls : Calls) (is : List ℕ) : Type 0 where
      part : IsPart calls full
      known : (i : ℕ) → Contains is i → IsKnown items calls i
      numbers : AreNumbers items is

    module _ (calls : Calls) (is : List ℕ) (a : Asked calls is) (p : Place) (m : Missing calls p) where
      told : (ps : List Place) × (calls_at full (item_name m.item) ≡ Some ps) × (places_in (v (query 6 (place_of m.item))) ≡ Some ps)
      told = knows m.number m.item m.numbered

      read : places_in (v (query 6 p)) ≡ Some told.0
      read = ap (λ q. places_in (v (query 6 q))) (sym m.placed) ∙ told.2

      abbrev larger : Calls
      larger = calls ++ (p, told.0) ∷ []

      named : item_name m.item ≡ place_name p
      named = ap place_name m.placed

      new : list_any (nat_eq m.number) is ≡ false
      new = false_from_ne_true (list_any (nat_eq m.number) is) (λ e. (let k = a.known m.number (Contains-from_any {eq = nat_eq} exact_unsigned_eq m.number is e) in none-some k.0 (sym m.missing ∙ k.1)))

      numbers_more : AreNumbers items (is ++ m.number ∷ [])
      numbers_more = record {
        below = All-push (λ i. i < length items) is m.number a.numbers.below (slice_get_within items m.number m.item m.numbered);
        once = IsDistinct-push nat_eq_equiv is m.number a.numbers.once new;
      }

      part_more : IsPart larger full
      part_more k ps e = elim (known_last calls p told.0 k ps e) [
        | inl old ↦ a.part k ps old
        | inr new ↦ ap (calls_at full) (new.0 ∙ sym named) ∙ told.1 ∙ new.1
      ]

      known_more : (i : ℕ) → Contains (is ++ m.number ∷ []) i → IsKnown items larger i
      known_more i has = elim (Contains-append_cases is (m.number ∷ []) i has) [
        | inl old ↦ (let k = a.known i old in (k.0, ask_part names calls larger (λ q ps e. stays_known calls ((p, told.0) ∷ []) q ps e) i k.0 k.1))
        | inr new ↦ last i (only i new)
      ]
        where
          only : (i : ℕ) → Contains (m.number ∷ []) i → m.number ≡ i
          only i (zero, l, e) = e
          only i (suc n, l, e) = absurd (omega (arith, l))

          last : (i : ℕ) → m.number ≡ i → IsKnown items larger i
          last i e =
              let its = last_known calls p told.0 in
              let at : slice_get names i ≡ Some (place_name p) = ap (slice_get names) (sym e) ∙ got_map item_name items m.number m.item m.numbered ∙ ap Some named in
              (numbers names its.0, ap (λ o. option_map (numbers names) (option_and_then (calls_at larger) o)) at ∙ ap (option_map (numbers names)) its.1)

      asked_more : Asked larger (is ++ m.number ∷ [])
      asked_more = record { part = part_more; known = known_more; numbers = numbers_more }

      -- not all items were asked
      more_left : length is < length items
      more_left =
          let once = is ++ m.number ∷ [] in
          let few = length-le_from_distinct_below once (length items) numbers_more.once (λ q h. All-contains (λ i. i < length items) once q numbers_more.below (Contains-from_any {eq = nat_eq} exact_unsigned_eq q once h)) in
          omega (arith, few, length-append is (m.number ∷ []))

      room : (n : ℕ) → suc n + length is ≡ length items → n + length (is ++ m.number ∷ []) ≡ length items
      room n e = omega (arith, e, length-append is (m.number ∷ []))

    -- calls that are enough, with which the plan goes on
    pub record Ended (n : ℕ) (calls : Calls) : Type 0 where
      pub last : Calls
      pub part : IsPart last full
      pub none : wanted last ≡ None
      pub gives : (more : Calls → Plan) → given v (ask_calls n wanted calls more) ≡ given v (more last)

    ended : (n : ℕ) (calls : Calls) (is : List ℕ) → Asked calls is → n + length is ≡ length items → Ended n calls
    ended zero calls is a e = by (wanted calls) refl
      where
        by : (o : Option Place) → wanted calls ≡ o → Ended zero calls
        by None none = record { last = calls; part = a.part; none = none; gives = λ more. refl }
        by (Some p) some = absurd (omega (arith, e, more_left calls is a p (missing_next calls p some)))
    ended (suc n) calls is a e = by (wanted calls) refl (λ known ns more room. ended n known ns more room)
      where
        goes : (more : Calls → Plan) (o : Option Place) → wanted calls ≡ o → given v (ask_calls (suc n) wanted calls more) ≡ given v (ask_wanted (λ known. ask_calls n wanted known more) more calls o)
        goes more o is = ap (λ o. given v (ask_wanted (λ known. ask_calls n wanted known more) more calls o)) is

        by : (o : Option Place) → wanted calls ≡ o → ((known : Calls) (ns : List ℕ) → Asked known ns → n + length ns ≡ length items → Ended n known) → Ended (suc n) calls
        by None none rest = record { last = calls; part = a.part; none = none; gives = λ more. goes more None none }
        by (Some p) some rest =
            let m = missing_next calls p some in
            let next = rest (larger calls is a p m) (is ++ m.number ∷ []) (asked_more calls is a p m) (room calls is a p m n e) in
            record {
              last = next.last;
              part = next.part;
              none = next.none;
              gives = λ more. goes more (Some p) some ∙ given_ask v (query 6 p) places_in (λ ps. ask_calls n wanted (calls ++ (p, ps) ∷ []) more) (told calls is a p m).0 (read calls is a p m) ∙ next.gives more;
            }

    -- what the plan gives depends on the search alone, which is that over all calls
    pub search_given : (more : Calls → Plan) → ((calls : Calls) → search from may items calls ≡ search from may items full → given v (more calls) ≡ given v (more full)) → given v (ask_calls (length items) wanted [] more) ≡ given v (more full)
    search_given more same =
        let its = ended (length items) [] [] (record { part = λ k ps e. absurd (none-some ps e); known = λ i has. absurd (omega (arith, has.1)); numbers = record { below = λ k d l. absurd (omega (arith, l)); once = none_distinct nat_eq } }) (omega arith) in
        its.gives more ∙ same its.last (same_search its.last full its.part its.none)
