-- A search that goes on where the calls of one more function are known.
use Rattle.std.proofs.Common.{◌≡◌, ℕ, ◌+◌, ◌<◌, inl, inr, zero, suc, Bool, true, false, List, [], ◌∷◌, ◌++◌, length, length-set, get_or, take, Option, Some, None, Vec, Global, refl, sym, ap, ◌∙◌, arith}
use Rattle.std.specs.Prelude.{replicate, slice_get, slice_set, option_and_then, if◌then◌else◌}
use Rattle.std.specs.Option.{option_map, option_map_or, option_or}
use Rattle.std.specs.List.{cons_option}
use Rattle.std.proofs.lemmas.List.Elements.{filter_map-append}
use Rattle.std.proofs.lemmas.List.{take_more, get_or-replicate, get_or-set_other, get_or-set_same, length-replicate}
use Rattle.std.proofs.lemmas.Option.{none-some, option_and_then_some, same_Some, slice_get-get_or, slice_get_cases, slice_get_past, slice_get_within}
use Rattle.rs_tree.specs.declared.place.Place.{Place}
use Rattle.rs_lookup.specs.Places.{Name, place_from, place_name, same}
use Rattle.rs_reach.specs.Search.{State, start, next, told, step, walk}
use Rattle.rs_reach.specs.Places.{IsLeft, ask, calls_at, numbers}
use Rattle.rs_reach.specs.Laws.{AreRoots}
use Rattle.rs_units.specs.Ready.{kept}
use Rattle.rs_provider.specs.Walks.{IsWalk, first_named, held, state_of}
use Rattle.rs_provider.specs.declared.walk.Walk.{Walk}
use Rattle.rs_provider.proofs.Firsts.{calls_more, names_same, placed_at, same_names, some_place}
use Rattle.rs_reach.proofs.Found.{ends, stays}

-- ---- Steps by what was known are steps by more.

module _ (may : List Bool) (ask more : ℕ → Option (List ℕ)) (extends : (i : ℕ) (cs : List ℕ) → ask i ≡ Some cs → more i ≡ Some cs) (s : State) where
  left_steps : (n : ℕ) → (k : ℕ) × (walk may ask s n ≡ walk may more s k)
  left_steps zero = (0, refl)
  left_steps (suc n) = by (left_steps n).0 (walk may ask s n) (left_steps n).1 (option_and_then ask (next (walk may ask s n))) refl
    where
      by : (k : ℕ) (t : State) → t ≡ walk may more s k → (o : Option (List ℕ)) → option_and_then ask (next t) ≡ o → (j : ℕ) × (option_map_or (told may t) o t ≡ walk may more s j)
      by k t is None e = (k, is)
      by k t is (Some cs) e =
          (let told_so : option_and_then more (next t) ≡ Some cs = option_and_then_some ask (next t) cs e (λ a at has. ap (option_and_then more) at ∙ extends a cs has) in
          (suc k, sym (ap (λ o. option_map_or (told may t) o t) told_so) ∙ ap (step may more) is))

  steps_on : (n m : ℕ) → walk may more (walk may more s n) m ≡ walk may more s (n + m)
  steps_on n zero = (let at : n ≡ n + 0 = omega arith in ap (walk may more s) at)
  steps_on n (suc m) = (let at : suc (n + m) ≡ n + suc m = omega arith in ap (step may more) (steps_on n m) ∙ ap (walk may more s) at)

-- so a search that went as far as it could goes on to where it would be
pub goes_on : (may : List Bool) (ask more : ℕ → Option (List ℕ)) (roots : List ℕ) → AreRoots may roots → ((i : ℕ) (cs : List ℕ) → ask i ≡ Some cs → more i ≡ Some cs)
    → walk may more (walk may ask (start roots) (length may + 1)) (length may + 1) ≡ walk may more (start roots) (length may + 1)
goes_on may ask more roots good extends =
    let s = start roots in
    let n = length may + 1 in
    let k = left_steps may ask more extends s n in
    let order : k.0 + n ≡ n + k.0 = omega arith in
    ap (λ t. walk may more t n) k.1 ∙ steps_on may ask more extends s k.0 n ∙ ap (walk may more s) order ∙ stays may more s n k.0 (ends may more roots good)

-- ---- What is kept of the calls.

abbrev none : Option (Vec ℕ Global)
none = None

kept_none : (n i : ℕ) → kept (replicate n None) i ≡ None
kept_none n i = elim (slice_get_cases (replicate n none) i).1 [
  | inl p ↦
      (let low : i < n = omega (arith, p.1, length-replicate n none) in
      let is : p.0 ≡ none = sym p.3 ∙ get_or-replicate n i none p.0 low in
      ap (option_and_then (option_map (λ (v : Vec ℕ Global). v.items))) (p.2 ∙ ap Some is))
  | inr p ↦ ap (option_and_then (option_map (λ (v : Vec ℕ Global). v.items))) p.1
]

-- nothing is known at first
held_none : (names : List Name) (n i : ℕ) → held names (replicate n None) i ≡ None
held_none names n i = by (first_named names i)
  where
    by : (o : Option ℕ) → option_and_then (kept (replicate n None)) o ≡ None
    by None = refl
    by (Some f) = kept_none n f

asked_none : (names : List Name) (i : ℕ) → ask names [] i ≡ None
asked_none names i = by (slice_get names i)
  where
    by : (o : Option Name) → option_map (numbers names) (option_and_then (calls_at []) o) ≡ None
    by None = refl
    by (Some k) = refl

pub begins : (names : List Name) (may : List Bool) (roots : List ℕ) (w : Walk) → length names ≡ length may → w.known.items ≡ replicate (length may) None → state_of w.reached ≡ start roots
    → IsLeft may w.reached.left.items w.reached.found.items → IsWalk names may roots [] w
begins names may roots w named known at left = record {
  named = named;
  long = ap length known ∙ length-replicate (length may) None;
  known = λ i. ap (λ its. held names its i) known ∙ held_none names (length may) i ∙ sym (asked_none names i);
  reached = at ∙ sym (stays may (ask names []) (start roots) 0 (length may + 1) (first (next (start roots)))) ∙ ap (walk may (ask names []) (start roots)) count;
  left = left;
}
  where
    count : 0 + (length may + 1) ≡ length may + 1
    count = omega arith

    first : (o : Option ℕ) → option_and_then (ask names []) o ≡ None
    first None = refl
    first (Some i) = asked_none names i

slice_get-set_other : {X : Type 0} (xs : List X) (i j : ℕ) (x : X) → (j ≡ i → ⊥) → slice_get (slice_set xs i x) j ≡ slice_get xs j
slice_get-set_other xs i j x other = elim (slice_get_cases xs j).1 [
  | inl p ↦ slice_get-get_or (slice_set xs i x) j p.0 (omega (arith, p.1, length-set xs i x)) ∙ ap Some (get_or-set_other xs i j x p.0 other ∙ p.3) ∙ sym p.2
  | inr p ↦ slice_get_past (slice_set xs i x) j (omega (arith, p.0, length-set xs i x)) ∙ sym p.1
]

module _ (names : List Name) (calls : List (Place × List Place)) (p : Place) (ps : List Place) where
  abbrev later : List (Place × List Place)
  later = calls ++ (p, ps) ∷ []

  -- what was known stays
  asked_before : (i : ℕ) (cs : List ℕ) → ask names calls i ≡ Some cs → ask names later i ≡ Some cs
  asked_before i cs e = by (slice_get names i) e
    where
      known : (o q : Option (List Place)) → option_map (numbers names) o ≡ Some cs → option_map (numbers names) (option_or o q) ≡ Some cs
      known None q h = absurd (none-some cs h)
      known (Some xs) q h = h

      by : (o : Option Name) → option_map (numbers names) (option_and_then (calls_at calls) o) ≡ Some cs → option_map (numbers names) (option_and_then (calls_at later) o) ≡ Some cs
      by None h = absurd (none-some cs h)
      by (Some k) h = ap (option_map (numbers names)) (calls_more k calls p ps) ∙ known (calls_at calls k) (if same k (place_name p) then Some ps else None) h

  module _ (was : List (Option (Vec ℕ Global))) (f : ℕ) (ns : Vec ℕ Global) (gives : ns.items ≡ numbers names ps) (first : place_from (place_name p) 0 names ≡ Some f) (within : f < length was)
      (missing : calls_at calls (place_name p) ≡ None) (known : (i : ℕ) → held names was i ≡ ask names calls i) where
    abbrev now : List (Option (Vec ℕ Global))
    now = slice_set was f (Some ns)

    here : kept now f ≡ Some (numbers names ps)
    here = ap (option_and_then (option_map (λ (v : Vec ℕ Global). v.items))) (slice_get-get_or now f None (omega (arith, within, length-set was f (Some ns))) ∙ ap Some (get_or-set_same was f (Some ns) None within)) ∙ ap Some gives

    there : (g : ℕ) → (g ≡ f → ⊥) → kept now g ≡ kept was g
    there g other = ap (option_and_then (option_map (λ (v : Vec ℕ Global). v.items))) (slice_get-set_other was f g (Some ns) other)

    by_name : (k : Name) → option_and_then (kept was) (place_from k 0 names) ≡ option_map (numbers names) (calls_at calls k) → (b : Bool) → same k (place_name p) ≡ b
        → option_and_then (kept now) (place_from k 0 names) ≡ option_map (numbers names) (option_or (calls_at calls k) (if b then Some ps else None))
    by_name k before true e =
        (let name = same_names k (place_name p) e in
        ap (λ q. option_and_then (kept now) (place_from q 0 names)) name ∙ ap (option_and_then (kept now)) first ∙ here
        ∙ sym (ap (λ o. option_map (numbers names) (option_or o (Some ps))) (ap (calls_at calls) name ∙ missing)))
    by_name k before false e = on (place_from k 0 names) refl ∙ before ∙ ap (option_map (numbers names)) (sym (or_none (calls_at calls k)))
      where
        or_none : (o : Option (List Place)) → option_or o None ≡ o
        or_none None = refl
        or_none (Some xs) = refl

        on : (o : Option ℕ) → place_from k 0 names ≡ o → option_and_then (kept now) o ≡ option_and_then (kept was) o
        on None at = refl
        on (Some g) at = there g (λ is.
            (let name : k ≡ place_name p = same_Some k (place_name p) (sym (placed_at k names g at) ∙ ap (slice_get names) is ∙ placed_at (place_name p) names f first) in
            let bad : true ≡ false = sym (names_same k (place_name p) name) ∙ e in
            absurd cc))

    -- the first item of the name has them
    held_more : (i : ℕ) → held names now i ≡ ask names later i
    held_more i = by (slice_get names i) refl
      where
        by : (o : Option Name) → slice_get names i ≡ o → option_and_then (kept now) (option_and_then (λ k. place_from k 0 names) o) ≡ option_map (numbers names) (option_and_then (calls_at later) o)
        by None e = refl
        by (Some k) e =
            (let before = ap (λ o. option_and_then (kept was) (option_and_then (λ k. place_from k 0 names) o)) (sym e) ∙ known i ∙ ap (λ o. option_map (numbers names) (option_and_then (calls_at calls) o)) e in
            by_name k before (same k (place_name p)) refl ∙ ap (option_map (numbers names)) (sym (calls_more k calls p ps)))

-- ---- A walk, with one more.

map_none : {A B : Type 0} (f : A → B) (o : Option A) → option_map f o ≡ None → o ≡ None
map_none f None e = refl
map_none f (Some x) e = absurd (none-some (f x) (sym e))

pub with_one : (names : List Name) (may : List Bool) (roots : List ℕ) (calls : List (Place × List Place)) (p : Place) (ps : List Place) (w v : Walk) (ns : Vec ℕ Global) → AreRoots may roots → IsWalk names may roots calls w
    → option_and_then (slice_get names) (next (state_of w.reached)) ≡ Some (place_name p) → ns.items ≡ numbers names ps
    → v.known.items ≡ option_map_or (λ i. slice_set w.known.items i (Some ns)) (option_and_then (first_named names) (next (state_of w.reached))) w.known.items
    → state_of v.reached ≡ walk may (held names v.known.items) (state_of w.reached) (length v.known.items + 1) → IsLeft may v.reached.left.items v.reached.found.items
    → IsWalk names may roots (calls ++ (p, ps) ∷ []) v
with_one names may roots calls p ps w v ns good is wanted gives sets goes left =
    option_and_then_some (slice_get names) (next (state_of w.reached)) (place_name p) wanted (λ i at name.
    (let first = some_place (place_name p) 0 names i name in
    let f = first.0 in
    let to : option_and_then (first_named names) (next (state_of w.reached)) ≡ Some f = ap (option_and_then (first_named names)) at ∙ ap (option_and_then (λ k. place_from k 0 names)) name ∙ first.1 in
    let known : v.known.items ≡ slice_set w.known.items f (Some ns) = sets ∙ ap (λ o. option_map_or (λ i. slice_set w.known.items i (Some ns)) o w.known.items) to in
    let low = slice_get_within names f (place_name p) (placed_at (place_name p) names f first.1) in
    let within : f < length w.known.items = omega (arith, low, is.named, is.long) in
    let stuck = ap (option_and_then (ask names calls)) (sym at ∙ ap next is.reached) ∙ ends may (ask names calls) roots good in
    let missing = map_none (numbers names) (calls_at calls (place_name p)) (ap (λ o. option_map (numbers names) (option_and_then (calls_at calls) o)) (sym name) ∙ stuck) in
    let helds : (i : ℕ) → held names v.known.items i ≡ ask names (calls ++ (p, ps) ∷ []) i = λ i. ap (λ its. held names its i) known ∙ held_more names calls p ps w.known.items f ns gives first.1 within missing is.known i in
    let long : length v.known.items ≡ length may = ap length known ∙ length-set w.known.items f (Some ns) ∙ is.long in
    record {
      named = is.named;
      long = long;
      known = helds;
      reached = goes ∙ (λ j. walk may (λ i. helds i j) (is.reached j) (long j + 1)) ∙ goes_on may (ask names calls) (ask names (calls ++ (p, ps) ∷ [])) roots good (asked_before names calls p ps);
      left = left;
    }))

-- ---- The code's state.

-- where nothing is kept, the search stops
pub held_then : (names : List Name) (its : List (Option (Vec ℕ Global))) (o : Option ℕ) → option_and_then (kept its) (option_and_then (first_named names) o) ≡ option_and_then (held names its) o
held_then names its None = refl
held_then names its (Some i) = refl

pub asked_within : (names : List Name) (its : List (Option (Vec ℕ Global))) (found : List ℕ) (i : ℕ) (cs : List ℕ) → option_and_then (held names its) (slice_get found i) ≡ Some cs → i < length found
asked_within names its found i cs e = by (slice_get found i) refl e
  where
    by : (o : Option ℕ) → slice_get found i ≡ o → option_and_then (held names its) o ≡ Some cs → i < length found
    by None at h = absurd (none-some cs h)
    by (Some x) at h = slice_get_within found i x at

-- the number of one place more
pub number_more : (names : List Name) (ps : List Place) (i : ℕ) (p : Place) (o : Option ℕ) → i < length ps → p ≡ get_or ps i p → o ≡ place_from (place_name p) 0 names → numbers names (take (i + 1) ps) ≡ numbers names (take i ps) ++ cons_option o []
number_more names ps i p o l is has =
    ap (numbers names) (take_more ps i p l)
    ∙ filter_map-append (λ p. place_from (place_name p) 0 names) (take i ps) (get_or ps i p ∷ [])
    ∙ (λ j. numbers names (take i ps) ++ cons_option (at j) [])
  where
    at : place_from (place_name (get_or ps i p)) 0 names ≡ o
    at = ap (λ x. place_from (place_name x) 0 names) (sym is) ∙ sym has
