-- What a search finds.
use Rattle.std.proofs.Common.{◌≡◌, ℕ, ◌+◌, ◌-◌, ◌<◌, ◌≤◌, ◌⊎◌, inl, inr, zero, suc, Bool, true, false, not, cond, ◌&&◌, nat_eq, List, [], ◌∷◌, ◌++◌, length, refl, sym, ap, subst, ◌∙◌, arith, append_assoc, append-nil, length-append}
use Rattle.std.specs.Prelude.{Option, Some, None, slice_index_or, slice_get, option_and_then}
use Rattle.std.specs.Option.{option_map_or}
use Rattle.std.specs.List.{list_any, Contains, All, IsDistinct}
use Rattle.std.proofs.lemmas.Cmp.{nat_eq_equiv}
use Rattle.std.proofs.lemmas.List.Elements.{All-push, All-contains, Contains-append_left, Contains-push}
use Rattle.std.proofs.lemmas.Option.{option_and_then_some, slice_get_within, slice_get-get_or, get_or_from_slice_get}
use Rattle.std.proofs.lemmas.Map.Views.{Contains-from_any, exact_unsigned_eq}
use Rattle.std.proofs.lemmas.Map.Keys.{IsDistinct-push}
use Rattle.std.proofs.lemmas.Map.Steps.{length-le_from_distinct_below}
use Rattle.rs_reach.specs.Search.{is_new, added, State, start, next, told, step, walk, Calls, Path, Reached}
use Rattle.rs_reach.specs.Laws.{AreRoots, Ends, FindsReached, FindsOnce, ReadsAgree}

-- what holds at the start and after each answer holds after any number of steps
module _ (may : List Bool) (ask : ℕ → Option (List ℕ)) where
  stepped : (I : State → Type 0) (s : State) → ((a : ℕ) (cs : List ℕ) → next s ≡ Some a → ask a ≡ Some cs → I (told may s cs)) → I s → I (step may ask s)
  stepped I s keep i = by (option_and_then ask (next s)) refl
    where
      by : (o : Option (List ℕ)) → option_and_then ask (next s) ≡ o → I (option_map_or (told may s) o s)
      by None e = i
      by (Some cs) e = option_and_then_some ask (next s) cs e (λ a is has. keep a cs is has)

  pub walked : (I : State → Type 0) (s : State) → ((t : State) (a : ℕ) (cs : List ℕ) → next t ≡ Some a → ask a ≡ Some cs → I t → I (told may t cs)) → I s → (n : ℕ) → I (walk may ask s n)
  walked I s keep i zero = i
  walked I s keep i (suc n) = let h = walked I s keep i n in stepped I (walk may ask s n) (λ a cs is has. keep (walk may ask s n) a cs is has h) h

-- one more function that is called
later : (c : ℕ) (cs : List ℕ) (b : ℕ) → Contains cs b → Contains (c ∷ cs) b
later c cs b h = (suc h.0, omega (arith, h.1), h.2)

pub and_true : (a b : Bool) → (a && b) ≡ true → (a ≡ true) × (b ≡ true)
and_true true b e = (refl, e)
and_true false b e = absurd cc

not_true : (b : Bool) → not b ≡ true → b ≡ false
not_true true e = absurd cc
not_true false e = refl

-- what holds of those found, and of each that may be found and is called, holds of all that are found then
pub all_added : (P : ℕ → Type 0) (may : List Bool) (cs found : List ℕ) → All P found → ((c : ℕ) → Contains cs c → slice_index_or may c false ≡ true → P c) → All P (added may found cs)
all_added P may [] found all called = all
all_added P may (c ∷ cs) found all called = all_added P may cs (cond (is_new may found c) (found ++ c ∷ []) found) (by (is_new may found c) refl) (λ d h. called d (later c cs d h))
  where
    by : (b : Bool) → is_new may found c ≡ b → All P (cond b (found ++ c ∷ []) found)
    by true e = All-push P found c all (called c (0, omega arith, refl) (and_true (slice_index_or may c false) (not (list_any (nat_eq c) found)) e).0)
    by false e = all

-- those found stay, in their order
pub grows : (may : List Bool) (cs found : List ℕ) → (more : List ℕ) × (added may found cs ≡ found ++ more)
grows may [] found = ([], sym (append-nil found))
grows may (c ∷ cs) found = by (is_new may found c) (λ xs. grows may cs xs)
  where
    by : (b : Bool) → ((xs : List ℕ) → (more : List ℕ) × (added may xs cs ≡ xs ++ more)) → (more : List ℕ) × (added may (cond b (found ++ c ∷ []) found) cs ≡ found ++ more)
    by true ih = let g = ih (found ++ c ∷ []) in (c ∷ g.0, g.1 ∙ append_assoc found (c ∷ []) g.0)
    by false ih = ih found

-- what may be found and is called is found then
pub is_added : (may : List Bool) (cs found : List ℕ) (b : ℕ) → Contains cs b → slice_index_or may b false ≡ true → Contains (added may found cs) b
is_added may [] found b h m = absurd (omega (arith, h.1))
is_added may (c ∷ cs) found b (zero, l, e) m = by (is_new may found c) refl
  where
    here : (found : List ℕ) → Contains found b → Contains (added may found cs) b
    here found h = (let g = grows may cs found in subst (λ (xs : List ℕ). Contains xs b) (sym g.1) (Contains-append_left found g.0 b h))

    old : (v w : Bool) → v ≡ true → (v && not w) ≡ false → w ≡ true
    old true true h f = refl
    old true false h f = absurd cc
    old false w h f = absurd cc

    by : (v : Bool) → is_new may found c ≡ v → Contains (added may (cond v (found ++ c ∷ []) found) cs) b
    by true is = here (found ++ c ∷ []) (subst (λ (x : ℕ). Contains (found ++ c ∷ []) x) e (Contains-push found c))
    by false is = here found (Contains-from_any {eq = nat_eq} exact_unsigned_eq b found (subst (λ (x : ℕ). list_any (nat_eq x) found ≡ true) e (old _ _ (subst (λ (x : ℕ). slice_index_or may x false ≡ true) (sym e) m) is)))
is_added may (c ∷ cs) found b (suc k, l, e) m = is_added may cs (cond (is_new may found c) (found ++ c ∷ []) found) b (k, omega (arith, l), e) m

-- soundness: what is found is reached
pub sound : (may : List Bool) (ask : ℕ → Option (List ℕ)) (roots : List ℕ) (n : ℕ) → All (Reached may ask roots) (walk may ask (start roots) n).found
sound may ask roots = walked may ask (λ s. All (Reached may ask roots) s.found) (start roots) told_sound (λ k d l. (0, (k, l, in_default roots k d l)))
  where
    in_default : (xs : List ℕ) (k d : ℕ) → k < length xs → slice_index_or xs k (slice_index_or xs k d) ≡ slice_index_or xs k d
    in_default [] k d l = absurd (omega (arith, l))
    in_default (x ∷ xs) zero d l = refl
    in_default (x ∷ xs) (suc k) d l = in_default xs k d (omega (arith, l))

    told_sound : (s : State) (a : ℕ) (cs : List ℕ) → next s ≡ Some a → ask a ≡ Some cs → All (Reached may ask roots) s.found → All (Reached may ask roots) (added may s.found cs)
    told_sound s a cs is has all = all_added (Reached may ask roots) may cs s.found all (λ c called m. (let r = all s.asked a (slice_get_within s.found s.asked a is) in
        let path : Reached may ask roots a = subst (Reached may ask roots) (get_or_from_slice_get s.found s.asked a a is) r in
        (suc path.0, (a, path.1, (cs, has, called, m)))))

-- completeness: those asked have all that they call found
pub record IsClosed (may : List Bool) (ask : ℕ → Option (List ℕ)) (roots : List ℕ) (s : State) : Type 0 where
  pub few : s.asked ≤ length s.found
  pub roots_in : (b : ℕ) → Contains roots b → Contains s.found b
  pub calls_in : (k a b : ℕ) → k < s.asked → slice_get s.found k ≡ Some a → Calls may ask a b → Contains s.found b

pub got_front : (xs ys : List ℕ) (k : ℕ) → k < length xs → slice_get (xs ++ ys) k ≡ slice_get xs k
got_front [] ys k l = absurd (omega (arith, l))
got_front (x ∷ xs) ys zero l = refl
got_front (x ∷ xs) ys (suc k) l = got_front xs ys k (omega (arith, l))

closed : (may : List Bool) (ask : ℕ → Option (List ℕ)) (roots : List ℕ) (n : ℕ) → IsClosed may ask roots (walk may ask (start roots) n)
closed may ask roots = walked may ask (IsClosed may ask roots) (start roots) told_closed (record { few = omega arith; roots_in = λ b h. h; calls_in = λ k a b l. absurd (omega (arith, l)) })
  where
    last : (k n : ℕ) → k < n + 1 → (k < n) ⊎ (k ≡ n)
    last k n l = elim (le_lt k n) [ inl h ↦ inl h | inr h ↦ inr (omega (arith, h, l)) ]
      where
        le_lt : (k n : ℕ) → (k < n) ⊎ (n ≤ k)
        le_lt zero zero = inr (omega arith)
        le_lt zero (suc n) = inl (omega arith)
        le_lt (suc k) zero = inr (omega arith)
        le_lt (suc k) (suc n) = elim (le_lt k n) [ inl h ↦ inl (omega (arith, h)) | inr h ↦ inr (omega (arith, h)) ]

    told_closed : (s : State) (a : ℕ) (cs : List ℕ) → next s ≡ Some a → ask a ≡ Some cs → IsClosed may ask roots s → IsClosed may ask roots (told may s cs)
    told_closed s a cs is has c =
        let g = grows may cs s.found in
        let l = slice_get_within s.found s.asked a is in
        let keep : (b : ℕ) → Contains s.found b → Contains (added may s.found cs) b = λ b h. subst (λ (xs : List ℕ). Contains xs b) (sym g.1) (Contains-append_left s.found g.0 b h) in
        record {
          few = omega (arith, l, ap length g.1, length-append s.found g.0);
          roots_in = λ b h. keep b (c.roots_in b h);
          calls_in = λ k x b less at calls.
              (let same = sym (got_front s.found g.0 k (omega (arith, l, less))) ∙ ap (λ (xs : List ℕ). slice_get xs k) (sym g.1) ∙ at in
              elim (last k s.asked less) [
                | inl h ↦ keep b (c.calls_in k x b h same calls)
                | inr h ↦
                    (let both : Some x ≡ Some a = sym same ∙ ap (slice_get s.found) h ∙ is in
                    let is_a : x ≡ a = cc in
                    let its : Some calls.0 ≡ Some cs = sym calls.1 ∙ ap ask is_a ∙ has in
                    let them : calls.0 ≡ cs = cc in
                    is_added may cs s.found b (subst (λ (xs : List ℕ). Contains xs b) them calls.2) calls.3)
              ]);
        }

pub none_past : (xs : List ℕ) (k : ℕ) → slice_get xs k ≡ None → length xs ≤ k
none_past [] k e = omega arith
none_past (x ∷ xs) zero e = absurd cc
none_past (x ∷ xs) (suc k) e = omega (arith, none_past xs k e)

complete : (may : List Bool) (ask : ℕ → Option (List ℕ)) (roots : List ℕ) (s : State) → IsClosed may ask roots s → next s ≡ None → (n b : ℕ) → Path may ask roots n b → Contains s.found b
complete may ask roots s c none zero b path = c.roots_in b path
complete may ask roots s c none (suc n) b path =
    let a = path.0 in
    let h = complete may ask roots s c none n a path.1 in
    let all = none_past s.found s.asked none in
    c.calls_in h.0 a b (omega (arith, all, h.1)) (slice_get-get_or s.found h.0 a h.1 ∙ ap Some h.2) path.2

pub finds_reached : FindsReached
finds_reached may ask roots n none b = (
  λ h. All-contains (Reached may ask roots) (walk may ask (start roots) n).found b (sound may ask roots n) h,
  λ h. complete may ask roots (walk may ask (start roots) n) (closed may ask roots n) none h.0 b h.1,
)

-- none is found twice, and all have numbers of functions
pub may_below : (may : List Bool) (c : ℕ) → slice_index_or may c false ≡ true → c < length may
may_below [] c e = absurd cc
may_below (m ∷ may) zero e = omega arith
may_below (m ∷ may) (suc c) e = omega (arith, may_below may c e)

pub distinct_added : (may : List Bool) (cs found : List ℕ) → IsDistinct nat_eq found → IsDistinct nat_eq (added may found cs)
distinct_added may [] found d = d
distinct_added may (c ∷ cs) found d = distinct_added may cs (cond (is_new may found c) (found ++ c ∷ []) found) (by (is_new may found c) refl)
  where
    by : (b : Bool) → is_new may found c ≡ b → IsDistinct nat_eq (cond b (found ++ c ∷ []) found)
    by true e = IsDistinct-push nat_eq_equiv found c d (not_true _ (and_true (slice_index_or may c false) (not (list_any (nat_eq c) found)) e).1)
    by false e = d

pub finds_once : FindsOnce
finds_once may ask roots n r = walked may ask (λ s. AreRoots may s.found) (start roots)
    (λ s a cs is has t. record { distinct = distinct_added may cs s.found t.distinct; below = all_added (λ c. c < length may) may cs s.found t.below (λ c h m. may_below may c m) })
    r n

-- it ends
moves : (may : List Bool) (ask : ℕ → Option (List ℕ)) (s : State) (n : ℕ) → (option_and_then ask (next (walk may ask s n)) ≡ None) ⊎ ((walk may ask s n).asked ≡ s.asked + n)
moves may ask s zero = inr (omega arith)
moves may ask s (suc n) = by (walk may ask s n) (moves may ask s n) (option_and_then ask (next (walk may ask s n))) refl
  where
    by : (t : State) → (option_and_then ask (next t) ≡ None) ⊎ (t.asked ≡ s.asked + n) → (o : Option (List ℕ)) → option_and_then ask (next t) ≡ o → (option_and_then ask (next (option_map_or (told may t) o t)) ≡ None) ⊎ ((option_map_or (told may t) o t).asked ≡ s.asked + suc n)
    by t h None e = inl e
    by t (inl h) (Some cs) e = absurd (let bad : Some cs ≡ None = sym e ∙ h in cc)
    by t (inr h) (Some cs) e = inr (omega (arith, h))

pub ends : Ends
ends may ask roots r =
    let s = walk may ask (start roots) (length may + 1) in
    let c = closed may ask roots (length may + 1) in
    let once = finds_once may ask roots (length may + 1) r in
    let few : length s.found ≤ length may = length-le_from_distinct_below s.found (length may) once.distinct (λ q h. All-contains (λ x. x < length may) s.found q once.below (Contains-from_any {eq = nat_eq} exact_unsigned_eq q s.found h)) in
    elim (moves may ask (start roots) (length may + 1)) [ inl h ↦ h | inr h ↦ absurd (omega (arith, h, few, c.few)) ]

pub reads_agree : ReadsAgree
reads_agree may ask answer s zero same = refl
reads_agree may ask answer s (suc n) same =
    ap (λ o. option_map_or (told may (walk may ask s n)) o (walk may ask s n)) (same n (omega arith))
    ∙ ap (step may answer) (reads_agree may ask answer s n (λ k l. same k (omega (arith, l))))

-- where nothing more is known, more steps change nothing
pub stays : (may : List Bool) (ask : ℕ → Option (List ℕ)) (s : State) (n m : ℕ) → option_and_then ask (next (walk may ask s n)) ≡ None → walk may ask s (n + m) ≡ walk may ask s n
stays may ask s n zero none = let at : n + 0 ≡ n = omega arith in ap (walk may ask s) at
stays may ask s n (suc m) none =
    let before = stays may ask s n m none in
    let at : n + suc m ≡ suc (n + m) = omega arith in
    ap (walk may ask s) at ∙ ap (step may ask) before ∙ ap (λ o. option_map_or (told may (walk may ask s n)) o (walk may ask s n)) none

-- the code's state, one step on
pub went_on : (may : List Bool) (ask : ℕ → Option (List ℕ)) (s : State) (n asked : ℕ) (found cs : List ℕ) → found ≡ (walk may ask s n).found → asked ≡ (walk may ask s n).asked → option_and_then ask (slice_get found asked) ≡ Some cs → (added may found cs ≡ (walk may ask s (n + 1)).found) × (asked + 1 ≡ (walk may ask s (n + 1)).asked)
went_on may ask s n asked found cs is_found is_asked calls =
    let t = walk may ask s n in
    let at : option_and_then ask (next t) ≡ Some cs = (λ i. option_and_then ask (slice_get (sym is_found i) (sym is_asked i))) ∙ calls in
    let one : n + 1 ≡ suc n = omega arith in
    let to : told may t cs ≡ walk may ask s (n + 1) = sym (ap (walk may ask s) one ∙ ap (λ o. option_map_or (told may t) o t) at) in
    (ap (λ xs. added may xs cs) is_found ∙ ap (λ (u : State). u.found) to, ap (λ k. k + 1) is_asked ∙ ap (λ (u : State). u.asked) to)

-- the code's state, where nothing more is known
pub stopped : (may : List Bool) (ask : ℕ → Option (List ℕ)) (s : State) (n m asked : ℕ) (found : List ℕ) → n ≤ m → found ≡ (walk may ask s n).found → asked ≡ (walk may ask s n).asked → option_and_then ask (slice_get found asked) ≡ None → (found ≡ (walk may ask s m).found) × (asked ≡ (walk may ask s m).asked)
stopped may ask s n m asked found less is_found is_asked calls =
    let at : option_and_then ask (next (walk may ask s n)) ≡ None = (λ i. option_and_then ask (slice_get (sym is_found i) (sym is_asked i))) ∙ calls in
    let whole : n + (m - n) ≡ m = omega arith in
    let to : walk may ask s n ≡ walk may ask s m = sym (stays may ask s n (m - n) at) ∙ ap (walk may ask s) whole in
    (is_found ∙ ap (λ (u : State). u.found) to, is_asked ∙ ap (λ (u : State). u.asked) to)
