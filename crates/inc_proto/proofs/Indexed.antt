-- What a view keeps of its own steps, brought forward by one more of them.
use Rattle.std.specs.Prelude.{◌≡◌, ◌⊎◌, ◌<◌, ◌+◌, ◌==◌, ◌++◌, ℕ, List, [], ◌∷◌, length, drop, take, reverse, Bool, true, false, cond, refl, Option, Some, None, unwrap_or}
use Rattle.std.proofs.Common.{ap, sym, ◌∙◌, subst, inl, inr, arith, eq-eqb, get_or}
use Rattle.std.proofs.lemmas.Bool.{ne_eqb}
use Rattle.std.proofs.lemmas.List.{drop_more, length-take-le, length-reverse}
use Rattle.std.specs.declared.cmp.Ordering.{Ordering}
use Rattle.std.specs.Ordering.{nat_cmp, is_eq}
use Rattle.std.specs.Cmp.{nat_cmp_total}
use Rattle.std.specs.Map.{lookup}
use Rattle.std.specs.BTreeMap.{insert_entry, is_at}
use Rattle.inc_fs.specs.Lists.{IsIn}
use Rattle.inc_fs.specs.Lookups.{path_cmp_total, same_paths, same_numbers}
use Rattle.inc_fs.specs.Paths.{Text, Path, path_cmp}
use Rattle.inc_fs.specs.declared.op.Op.{Op}
use Rattle.inc_fs.specs.declared.op.Op.TheVariants.{Draw, MakeLock, OpenLock, TryLock, Look, ListDir, UnlinkLock, Close}
use Rattle.inc_fs.specs.declared.op.Reply.{Reply}
use Rattle.inc_fs.specs.declared.op.Reply.TheVariants.{Handle, Names, Got, Done, Fault}
use Rattle.inc_proto.specs.declared.holds.Turn.{Turn}
use Rattle.inc_proto.specs.declared.holds.Turn.TheVariants.{Gets, Loses, Stays}
use Rattle.inc_proto.specs.declared.holds.Way.{Way}
use Rattle.inc_proto.specs.declared.holds.Way.TheVariants.{Alone, ByOpening}
use Rattle.inc_proto.specs.declared.index.Handed.{Handed}
use Rattle.inc_proto.specs.declared.index.Hold.{Hold}
use Rattle.inc_proto.specs.declared.index.Index.{Index}
use Rattle.inc_proto.specs.Events.{Steps}
use Rattle.inc_proto.specs.Indexes.{asked_by, AreAsked, made_by, unlinked_by, AreUnlinked, IsBack, AreBack, IsBackBy, AreNewest, IsNewestBy, opening_of, handle_of, handed_by, hold_by, kept_hold, holds_by, from_of, HeldAt, IsHold, AreHolds, handles_of, put_given, given_by, AreGiven, Tells, put_all, file_cmp, listed_by, AreListed, looked_by, AreLooked, Indexes}
use Rattle.inc_proto.specs.Sought.{held, turn_of, turned, turned_at}
use Rattle.inc_proto.specs.Views.{Opening, opening, opening_after, begun, grown, HasAny, IsLook, IsListing, IsTry, IsMakeDir, IsDone, HasTriedDir}
use Rattle.inc_proto.specs.Views.Opening.{Made, Opened}
use Rattle.inc_names.specs.Entries.{lock_text}
use Rattle.inc_proto.proofs.Anys.{in_left, in_end, next_first}
use Rattle.inc_proto.specs.Lefts.{AreLeft, IsLeftBy}
use Rattle.inc_proto.proofs.Remaining.{left_none, left_next, left_before}
use Rattle.inc_proto.proofs.Lasts.{asked_next, made_next, unlinked_next, back_next, newest_next, nothing_told, newest_none, newest_before}
use Rattle.inc_proto.proofs.Tells.{one_more, itself, set_here, set_there, puts, told_before, any_same, any_now, any_still, file_cmp_total, path_exact, file_exact}

-- the place of a step that is about to be made
abbrev place : Op × Reply
place = (Draw, Fault)

none_some : {A : Type 0} {x : A} → None ≡ Some x → ⊥
none_some is = cc

-- ---- What a handle holds.

gets : (b : Bool) (step : Op × Reply) (before : Option Steps) → cond b (begun step before) (grown step before) ≡ turned (cond b Gets Stays) step before
gets true step before = refl
gets false step before = refl

loses : (b : Bool) (step : Op × Reply) (before : Option Steps) → cond b None (grown step before) ≡ turned (cond b Loses Stays) step before
loses true step before = refl
loses false step before = refl

-- what a step does to a hold is what its turn says
held_turned : (way : Way) (h : ℕ) (step : Op × Reply) (steps : Steps) → held way h (step ∷ steps) ≡ turned (turn_of way h step) step (held way h steps)
held_turned Alone h (TryLock handle true, Got) steps = gets (handle == h) _ _
held_turned Alone h (TryLock handle false, Got) steps = loses (handle == h) _ _
held_turned ByOpening h (TryLock handle exclusive, Got) steps = gets (handle == h) _ _
held_turned Alone h (Close handle, Done) steps = loses (handle == h) _ _
held_turned ByOpening h (Close handle, Done) steps = loses (handle == h) _ _
held_turned Alone h step steps = refl
held_turned ByOpening h step steps = refl

turned_held : (t : Turn) (step : Op × Reply) (since : Option Steps) (steps : Steps) (from : Option ℕ) → HeldAt since steps from
    → HeldAt (turned t step since) (step ∷ steps) (turned_at t from (length steps))
turned_held Gets step since steps None is = ([], step ∷ steps, ap (begun step) is, refl, omega arith)
turned_held Gets step since steps (Some from) w = (step ∷ w.0, w.1, ap (begun step) w.2, ap (λ ss. step ∷ ss) w.3, w.4)
turned_held Loses step since steps from is = refl
turned_held Stays step since steps None is = ap (grown step) is
turned_held Stays step since steps (Some from) w = (step ∷ w.0, w.1, ap (grown step) w.2, ap (λ ss. step ∷ ss) w.3, w.4)

-- a step that doesn't speak of the handle changes nothing
turn_stays : (way : Way) (h : ℕ) (step : Op × Reply) → (handle_of step ≡ Some h → ⊥) → turn_of way h step ≡ Stays
turn_stays Alone h (TryLock handle true, Got) off = ap (λ b. cond b Gets Stays) (ne_eqb handle h (λ e. off (ap Some e)))
turn_stays Alone h (TryLock handle false, Got) off = ap (λ b. cond b Loses Stays) (ne_eqb handle h (λ e. off (ap Some e)))
turn_stays ByOpening h (TryLock handle exclusive, Got) off = ap (λ b. cond b Gets Stays) (ne_eqb handle h (λ e. off (ap Some e)))
turn_stays Alone h (Close handle, Done) off = ap (λ b. cond b Loses Stays) (ne_eqb handle h (λ e. off (ap Some e)))
turn_stays ByOpening h (Close handle, Done) off = ap (λ b. cond b Loses Stays) (ne_eqb handle h (λ e. off (ap Some e)))
turn_stays Alone h step off = refl
turn_stays ByOpening h step off = refl

opening_stays : (h : ℕ) (step : Op × Reply) (o : Option Opening) → (handle_of step ≡ Some h → ⊥) → opening_after h step o ≡ o
opening_stays h (MakeLock k e, Handle handle) o off = ap (λ b. cond b (Some (Made k e)) o) (ne_eqb handle h (λ e. off (ap Some e)))
opening_stays h (OpenLock k e, Handle handle) o off = ap (λ b. cond b (Some (Opened k e)) o) (ne_eqb handle h (λ e. off (ap Some e)))
opening_stays h (Close handle, Done) o off = ap (λ b. cond b None o) (ne_eqb handle h (λ e. off (ap Some e)))
opening_stays h step o off = refl

the_same : (m n : ℕ) → Some m ≡ Some n → m ≡ n
the_same m n is = ap (λ o. unwrap_or o n) is

opening_turns : (h : ℕ) (step : Op × Reply) (handed : Handed) → handle_of step ≡ Some h → opening_of (handed_by step handed) ≡ opening_after h step (opening_of handed)
opening_turns h (MakeLock k e, Handle handle) handed is = sym (ap (λ b. cond b (Some (Made k e)) (opening_of handed)) (eq-eqb handle h (the_same handle h is)))
opening_turns h (OpenLock k e, Handle handle) handed is = sym (ap (λ b. cond b (Some (Opened k e)) (opening_of handed)) (eq-eqb handle h (the_same handle h is)))
opening_turns h (Close handle, Done) handed is = sym (ap (λ b. cond b None (opening_of handed)) (eq-eqb handle h (the_same handle h is)))
opening_turns h step handed is = refl

held_next : (way : Way) (h : ℕ) (step : Op × Reply) (steps : Steps) (from : Option ℕ) → HeldAt (held way h steps) steps from
    → HeldAt (held way h (step ∷ steps)) (step ∷ steps) (turned_at (turn_of way h step) from (length steps))
held_next way h step steps from was =
    subst (λ since. HeldAt since (step ∷ steps) (turned_at (turn_of way h step) from (length steps))) (sym (held_turned way h step steps))
    (turned_held (turn_of way h step) step (held way h steps) steps from was)

hold_turns : (h : ℕ) (step : Op × Reply) (steps : Steps) (hold : Hold) → handle_of step ≡ Some h → IsHold h steps hold
    → IsHold h (step ∷ steps) (hold_by step h (length steps) hold)
hold_turns h step steps hold is was = record { opened = opening_turns h step hold.handed is ∙ ap (opening_after h step) was.opened; held_at = both }
  where
    both : (way : Way) → HeldAt (held way h (step ∷ steps)) (step ∷ steps) (from_of way (hold_by step h (length steps) hold))
    both Alone = held_next Alone h step steps hold.alone (was.held_at Alone)
    both ByOpening = held_next ByOpening h step steps hold.since (was.held_at ByOpening)

hold_stays : (h : ℕ) (step : Op × Reply) (steps : Steps) (hold : Hold) → (handle_of step ≡ Some h → ⊥) → IsHold h steps hold → IsHold h (step ∷ steps) hold
hold_stays h step steps hold off was = record {
  opened = was.opened ∙ sym (opening_stays h step (opening h steps) off);
  held_at = λ way. subst (λ t. HeldAt (held way h (step ∷ steps)) (step ∷ steps) (turned_at t (from_of way hold) (length steps))) (turn_stays way h step off)
      (held_next way h step steps (from_of way hold) (was.held_at way));
}

holds_next : (step : Op × Reply) (steps : Steps) (holds : List (ℕ × Hold)) → AreHolds steps holds
    → AreHolds (step ∷ steps) (holds_by step (length steps) (handle_of step) holds)
holds_next step steps holds told h = go (handle_of step) refl
  where
    found : Option ℕ → Hold
    found k = kept_hold (lookup (is_at (nat_cmp h)) (holds_by step (length steps) k holds))

    go : (k : Option ℕ) → handle_of step ≡ k → IsHold h (step ∷ steps) (found k)
    go None is = hold_stays h step steps (found None) (λ some. none_some (sym is ∙ some)) (told h)
    go (Some k) is = pick (same_numbers h k)
      where
        pick : (h ≡ k) ⊎ (is_eq (nat_cmp h k) ≡ false) → IsHold h (step ∷ steps) (found (Some k))
        pick (inl same) =
            subst (λ j. IsHold h (step ∷ steps) (found (Some j))) same
            (subst (λ o. IsHold h (step ∷ steps) (kept_hold o)) (sym (set_here nat_cmp nat_cmp_total holds h _))
            (hold_turns h step steps (kept_hold (lookup (is_at (nat_cmp h)) holds)) (is ∙ ap Some (sym same)) (told h)))
        pick (inr apart) =
            subst (λ o. IsHold h (step ∷ steps) (kept_hold o)) (sym (set_there nat_cmp nat_cmp_total holds k h _ apart))
            (hold_stays h step steps (kept_hold (lookup (is_at (nat_cmp h)) holds))
            (λ some. itself nat_cmp nat_cmp_total h (subst (λ j. is_eq (nat_cmp h j) ≡ false) (the_same k h (sym is ∙ some)) apart)) (told h))

-- ---- The handles that were given.

given_more : (path : Path) (h : ℕ) (given : List (Path × List ℕ)) (q : Path) (k : ℕ)
    → ((path ≡ q) × (h ≡ k)) ⊎ IsIn (handles_of (lookup (is_at (path_cmp q)) given)) k → IsIn (handles_of (lookup (is_at (path_cmp q)) (put_given path h given))) k
given_more path h given q k any = go (same_paths q path) any
  where
    go : (q ≡ path) ⊎ (is_eq (path_cmp q path) ≡ false) → ((path ≡ q) × (h ≡ k)) ⊎ IsIn (handles_of (lookup (is_at (path_cmp q)) given)) k
        → IsIn (handles_of (lookup (is_at (path_cmp q)) (put_given path h given))) k
    go (inl same) any =
        subst (λ p. IsIn (handles_of (lookup (is_at (path_cmp q)) (put_given p h given))) k) same
        (subst (λ o. IsIn (handles_of o) k) (sym (set_here path_cmp path_cmp_total given q _)) (now any))
      where
        now : ((path ≡ q) × (h ≡ k)) ⊎ IsIn (handles_of (lookup (is_at (path_cmp q)) given)) k → IsIn (handles_of (lookup (is_at (path_cmp q)) given) ++ h ∷ []) k
        now (inl is) = in_end (handles_of (lookup (is_at (path_cmp q)) given)) h k is.1
        now (inr is) = in_left (handles_of (lookup (is_at (path_cmp q)) given)) (h ∷ []) k is
    go (inr apart) any = subst (λ o. IsIn (handles_of o) k) (sym (set_there path_cmp path_cmp_total given path q _ apart)) (now any)
      where
        now : ((path ≡ q) × (h ≡ k)) ⊎ IsIn (handles_of (lookup (is_at (path_cmp q)) given)) k → IsIn (handles_of (lookup (is_at (path_cmp q)) given)) k
        now (inl is) = absurd (itself path_cmp path_cmp_total q (subst (λ p. is_eq (path_cmp q p) ≡ false) is.0 apart))
        now (inr is) = is

given_next : (step : Op × Reply) (steps : Steps) (given : List (Path × List ℕ)) → AreGiven steps given → AreGiven (step ∷ steps) (given_by step given)
given_next (MakeLock k e, Handle handle) steps given told q h any =
    given_more (k, e) handle given q h (one_more (λ is. inl (λ i. (is.0 i, is.1 i), is.2)) (λ more. inr (told q h more)) any)
given_next (OpenLock k e, Handle handle) steps given told q h any =
    given_more (k, e) handle given q h (one_more (λ is. inl (λ i. (is.0 i, is.1 i), is.2)) (λ more. inr (told q h more)) any)
given_next step steps given told q h any = one_more (λ is. absurd is) (told q h) any

-- ---- What was listed.

listed_next : (step : Op × Reply) (steps : Steps) (places : List ((Path × Text) × ℕ)) → AreListed steps places → AreListed (step ∷ steps) (listed_by step (length steps) places)
listed_next (ListDir k e, Names names) steps places told q = go (puts file_cmp file_cmp_total file_exact (λ file. ((k, e), file)) (length steps) names places q)
  where
    P : Op × Reply → Type 0
    P = IsListing q.0.0 q.0.1 q.1

    step : Op × Reply
    step = (ListDir k e, Names names)

    new : List ((Path × Text) × ℕ)
    new = listed_by step (length steps) places

    go : ((file : Text) × IsIn names file × (((k, e), file) ≡ q) × (lookup (is_at (file_cmp q)) new ≡ Some (length steps)))
        ⊎ (((file : Text) → IsIn names file → ((k, e), file) ≡ q → ⊥) × (lookup (is_at (file_cmp q)) new ≡ lookup (is_at (file_cmp q)) places))
        → Tells (HasAny P) (step ∷ steps) (lookup (is_at (file_cmp q)) new)
    go (inl w) =
        subst (Tells (HasAny P) (step ∷ steps)) (sym w.3)
        (any_now P step steps (ap (λ p. p.0.0) w.2, ap (λ p. p.0.1) w.2, subst (IsIn names) (ap (λ p. p.1) w.2) w.1))
    go (inr w) =
        subst (Tells (HasAny P) (step ∷ steps)) (sym w.1)
        (any_still P step steps (lookup (is_at (file_cmp q)) places) (λ is. w.0 q.1 is.2 (λ i. ((is.0 i, is.1 i), q.1))) (told q))
listed_next step steps places told q = any_still (IsListing q.0.0 q.0.1 q.1) step steps (lookup (is_at (file_cmp q)) places) (λ is. is) (told q)

looked_next : (step : Op × Reply) (steps : Steps) (places : List (Path × ℕ)) → AreLooked steps places → AreLooked (step ∷ steps) (looked_by step (length steps) places)
looked_next (Look k, Names names) steps places told q = go (puts path_cmp path_cmp_total path_exact (λ name. (k, name)) (length steps) names places q)
  where
    P : Op × Reply → Type 0
    P = IsLook q.0 q.1

    step : Op × Reply
    step = (Look k, Names names)

    new : List (Path × ℕ)
    new = looked_by step (length steps) places

    go : ((name : Text) × IsIn names name × ((k, name) ≡ q) × (lookup (is_at (path_cmp q)) new ≡ Some (length steps)))
        ⊎ (((name : Text) → IsIn names name → (k, name) ≡ q → ⊥) × (lookup (is_at (path_cmp q)) new ≡ lookup (is_at (path_cmp q)) places))
        → Tells (HasAny P) (step ∷ steps) (lookup (is_at (path_cmp q)) new)
    go (inl w) =
        subst (Tells (HasAny P) (step ∷ steps)) (sym w.3) (any_now P step steps (ap (λ p. p.0) w.2, subst (IsIn names) (ap (λ p. p.1) w.2) w.1))
    go (inr w) =
        subst (Tells (HasAny P) (step ∷ steps)) (sym w.1)
        (any_still P step steps (lookup (is_at (path_cmp q)) places) (λ is. w.0 q.1 is.1 (λ i. (is.0 i, q.1))) (told q))
looked_next step steps places told q = any_still (IsLook q.0 q.1) step steps (lookup (is_at (path_cmp q)) places) (λ is. is) (told q)

-- ---- All of it.

-- of no steps nothing is kept
pub indexes_none : (index : Index) → index.holds ≡ [] → index.given ≡ [] → index.listed ≡ [] → index.looked ≡ [] → index.asked ≡ [] → index.made ≡ None
    → index.unlinked ≡ [] → index.back ≡ [] → index.newest ≡ [] → index.left ≡ [] → Indexes [] index
indexes_none index h g l k a m u b n f = record {
  holds = subst (AreHolds []) (sym h) (λ h. record { opened = refl; held_at = both h });
  given = λ q h any. absurd any;
  listed = subst (AreListed []) (sym l) (λ q. nothing_told (IsListing q.0.0 q.0.1 q.1));
  looked = subst (AreLooked []) (sym k) (λ q. nothing_told (IsLook q.0 q.1));
  asked = subst (AreAsked []) (sym a) (λ q. nothing_told (IsTry (MakeLock q.0 q.1)));
  made = subst (Tells HasTriedDir []) (sym m) (nothing_told IsMakeDir);
  unlinked = subst (AreUnlinked []) (sym u) (λ q. nothing_told (IsDone (UnlinkLock q.0 q.1)));
  back = subst (AreBack []) (sym b) (λ krate entry n named. nothing_told (IsBack krate entry n));
  newest = subst (AreNewest []) (sym n) newest_none;
  left = subst (AreLeft []) (sym f) left_none;
}
  where
    both : (h : ℕ) (way : Way) → HeldAt (held way h []) [] (from_of way (kept_hold None))
    both h Alone = refl
    both h ByOpening = refl

-- one more step
pub indexed : (step : Op × Reply) (steps : Steps) (old new : Index) → new.holds ≡ holds_by step (length steps) (handle_of step) old.holds → new.given ≡ given_by step old.given
    → new.listed ≡ listed_by step (length steps) old.listed → new.looked ≡ looked_by step (length steps) old.looked → new.asked ≡ asked_by step (length steps) old.asked
    → new.made ≡ made_by step (length steps) old.made → new.unlinked ≡ unlinked_by step (length steps) old.unlinked → IsBackBy step (length steps) old.back new.back
    → IsNewestBy step old.newest new.newest → IsLeftBy step (length steps) old.left new.left → Indexes steps old → Indexes (step ∷ steps) new
indexed step steps old new h g l k a m u b n f was = record {
  holds = subst (AreHolds (step ∷ steps)) (sym h) (holds_next step steps old.holds was.holds);
  given = subst (AreGiven (step ∷ steps)) (sym g) (given_next step steps old.given was.given);
  listed = subst (AreListed (step ∷ steps)) (sym l) (listed_next step steps old.listed was.listed);
  looked = subst (AreLooked (step ∷ steps)) (sym k) (looked_next step steps old.looked was.looked);
  asked = subst (AreAsked (step ∷ steps)) (sym a) (asked_next step steps old.asked was.asked);
  made = subst (Tells HasTriedDir (step ∷ steps)) (sym m) (made_next step steps old.made was.made);
  unlinked = subst (AreUnlinked (step ∷ steps)) (sym u) (unlinked_next step steps old.unlinked was.unlinked);
  back = back_next step steps old.back new.back b was.back;
  newest = newest_next step steps old.newest new.newest n was.newest;
  left = left_next step steps old.left new.left f was.left;
}

held_back : (since : Option Steps) (steps : Steps) (from : Option ℕ) → HeldAt (grown place since) (place ∷ steps) from → HeldAt since steps from
held_back None steps None is = refl
held_back None steps (Some from) w = absurd (none_some w.2)
held_back (Some after) steps None is = absurd (none_some (sym is))
held_back (Some after) steps (Some from) w =
    let same : place ∷ after ≡ w.0 = ap (λ o. unwrap_or o (place ∷ after)) w.2 in
    (after, w.1, refl, ap (drop 1) (w.3 ∙ ap (λ ss. ss ++ w.1) (sym same)), w.4)

-- a place says nothing,
pub index_without_place : (steps : Steps) (index : Index) → Indexes (place ∷ steps) index → Indexes steps index
index_without_place steps index was = record {
  holds = λ h. record { opened = (was.holds h).opened; held_at = back h };
  given = λ q h any. was.given q h (inr any);
  listed = λ q. before (IsListing q.0.0 q.0.1 q.1) (lookup (is_at (file_cmp q)) index.listed) (λ is. is) (was.listed q);
  looked = λ q. before (IsLook q.0 q.1) (lookup (is_at (path_cmp q)) index.looked) (λ is. is) (was.looked q);
  asked = λ q. before (IsTry (MakeLock q.0 q.1)) (lookup (is_at (path_cmp q)) index.asked) no_asking (was.asked q);
  made = before IsMakeDir index.made (λ is. is) was.made;
  unlinked = λ q. before (IsDone (UnlinkLock q.0 q.1)) (lookup (is_at (path_cmp q)) index.unlinked) (λ is. is) (was.unlinked q);
  back = λ krate entry n named.
      before (IsBack krate entry n) (lookup (is_at (file_cmp ((krate, entry), lock_text n))) index.back) (λ is. is.2) (was.back krate entry n named);
  newest = newest_before place steps index.newest (λ krate entry is. is) was.newest;
  left = left_before steps index.left was.left;
}
  where
    before : (P : Op × Reply → Type 0) (at : Option ℕ) → (P place → ⊥) → Tells (HasAny P) (place ∷ steps) at → Tells (HasAny P) steps at
    before P at off = told_before (HasAny P) place steps at (any_same P place off)

    no_asking : {krate entry : Text} → IsTry (MakeLock krate entry) place → ⊥
    no_asking is = cc

    back : (h : ℕ) (way : Way) → HeldAt (held way h steps) steps (from_of way (kept_hold (lookup (is_at (nat_cmp h)) index.holds)))
    back h Alone = held_back (held Alone h steps) steps _ ((was.holds h).held_at Alone)
    back h ByOpening = held_back (held ByOpening h steps) steps _ ((was.holds h).held_at ByOpening)

-- whether it is there or not
pub index_with_place : (steps : Steps) (index : Index) → Indexes steps index → Indexes (place ∷ steps) index
index_with_place steps index was = indexed place steps index index refl refl refl refl refl refl refl refl refl refl was

-- ---- The same, as the code comes to it.

-- one more of the names is put
pub put_next : {K : Type 0} (R : K → K → Ordering) (key : Text → K) (at : ℕ) (names : List Text) (i : ℕ) (name : Text) (k : K) (old new : List (K × ℕ))
    → i < length names → name ≡ get_or names i name → k ≡ key name → new ≡ insert_entry R old k at
    → put_all R key at (drop (i + 1) names) new ≡ put_all R key at (drop i names) old
put_next R key at names i name k old new within same key_is is =
    ap (put_all R key at (drop (i + 1) names)) (is ∙ ap (λ k. insert_entry R old k at) (key_is ∙ ap key same))
    ∙ sym (ap (λ ns. put_all R key at ns old) (drop_more names i name within))

-- the same, of the place that the code has counted
pub indexed_as : (step : Op × Reply) (steps : Steps) (at : ℕ) (old new : Index) → new.holds ≡ holds_by step at (handle_of step) old.holds → new.given ≡ given_by step old.given
    → new.listed ≡ listed_by step at old.listed → new.looked ≡ looked_by step at old.looked → new.asked ≡ asked_by step at old.asked → new.made ≡ made_by step at old.made
    → new.unlinked ≡ unlinked_by step at old.unlinked → IsBackBy step at old.back new.back → IsNewestBy step old.newest new.newest → IsLeftBy step at old.left new.left → at ≡ length steps → Indexes steps old
    → Indexes (step ∷ steps) new
indexed_as step steps at old new h g l k a m u b n f count was =
    indexed step steps old new (h ∙ ap (λ n. holds_by step n (handle_of step) old.holds) count) g (l ∙ ap (λ n. listed_by step n old.listed) count)
    (k ∙ ap (λ n. looked_by step n old.looked) count) (a ∙ ap (λ n. asked_by step n old.asked) count) (m ∙ ap (λ n. made_by step n old.made) count)
    (u ∙ ap (λ n. unlinked_by step n old.unlinked) count) (subst (λ n. IsBackBy step n old.back new.back) count b) n (subst (λ n. IsLeftBy step n old.left new.left) count f) was

-- the index of one more of the steps
pub indexed_next : (xs : Steps) (i : ℕ) (x : Op × Reply) (index next : Index) → i < length xs → x ≡ get_or xs i x → Indexes (reverse (take i xs)) index
    → ((steps : Steps) → i ≡ length steps → Indexes steps index → Indexes (x ∷ steps) next) → Indexes (reverse (take (i + 1) xs)) next
indexed_next xs i x index next within same was step =
    let count : length (reverse (take i xs)) ≡ i = length-reverse (take i xs) ∙ length-take-le i xs (omega arith) in
    subst (λ steps. Indexes steps next) (ap (λ y. y ∷ reverse (take i xs)) same ∙ sym (next_first xs i x within)) (step (reverse (take i xs)) (sym count) was)
