-- What is held, and until when; which whole load begins; and what is known of the steps, brought forward by one of them.
use Rattle.std.specs.Prelude.{◌≡◌, ◌≢◌, ◌⊎◌, ◌↔◌, ◌<◌, ◌≤◌, ◌+◌, ◌==◌, ℕ, Bool, true, false, cond, List, [], ◌∷◌, ◌++◌, length, take, drop, reverse, refl, Option, Some, None, unwrap_or}
use Rattle.std.specs.Ordering.{nat_cmp, is_eq}
use Rattle.std.specs.Cmp.{tied_itself, nat_cmp_total}
use Rattle.std.specs.Cmp.Lexicographic.{nat_list_cmp_total}
use Rattle.std.specs.Map.{lookup}
use Rattle.std.specs.BTreeMap.{insert_entry, is_at}
use Rattle.std.proofs.Common.{ap, sym, subst, ◌∙◌, inl, inr, arith, eq-eqb, get_or, length-drop}
use Rattle.std.proofs.lemmas.Bool.{false≢true, ne_eqb}
use Rattle.std.proofs.lemmas.List.{drop_more, reverse-append, append_assoc, take-append-drop}
use Rattle.inc_fs.specs.Lists.{IsIn, remove_entry}
use Rattle.inc_fs.specs.Lookups.{lookup_here, lookup_there, removed_here, removed_there, same_numbers, same_texts, same_bytes}
use Rattle.inc_fs.specs.Paths.{Text, text_cmp}
use Rattle.inc_fs.specs.Points.{same_number}
use Rattle.inc_fs.specs.declared.op.Op.{Op}
use Rattle.inc_fs.specs.declared.op.Op.TheVariants.{MakeLock, OpenLock, TryLock, ListDir, Close}
use Rattle.inc_fs.specs.declared.op.Reply.{Reply}
use Rattle.inc_fs.specs.declared.op.Reply.TheVariants.{Handle, Names, Got, Done}
use Rattle.inc_names.specs.declared.session.SessionName.{SessionName}
use Rattle.inc_names.specs.Entries.{lock_text, final_text}
use Rattle.inc_proto.specs.Events.{Steps}
use Rattle.inc_proto.specs.Views.{Opening, opening, since, begun, grown, same_text}
use Rattle.inc_proto.specs.Views.Opening.{Made, Opened}
use Rattle.inc_proto.proofs.Anys.{next_first}
use Rattle.inc_laws.specs.Loads.{LinksHeld, BeginsLoad, IsLatestLoad}
use Rattle.inc_laws.specs.Places.{is_close, is_link, first, AreBefore, IsFar, opened_on, opened_by, AreOpened, until_in, IsHeldPast, HeldPast, AreUntil, IsUntil, IsUntilOf, IsUntilBy, IsBegun, later_found, IsFresh, AreFresh, AreFar, IsSought}
use Rattle.inc_laws.proofs.Here.{same_itself}
use Rattle.inc_laws.proofs.Coming.{first_from, first_within, links_before, before_links}

-- ---- The lock files that handles were opened on.

apart_from : (h handle : ℕ) → is_eq (nat_cmp h handle) ≡ false → handle == h ≡ false
apart_from h handle off = ne_eqb handle h (λ same. false≢true (sym off ∙ ap (λ k. is_eq (nat_cmp h k)) same ∙ ap is_eq (tied_itself nat_cmp_total h)))

opened_next : (krate : Text) (step : Op × Reply) (steps : Steps) (opened : List (ℕ × Text)) → AreOpened krate steps opened → AreOpened krate (step ∷ steps) (opened_by krate step opened)
opened_next krate (MakeLock k e, Handle handle) steps opened is h = go (same_numbers h handle)
  where
    go : (h ≡ handle) ⊎ (is_eq (nat_cmp h handle) ≡ false)
        → lookup (is_at (nat_cmp h)) (remove_entry (is_at (nat_cmp handle)) opened) ≡ opened_on krate (cond (handle == h) (Some (Made k e)) (opening h steps))
    go (inl same) =
        ap (λ g. lookup (is_at (nat_cmp h)) (remove_entry (is_at (nat_cmp g)) opened)) (sym same) ∙ removed_here nat_cmp nat_cmp_total opened h
        ∙ sym (ap (λ b. opened_on krate (cond b (Some (Made k e)) (opening h steps))) (eq-eqb handle h (sym same)))
    go (inr off) = removed_there nat_cmp nat_cmp_total opened handle h off ∙ is h ∙ sym (ap (λ b. opened_on krate (cond b (Some (Made k e)) (opening h steps))) (apart_from h handle off))
opened_next krate (OpenLock k e, Handle handle) steps opened is h = go (same_numbers h handle) (same_text k krate) refl
  where
    use_text : Bool → List (ℕ × Text)
    use_text b = cond b (insert_entry nat_cmp opened handle e) (remove_entry (is_at (nat_cmp handle)) opened)

    go : (h ≡ handle) ⊎ (is_eq (nat_cmp h handle) ≡ false) → (b : Bool) → same_text k krate ≡ b → lookup (is_at (nat_cmp h)) (use_text b) ≡ opened_on krate (cond (handle == h) (Some (Opened k e)) (opening h steps))
    go (inl same) true its =
        ap (λ g. lookup (is_at (nat_cmp h)) (insert_entry nat_cmp opened g e)) (sym same) ∙ lookup_here nat_cmp nat_cmp_total opened h e
        ∙ sym (ap (λ b. cond b (Some e) None) its) ∙ sym (ap (λ b. opened_on krate (cond b (Some (Opened k e)) (opening h steps))) (eq-eqb handle h (sym same)))
    go (inl same) false its =
        ap (λ g. lookup (is_at (nat_cmp h)) (remove_entry (is_at (nat_cmp g)) opened)) (sym same) ∙ removed_here nat_cmp nat_cmp_total opened h
        ∙ sym (ap (λ b. cond b (Some e) None) its) ∙ sym (ap (λ b. opened_on krate (cond b (Some (Opened k e)) (opening h steps))) (eq-eqb handle h (sym same)))
    go (inr off) true its = lookup_there nat_cmp nat_cmp_total opened handle h e off ∙ is h ∙ sym (ap (λ b. opened_on krate (cond b (Some (Opened k e)) (opening h steps))) (apart_from h handle off))
    go (inr off) false its = removed_there nat_cmp nat_cmp_total opened handle h off ∙ is h ∙ sym (ap (λ b. opened_on krate (cond b (Some (Opened k e)) (opening h steps))) (apart_from h handle off))
opened_next krate (Close handle, Done) steps opened is h = go (same_numbers h handle)
  where
    go : (h ≡ handle) ⊎ (is_eq (nat_cmp h handle) ≡ false) → lookup (is_at (nat_cmp h)) (remove_entry (is_at (nat_cmp handle)) opened) ≡ opened_on krate (cond (handle == h) None (opening h steps))
    go (inl same) =
        ap (λ g. lookup (is_at (nat_cmp h)) (remove_entry (is_at (nat_cmp g)) opened)) (sym same) ∙ removed_here nat_cmp nat_cmp_total opened h
        ∙ sym (ap (λ b. opened_on krate (cond b None (opening h steps))) (eq-eqb handle h (sym same)))
    go (inr off) = removed_there nat_cmp nat_cmp_total opened handle h off ∙ is h ∙ sym (ap (λ b. opened_on krate (cond b None (opening h steps))) (apart_from h handle off))
opened_next krate step steps opened is h = is h

-- a handle that was opened on this lock file
opened_back : (krate entry : Text) (o : Option Opening) → opened_on krate o ≡ Some entry → o ≡ Some (Opened krate entry)
opened_back krate entry None is = cc
opened_back krate entry (Some (Made k e)) is = cc
opened_back krate entry (Some (Opened k e)) is = go (same_text k krate) refl is
  where
    go : (b : Bool) → same_text k krate ≡ b → cond b (Some e) None ≡ Some entry → Some (Opened k e) ≡ Some (Opened krate entry)
    go true same its = let its : e ≡ entry = cc in (λ i. Some (Opened (same_bytes k krate same i) (its i)))
    go false same its = cc

opened_there : (krate entry : Text) (o : Option Opening) → o ≡ Some (Opened krate entry) → opened_on krate o ≡ Some entry
opened_there krate entry o is = ap (opened_on krate) is ∙ ap (λ b. cond b (Some entry) None) (same_itself krate)

-- ---- What is held past a place.

-- a lock is got
abbrev IsGot : Op × Reply → Type 0
IsGot (TryLock handle exclusive, Got) = Unit {0}
IsGot step = ⊥

some_grown : (step : Op × Reply) (o : Option Steps) (after : Steps) → grown step o ≡ Some after → (old : Steps) × (o ≡ Some old)
some_grown step None after is = cc
some_grown step (Some old) after is = (old, refl)

some_begun : (step : Op × Reply) (o : Option Steps) → (now : Steps) × (begun step o ≡ Some now)
some_begun step None = ([], refl)
some_begun step (Some old) = (step ∷ old, refl)

module _ (krate entry : Text) (before coming : Steps) (at place : ℕ) (past : at + 1 ≤ place) where
  -- a handle that a step leaves as it was
  stays : (step : Op × Reply) (h : ℕ) → opening h (step ∷ before) ≡ opening h before → since h (step ∷ before) ≡ grown step (since h before) → is_close h step ≡ false
      → IsHeldPast krate entry before (step ∷ coming) at place h ↔ IsHeldPast krate entry (step ∷ before) coming (at + 1) place h
  stays step h same_opening same_since still = (
    λ w. (step ∷ w.0, same_opening ∙ w.1, same_since ∙ ap (grown step) w.2, subst (λ b. place < cond b at (first (is_close h) coming (at + 1))) still w.3),
    λ w.
        let old = some_grown step (since h before) w.0 (sym same_since ∙ w.2) in
        (old.0, sym same_opening ∙ w.1, old.1, subst (λ b. place < cond b at (first (is_close h) coming (at + 1))) (sym still) w.3),
  )

  -- and one that it closes
  shut : (h : ℕ) → IsHeldPast krate entry before ((Close h, Done) ∷ coming) at place h ↔ IsHeldPast krate entry ((Close h, Done) ∷ before) coming (at + 1) place h
  shut h = (
    λ w. absurd (late (subst (λ b. place < cond b at (first (is_close h) coming (at + 1))) (eq-eqb h h refl) w.3)),
    λ w. absurd (gone (sym (ap (λ b. cond b None (opening h before)) (eq-eqb h h refl)) ∙ w.1)),
  )
    where
      late : place < at → ⊥
      late lt = omega (arith, lt, past)

      gone : None ≡ Some (Opened krate entry) → ⊥
      gone is = cc

  -- a step other than a lock that is got
  held_next : (step : Op × Reply) → IsFresh step before → (IsGot step → ⊥) → (h : ℕ)
      → IsHeldPast krate entry before (step ∷ coming) at place h ↔ IsHeldPast krate entry (step ∷ before) coming (at + 1) place h
  held_next (MakeLock k e, Handle handle) fresh unlike h = go (same_number handle h)
    where
      go : (handle ≡ h) ⊎ (handle ≢ h) → IsHeldPast krate entry before ((MakeLock k e, Handle handle) ∷ coming) at place h ↔ IsHeldPast krate entry ((MakeLock k e, Handle handle) ∷ before) coming (at + 1) place h
      go (inl same) = (
        λ w. absurd (none_held (sym fresh ∙ ap (λ g. since g before) same ∙ w.2)),
        λ w. absurd (other (sym (ap (λ b. cond b (Some (Made k e)) (opening h before)) (eq-eqb handle h same)) ∙ w.1)),
      )
        where
          none_held : {after : Steps} → None ≡ Some after → ⊥
          none_held is = cc

          other : Some (Made k e) ≡ Some (Opened krate entry) → ⊥
          other is = cc
      go (inr off) = stays (MakeLock k e, Handle handle) h (ap (λ b. cond b (Some (Made k e)) (opening h before)) (ne_eqb handle h off)) refl refl
  held_next (OpenLock k e, Handle handle) fresh unlike h = go (same_number handle h)
    where
      go : (handle ≡ h) ⊎ (handle ≢ h) → IsHeldPast krate entry before ((OpenLock k e, Handle handle) ∷ coming) at place h ↔ IsHeldPast krate entry ((OpenLock k e, Handle handle) ∷ before) coming (at + 1) place h
      go (inl same) = (
        λ w. absurd (none_held (sym fresh ∙ ap (λ g. since g before) same ∙ w.2)),
        λ w. absurd (none_held (sym (ap (grown (OpenLock k e, Handle handle)) (sym (ap (λ g. since g before) same) ∙ fresh)) ∙ w.2)),
      )
        where
          none_held : {after : Steps} → None ≡ Some after → ⊥
          none_held is = cc
      go (inr off) = stays (OpenLock k e, Handle handle) h (ap (λ b. cond b (Some (Opened k e)) (opening h before)) (ne_eqb handle h off)) refl refl
  held_next (Close handle, Done) fresh unlike h = go (same_number handle h)
    where
      go : (handle ≡ h) ⊎ (handle ≢ h) → IsHeldPast krate entry before ((Close handle, Done) ∷ coming) at place h ↔ IsHeldPast krate entry ((Close handle, Done) ∷ before) coming (at + 1) place h
      go (inl same) = subst (λ g. IsHeldPast krate entry before ((Close g, Done) ∷ coming) at place h ↔ IsHeldPast krate entry ((Close g, Done) ∷ before) coming (at + 1) place h) (sym same) (shut h)
      go (inr off) = stays (Close handle, Done) h (ap (λ b. cond b None (opening h before)) (ne_eqb handle h off)) (ap (λ b. cond b None (grown (Close handle, Done) (since h before))) (ne_eqb handle h off)) (ne_eqb handle h off)
  held_next (TryLock handle exclusive, Got) fresh unlike h = absurd (unlike tt)
  held_next step fresh unlike h = stays step h refl refl refl

  -- a lock that is got, at the other handles
  other_got : (handle : ℕ) (exclusive : Bool) (h : ℕ) → handle ≢ h
      → IsHeldPast krate entry before ((TryLock handle exclusive, Got) ∷ coming) at place h ↔ IsHeldPast krate entry ((TryLock handle exclusive, Got) ∷ before) coming (at + 1) place h
  other_got handle exclusive h off =
      stays (TryLock handle exclusive, Got) h refl
      (ap (λ b. cond b (begun (TryLock handle exclusive, Got) (since h before)) (grown (TryLock handle exclusive, Got) (since h before))) (ne_eqb handle h off)) refl

  -- and at its own
  own_got : (handle : ℕ) (exclusive : Bool) → opening handle before ≡ Some (Opened krate entry) → place < first (is_close handle) coming (at + 1)
      → IsHeldPast krate entry ((TryLock handle exclusive, Got) ∷ before) coming (at + 1) place handle
  own_got handle exclusive opened lt =
      let now = some_begun (TryLock handle exclusive, Got) (since handle before) in (
        now.0,
        opened,
        ap (λ b. cond b (begun (TryLock handle exclusive, Got) (since handle before)) (grown (TryLock handle exclusive, Got) (since handle before))) (eq-eqb handle handle refl) ∙ now.1,
        lt,
      )

-- ---- Until when.

-- what was held stays held
got_on : (krate entry : Text) (before coming : Steps) (at place : ℕ) → at + 1 ≤ place → (handle : ℕ) (exclusive : Bool) (h : ℕ)
    → IsHeldPast krate entry before ((TryLock handle exclusive, Got) ∷ coming) at place h → IsHeldPast krate entry ((TryLock handle exclusive, Got) ∷ before) coming (at + 1) place h
got_on krate entry before coming at place past handle exclusive h w = go (same_number handle h)
  where
    go : (handle ≡ h) ⊎ (handle ≢ h) → IsHeldPast krate entry ((TryLock handle exclusive, Got) ∷ before) coming (at + 1) place h
    go (inl same) = subst (IsHeldPast krate entry ((TryLock handle exclusive, Got) ∷ before) coming (at + 1) place) same
        (own_got krate entry before coming at place past handle exclusive (ap (λ g. opening g before) same ∙ w.1) (subst (λ g. place < first (is_close g) coming (at + 1)) (sym same) w.3))
    go (inr off) = (other_got krate entry before coming at place past handle exclusive h off).0 w

later_on : (at place : ℕ) → at + 1 ≤ place → at ≤ place
later_on at place le = omega (arith, le)

until_got : (krate : Text) (before coming : Steps) (at : ℕ) (handle : ℕ) (exclusive : Bool) (opened : Option Text) (far : ℕ) (until after : List (Text × ℕ))
    → opened ≡ opened_on krate (opening handle before) → far ≡ first (is_close handle) coming (at + 1) → IsUntilOf opened far until after
    → AreUntil krate before ((TryLock handle exclusive, Got) ∷ coming) at until → AreUntil krate ((TryLock handle exclusive, Got) ∷ before) coming (at + 1) after
until_got krate before coming at handle exclusive opened far until after its is now told entry place past = go opened its now
  where
    on : HeldPast krate entry before ((TryLock handle exclusive, Got) ∷ coming) at place → HeldPast krate entry ((TryLock handle exclusive, Got) ∷ before) coming (at + 1) place
    on w = (w.0, got_on krate entry before coming at place past handle exclusive w.0 w.1)

    -- another handle than the one that got its lock held it before
    back : (opening handle before ≡ Some (Opened krate entry) → ⊥) → HeldPast krate entry ((TryLock handle exclusive, Got) ∷ before) coming (at + 1) place
        → HeldPast krate entry before ((TryLock handle exclusive, Got) ∷ coming) at place
    back not w = pick (same_number handle w.0)
      where
        pick : (handle ≡ w.0) ⊎ (handle ≢ w.0) → HeldPast krate entry before ((TryLock handle exclusive, Got) ∷ coming) at place
        pick (inl same) = absurd (not (ap (λ g. opening g before) same ∙ w.1.1))
        pick (inr off) = (w.0, (other_got krate entry before coming at place past handle exclusive w.0 off).1 w.1)

    old : place < until_in until entry ↔ HeldPast krate entry before ((TryLock handle exclusive, Got) ∷ coming) at place
    old = told entry place (later_on at place past)

    go : (o : Option Text) → o ≡ opened_on krate (opening handle before) → IsUntilOf o far until after
        → (place < until_in after entry ↔ HeldPast krate entry ((TryLock handle exclusive, Got) ∷ before) coming (at + 1) place)
    go None its now = (
      λ lt. on (old.0 (subst (λ u. place < until_in u entry) now lt)),
      λ w. subst (λ u. place < until_in u entry) (sym now) (old.1 (back (λ opened. none_on (its ∙ opened_there krate entry (opening handle before) opened)) w)),
    )
      where
        none_on : None ≡ Some entry → ⊥
        none_on is = cc
    go (Some e) its now = pick (same_texts entry e)
      where
        here : entry ≡ e → (place < until_in after entry ↔ HeldPast krate entry ((TryLock handle exclusive, Got) ∷ before) coming (at + 1) place)
        here same = (
          λ lt. elim ((now.0 place).0 (subst (λ x. place < until_in after x) same lt)) [
            | inl near ↦ (handle, own_got krate entry before coming at place past handle exclusive (opened_back krate entry (opening handle before) (sym its ∙ ap Some (sym same))) (subst (λ f. place < f) is near))
            | inr was ↦ on (old.0 (subst (λ x. place < until_in until x) (sym same) was))
          ],
          λ w. subst (λ x. place < until_in after x) (sym same) ((now.0 place).1 (which w (same_number handle w.0))),
        )
          where
            which : (w : HeldPast krate entry ((TryLock handle exclusive, Got) ∷ before) coming (at + 1) place) → (handle ≡ w.0) ⊎ (handle ≢ w.0) → (place < far) ⊎ (place < until_in until e)
            which w (inl own) = inl (subst (λ f. place < f) (sym is) (subst (λ g. place < first (is_close g) coming (at + 1)) (sym own) w.1.3))
            which w (inr off) = inr (subst (λ x. place < until_in until x) same (old.1 (w.0, (other_got krate entry before coming at place past handle exclusive w.0 off).1 w.1)))

        pick : (entry ≡ e) ⊎ (is_eq (text_cmp entry e) ≡ false) → (place < until_in after entry ↔ HeldPast krate entry ((TryLock handle exclusive, Got) ∷ before) coming (at + 1) place)
        pick (inl same) = here same
        pick (inr apart) = (
          λ lt. on (old.0 (subst (λ u. place < u) (now.1 entry off) lt)),
          λ w. subst (λ u. place < u) (sym (now.1 entry off)) (old.1 (back (λ opened. off (one_on (sym (opened_there krate entry (opening handle before) opened) ∙ sym its))) w)),
        )
          where
            off : entry ≢ e
            off same = false≢true (sym apart ∙ ap (λ x. is_eq (text_cmp entry x)) (sym same) ∙ ap is_eq (tied_itself nat_list_cmp_total entry))

            one_on : Some entry ≡ Some e → entry ≡ e
            one_on is = cc

until_next : (krate : Text) (before coming : Steps) (at end : ℕ) (step : Op × Reply) (opened : List (ℕ × Text)) (far : ℕ) (until after : List (Text × ℕ)) → AreOpened krate before opened → IsFresh step before
    → IsFar krate (λ h. first (is_close h) coming (at + 1)) (λ path. first (is_link krate path) coming (at + 1)) end step far → IsUntilBy step opened far until after
    → AreUntil krate before (step ∷ coming) at until → AreUntil krate (step ∷ before) coming (at + 1) after
until_next krate before coming at end (TryLock handle exclusive, Got) opened far until after on fresh is now told =
    until_got krate before coming at handle exclusive (lookup (is_at (nat_cmp handle)) opened) far until after (on handle) is now told
until_next krate before coming at end step opened far until after on fresh is now told = λ entry place past.
    let old = told entry place (later_on at place past) in
    let each = held_next krate entry before coming at place past step fresh (λ got. got) in (
      λ lt. let w = old.0 (subst (λ u. place < until_in u entry) now lt) in (w.0, (each w.0).0 w.1),
      λ w. subst (λ u. place < until_in u entry) (sym now) (old.1 (w.0, (each w.0).1 w.1)),
    )

-- ---- Which load begins.

-- a step that was answered by a listing of a directory
abbrev IsListing : Op × Reply → Type 0
IsListing (ListDir k entry, Names names) = Unit {0}
IsListing step = ⊥

not_begun : (krate : Text) (n : SessionName) (hash : ℕ) (step : Op × Reply) (before coming : Steps) → (IsListing step → ⊥) → ¬ BeginsLoad krate n hash step before coming
not_begun krate n hash step before coming unlike load = unlike (subst IsListing (sym load.lists) tt)

abbrev Next : Text → Op × Reply → Steps → Steps → Option (SessionName × ℕ) → Type 0
Next krate step before coming found =
    ((n : SessionName) × (hash : ℕ) × BeginsLoad krate n hash step before coming × (found ≡ Some (n, hash)))
    ⊎ (((n : SessionName) (hash : ℕ) → ¬ BeginsLoad krate n hash step before coming) × (found ≡ None))

module _ (krate : Text) (before coming : Steps) (at end : ℕ) (count : end ≡ (at + 1) + length coming) (until : List (Text × ℕ)) (k entry : Text) (names : List Text) (far : ℕ)
    (told : AreUntil krate before ((ListDir k entry, Names names) ∷ coming) at until)
    (is : IsFar krate (λ h. first (is_close h) coming (at + 1)) (λ path. first (is_link krate path) coming (at + 1)) end (ListDir k entry, Names names) far) where
  -- what is listed is linked after this step
  past : (bound : ℕ) → (names ≢ []) × AreBefore (λ file. first (is_link krate (entry, file)) coming (at + 1)) (bound + 1) names → at ≤ bound
  past bound (some, all) = go names some all
    where
      go : (names : List Text) → names ≢ [] → AreBefore (λ file. first (is_link krate (entry, file)) coming (at + 1)) (bound + 1) names → at ≤ bound
      go [] some all = absurd (some refl)
      go (file ∷ files) some all =
          let lt = all file (inl refl) in
          let le = first_from (is_link krate (entry, file)) coming (at + 1) in
          omega (arith, lt, le)

  -- nothing is held past the end
  until_end : (lock : Text) → until_in until lock ≤ end
  until_end lock = omega (arith, never)
    where
      never : ¬ (end < until_in until lock)
      never lt =
          let w = (told lock end (omega (arith, count))).0 lt in
          let past = w.1.3 in
          let le = first_within (is_close w.0) coming (at + 1) in
          omega (arith, past, le, count)

  begun_some : (it : SessionName × ℕ) → IsBegun until far (ListDir k entry, Names names) (Some it) → Next krate (ListDir k entry, Names names) before coming (Some it)
  begun_some it b =
      let within = until_end (lock_text it.0) in
      let lt = b.3 in
      let r = (is (far + 1) (omega arith) (omega (arith, lt, within))).0 (omega arith) in
      let w = (told (lock_text it.0) far (past far (r.1, r.2))).0 b.3 in
      inl (
        it.0,
        it.1,
        record {
          named = (b.0, b.1);
          names = names;
          lists = (λ i. (ListDir (r.0 i) (b.2 i), Names names));
          some = r.1;
          handle = w.0;
          after = w.1.0;
          holds = (w.1.1, w.1.2);
          linked = λ file among.
              subst (λ from. LinksHeld krate from file w.0 coming) b.2
              (before_links krate entry file w.0 coming (at + 1) (let a = r.2 file among in let b = w.1.3 in omega (arith, a, b)));
        },
        refl,
      )

  begun_none : IsBegun until far (ListDir k entry, Names names) None → (n : SessionName) (hash : ℕ) → ¬ BeginsLoad krate n hash (ListDir k entry, Names names) before coming
  begun_none b n hash load =
      let h = load.handle in
      let within = first_within (is_close h) coming (at + 1) in
      let from = first_from (is_close h) coming (at + 1) in
      let far_lt = (is (first (is_close h) coming (at + 1)) (omega (arith, from)) (omega (arith, within, count))).1 (its_krate, some, all) in
      let r = (is (far + 1) (omega arith) (omega (arith, far_lt, within, count))).0 (omega arith) in
      b n hash load.named.0 load.named.1 its_entry ((told (lock_text n) far (past far (r.1, r.2))).1 (h, (load.after, load.holds.0, load.holds.1, far_lt)))
    where
      fields : (k l e f : Text) (xs ys : List Text) → ◌≡◌ {A = Op × Reply} (ListDir k e, Names xs) (ListDir l f, Names ys) → (k ≡ l) × (e ≡ f) × (xs ≡ ys)
      fields k l e f xs ys is =
          let op : ListDir k e ≡ ListDir l f = ap (λ (s : Op × Reply). s.0) is in
          let reply : Names xs ≡ Names ys = ap (λ (s : Op × Reply). s.1) is in
          (cc, cc, cc)

      same : (k ≡ krate) × (entry ≡ final_text n hash) × (names ≡ load.names)
      same = fields k krate entry (final_text n hash) names load.names load.lists

      its_krate : k ≡ krate
      its_krate = same.0

      its_entry : entry ≡ final_text n hash
      its_entry = same.1

      some : names ≢ []
      some none = load.some (sym same.2 ∙ none)

      all : AreBefore (λ file. first (is_link krate (entry, file)) coming (at + 1)) (first (is_close load.handle) coming (at + 1)) names
      all file among =
          links_before krate entry file load.handle coming (at + 1)
          (subst (λ from. LinksHeld krate from file load.handle coming) (sym same.1) (load.linked file (subst (λ xs. IsIn xs file) same.2 among)))

next_begun : (krate : Text) (before coming : Steps) (at end : ℕ) → end ≡ (at + 1) + length coming → (until : List (Text × ℕ)) (step : Op × Reply) (far : ℕ) (found : Option (SessionName × ℕ))
    → AreUntil krate before (step ∷ coming) at until → IsFar krate (λ h. first (is_close h) coming (at + 1)) (λ path. first (is_link krate path) coming (at + 1)) end step far
    → IsBegun until far step found → Next krate step before coming found
next_begun krate before coming at end count until (ListDir k entry, Names names) far (Some it) told is b = begun_some krate before coming at end count until k entry names far told is it b
next_begun krate before coming at end count until (ListDir k entry, Names names) far None told is b = inr (begun_none krate before coming at end count until k entry names far told is b, refl)
next_begun krate before coming at end count until step far found told is b = inr (λ n hash. not_begun krate n hash step before coming (λ listing. listing), b)

-- ---- One step more.

pub sought_next : (krate : Text) (before coming : Steps) (at end : ℕ) → end ≡ (at + 1) + length coming → (step : Op × Reply) (far : ℕ) (opened : List (ℕ × Text)) (until after : List (Text × ℕ)) (old now : Option (SessionName × ℕ))
    → IsSought krate before (step ∷ coming) at opened until old → IsFar krate (λ h. first (is_close h) coming (at + 1)) (λ path. first (is_link krate path) coming (at + 1)) end step far
    → IsFresh step before → IsBegun until far step now → IsUntilBy step opened far until after
    → IsSought krate (step ∷ before) coming (at + 1) (opened_by krate step opened) after (later_found now old)
sought_next krate before coming at end count step far opened until after old now s is fresh begins_now by = record {
  opened_is = opened_next krate step before opened s.opened_is;
  until_is = until_next krate before coming at end step opened far until after s.opened_is fresh is by s.until_is;
  found_is = go (next_begun krate before coming at end count until step far now s.until_is is begins_now);
}
  where
    go : Next krate step before coming now → IsLatestLoad krate (step ∷ before) coming (later_found now old)
    go (inl (n, hash, load, found)) = inl (n, hash, load, ap (λ o. later_found o old) found)
    go (inr (none, found)) = inr (none, subst (λ o. IsLatestLoad krate before (step ∷ coming) (later_found o old)) (sym found) s.found_is)

-- ---- One more of the steps in their order.

-- one more handle holds a lock file up to here
pub until_put : (until : List (Text × ℕ)) (entry : Text) (far : ℕ) → until_in until entry < far → IsUntil entry far until (insert_entry text_cmp until entry far)
until_put until entry far less = (
  λ place. (
    λ lt. inl (subst (λ u. place < u) here lt),
    λ either. elim either [
      | inl near ↦ subst (λ u. place < u) (sym here) near
      | inr was ↦ subst (λ u. place < u) (sym here) (omega (arith, was, less))
    ],
  ),
  λ other off. ap (λ o. unwrap_or o 0) (lookup_there text_cmp nat_list_cmp_total until entry other far (apart other off (same_texts other entry))),
)
  where
    here : until_in (insert_entry text_cmp until entry far) entry ≡ far
    here = ap (λ o. unwrap_or o 0) (lookup_here text_cmp nat_list_cmp_total until entry far)

    apart : (other : Text) → other ≢ entry → (other ≡ entry) ⊎ (is_eq (text_cmp other entry) ≡ false) → is_eq (text_cmp other entry) ≡ false
    apart other off (inl same) = absurd (off same)
    apart other off (inr is) = is

fresh_at : (later : Steps) (step : Op × Reply) (before : Steps) → AreFresh (later ++ step ∷ before) → IsFresh step before
fresh_at [] step before fresh = fresh.1
fresh_at (x ∷ later) step before fresh = fresh_at later step before fresh.0

first_far : (krate : Text) (end : ℕ) (step : Op × Reply) (coming : Steps) (at : ℕ) (fars : List ℕ) → AreFar krate end (step ∷ coming) at fars
    → (far : ℕ) × (rest : List ℕ) × (fars ≡ far ∷ rest) × IsFar krate (λ h. first (is_close h) coming (at + 1)) (λ path. first (is_link krate path) coming (at + 1)) end step far × AreFar krate end coming (at + 1) rest
first_far krate end step coming at [] are = absurd are
first_far krate end step coming at (far ∷ rest) are = (far, rest, refl, are.0, are.1)

pub sought_more : (krate : Text) (steps : Steps) (i : ℕ) (item : Op × Reply) (fars less : List ℕ) (got : ℕ) (opened more_opened : List (ℕ × Text)) (until more_until : List (Text × ℕ)) (found more_found : Option (SessionName × ℕ))
    → i < length steps → item ≡ get_or steps i item → AreFresh (reverse steps)
    → IsSought krate (reverse (take i steps)) (drop i steps) i opened until found → AreFar krate (length steps) (drop i steps) i (reverse fars)
    → ((far : ℕ) (rest : List ℕ) → reverse fars ≡ far ∷ rest → (got ≡ far) × (reverse less ≡ rest))
    → ((before coming : Steps) (at end : ℕ) → end ≡ (at + 1) + length coming → IsSought krate before (item ∷ coming) at opened until found
    → IsFar krate (λ h. first (is_close h) coming (at + 1)) (λ path. first (is_link krate path) coming (at + 1)) end item got → IsFresh item before
    → IsSought krate (item ∷ before) coming (at + 1) more_opened more_until more_found)
    → IsSought krate (reverse (take (i + 1) steps)) (drop (i + 1) steps) (i + 1) more_opened more_until more_found × AreFar krate (length steps) (drop (i + 1) steps) (i + 1) (reverse less)
sought_more krate steps i item fars less got opened more_opened until more_until found more_found within same fresh sought are takes step = (
  subst (λ before. IsSought krate before (drop (i + 1) steps) (i + 1) more_opened more_until more_found) (sym taken)
      (step (reverse (take i steps)) (drop (i + 1) steps) i (length steps) count (subst (λ coming. IsSought krate (reverse (take i steps)) coming i opened until found) dropped sought)
      (subst (IsFar krate (λ h. first (is_close h) (drop (i + 1) steps) (i + 1)) (λ path. first (is_link krate path) (drop (i + 1) steps) (i + 1)) (length steps) item) (sym next.0) head.3)
      (fresh_at (reverse (drop (i + 1) steps)) item (reverse (take i steps)) (subst AreFresh whole fresh))),
  subst (AreFar krate (length steps) (drop (i + 1) steps) (i + 1)) (sym next.1) head.4,
)
  where
    dropped : drop i steps ≡ item ∷ drop (i + 1) steps
    dropped = drop_more steps i item within ∙ ap (λ s. s ∷ drop (i + 1) steps) (sym same)

    taken : reverse (take (i + 1) steps) ≡ item ∷ reverse (take i steps)
    taken = next_first steps i item within ∙ ap (λ s. s ∷ reverse (take i steps)) (sym same)

    whole : reverse steps ≡ reverse (drop (i + 1) steps) ++ item ∷ reverse (take i steps)
    whole = ap reverse (sym (take-append-drop i steps)) ∙ reverse-append (take i steps) (drop i steps) ∙ ap (λ ss. reverse ss ++ reverse (take i steps)) dropped
        ∙ ap (λ ss. ss ++ reverse (take i steps)) (reverse-append (item ∷ []) (drop (i + 1) steps)) ∙ append_assoc (reverse (drop (i + 1) steps)) (item ∷ []) (reverse (take i steps))

    count : length steps ≡ (i + 1) + length (drop (i + 1) steps)
    count = let e = length-drop (i + 1) steps in omega (arith, e, within)

    head : (far : ℕ) × (rest : List ℕ) × (reverse fars ≡ far ∷ rest) × IsFar krate (λ h. first (is_close h) (drop (i + 1) steps) (i + 1)) (λ path. first (is_link krate path) (drop (i + 1) steps) (i + 1)) (length steps) item far
        × AreFar krate (length steps) (drop (i + 1) steps) (i + 1) rest
    head = first_far krate (length steps) item (drop (i + 1) steps) i (reverse fars) (subst (λ ss. AreFar krate (length steps) ss i (reverse fars)) dropped are)

    next : (got ≡ head.0) × (reverse less ≡ head.1)
    next = takes head.0 head.1 head.2
