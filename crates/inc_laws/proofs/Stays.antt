-- A directory stands while it is held.
use Rattle.std.specs.Prelude.{◌≡◌, ◌≢◌, ◌⊎◌, ◌==◌, ℕ, Bool, true, false, cond, List, [], ◌∷◌, refl, Option, Some, None, IsSome, is_some, take}
use Rattle.std.specs.Ordering.{is_eq}
use Rattle.std.proofs.Common.{ap, sym, subst, ◌∙◌, inl, inr}
use Rattle.std.proofs.lemmas.Bool.{eqb-true}
use Rattle.inc_base.specs.declared.job.Job.{Job}
use Rattle.inc_fs.specs.Changes.{Touches}
use Rattle.inc_fs.specs.declared.state.Entry.{Entry}
use Rattle.inc_fs.specs.declared.state.Entry.TheVariants.{LockFile, Folder}
use Rattle.inc_fs.specs.declared.state.File.{File}
use Rattle.inc_fs.specs.Lookups.{same_paths}
use Rattle.inc_fs.specs.Points.{with_at, here, there, same_number}
use Rattle.inc_fs.specs.Readings.{listed_stands, no_lock}
use Rattle.inc_fs.specs.State.{State, Text, Path, IsIn, path_cmp, entry_at, folder_at, folder_of, lock_at, lock_of, file_at, end_of, with_piece}
use Rattle.inc_fs.specs.Step.{Step}
use Rattle.inc_fs.specs.Steps.{step_changes}
use Rattle.inc_fs.specs.declared.op.Op.{Op}
use Rattle.inc_fs.specs.declared.op.Op.TheVariants.{Draw, MakeLock, OpenLock, TryLock, Look, ListDir, MakeDir, Link, Read, Create, Append, Unlink, UnlinkLock, RemoveDir, Rename, Close}
use Rattle.inc_fs.specs.declared.op.Reply.{Reply}
use Rattle.inc_fs.specs.declared.op.Reply.TheVariants.{Drawn, Handle as GotHandle, Names, Bytes, Done, Got, Held, Exists, Missing, NotEmpty, Fault}
use Rattle.inc_names.specs.declared.session.SessionName.{SessionName}
use Rattle.inc_names.specs.Entries.{lock_text, final_text}
use Rattle.inc_names.specs.EntryLaws.{lock_is_no_final, same_final_name}
use Rattle.inc_proto.specs.declared.event.Event.{Event}
use Rattle.inc_proto.specs.declared.event.Event.TheVariants.{Begin, Did, Left}
use Rattle.inc_proto.specs.declared.own.Known.{Known}
use Rattle.inc_proto.specs.Events.{Steps, own_steps, is_running, job_of}
use Rattle.inc_proto.specs.Files.{Files}
use Rattle.inc_proto.specs.Leads.{LeadsTo, Happens, stopped}
use Rattle.inc_proto.specs.Legal.{IsAllowed, AreAllowed}
use Rattle.inc_proto.specs.Permits.{IsPermitted, IsOn, MayClear}
use Rattle.inc_proto.specs.Views.{Opening, opening, opening_after, mode, mode_after, since, since_after, begun, grown, dir}
use Rattle.inc_proto.specs.Views.Dir.{Stands}
use Rattle.inc_proto.specs.Views.Opening.{Made, Opened as ByOpen}
use Rattle.inc_laws.specs.Invariants.{IsShowing, IsAway, HasShown, HeldStands, HoldsExclusively, HeldExclusively}
use Rattle.inc_laws.specs.Laws.{Laws}
use Rattle.inc_laws.specs.Readings.{running, opens_of, modes_of}
use Rattle.inc_laws.proofs.FromLaws.{held_exclusively}
use Rattle.inc_laws.proofs.Lasting.{may_parts, laws_hold}
use Rattle.inc_laws.proofs.Mono.{none_some}
use Rattle.inc_laws.proofs.Quiet.{IsQuiet, quiet_same}
use Rattle.inc_laws.proofs.Readings.{at_step}
use Rattle.inc_laws.proofs.Texts.{final_no_working}
use Rattle.inc_laws.proofs.Wraps.{alone_mode, apart_at, at_path, own_place}
use Rattle.inc_laws.specs.Readings.Site.{At}

-- ---- What the steps since a lock was got say.

-- they begin anew, or grow by a step, or are gone
since_is : (h : ℕ) (step : Op × Reply) (before : Option Steps) (after : Steps) → since_after h step before ≡ Some after
    → (after ≡ []) ⊎ ((older : Steps) × (before ≡ Some older) × (after ≡ step ∷ older))
since_is h (TryLock handle exclusive, Got) before after is = go (handle == h) before is
  where
    go : (b : Bool) (before : Option Steps) → cond b (begun (TryLock handle exclusive, Got) before) (grown (TryLock handle exclusive, Got) before) ≡ Some after
        → (after ≡ []) ⊎ ((older : Steps) × (before ≡ Some older) × (after ≡ (TryLock handle exclusive, Got) ∷ older))
    go true None is = inl cc
    go true (Some older) is = inr (older, refl, cc)
    go false None is = cc
    go false (Some older) is = inr (older, refl, cc)
since_is h (Close handle, Done) before after is = go (handle == h) before is
  where
    go : (b : Bool) (before : Option Steps) → cond b None (grown (Close handle, Done) before) ≡ Some after → (after ≡ []) ⊎ ((older : Steps) × (before ≡ Some older) × (after ≡ (Close handle, Done) ∷ older))
    go true before is = cc
    go false None is = cc
    go false (Some older) is = inr (older, refl, cc)
since_is h (op, reply) None after is = cc
since_is h (op, reply) (Some older) after is = inr (older, refl, cc)

-- where they are there, the handle holds the lock
since_step : (h : ℕ) (step : Op × Reply) (before : Option Steps) (held : Option Bool) → (IsSome before → IsSome held) → IsSome (since_after h step before) → IsSome (mode_after h step held)
since_step h (TryLock handle exclusive, Got) before held old s = go (handle == h) before old s
  where
    go : (b : Bool) (before : Option Steps) → (IsSome before → IsSome held) → IsSome (cond b (begun (TryLock handle exclusive, Got) before) (grown (TryLock handle exclusive, Got) before)) → IsSome (cond b (Some exclusive) held)
    go true before old s = refl
    go false None old s = cc
    go false (Some steps) old s = old refl
since_step h (Close handle, Done) before held old s = go (handle == h) before old s
  where
    go : (b : Bool) (before : Option Steps) → (IsSome before → IsSome held) → IsSome (cond b None (grown (Close handle, Done) before)) → IsSome (cond b None held)
    go true before old s = cc
    go false None old s = cc
    go false (Some steps) old s = old refl
since_step h (op, reply) None held old s = cc
since_step h (op, reply) (Some steps) held old s = old refl

pub since_mode : (h : ℕ) (steps : Steps) → IsSome (since h steps) → IsSome (mode h steps)
since_mode h [] s = cc
since_mode h (step ∷ steps) s = since_step h step (since h steps) (mode h steps) (since_mode h steps) s

-- ---- A finalised directory, by a step of another.

module _ (files : Files) (H : List Event) (F : State) (l : Laws files H F) (who : ℕ) (job : Job) (runs : running who H ≡ Some job) (k : Text) (n : SessionName) (hash : ℕ) (stood : IsSome (folder_at F k (final_text n hash))) where
  -- it stands on, or this session renamed it, holding its name exclusively
  abbrev Stays : Op → Reply → State → Type 0
  Stays op reply G = IsSome (folder_at G k (final_text n hash)) ⊎ ((h : ℕ) × HoldsExclusively H who h k n × IsAway k (final_text n hash) (op, reply))

  unchanged : (op : Op) (reply : Reply) (G : State) → folder_at G k (final_text n hash) ≡ folder_at F k (final_text n hash) → Stays op reply G
  unchanged op reply G is = inl (subst IsSome (sym is) stood)

  quiet_stays : (op : Op) (reply : Reply) (G : State) → IsQuiet op reply → Step F who op reply G → Stays op reply G
  quiet_stays op reply G q s = unchanged op reply G (ap (λ G. folder_at G k (final_text n hash)) (quiet_same F who op reply G q s))

  untouched : (op : Op) (reply : Reply) (G : State) → Step F who op reply G → ¬ Touches op k (final_text n hash) → Stays op reply G
  untouched op reply G s none = unchanged op reply G (ap folder_of ((step_changes F who op reply G s).entries k (final_text n hash) none))

  -- an entry that a step touches is no finalised directory
  not_own : (krate entry : Text) (known : List (Text × Known)) → dir (own_steps who H) ≡ Stands krate entry known → final_text n hash ≡ entry → ⊥
  not_own krate entry known d is = let its = own_place files H F l who job runs krate entry known d in final_no_working n its.0 hash (is ∙ its.3)

  not_cleared : (krate entry : Text) → MayClear (own_steps who H) krate entry → final_text n hash ≡ entry → ⊥
  not_cleared krate entry (inl p) is = not_own krate entry p.0 p.1 is
  not_cleared krate entry (inr p) is = final_no_working n p.0 hash (is ∙ p.4)

  -- a renaming
  renamed : (krate from to : Text) (G : State) → Step F who (Rename krate from to) Done G → (k ≡ krate → final_text n hash ≡ from → Stays (Rename krate from to) Done G) → (final_text n hash ≡ to → k ≡ krate → ⊥) → Stays (Rename krate from to) Done G
  renamed krate from to G s leaves not_to = elim (same_paths (k, final_text n hash) (krate, from)) [
    | inl is ↦ leaves (ap (λ (x : Path). x.0) is) (ap (λ (x : Path). x.1) is)
    | inr off ↦ untouched (Rename krate from to) Done G s (neither off)
  ]
    where
      neither : is_eq (path_cmp (k, final_text n hash) (krate, from)) ≡ false → ¬ Touches (Rename krate from to) k (final_text n hash)
      neither off (same, inl is) = apart_at k (final_text n hash) krate from off (λ i. At (same i) (is i))
      neither off (same, inr is) = not_to is same

  pub step_stays : (op : Op) (reply : Reply) (G : State) → IsPermitted files job (own_steps who H) op → Step F who op reply G → Stays op reply G
  step_stays (Append krate entry file piece) Fault G p s = untouched (Append krate entry file piece) Fault G s (λ at. at)
  step_stays op Fault G p s = quiet_stays op Fault G tt s
  step_stays Draw (Drawn moment random) G p s = untouched Draw (Drawn moment random) G s (λ at. at)
  step_stays (MakeLock krate entry) (GotHandle h) G p s = untouched (MakeLock krate entry) (GotHandle h) G s (λ at. lock_is_no_final p.0 n hash (sym p.3 ∙ sym at.1))
  step_stays (OpenLock krate entry) (GotHandle h) G p s = untouched (OpenLock krate entry) (GotHandle h) G s (λ at. at)
  step_stays (TryLock handle exclusive) Got G p s = untouched (TryLock handle exclusive) Got G s (λ at. at)
  step_stays (Look krate) (Names names) G p s = quiet_stays (Look krate) (Names names) G tt s
  step_stays (ListDir krate entry) (Names names) G p s = quiet_stays (ListDir krate entry) (Names names) G tt s
  step_stays (MakeDir krate entry) Done G p s = untouched (MakeDir krate entry) Done G s (λ at. final_no_working n p.0 hash (at.1 ∙ p.5))
  step_stays (Link krate from to file) Done G p s = untouched (Link krate from to file) Done G s (λ at. not_own krate to p.0 p.5 at.1)
  step_stays (Read krate entry file) (Bytes b) G p s = untouched (Read krate entry file) (Bytes b) G s (λ at. at)
  step_stays (Create krate entry file) Done G p s = untouched (Create krate entry file) Done G s (λ at. not_own krate entry p.0 p.1 at.1)
  step_stays (Append krate entry file piece) Done G p s = untouched (Append krate entry file piece) Done G s (λ at. at)
  step_stays (Unlink krate entry file) Done G p s = untouched (Unlink krate entry file) Done G s (λ at. not_cleared krate entry p at.1)
  step_stays (UnlinkLock krate entry) Done G p s = untouched (UnlinkLock krate entry) Done G s (λ at. no_file (folder_at F k (final_text n hash)) refl stood (at_path (λ k e. IsSome (lock_at F k e)) k (final_text n hash) krate entry at.0 at.1 s.0))
    where
      no_file : (o : Option (List (Text × ℕ))) → folder_at F k (final_text n hash) ≡ o → IsSome o → IsSome (lock_at F k (final_text n hash)) → ⊥
      no_file None is some lock = cc
      no_file (Some folder) is some lock = let none = no_lock (entry_at F k (final_text n hash)) folder is in cc
  step_stays (RemoveDir krate entry) Done G p s = untouched (RemoveDir krate entry) Done G s (λ at. not_cleared krate entry p at.1)
  step_stays (Rename krate from to) Done G (inl p) s = renamed krate from to G s (λ same is. absurd (not_own krate from p.0 p.3 is))
      (λ is same. taken (folder_at F k (final_text n hash)) refl stood (at_path (λ k e. entry_at F k e ≡ None) k (final_text n hash) krate to same is s.2))
    where
      taken : (o : Option (List (Text × ℕ))) → folder_at F k (final_text n hash) ≡ o → IsSome o → entry_at F k (final_text n hash) ≡ None → ⊥
      taken None is some free = cc
      taken (Some folder) is some free = none_some folder (folder_at F k (final_text n hash)) (ap folder_of free) is
  step_stays (Rename krate from to) Done G (inr p) s = renamed krate from to G s
      (λ same is.
      let name : p.0 ≡ n = same_final_name p.0 n p.1 hash (sym p.8 ∙ sym is) in
      inr (
        p.2,
        record {
          runs = ap is_some runs;
          on = subst (λ (x : Text × SessionName). IsOn x.0 (lock_text x.1) (opening p.2 (own_steps who H))) (λ i. (sym same i, name i)) p.10.0;
          held = alone_mode p.2 (own_steps who H) (ap is_some p.10.1);
        },
        (sym same, sym is),
      ))
      (λ is same. final_no_working n p.0 hash (is ∙ p.9))
  step_stays (Close handle) Done G p s = untouched (Close handle) Done G s (λ at. at)
  step_stays op Missing G p s = quiet_stays op Missing G tt s
  step_stays op Exists G p s = quiet_stays op Exists G tt s
  step_stays op Held G p s = quiet_stays op Held G tt s
  step_stays op NotEmpty G p s = quiet_stays op NotEmpty G tt s
  step_stays op reply G p s = absurd s

-- ---- It stands on, event by event.

module _ (files : Files) (H : List Event) (F : State) (l : Laws files H F) (st : HeldStands H F) where
  -- what a session lists under a finalised name is a directory
  showing_stands : (who : ℕ) (op : Op) (reply : Reply) (G : State) (krate : Text) (n : SessionName) (hash : ℕ) → Step F who op reply G → IsShowing krate (final_text n hash) (op, reply) → IsSome (folder_at G krate (final_text n hash))
  showing_stands who (Look k) (Names names) G krate n hash s shows =
      subst (λ G. IsSome (folder_at G krate (final_text n hash))) (sym s.1) (subst (λ k. IsSome (folder_at F k (final_text n hash))) shows.0
      (go (entry_at F k (final_text n hash)) refl (listed_stands k (final_text n hash) F.entries (subst (λ names. IsIn names (final_text n hash)) s.0 shows.1))))
    where
      go : (e : Option Entry) → entry_at F k (final_text n hash) ≡ e → IsSome e → IsSome (folder_at F k (final_text n hash))
      go None is some = cc
      go (Some (LockFile f)) is some = let t = l.lock_files.tried k (final_text n hash) f (l.lock_files.entry k (final_text n hash) f (ap lock_of is)) in absurd (lock_is_no_final t.1 n hash (sym t.3))
      go (Some (Folder names)) is some = ap (λ e. is_some (folder_of e)) is
  showing_stands who (ListDir k e) (Names names) G krate n hash s shows =
      subst (λ G. IsSome (folder_at G krate (final_text n hash))) (sym s.3) (at_path (λ k e. IsSome (folder_at F k e)) krate (final_text n hash) k e (sym shows.0) (sym shows.1) (ap is_some s.1))
  showing_stands who op reply G krate n hash s shows = absurd shows

  -- a handle by which a running session holds a lock was given
  held_given : (who h : ℕ) (job : Job) (older : Steps) → running who H ≡ Some job → since h (own_steps who H) ≡ Some older → IsIn F.given h
  held_given who h job older runs is = go (opens_of H who h) refl
    where
      go : (o : Option Opening) → opens_of H who h ≡ o → IsIn F.given h
      go None none = absurd (gone (since_mode h (own_steps who H) (ap is_some is)) (l.handles.unopened who h none))
        where
          gone : IsSome (modes_of H who h) → modes_of H who h ≡ None → ⊥
          gone some none = cc
      go (Some by) sees = let t = l.handles.there who h job by runs sees in l.handles.taken h t.0 t.1

  -- so no step opens it anew
  on_before : (who h : ℕ) (op : Op) (reply : Reply) (G : State) (krate entry : Text) (before : Option Opening) → Step F who op reply G → IsIn F.given h → IsOn krate entry (opening_after h (op, reply) before) → IsOn krate entry before
  on_before who h (MakeLock k e) (GotHandle g) G krate entry before s given on = go (g == h) refl on
    where
      go : (b : Bool) → g == h ≡ b → IsOn krate entry (cond b (Some (Made k e)) before) → IsOn krate entry before
      go true is on = absurd (s.1 (subst (IsIn F.given) (sym (eqb-true g h is)) given))
      go false is on = on
  on_before who h (OpenLock k e) (GotHandle g) G krate entry before s given on = go (g == h) refl on
    where
      go : (b : Bool) → g == h ≡ b → IsOn krate entry (cond b (Some (ByOpen k e)) before) → IsOn krate entry before
      go true is on = absurd (s.2 (subst (IsIn F.given) (sym (eqb-true g h is)) given))
      go false is on = on
  on_before who h (Close g) Done G krate entry before s given on = go (g == h) on
    where
      go : (b : Bool) → IsOn krate entry (cond b None before) → IsOn krate entry before
      go true on = absurd on
      go false on = on
  on_before who h op reply G krate entry before s given on = on

  module _ (who : ℕ) (op : Op) (reply : Reply) (G : State) (job : Job) (runs : running who H ≡ Some job) (p : IsPermitted files job (own_steps who H) op) (s : Step F who op reply G) where
    -- by the session's own step
    own_stands : (h : ℕ) (krate : Text) (n : SessionName) (hash : ℕ) (after : Steps) → IsOn krate (lock_text n) (opening_after h (op, reply) (opening h (own_steps who H)))
        → since_after h (op, reply) (since h (own_steps who H)) ≡ Some after → HasShown krate (final_text n hash) after → IsSome (folder_at G krate (final_text n hash))
    own_stands h krate n hash after on is shown = elim (since_is h (op, reply) (since h (own_steps who H)) after is) [
      | inl none ↦ absurd (subst (HasShown krate (final_text n hash)) none shown)
      | inr (older, was, grows) ↦ go older was (subst (HasShown krate (final_text n hash)) grows shown)
    ]
      where
        go : (older : Steps) → since h (own_steps who H) ≡ Some older → HasShown krate (final_text n hash) ((op, reply) ∷ older) → IsSome (folder_at G krate (final_text n hash))
        go older was (inl shows) = showing_stands who op reply G krate n hash s shows
        go older was (inr (stayed, seen)) =
            let before = on_before who h op reply G krate (lock_text n) (opening h (own_steps who H)) s (held_given who h job older runs was) on in
            elim (step_stays files H F l who job runs krate n hash (st.stands who h krate n hash older (ap is_some runs) before was seen) op reply G p s) [
              | inl stands ↦ stands
              | inr (g, holds, away) ↦ absurd (stayed away)
            ]

    -- by another's
    other_stands : (v h : ℕ) (krate : Text) (n : SessionName) (hash : ℕ) (after : Steps) → who ≢ v → IsSome (running v H) → IsOn krate (lock_text n) (opening h (own_steps v H))
        → since h (own_steps v H) ≡ Some after → HasShown krate (final_text n hash) after → IsSome (folder_at G krate (final_text n hash))
    other_stands v h krate n hash after off its on is shown =
        elim (step_stays files H F l who job runs krate n hash (st.stands v h krate n hash after its on is shown) op reply G p s) [
          | inl stands ↦ stands
          | inr (g, holds, away) ↦
              absurd (off (HeldExclusively.alone (held_exclusively files H F l) who v g h krate n holds (record { runs = its; on = on; held = since_mode h (own_steps v H) (ap is_some is) })).0)
        ]

    did_stands : HeldStands (Did who op reply ∷ H) G
    did_stands = record { stands = λ v h krate n hash after its on is shown. go v h krate n hash after (same_number who v) its on is shown }
      where
        go : (v h : ℕ) (krate : Text) (n : SessionName) (hash : ℕ) (after : Steps) → (who ≡ v) ⊎ (who ≢ v) → IsSome (running v H) → IsOn krate (lock_text n) (opening h (own_steps v (Did who op reply ∷ H)))
            → since h (own_steps v (Did who op reply ∷ H)) ≡ Some after → HasShown krate (final_text n hash) after → IsSome (folder_at G krate (final_text n hash))
        go v h krate n hash after (inl own) its on is shown =
            let steps : own_steps v (Did who op reply ∷ H) ≡ (op, reply) ∷ own_steps who H = (λ i. at_step (λ s. s) who op reply H i v) ∙ ap (with_at (λ w. own_steps w H) who ((op, reply) ∷ own_steps who H)) (sym own) ∙ here (λ w. own_steps w H) who ((op, reply) ∷ own_steps who H) in
            own_stands h krate n hash after (subst (λ s. IsOn krate (lock_text n) (opening h s)) steps on) (sym (ap (since h) steps) ∙ is) shown
        go v h krate n hash after (inr off) its on is shown =
            let steps : own_steps v (Did who op reply ∷ H) ≡ own_steps v H = (λ i. at_step (λ s. s) who op reply H i v) ∙ there (λ w. own_steps w H) who ((op, reply) ∷ own_steps who H) v off in
            other_stands v h krate n hash after off its (subst (λ s. IsOn krate (lock_text n) (opening h s)) steps on) (sym (ap (since h) steps) ∙ is) shown

  begun_stands : (number : ℕ) (job : Job) → HeldStands (Begin number job ∷ H) F
  begun_stands number job = record { stands = λ v h krate n hash after its on is shown. go v h krate n hash after (number == v) (is_running v H) (job_of v H) refl refl its on is shown }
    where
      go : (v h : ℕ) (krate : Text) (n : SessionName) (hash : ℕ) (after : Steps) (b r : Bool) (j : Option Job) → is_running v H ≡ r → job_of v H ≡ j → IsSome (cond (cond b true r) (cond b (Some job) j) None)
          → IsOn krate (lock_text n) (opening h (cond b [] (own_steps v H))) → since h (cond b [] (own_steps v H)) ≡ Some after → HasShown krate (final_text n hash) after → IsSome (folder_at F krate (final_text n hash))
      go v h krate n hash after true r j p q its on is shown = cc
      go v h krate n hash after false r j p q its on is shown = st.stands v h krate n hash after (subst IsSome (λ i. cond (sym p i) (sym q i) None) its) on is shown

  same_folders : (op : Option Op) (cut who : ℕ) → folder_at (end_of (stopped F op cut) who) ≡ folder_at F
  same_folders None cut who = refl
  same_folders (Some (Append krate entry file piece)) cut who = go (file_at F krate entry file)
    where
      go : (o : Option (ℕ × File)) → folder_at (end_of (with_piece F o (take cut piece)) who) ≡ folder_at F
      go None = refl
      go (Some found) = refl
  same_folders (Some op) cut who = refl

  left_stands : (number : ℕ) (op : Option Op) (cut : ℕ) → HeldStands (Left number op cut ∷ H) (end_of (stopped F op cut) number)
  left_stands number op cut = record {
    stands = λ v h krate n hash after its on is shown.
        subst (λ folders. IsSome (folders krate (final_text n hash))) (sym (same_folders op cut number)) (go v h krate n hash after (number == v) (is_running v H) (job_of v H) refl refl its on is shown);
  }
    where
      go : (v h : ℕ) (krate : Text) (n : SessionName) (hash : ℕ) (after : Steps) (b r : Bool) (j : Option Job) → is_running v H ≡ r → job_of v H ≡ j → IsSome (cond (cond b false r) j None)
          → IsOn krate (lock_text n) (opening h (own_steps v H)) → since h (own_steps v H) ≡ Some after → HasShown krate (final_text n hash) after → IsSome (folder_at F krate (final_text n hash))
      go v h krate n hash after true r j p q its on is shown = cc
      go v h krate n hash after false r j p q its on is shown = st.stands v h krate n hash after (subst IsSome (λ i. cond (sym p i) (sym q i) None) its) on is shown

  pub event_stands : (event : Event) (G : State) → IsAllowed files H event → Happens H F event G → HeldStands (event ∷ H) G
  event_stands (Begin number job) G allowed is = subst (HeldStands (Begin number job ∷ H)) (sym is.1) (begun_stands number job)
  event_stands (Did number op reply) G allowed is = let p = may_parts files H number op allowed in did_stands number op reply G p.0 p.1 p.2 is
  event_stands (Left number op cut) G allowed is = subst (HeldStands (Left number op cut ∷ H)) (sym is) (left_stands number op cut)

pub stands_hold : (files : Files) (events : List Event) (G : State) → LeadsTo events G → AreAllowed files events → HeldStands events G
stands_hold files [] G is allowed = record { stands = λ who h krate n hash after its on is shown. cc }
stands_hold files (event ∷ events) G (F, leads, is) allowed = event_stands files events F (laws_hold files events F leads allowed.0) (stands_hold files events F leads allowed.0) event G allowed.1 is
