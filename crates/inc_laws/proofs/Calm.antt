-- What events leave alone: published files, and directories that the session neither owns nor holds exclusively.
use Rattle.std.specs.Prelude.{◌≡◌, ◌<◌, ◌⊎◌, ℕ, false, cond, List, ◌∷◌, refl, Option, Some, None, IsSome, is_some, length}
use Rattle.std.specs.Ordering.{is_eq}
use Rattle.std.proofs.Common.{ap, sym, subst, ◌∙◌, inl, inr}
use Rattle.inc_base.specs.declared.job.Job.{Job}
use Rattle.inc_fs.specs.Changes.{Touches, Writes}
use Rattle.inc_fs.specs.Ending.{end_facts}
use Rattle.inc_fs.specs.Lookups.{same_paths}
use Rattle.inc_fs.specs.Points.{here}
use Rattle.inc_fs.specs.Readings.{bytes_of, file_is, folders_put, folders_cut, no_folder}
use Rattle.inc_fs.specs.Points.{put_here}
use Rattle.inc_fs.specs.State.{State, Text, Path, path_cmp, entry_at, folder_at, folder_of, lock_at, with_new_file}
use Rattle.inc_fs.specs.Step.{Step, cut_short}
use Rattle.inc_fs.specs.Steps.{step_changes}
use Rattle.inc_fs.specs.Tidy.{IsTidy}
use Rattle.inc_fs.specs.declared.op.Op.{Op}
use Rattle.inc_fs.specs.declared.op.Op.TheVariants.{Draw, MakeLock, OpenLock, TryLock, Look, ListDir, MakeDir, Link, Read, Create, Append, Unlink, UnlinkLock, RemoveDir, Rename, Close}
use Rattle.inc_fs.specs.declared.op.Reply.{Reply}
use Rattle.inc_fs.specs.declared.op.Reply.TheVariants.{Drawn, Handle as GotHandle, Names, Bytes, Done, Got, Held, Exists, Missing, NotEmpty, Fault}
use Rattle.inc_fs.specs.declared.state.Entry.TheVariants.{LockFile}
use Rattle.inc_names.specs.declared.session.SessionName.{SessionName}
use Rattle.inc_proto.specs.declared.event.Event.{Event}
use Rattle.inc_proto.specs.declared.event.Event.TheVariants.{Begin, Did, Left}
use Rattle.inc_proto.specs.Events.{Steps, own_steps}
use Rattle.inc_proto.specs.Files.{Files}
use Rattle.inc_proto.specs.Leads.{Happens}
use Rattle.inc_proto.specs.Legal.{MayDo, IsAllowed}
use Rattle.inc_proto.specs.Permits.{IsPermitted, HoldsAlone, MayClear}
use Rattle.inc_proto.specs.Views.{dir, dir_after}
use Rattle.inc_proto.specs.Views.Dir.{Stands, Published}
use Rattle.inc_laws.specs.Invariants.{PublishedFrozen, HoldsExclusively, MayChange, ChangesHeld}
use Rattle.inc_laws.specs.Laws.{Laws}
use Rattle.inc_laws.specs.Parts.{IsPublished}
use Rattle.inc_laws.specs.Readings.{running, sites_of, makers_of, site_of}
use Rattle.inc_laws.specs.Readings.Maker.{ByCreate}
use Rattle.inc_laws.specs.Readings.Site.{At, Out}
use Rattle.inc_laws.proofs.InPlace.{some_same}
use Rattle.inc_laws.proofs.Lasting.{may_parts}
use Rattle.inc_laws.proofs.Here.{here_itself}
use Rattle.inc_laws.proofs.Quiet.{IsQuiet, quiet_same}
use Rattle.inc_laws.proofs.Readings.{at_step}
use Rattle.inc_laws.proofs.Wraps.{own_file_found, alone_mode, apart_at, untried_unmade}

-- ---- Published files.

module _ (files : Files) (H : List Event) (F : State) (l : Laws files H F) where
  -- what is appended to is of a session that hasn't published
  unpublished : (who : ℕ) (op : Op) → MayDo files H who op → (f v : ℕ) → makers_of H f ≡ Some (ByCreate v) → IsPublished (sites_of H) v → ¬ Writes F op f
  unpublished who (Append krate entry file piece) may f v made out at = go (may_parts files H who (Append krate entry file piece) may)
    where
      maker_same : (v u : ℕ) → Some (ByCreate v) ≡ Some (ByCreate u) → v ≡ u
      maker_same v u e = cc

      go : (job : Job) × (running who H ≡ Some job) × IsPermitted files job (own_steps who H) (Append krate entry file piece) → ⊥
      go (job, runs, p) =
          let found = own_file_found files H F l who job runs krate entry file p.3.0 p.0 p.1 p.3.1 p.2 p.4 p.5 in
          let same : f ≡ found.0.0 = some_same f found.0.0 (sym at ∙ (file_is F krate entry file found.0 found.1).0) in
          let own : v ≡ who = maker_same v who (sym made ∙ ap (makers_of H) same ∙ found.2) in
          let stands : sites_of H who ≡ At krate entry = ap site_of p.2 in
          let published : sites_of H who ≡ Out out.0 out.1 = subst (λ w. sites_of H w ≡ Out out.0 out.1) own out.2 in
          cc
  unpublished who op may f v made out at = absurd at

  step_frozen : (who : ℕ) (op : Op) (reply : Reply) (G : State) → MayDo files H who op → Step F who op reply G → (f v : ℕ) → makers_of H f ≡ Some (ByCreate v) → IsPublished (sites_of H) v → bytes_of G f ≡ bytes_of F f
  step_frozen who op reply G may s f v made out =
      (step_changes F who op reply G s).bytes f (subst (λ n. f < n) (sym l.counted.is) (l.counted.below f _ made)) (unpublished who op may f v made out)

  pub event_frozen : IsTidy F → (event : Event) (G : State) → IsAllowed files H event → Happens H F event G → PublishedFrozen H F G
  event_frozen tidy (Begin number job) G allowed is = record { frozen = λ f v made out. ap (λ G. bytes_of G f) is.1 }
  event_frozen tidy (Did number op reply) G allowed is = record { frozen = step_frozen number op reply G allowed is }
  event_frozen tidy (Left number None cut) G allowed is = record { frozen = λ f v made out. ap (λ G. bytes_of G f) is ∙ (end_facts F number tidy).bytes f }
  event_frozen tidy (Left number (Some op) cut) G allowed is = record {
    frozen = λ f v made out.
        ap (λ G. bytes_of G f) is
        ∙ (end_facts (cut_short F op cut) number ((step_changes F number op Fault (cut_short F op cut) (cut, refl)).tidy tidy)).bytes f
        ∙ step_frozen number op Fault (cut_short F op cut) allowed.1 (cut, refl) f v made out;
  }

-- ---- Directories.

module _ (files : Files) (H : List Event) (F : State) (who : ℕ) (job : Job) (runs : running who H ≡ Some job) where
  abbrev Changes : Op → Reply → State → Type 0
  Changes op reply G = ChangesHeld H (Did who op reply ∷ H) who F G

  quiet_held : (op : Op) (reply : Reply) (G : State) → IsQuiet op reply → Step F who op reply G → Changes op reply G
  quiet_held op reply G q s = record { held = λ k e. inl (ap (λ G. folder_at G k e) (quiet_same F who op reply G q s)) }

  -- a step that touches no entry
  untouched : (op : Op) (reply : Reply) (G : State) → Step F who op reply G → ((k e : Text) → ¬ Touches op k e) → Changes op reply G
  untouched op reply G s none = record { held = λ k e. inl (ap folder_of ((step_changes F who op reply G s).entries k e (none k e))) }

  same_at : (k e krate entry : Text) → is_eq (path_cmp (k, e) (krate, entry)) ≡ false → (k ≡ krate) × (e ≡ entry) → ⊥
  same_at k e krate entry off same = apart_at k e krate entry off (λ i. At (same.0 i) (same.1 i))

  -- one that touches one entry
  at_one : (op : Op) (reply : Reply) (G : State) (krate entry : Text) → ((k e : Text) → Touches op k e → (k ≡ krate) × (e ≡ entry)) → Step F who op reply G
      → ((folder_at G krate entry ≡ folder_at F krate entry) ⊎ MayChange H (Did who op reply ∷ H) who krate entry) → Changes op reply G
  at_one op reply G krate entry one s this = record {
    held = λ k e. elim (same_paths (k, e) (krate, entry)) [
      | inl is ↦ subst (λ (x : Path). (folder_at G x.0 x.1 ≡ folder_at F x.0 x.1) ⊎ MayChange H (Did who op reply ∷ H) who x.0 x.1) (sym is) this
      | inr off ↦ inl (ap folder_of ((step_changes F who op reply G s).entries k e (λ at. same_at k e krate entry off (one k e at))))
    ];
  }

  -- a renaming, which touches two
  at_both : (krate from to : Text) (G : State) → Step F who (Rename krate from to) Done G → MayChange H (Did who (Rename krate from to) Done ∷ H) who krate from
      → MayChange H (Did who (Rename krate from to) Done ∷ H) who krate to → Changes (Rename krate from to) Done G
  at_both krate from to G s a b = record { held = λ k e. go k e (same_paths (k, e) (krate, from)) (same_paths (k, e) (krate, to)) }
    where
      go : (k e : Text) → (◌≡◌ {A = Path} (k, e) (krate, from)) ⊎ (is_eq (path_cmp (k, e) (krate, from)) ≡ false) → (◌≡◌ {A = Path} (k, e) (krate, to)) ⊎ (is_eq (path_cmp (k, e) (krate, to)) ≡ false)
          → (folder_at G k e ≡ folder_at F k e) ⊎ MayChange H (Did who (Rename krate from to) Done ∷ H) who k e
      go k e (inl is) y = inr (subst (λ (x : Path). MayChange H (Did who (Rename krate from to) Done ∷ H) who x.0 x.1) (sym is) a)
      go k e (inr off) (inl is) = inr (subst (λ (x : Path). MayChange H (Did who (Rename krate from to) Done ∷ H) who x.0 x.1) (sym is) b)
      go k e (inr off) (inr away) = inl (ap folder_of ((step_changes F who (Rename krate from to) Done G s).entries k e neither))
        where
          neither : ¬ Touches (Rename krate from to) k e
          neither (same, inl is) = same_at k e krate from off (same, is)
          neither (same, inr is) = same_at k e krate to away (same, is)

  -- its site once it has made a step
  site_then : (op : Op) (reply : Reply) → sites_of (Did who op reply ∷ H) who ≡ site_of (dir_after (op, reply) (dir (own_steps who H)))
  site_then op reply = (λ i. at_step (λ s. site_of (dir s)) who op reply H i who) ∙ here (sites_of H) who (site_of (dir ((op, reply) ∷ own_steps who H)))

  holds : (krate : Text) (n : SessionName) (h : ℕ) (after : Steps) → HoldsAlone krate n (own_steps who H) h after → HoldsExclusively H who h krate n
  holds krate n h after alone = record { runs = ap is_some runs; on = alone.0; held = alone_mode h (own_steps who H) (ap is_some alone.1) }

  cleared : (op : Op) (krate entry : Text) → MayClear (own_steps who H) krate entry → MayChange H (Did who op Done ∷ H) who krate entry
  cleared op krate entry (inl p) = inl (ap site_of p.1)
  cleared op krate entry (inr p) = inr (inr (inr (p.0, p.1, holds krate p.0 p.1 p.2 p.5, inl p.4)))

  pub step_held : (op : Op) (reply : Reply) (G : State) → IsPermitted files job (own_steps who H) op → Step F who op reply G → Changes op reply G
  step_held (Append krate entry file piece) Fault G p s = untouched (Append krate entry file piece) Fault G s (λ k e no. no)
  step_held op Fault G p s = quiet_held op Fault G tt s
  step_held Draw (Drawn moment random) G p s = untouched Draw (Drawn moment random) G s (λ k e no. no)
  step_held (MakeLock krate entry) (GotHandle h) G p s = at_one (MakeLock krate entry) (GotHandle h) G krate entry (λ k e at. at) s
      (inl (ap (λ G. folder_at G krate entry) s.2 ∙ (λ i. folders_put (with_new_file F) krate entry (LockFile (length F.files)) i krate entry) ∙ put_here (folder_at F) krate entry None ∙ sym (ap folder_of s.0)))
  step_held (OpenLock krate entry) (GotHandle h) G p s = untouched (OpenLock krate entry) (GotHandle h) G s (λ k e no. no)
  step_held (TryLock handle exclusive) Got G p s = untouched (TryLock handle exclusive) Got G s (λ k e no. no)
  step_held (Look krate) (Names names) G p s = quiet_held (Look krate) (Names names) G tt s
  step_held (ListDir krate entry) (Names names) G p s = quiet_held (ListDir krate entry) (Names names) G tt s
  step_held (MakeDir krate entry) Done G p s = at_one (MakeDir krate entry) Done G krate entry (λ k e at. at) s
      (inr (inr (inl (site_then (MakeDir krate entry) Done ∙ ap (λ d. site_of (dir_after (MakeDir krate entry, Done) d)) (untried_unmade (own_steps who H) p.6)))))
  step_held (Link krate from to file) Done G p s = at_one (Link krate from to file) Done G krate to (λ k e at. at) s (inr (inl (ap site_of p.5)))
  step_held (Read krate entry file) (Bytes b) G p s = untouched (Read krate entry file) (Bytes b) G s (λ k e no. no)
  step_held (Create krate entry file) Done G p s = at_one (Create krate entry file) Done G krate entry (λ k e at. at) s (inr (inl (ap site_of p.1)))
  step_held (Append krate entry file piece) Done G p s = untouched (Append krate entry file piece) Done G s (λ k e no. no)
  step_held (Unlink krate entry file) Done G p s = at_one (Unlink krate entry file) Done G krate entry (λ k e at. at) s (inr (cleared (Unlink krate entry file) krate entry p))
  step_held (UnlinkLock krate entry) Done G p s = at_one (UnlinkLock krate entry) Done G krate entry (λ k e at. at) s
      (inl (ap (λ G. folder_at G krate entry) s.1 ∙ (λ i. folders_cut F krate entry i krate entry) ∙ put_here (folder_at F) krate entry None ∙ sym (gone (lock_at F krate entry) refl s.0)))
    where
      gone : (o : Option ℕ) → lock_at F krate entry ≡ o → IsSome o → folder_at F krate entry ≡ None
      gone None is some = cc
      gone (Some number) is some = no_folder (entry_at F krate entry) number is
  step_held (RemoveDir krate entry) Done G p s = at_one (RemoveDir krate entry) Done G krate entry (λ k e at. at) s (inr (cleared (RemoveDir krate entry) krate entry p))
  step_held (Rename krate from to) Done G (inl p) s = at_both krate from to G s (inl (ap site_of p.3))
      (inr (inr (inl (site_then (Rename krate from to) Done ∙ ap (λ d. site_of (dir_after (Rename krate from to, Done) d)) p.3
      ∙ ap (λ b. site_of (cond b (Published krate to p.0) (Stands krate from p.0))) (here_itself krate from)))))
  step_held (Rename krate from to) Done G (inr p) s =
      let its = holds krate p.0 p.2 p.3 p.10 in
      at_both krate from to G s (inr (inr (inr (p.0, p.2, its, inr (p.1, p.8))))) (inr (inr (inr (p.0, p.2, its, inl p.9))))
  step_held (Close handle) Done G p s = untouched (Close handle) Done G s (λ k e no. no)
  step_held op Missing G p s = quiet_held op Missing G tt s
  step_held op Exists G p s = quiet_held op Exists G tt s
  step_held op Held G p s = quiet_held op Held G tt s
  step_held op NotEmpty G p s = quiet_held op NotEmpty G tt s
  step_held op reply G p s = absurd s

-- by a permitted step, a directory changes only where the session may change it
pub did_held : (files : Files) (H : List Event) (F G : State) (who : ℕ) (op : Op) (reply : Reply) → MayDo files H who op → Step F who op reply G → ChangesHeld H (Did who op reply ∷ H) who F G
did_held files H F G who op reply may s = let p = may_parts files H who op may in step_held files H F who p.0 p.1 op reply G p.2 s
