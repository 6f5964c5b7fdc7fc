-- Each kind of step, as its permission and its row of the table have it, keeps the laws.
use Rattle.std.specs.Prelude.{◌≡◌, ◌≢◌, ℕ, List, ◌∷◌, refl, Option, Some, None, IsSome, slice_get, take}
use Rattle.std.specs.Map.{lookup}
use Rattle.std.specs.BTreeMap.{insert_entry, is_at}
use Rattle.std.specs.Option.{option_map}
use Rattle.std.proofs.Common.{ap, sym, subst, ◌∙◌, inl, inr}
use Rattle.inc_base.specs.declared.job.Job.{Job}
use Rattle.inc_fs.specs.declared.state.File.{File}
use Rattle.inc_fs.specs.declared.state.Entry.TheVariants.{Folder}
use Rattle.inc_fs.specs.Lookups.{same_paths}
use Rattle.inc_fs.specs.Readings.{file_is}
use Rattle.inc_fs.specs.State.{State, Text, Path, text_cmp, folder_at, lock_at, number_at, file_at, with_entry, with_piece}
use Rattle.inc_fs.specs.Step.{Draws, MakesLock, MakesDir, Links, Reads, Creates, Unlinks, UnlinksLock, RemovesDir, Renames}
use Rattle.inc_fs.specs.declared.op.Op.{Op}
use Rattle.inc_fs.specs.declared.op.Op.TheVariants.{Draw, MakeLock, MakeDir, Link, Read, Create, Append, Unlink, UnlinkLock, RemoveDir, Rename}
use Rattle.inc_fs.specs.declared.op.Reply.{Reply}
use Rattle.inc_fs.specs.declared.op.Reply.TheVariants.{Drawn, Handle as GotHandle, Bytes, Done, Fault}
use Rattle.inc_names.specs.declared.session.SessionName.{SessionName}
use Rattle.inc_names.specs.Entries.{lock_text, working_text, final_text}
use Rattle.inc_wire.specs.Forms.{job_hash_of}
use Rattle.inc_proto.specs.declared.event.Event.{Event}
use Rattle.inc_proto.specs.declared.event.Event.TheVariants.{Did}
use Rattle.inc_proto.specs.declared.own.Known.{Known}
use Rattle.inc_proto.specs.declared.own.OwnLock.TheVariants.{Locked}
use Rattle.inc_proto.specs.Events.{own_steps}
use Rattle.inc_proto.specs.Files.{Files}
use Rattle.inc_proto.specs.Permits.{MayMakeLock, MayMakeDirectory, MayLink, MayRead, MayCreate, MayAppend, MayClear, MayPublish, MayRetire}
use Rattle.inc_proto.specs.Views.{Dir, own, dir, HasTried, put, read_as}
use Rattle.inc_proto.specs.Views.Dir.{Unmade, Stands, Removed, Published}
use Rattle.inc_laws.specs.Laws.{Laws}
use Rattle.inc_laws.specs.Readings.{running, site_of, sites_of}
use Rattle.inc_laws.specs.Readings.Site.{At}
use Rattle.inc_laws.proofs.InPlace.{some_same}
use Rattle.inc_laws.proofs.KeepAppend.{append_keeps}
use Rattle.inc_laws.proofs.KeepBack.{back_keeps}
use Rattle.inc_laws.proofs.KeepCreate.{create_keeps}
use Rattle.inc_laws.proofs.KeepDraw.{draw_keeps}
use Rattle.inc_laws.proofs.KeepEmpty.{empty_keeps}
use Rattle.inc_laws.proofs.KeepLink.{link_keeps}
use Rattle.inc_laws.proofs.KeepMakeDir.{make_dir_keeps}
use Rattle.inc_laws.proofs.KeepMakeLock.{make_lock_keeps}
use Rattle.inc_laws.proofs.KeepPublish.{publish_keeps}
use Rattle.inc_laws.proofs.KeepRead.{read_keeps}
use Rattle.inc_laws.proofs.KeepRemove.{remove_keeps}
use Rattle.inc_laws.proofs.KeepRemoveOther.{remove_other_keeps}
use Rattle.inc_laws.proofs.KeepSpoil.{spoil_keeps}
use Rattle.inc_laws.proofs.KeepUnlink.{unlink_keeps}
use Rattle.inc_laws.proofs.KeepUnlinkLock.{unlink_lock_keeps}
use Rattle.inc_laws.proofs.Names.{name_is}
use Rattle.inc_laws.proofs.Quiet.{Idle, idle_keeps}
use Rattle.inc_laws.proofs.Wraps.{at_path, apart_at, number_is, untried_unmade, own_place, only_holder, own_file_found}

module _ (files : Files) (H : List Event) (F : State) (l : Laws files H F) (who : ℕ) (job : Job) (runs : running who H ≡ Some job) where
  -- the laws once this session has made this step, which leads to G
  abbrev Then : Op → Reply → State → Type 0
  Then op reply G = Laws files (Did who op reply ∷ H) G

  pub draw_step : (moment random : ℕ) (G : State) → dir (own_steps who H) ≡ Unmade → Draws F (Drawn moment random) G → Then Draw (Drawn moment random) G
  draw_step moment random G unmade s = subst (Then Draw (Drawn moment random)) (sym s.2) (draw_keeps files H F l who job runs moment random unmade s.1)

  pub make_lock_step : (krate entry : Text) (h : ℕ) (G : State) → MayMakeLock job (own_steps who H) krate entry → MakesLock F who krate entry (GotHandle h) G → Then (MakeLock krate entry) (GotHandle h) G
  make_lock_step krate entry h G p = at_path (λ k e. ¬ HasTried (MakeLock k e) (own_steps who H) → MakesLock F who k e (GotHandle h) G → Then (MakeLock k e) (GotHandle h) G)
      krate entry job.krate (lock_text p.0) p.2 p.3
      (λ untried s. subst (Then (MakeLock job.krate (lock_text p.0)) (GotHandle h)) (sym s.2) (make_lock_keeps files H F l who job runs p.0 h (name_is (own_steps who H) ∙ p.1) untried s.0 s.1))
      p.4

  pub make_dir_step : (krate entry : Text) (G : State) → MayMakeDirectory job (own_steps who H) krate entry → MakesDir F krate entry Done G → Then (MakeDir krate entry) Done G
  make_dir_step krate entry G p = at_path (λ k e. MakesDir F k e Done G → Then (MakeDir k e) Done G)
      krate entry job.krate (working_text p.0) p.4 p.5
      (λ s. subst (Then (MakeDir job.krate (working_text p.0)) Done) (sym s.1)
      (make_dir_keeps files H F l who job runs p.0 p.1 (name_is (own_steps who H) ∙ p.3) p.7 (untried_unmade (own_steps who H) p.6) s.0))

  pub link_step : (krate from to file : Text) (G : State) → MayLink (own_steps who H) krate from to file → Links F krate from to file Done G → Then (Link krate from to file) Done G
  link_step krate from to file G p s =
      let its = own_place files H F l who job runs krate to p.0 p.5 in
      let source = number_is (folder_at F krate from) file s.0 s.2 in
      at_path (λ k e. dir (own_steps who H) ≡ Stands k e p.0 → folder_at F k e ≡ Some s.1 → folder_at F k from ≡ Some source.0 → G ≡ with_entry F k e (Folder (insert_entry text_cmp s.1 file s.0)) → Then (Link k from e file) Done G)
      krate to job.krate (working_text its.0) its.2 its.3
      (λ d stands begins is. subst (λ from. folder_at F job.krate from ≡ Some source.0 → Then (Link job.krate from (working_text its.0) file) Done G) (sym p.10)
      (λ begins. subst (Then (Link job.krate (final_text p.1 p.2) (working_text its.0) file) Done) (sym is)
      (link_keeps files H F l who job runs its.0 p.1 p.2 s.0 p.0 s.1 source.0 file its.1 d stands begins source.2)) begins)
      p.5 s.3 source.1 s.5

  pub create_step : (krate entry file : Text) (G : State) → MayCreate (own_steps who H) krate entry file → Creates F krate entry file Done G → Then (Create krate entry file) Done G
  create_step krate entry file G p s =
      let its = own_place files H F l who job runs krate entry p.0 p.1 in
      at_path (λ k e. dir (own_steps who H) ≡ Stands k e p.0 → Creates F k e file Done G → Then (Create k e file) Done G)
      krate entry job.krate (working_text its.0) its.2 its.3
      (λ d s. subst (Then (Create job.krate (working_text its.0) file) Done) (sym s.3) (create_keeps files H F l who job runs its.0 p.0 s.0 file its.1 d s.1))
      p.1 s

  pub append_step : (krate entry file piece : Text) (G : State) → MayAppend (own_steps who H) krate entry file piece → G ≡ with_piece F (file_at F krate entry file) piece → Then (Append krate entry file piece) Done G
  append_step krate entry file piece G p is =
      let its = own_place files H F l who job runs krate entry p.0 p.2 in
      let found = own_file_found files H F l who job runs krate entry file p.3.0 p.0 p.1 p.3.1 p.2 p.4 p.5 in
      let at = file_is F krate entry file found.0 found.1 in
      let source = number_is (folder_at F krate entry) file found.0.0 at.0 in
      subst (Then (Append krate entry file piece) Done) (sym (is ∙ ap (λ o. with_piece F o piece) found.1))
      (at_path (λ k e. dir (own_steps who H) ≡ Stands k e p.0 → folder_at F k e ≡ Some source.0 → Then (Append k e file piece) Done (with_piece F (Some found.0) piece))
      krate entry job.krate (working_text its.0) its.2 its.3
      (λ d stands. append_keeps files H F l who job runs its.0 p.0 source.0 file piece found.0 p.1 its.1 found.2 d stands source.2 at.1 p.4 p.5)
      p.2 source.1)

  pub spoil_step : (krate entry file piece : Text) (cut : ℕ) (G : State) → MayAppend (own_steps who H) krate entry file piece → G ≡ with_piece F (file_at F krate entry file) (take cut piece) → Then (Append krate entry file piece) Fault G
  spoil_step krate entry file piece cut G p is =
      let its = own_place files H F l who job runs krate entry p.0 p.2 in
      let found = own_file_found files H F l who job runs krate entry file p.3.0 p.0 p.1 p.3.1 p.2 p.4 p.5 in
      let at = file_is F krate entry file found.0 found.1 in
      let source = number_is (folder_at F krate entry) file found.0.0 at.0 in
      subst (Then (Append krate entry file piece) Fault) (sym (is ∙ ap (λ o. with_piece F o (take cut piece)) found.1))
      (at_path (λ k e. dir (own_steps who H) ≡ Stands k e p.0 → folder_at F k e ≡ Some source.0 → Then (Append k e file piece) Fault (with_piece F (Some found.0) (take cut piece)))
      krate entry job.krate (working_text its.0) its.2 its.3
      (λ d stands. spoil_keeps files H F l who job runs its.0 cut p.0 source.0 file piece found.0 p.1 its.1 found.2 d stands source.2 at.1 p.4 p.5)
      p.2 source.1)

  -- a file that the view lacks is read: nothing is known of it
  unknown_read : (krate entry file b : Text) (k e : Text) (known : List (Text × Known)) → lookup (is_at (text_cmp file)) known ≡ None → Idle (Read krate entry file) (Bytes b) (Stands k e known)
  unknown_read krate entry file b k e known none = record {
    draws = λ x. refl;
    opening = λ h x. refl;
    mode = λ h x. refl;
    own = λ x. refl;
    dir = ap (λ found. Stands k e (put file (read_as b) found known)) none;
    made = λ who. refl;
  }

  pub read_step : (krate entry file b : Text) (G : State) → MayRead (own_steps who H) krate entry → Reads F krate entry file (Bytes b) G → Then (Read krate entry file) (Bytes b) G
  read_step krate entry file b G p s = subst (Then (Read krate entry file) (Bytes b)) (sym s.3) (go (lookup (is_at (text_cmp file)) p.0) refl)
    where
      at : (number_at F krate entry file ≡ Some s.0.0) × (slice_get F.files s.0.0 ≡ Some s.0.1)
      at = file_is F krate entry file s.0 s.1

      go : (o : Option Known) → lookup (is_at (text_cmp file)) p.0 ≡ o → Then (Read krate entry file) (Bytes b) F
      go None none = idle_keeps files H F who (Read krate entry file) (Bytes b) job l runs (subst (Idle (Read krate entry file) (Bytes b)) (sym p.1) (unknown_read krate entry file b krate entry p.0 none)) (λ k n hash no. absurd no)
      go (Some known) sees =
          let its = own_place files H F l who job runs krate entry p.0 p.1 in
          let source = number_is (folder_at F krate entry) file s.0.0 at.0 in
          at_path (λ k e. dir (own_steps who H) ≡ Stands k e p.0 → folder_at F k e ≡ Some source.0 → Then (Read k e file) (Bytes b) F)
          krate entry job.krate (working_text its.0) its.2 its.3
          (λ d stands. read_keeps files H F l who job runs its.0 s.0.0 p.0 source.0 file b known its.1 d stands source.2 (ap (option_map (λ (f : File). f.bytes)) at.1 ∙ ap Some (sym s.2)) sees)
          p.1 source.1

  pub unlink_lock_step : (krate entry : Text) (G : State) → UnlinksLock F krate entry Done G → Then (UnlinkLock krate entry) Done G
  unlink_lock_step krate entry G s = go (lock_at F krate entry) refl s.0
    where
      go : (o : Option ℕ) → lock_at F krate entry ≡ o → IsSome o → Then (UnlinkLock krate entry) Done G
      go None is some = cc
      go (Some number) is some = subst (Then (UnlinkLock krate entry) Done) (sym s.1) (unlink_lock_keeps files H F l who job runs krate entry number is)

  -- a directory at this path is the session's own, or it isn't
  own_or_not : (krate entry : Text) (X : Type 0) → ((known : List (Text × Known)) → dir (own_steps who H) ≡ Stands krate entry known → X) → (sites_of H who ≢ At krate entry → X) → X
  own_or_not krate entry X mine others = go (dir (own_steps who H)) refl
    where
      go : (d : Dir) → dir (own_steps who H) ≡ d → X
      go Unmade d = others (λ at. absurd (nowhere (sym (ap site_of d) ∙ at)))
        where
          nowhere : site_of Unmade ≡ At krate entry → ⊥
          nowhere e = cc
      go Removed d = others (λ at. absurd (gone (sym (ap site_of d) ∙ at)))
        where
          gone : site_of Removed ≡ At krate entry → ⊥
          gone e = cc
      go (Published k e known) d = others (λ at. absurd (out (sym (ap site_of d) ∙ at)))
        where
          out : site_of (Published k e known) ≡ At krate entry → ⊥
          out e = cc
      go (Stands k e known) d = elim (same_paths (k, e) (krate, entry)) [
        | inl same ↦ mine known (d ∙ (λ i. Stands (ap (λ (x : Path). x.0) same i) (ap (λ (x : Path). x.1) same i) known))
        | inr off ↦ others (λ at. apart_at k e krate entry off (sym (ap site_of d) ∙ at))
      ]

  -- where it may clear a directory that isn't its own, no session has that one with its own lock
  clears_others : (krate entry : Text) → MayClear (own_steps who H) krate entry → sites_of H who ≢ At krate entry
      → (n : SessionName) × (entry ≡ working_text n) × ((v g : ℕ) → IsSome (running v H) → own (own_steps v H) ≡ Locked g → sites_of H v ≢ At krate (working_text n))
  clears_others krate entry (inl p) away = absurd (away (ap site_of p.1))
  clears_others krate entry (inr p) away =
      (p.0, p.4, λ v g r locked at. away (subst (λ w. sites_of H w ≡ At krate entry) (only_holder files H F l who job runs krate p.0 p.1 p.2 p.5 v g r locked at) (at ∙ ap (At krate) (sym p.4))))

  pub unlink_step : (krate entry file : Text) (G : State) → MayClear (own_steps who H) krate entry → Unlinks F krate entry file Done G → Then (Unlink krate entry file) Done G
  unlink_step krate entry file G p s = own_or_not krate entry (Then (Unlink krate entry file) Done G) mine others
    where
      mine : (known : List (Text × Known)) → dir (own_steps who H) ≡ Stands krate entry known → Then (Unlink krate entry file) Done G
      mine known d =
          let its = own_place files H F l who job runs krate entry known d in
          at_path (λ k e. dir (own_steps who H) ≡ Stands k e known → Unlinks F k e file Done G → Then (Unlink k e file) Done G)
          krate entry job.krate (working_text its.0) its.2 its.3
          (λ d s. subst (Then (Unlink job.krate (working_text its.0) file) Done) (sym s.3) (unlink_keeps files H F l who job runs its.0 known s.0 file its.1 d s.1))
          d s

      others : sites_of H who ≢ At krate entry → Then (Unlink krate entry file) Done G
      others away =
          let its = clears_others krate entry p away in
          subst (λ e. sites_of H who ≢ At krate e → Unlinks F krate e file Done G → Then (Unlink krate e file) Done G) (sym its.1)
          (λ away s. subst (Then (Unlink krate (working_text its.0) file) Done) (sym s.3) (empty_keeps files H F l who job runs krate its.0 s.0 file s.1 away its.2))
          away s

  pub remove_dir_step : (krate entry : Text) (G : State) → MayClear (own_steps who H) krate entry → RemovesDir F krate entry Done G → Then (RemoveDir krate entry) Done G
  remove_dir_step krate entry G p s = own_or_not krate entry (Then (RemoveDir krate entry) Done G) mine others
    where
      mine : (known : List (Text × Known)) → dir (own_steps who H) ≡ Stands krate entry known → Then (RemoveDir krate entry) Done G
      mine known d =
          let its = own_place files H F l who job runs krate entry known d in
          at_path (λ k e. dir (own_steps who H) ≡ Stands k e known → RemovesDir F k e Done G → Then (RemoveDir k e) Done G)
          krate entry job.krate (working_text its.0) its.2 its.3
          (λ d s. subst (Then (RemoveDir job.krate (working_text its.0)) Done) (sym s.1) (remove_keeps files H F l who job runs its.0 known its.1 d s.0))
          d s

      others : sites_of H who ≢ At krate entry → Then (RemoveDir krate entry) Done G
      others away =
          let its = clears_others krate entry p away in
          subst (λ e. sites_of H who ≢ At krate e → RemovesDir F krate e Done G → Then (RemoveDir krate e) Done G) (sym its.1)
          (λ away s. subst (Then (RemoveDir krate (working_text its.0)) Done) (sym s.1) (remove_other_keeps files H F l who job runs krate its.0 s.0 away its.2))
          away s

  pub publish_step : (krate from to : Text) (G : State) → MayPublish files job (own_steps who H) krate from to → Renames F krate from to Done G → Then (Rename krate from to) Done G
  publish_step krate from to G p s =
      let its = own_place files H F l who job runs krate from p.0 p.3 in
      let same : its.0 ≡ p.1 = some_same its.0 p.1 (sym its.1 ∙ name_is (own_steps who H) ∙ p.5) in
      subst (λ to. Renames F krate from to Done G → Then (Rename krate from to) Done G) (sym p.6)
      (at_path (λ k e. dir (own_steps who H) ≡ Stands k e p.0 → Renames F k e (final_text p.1 (job_hash_of job)) Done G → Then (Rename k e (final_text p.1 (job_hash_of job))) Done G)
      krate from job.krate (working_text p.1) its.2 (its.3 ∙ ap working_text same)
      (λ d s. subst (Then (Rename job.krate (working_text p.1) (final_text p.1 (job_hash_of job))) Done) (sym s.3)
      (publish_keeps files H F l who job p.1 p.0 p.2 s.0 p.4.0 runs d p.4.1 (name_is (own_steps who H) ∙ p.5) p.8 p.7 s.1 s.2))
      p.3)
      s

  pub retire_step : (krate from to : Text) (G : State) → MayRetire (own_steps who H) krate from to → Renames F krate from to Done G → Then (Rename krate from to) Done G
  retire_step krate from to G (n, hash, h, after, m, newer, _, _, is_from, is_to, _, _, _, _, _, looked, later) =
      at_path (λ from to. Renames F krate from to Done G → Then (Rename krate from to) Done G)
      from to (final_text n hash) (working_text n) is_from is_to
      (λ s. let out = l.looked who krate m newer looked in
      subst (Then (Rename krate (final_text n hash) (working_text n)) Done) (sym s.3) (back_keeps files H F l who job runs krate n hash s.0 s.1 s.2 out.0 m newer out.1 later))
