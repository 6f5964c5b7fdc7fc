-- Every event of a legal history keeps the laws, so they hold of each state that one leads to.
use Rattle.std.specs.Prelude.{◌≡◌, ◌++◌, ℕ, Bool, true, false, cond, List, [], ◌∷◌, refl, Option, Some, None, IsSome, slice_get, take}
use Rattle.std.specs.Map.{lookup}
use Rattle.std.specs.BTreeMap.{is_at}
use Rattle.std.specs.Option.{option_map}
use Rattle.std.proofs.Common.{ap, sym, subst, ◌∙◌, inl, inr, length-set}
use Rattle.std.proofs.lemmas.List.{length-map}
use Rattle.inc_base.specs.declared.job.Job.{Job}
use Rattle.inc_fs.specs.declared.state.Entry.{Entry}
use Rattle.inc_fs.specs.declared.state.Entry.TheVariants.{LockFile, Folder}
use Rattle.inc_fs.specs.declared.state.File.{File}
use Rattle.inc_fs.specs.Ending.{Ended, end_facts}
use Rattle.inc_fs.specs.Readings.{bytes_of, locks_of, file_is, set_file, same_file, listed_stands}
use Rattle.inc_fs.specs.Sound.{IsSound}
use Rattle.inc_fs.specs.State.{State, Text, end_of, folder_at, folder_of, lock_of, entry_at, opened_at, file_at, named, text_cmp, with_bytes, with_piece, released_file, IsIn}
use Rattle.inc_fs.specs.Step.{Step, cut_short}
use Rattle.inc_fs.specs.Tidy.{IsTidy, file_tidy}
use Rattle.inc_fs.specs.declared.op.Op.{Op}
use Rattle.inc_fs.specs.declared.op.Op.TheVariants.{Draw, MakeLock, OpenLock, TryLock, Look, ListDir, MakeDir, Link, Read, Create, Append, Unlink, UnlinkLock, RemoveDir, Rename, Close}
use Rattle.inc_fs.specs.declared.op.Reply.{Reply}
use Rattle.inc_fs.specs.declared.op.Reply.TheVariants.{Drawn, Handle as GotHandle, Names, Bytes, Done, Got, Held, Exists, Missing, NotEmpty, Fault}
use Rattle.inc_names.specs.declared.session.SessionName.{SessionName}
use Rattle.inc_names.specs.Entries.{final_text}
use Rattle.inc_names.specs.EntryLaws.{lock_is_no_final}
use Rattle.inc_proto.specs.declared.event.Event.{Event}
use Rattle.inc_proto.specs.declared.event.Event.TheVariants.{Begin, Did, Left}
use Rattle.inc_proto.specs.declared.own.Known.{Known}
use Rattle.inc_proto.specs.Events.{own_steps, job_of, is_running, begins}
use Rattle.inc_proto.specs.Files.{Files}
use Rattle.inc_proto.specs.Leads.{LeadsTo, Happens}
use Rattle.inc_proto.specs.LeadLaws.{leads_sound}
use Rattle.inc_proto.specs.Legal.{sighted, MayDo, MayLeave, MaySee, AreAllowed, IsAllowed}
use Rattle.inc_proto.specs.Permits.{IsPermitted, MayAppend}
use Rattle.inc_proto.specs.Views.{IsLook}
use Rattle.inc_laws.specs.Laws.{Laws}
use Rattle.inc_laws.specs.Readings.{running, names_of, sites_of, jobs_of, runs_of, owns_of, dirs_of, makers_of}
use Rattle.inc_laws.specs.Readings.Site.{Out}
use Rattle.inc_laws.proofs.Allowed.{draw_step, make_lock_step, make_dir_step, link_step, create_step, append_step, spoil_step, read_step, unlink_lock_step, unlink_step, remove_dir_step, publish_step, retire_step}
use Rattle.inc_laws.proofs.Appends.{spoiled_fits, appended_wholes}
use Rattle.inc_laws.proofs.Begins.{begin_keeps}
use Rattle.inc_laws.proofs.Wraps.{own_place, own_file_found, number_is}
use Rattle.inc_fs.specs.Points.{with_at}
use Rattle.inc_laws.specs.Readings.Maker.{ByCreate}
use Rattle.inc_proto.specs.Views.Dir.{Stands}
use Rattle.inc_names.specs.Entries.{working_text}
use Rattle.inc_laws.specs.Readings.{head_of}
use Rattle.inc_fs.specs.Readings.{held_by}
use Rattle.inc_laws.proofs.KeepClose.{close_keeps}
use Rattle.inc_laws.proofs.KeepLeave.{leave_keeps}
use Rattle.inc_laws.proofs.KeepOpen.{open_keeps}
use Rattle.inc_laws.proofs.KeepTry.{try_keeps}
use Rattle.inc_laws.proofs.Leaves.{Others}
use Rattle.inc_laws.proofs.Own.{Owners, whose_final}
use Rattle.inc_laws.proofs.Quiet.{IsQuiet, idle_keeps, quiet_idle, quiet_same}
use Rattle.inc_laws.proofs.Starts.{start_laws}

-- ---- Steps.

module _ (files : Files) (H : List Event) (F : State) (l : Laws files H F) where
  owners : Owners (jobs_of H) (names_of H) (sites_of H) F.drawn
  owners = record { own = l.own_names; once = l.names_once }

  -- what stands under a finalised name was published under it
  pub stands_published : (krate : Text) (n : SessionName) (hash : ℕ) → IsSome (entry_at F krate (final_text n hash)) → (v : ℕ) × (sites_of H v ≡ Out krate (final_text n hash))
  stands_published krate n hash = go (entry_at F krate (final_text n hash)) refl
    where
      go : (e : Option Entry) → entry_at F krate (final_text n hash) ≡ e → IsSome e → (v : ℕ) × (sites_of H v ≡ Out krate (final_text n hash))
      go None is s = cc
      go (Some (LockFile f)) is s = let t = l.lock_files.tried krate (final_text n hash) f (l.lock_files.entry krate (final_text n hash) f (ap lock_of is)) in absurd (lock_is_no_final t.1 n hash (sym t.3))
      go (Some (Folder names)) is s = whose_final owners krate n hash (l.dirs.whose krate (final_text n hash) names (ap folder_of is))

module _ (files : Files) (H : List Event) (F : State) (l : Laws files H F) (who : ℕ) (job : Job) (runs : running who H ≡ Some job) where
  quiet_keeps : (op : Op) (reply : Reply) (G : State) → IsQuiet op reply → Step F who op reply G → ((krate : Text) (n : SessionName) (hash : ℕ) → ¬ IsLook krate (final_text n hash) (op, reply)) → Laws files (Did who op reply ∷ H) G
  quiet_keeps op reply G q s saw = subst (Laws files (Did who op reply ∷ H)) (sym (quiet_same F who op reply G q s))
      (idle_keeps files H F who op reply job l runs (quiet_idle op reply (dirs_of H who) q) (λ k n hash is. absurd (saw k n hash is)))

  look_keeps : (krate : Text) (names : List Text) (G : State) → Step F who (Look krate) (Names names) G → Laws files (Did who (Look krate) (Names names) ∷ H) G
  look_keeps krate names G s = subst (Laws files (Did who (Look krate) (Names names) ∷ H)) (sym s.1)
      (idle_keeps files H F who (Look krate) (Names names) job l runs (quiet_idle (Look krate) (Names names) (dirs_of H who) tt)
      (λ k n hash saw.
      let v = stands_published files H F l krate n hash (listed_stands krate (final_text n hash) F.entries (subst (λ names. IsIn names (final_text n hash)) s.0 saw.1)) in
      (v.0, v.1 ∙ (λ i. Out (saw.0 i) (final_text n hash)))))

  pub step_keeps : (op : Op) (reply : Reply) (G : State) → IsPermitted files job (own_steps who H) op → Step F who op reply G → Laws files (Did who op reply ∷ H) G
  step_keeps (Append krate entry file piece) Fault G p s = spoil_step files H F l who job runs krate entry file piece s.0 G p s.1
  step_keeps op Fault G p s = quiet_keeps op Fault G tt s (λ k n hash no. absurd no)
  step_keeps Draw (Drawn moment random) G p s = draw_step files H F l who job runs moment random G p s
  step_keeps (MakeLock krate entry) (GotHandle h) G p s = make_lock_step files H F l who job runs krate entry h G p s
  step_keeps (OpenLock krate entry) (GotHandle h) G p s =
      subst (Laws files (Did who (OpenLock krate entry) (GotHandle h) ∷ H)) (sym s.3) (open_keeps files H F l who job runs krate entry h s.0 s.1 s.2)
  step_keeps (TryLock handle exclusive) Got G p s =
      subst (Laws files (Did who (TryLock handle exclusive) Got ∷ H)) (sym s.3) (try_keeps files H F l who job runs handle exclusive s.0 s.1 s.2)
  step_keeps (Look krate) (Names names) G p s = look_keeps krate names G s
  step_keeps (ListDir krate entry) (Names names) G p s = quiet_keeps (ListDir krate entry) (Names names) G tt s (λ k n hash no. absurd no)
  step_keeps (MakeDir krate entry) Done G p s = make_dir_step files H F l who job runs krate entry G p s
  step_keeps (Link krate from to file) Done G p s = link_step files H F l who job runs krate from to file G p s
  step_keeps (Read krate entry file) (Bytes b) G p s = read_step files H F l who job runs krate entry file b G p s
  step_keeps (Create krate entry file) Done G p s = create_step files H F l who job runs krate entry file G p s
  step_keeps (Append krate entry file piece) Done G p s = append_step files H F l who job runs krate entry file piece G p s.1
  step_keeps (Unlink krate entry file) Done G p s = unlink_step files H F l who job runs krate entry file G p s
  step_keeps (UnlinkLock krate entry) Done G p s = unlink_lock_step files H F l who job runs krate entry G s
  step_keeps (RemoveDir krate entry) Done G p s = remove_dir_step files H F l who job runs krate entry G p s
  step_keeps (Rename krate from to) Done G (inl p) s = publish_step files H F l who job runs krate from to G p s
  step_keeps (Rename krate from to) Done G (inr p) s = retire_step files H F l who job runs krate from to G p s
  step_keeps (Close handle) Done G p s =
      subst (Laws files (Did who (Close handle) Done ∷ H)) (sym s.2) (close_keeps files H F l who job runs handle s.0 s.1)
  step_keeps op Missing G p s = quiet_keeps op Missing G tt s (λ k n hash no. absurd no)
  step_keeps op Exists G p s = quiet_keeps op Exists G tt s (λ k n hash no. absurd no)
  step_keeps op Held G p s = quiet_keeps op Held G tt s (λ k n hash no. absurd no)
  step_keeps op NotEmpty G p s = quiet_keeps op NotEmpty G tt s (λ k n hash no. absurd no)
  step_keeps op reply G p s = absurd s

-- ---- Who may make a step.

pub may_parts : (files : Files) (H : List Event) (who : ℕ) (op : Op) → MayDo files H who op → (job : Job) × (running who H ≡ Some job) × IsPermitted files job (own_steps who H) op
may_parts files H who op = go (is_running who H) (job_of who H) refl refl
  where
    go : (r : Bool) (j : Option Job) → is_running who H ≡ r → job_of who H ≡ j → MaySee files (cond r (sighted j (own_steps who H)) None) op
        → (job : Job) × (running who H ≡ Some job) × IsPermitted files job (own_steps who H) op
    go true (Some job) p q may = (job, (λ i. cond (p i) (q i) None), may)
    go true None p q may = absurd may
    go false j p q may = absurd may

-- a permitted step of a running session keeps the laws
pub did_keeps : (files : Files) (H : List Event) (F G : State) (who : ℕ) (op : Op) (reply : Reply) → Laws files H F → MayDo files H who op → Step F who op reply G → Laws files (Did who op reply ∷ H) G
did_keeps files H F G who op reply l may s = let p = may_parts files H who op may in step_keeps files H F l who p.0 p.1 op reply G p.2 s

-- ---- Leavings.

module _ (files : Files) (H : List Event) (F : State) (l : Laws files H F) (t : IsTidy F) (who cut : ℕ) where
  left_keeps : Laws files (Left who None cut ∷ H) (end_of F who)
  left_keeps =
      let e = end_facts F who t in
      leave_keeps files H F (end_of F who) l who None cut (record { kept = e.kept; only = e.only; held = e.held; freed = e.freed })
      refl refl (bytes_of F) (λ i f. sym (e.bytes f) i) refl refl (sym (length-map F.files (released_file F.handles who)))
      (λ v off x found known h. h) l.wholes

  module _ (job : Job) (runs : running who H ≡ Some job) (krate file piece : Text) (n : SessionName) (known : List (Text × Known)) (its : Known) (folder : List (Text × ℕ)) (found : ℕ × File)
      (called : head_of (names_of H who) ≡ Some n) (d : dirs_of H who ≡ Stands krate (working_text n) known) (stands : folder_at F krate (working_text n) ≡ Some folder)
      (has : named file folder ≡ Some found.0) (mine : makers_of H found.0 ≡ Some (ByCreate who)) (sees : lookup (is_at (text_cmp file)) known ≡ Some its) (created : its.linked ≡ None)
      (at_file : slice_get F.files found.0 ≡ Some found.1) where
    abbrev written : State
    written = with_bytes F found (found.1.bytes ++ take cut piece)

    abbrev its_file : File
    its_file = record { bytes = found.1.bytes ++ take cut piece; lock = found.1.lock }

    facts : Ended who (with_bytes F found (found.1.bytes ++ take cut piece)) (end_of (with_bytes F found (found.1.bytes ++ take cut piece)) who)
    facts = end_facts written who (file_tidy t found.0 its_file)

    same_locks : locks_of F ≡ locks_of (with_bytes F found (found.1.bytes ++ take cut piece))
    same_locks = same_file (λ file. file.lock) F found.0 found.1 its_file at_file refl

    others : Others who (opened_at F) (opened_at (end_of (with_bytes F found (found.1.bytes ++ take cut piece)) who)) (locks_of F) (locks_of (end_of (with_bytes F found (found.1.bytes ++ take cut piece)) who))
    others = record {
      kept = facts.kept;
      only = facts.only;
      held = λ f h o is off. facts.held f h o is off ∙ (λ i. held_by (sym same_locks i f) h);
      freed = λ f h s. let r = facts.freed f h s in (subst IsSome (λ i. held_by (sym same_locks i f) h) r.0, r.1);
    }

    owners_then : Owners (jobs_of H) (names_of H) (sites_of H) F.drawn
    owners_then = record { own = l.own_names; once = l.names_once }

    cut_keeps : Laws files (Left who (Some (Append krate (working_text n) file piece)) cut ∷ H) (end_of (with_bytes F found (found.1.bytes ++ take cut piece)) who)
    cut_keeps = leave_keeps files H F (end_of written who) l who (Some (Append krate (working_text n) file piece)) cut others
        refl refl (with_at (bytes_of F) found.0 (Some (found.1.bytes ++ take cut piece))) (set_file (λ file. file.bytes) F found.0 found.1 its_file at_file ∙ (λ i f. sym (facts.bytes f) i))
        refl refl (sym (length-set F.files found.0 its_file) ∙ sym (length-map written.files (released_file F.handles who)))
        (spoiled_fits files (runs_of H) (jobs_of H) (owns_of H) (dirs_of H) (makers_of H) (bytes_of F) (folder_at F) owners_then (λ v. refl) l.file_names l.sole_names who krate n known folder file found.0 its found.1.bytes (take cut piece)
        called d stands has mine sees created (ap (option_map (λ (file : File). file.bytes)) at_file))
        (appended_wholes files (runs_of H) (jobs_of H) (owns_of H) (dirs_of H) (makers_of H) (bytes_of F) (folder_at F) owners_then (λ v. refl) l.file_names l.sole_names who krate n known folder file found.0 its found.1.bytes (take cut piece)
        called d stands has mine sees created (ap (option_map (λ (file : File). file.bytes)) at_file) l.wholes)

  cut_step : (krate entry file piece : Text) → MayDo files H who (Append krate entry file piece) → Laws files (Left who (Some (Append krate entry file piece)) cut ∷ H) (end_of (cut_short F (Append krate entry file piece) cut) who)
  cut_step krate entry file piece may = go (may_parts files H who (Append krate entry file piece) may)
    where
      go : (job : Job) × (running who H ≡ Some job) × MayAppend (own_steps who H) krate entry file piece
          → Laws files (Left who (Some (Append krate entry file piece)) cut ∷ H) (end_of (with_piece F (file_at F krate entry file) (take cut piece)) who)
      go (job, runs, p) =
          let place = own_place files H F l who job runs krate entry p.0 p.2 in
          let found = own_file_found files H F l who job runs krate entry file p.3.0 p.0 p.1 p.3.1 p.2 p.4 p.5 in
          let at = file_is F krate entry file found.0 found.1 in
          let source = number_is (folder_at F krate entry) file found.0.0 at.0 in
          subst (λ o. Laws files (Left who (Some (Append krate entry file piece)) cut ∷ H) (end_of (with_piece F o (take cut piece)) who)) (sym found.1)
          (subst (λ e. dirs_of H who ≡ Stands krate e p.0 → folder_at F krate e ≡ Some source.0 → Laws files (Left who (Some (Append krate e file piece)) cut ∷ H) (end_of (with_bytes F found.0 (found.0.1.bytes ++ take cut piece)) who)) (sym place.3)
          (λ d stands. cut_keeps job runs krate file piece place.0 p.0 p.1 source.0 found.0 place.1 d stands source.2 found.2 p.4 p.5 at.1)
          p.2 source.1)

  pub leaving_keeps : (op : Option Op) (G : State) → MayLeave files H who op → Happens H F (Left who op cut) G → Laws files (Left who op cut ∷ H) G
  leaving_keeps None G may is = subst (Laws files (Left who None cut ∷ H)) (sym is) left_keeps
  leaving_keeps (Some (Append krate entry file piece)) G may is = subst (Laws files (Left who (Some (Append krate entry file piece)) cut ∷ H)) (sym is) (cut_step krate entry file piece may.1)
  leaving_keeps (Some op) G may is = absurd may.0

-- ---- Histories.

pub event_keeps : (files : Files) (H : List Event) (F : State) (event : Event) (G : State) → IsSound F → Laws files H F → IsAllowed files H event → Happens H F event G → Laws files (event ∷ H) G
event_keeps files H F (Begin number job) G sound l allowed is =
    subst (λ number. Laws files (Begin number job ∷ H) G) (sym is.0) (subst (Laws files (Begin (begins H) job ∷ H)) (sym is.1) (begin_keeps files H F job l))
event_keeps files H F (Did number op reply) G sound l allowed is = did_keeps files H F G number op reply l allowed is
event_keeps files H F (Left number op cut) G sound l allowed is = leaving_keeps files H F l sound.tidy number cut op G allowed is

-- the laws hold of each state that a legal history leads to
pub laws_hold : (files : Files) (events : List Event) (G : State) → LeadsTo events G → AreAllowed files events → Laws files events G
laws_hold files [] G is allowed = subst (Laws files []) (sym is) (start_laws files)
laws_hold files (event ∷ events) G (F, leads, is) allowed = event_keeps files events F event G (leads_sound events F leads) (laws_hold files events F leads allowed.0) allowed.1 is
