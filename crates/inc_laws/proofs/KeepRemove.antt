-- Its own directory removed, from the table to the laws.
use Rattle.std.proofs.Common.{◌≡◌, ◌≢◌, ℕ, List, [], ◌∷◌, refl, ap, sym, ◌∙◌, None, Some, IsSome, if◌then◌else◌}
use Rattle.inc_base.specs.declared.job.Job.{Job}
use Rattle.inc_fs.specs.declared.op.Op.{Op}
use Rattle.inc_fs.specs.declared.op.Op.TheVariants.{MakeLock, RemoveDir}
use Rattle.inc_fs.specs.declared.op.Reply.{Reply}
use Rattle.inc_fs.specs.declared.op.Reply.TheVariants.{Done}
use Rattle.inc_fs.specs.State.{State, Text, opened_at, folder_at, lock_at, entry_at, locked, without_entry}
use Rattle.inc_names.specs.declared.session.SessionName.{SessionName}
use Rattle.inc_names.specs.Entries.{working_text, final_text}
use Rattle.inc_proto.specs.Views.{own, opening, mode, dir, HasTried, dir_after}
use Rattle.inc_laws.specs.Readings.{draws, latest_name, running, site_of, runs_of, jobs_of, names_of, opens_of, modes_of, owns_of, dirs_of, sites_of, makers_of}
use Rattle.inc_proto.specs.declared.own.Known.{Known}
use Rattle.inc_proto.specs.declared.own.OwnLock.TheVariants.{Locked}
use Rattle.inc_proto.specs.Views.Dir.{Stands, Removed}
use Rattle.inc_proto.specs.Events.{own_steps}
use Rattle.inc_proto.specs.declared.event.Event.{Event}
use Rattle.inc_proto.specs.declared.event.Event.TheVariants.{Did}
use Rattle.inc_proto.specs.Files.{Files}
use Rattle.inc_laws.specs.Laws.{Laws}
use Rattle.inc_laws.specs.Parts.{IsNamed}
use Rattle.inc_fs.specs.Readings.{bytes_of, locks_of, folders_cut, locks_cut, no_lock}
use Rattle.inc_laws.specs.Readings.Site.{At, Gone, Out}
use Rattle.inc_fs.specs.Points.{with_at, put_at, put_same, each}
use Rattle.inc_laws.proofs.Readings.{at_step, no_step}
use Rattle.inc_laws.proofs.Own.{Owners, one_at}
use Rattle.inc_laws.proofs.Mono.{unstay, stay}
use Rattle.inc_laws.proofs.Next.{Next, assembled, numbers_did, tried_stays, looked_before, lock_files_stay}
use Rattle.inc_laws.proofs.Here.{here_itself}
use Rattle.inc_laws.proofs.Removes.{removed_dirs, removed_file_names, removed_sole, removed_wholes, removed_newest, removed_own_dir}

module _ (files : Files) (H : List Event) (F : State) (l : Laws files H F) (who : ℕ) (job : Job) (runs : running who H ≡ Some job)
    (n : SessionName) (known : List (Text × Known)) (called : latest_name (own_steps who H) ≡ Some n) (d : dir (own_steps who H) ≡ Stands job.krate (working_text n) known) (stands : folder_at F job.krate (working_text n) ≡ Some []) where
  abbrev op : Op
  op = RemoveDir job.krate (working_text n)

  abbrev reply : Reply
  reply = Done

  abbrev G : State
  G = without_entry F job.krate (working_text n)

  o : Owners (jobs_of H) (names_of H) (sites_of H) F.drawn
  o = record { own = l.own_names; once = l.names_once }

  stays : (k e : Text) (w : ℕ) → HasTried (MakeLock k e) (own_steps w H) → HasTried (MakeLock k e) (own_steps w (Did who op reply ∷ H))
  stays k e w = tried_stays H who op reply (MakeLock k e) w

  now : dir ((op, reply) ∷ own_steps who H) ≡ Removed
  now = ap (dir_after (op, reply)) d ∙ ap (λ b. if b then Removed else Stands job.krate (working_text n) known) (here_itself job.krate (working_text n))

  at : sites_of H who ≡ At job.krate (working_text n)
  at = ap site_of d

  before : (v h : ℕ) (k e : Text) (shown : List (Text × Known)) → IsSome (runs_of H v) → owns_of H v ≡ Locked h → with_at (dirs_of H) who Removed v ≡ Stands k e shown → (dirs_of H v ≡ Stands k e shown) × (At k e ≢ At job.krate (working_text n))
  before v h k e shown r locked = each (dirs_of H) who Removed (λ v s. s ≡ Stands k e shown → (dirs_of H v ≡ Stands k e shown) × (At k e ≢ At job.krate (working_text n)))
      (λ v off is. (is, λ same. off (sym (one_at o v who job.krate n (ap site_of is ∙ same) called)))) (λ is. cc) v

  abbrev next : Next (Did who op reply ∷ H) G
  next = record {
    names = names_of H;
    sites = with_at (sites_of H) who Gone;
    dirs = with_at (dirs_of H) who Removed;
    owns = owns_of H;
    opens = opens_of H;
    modes = modes_of H;
    makers = makers_of H;
    folders = put_at (folder_at F) job.krate (working_text n) None;
    lock_files = lock_at F;
    bytes = bytes_of F;
    locks = locks_of F;
    handles = opened_at F;
    names_are = sym (no_step draws who op reply H refl);
    sites_are = (λ i. with_at (sites_of H) who (site_of (sym now i))) ∙ sym (at_step (λ s. site_of (dir s)) who op reply H);
    dirs_are = (λ i. with_at (dirs_of H) who (sym now i)) ∙ sym (at_step dir who op reply H);
    owns_are = sym (no_step own who op reply H refl);
    opens_are = sym (no_step (λ s h. opening h s) who op reply H refl);
    modes_are = sym (no_step (λ s h. mode h s) who op reply H refl);
    makers_are = refl;
    folders_are = sym (folders_cut F job.krate (working_text n));
    lock_files_are = sym (locks_cut F job.krate (working_text n) ∙ put_same (lock_at F) job.krate (working_text n) None (no_lock (entry_at F job.krate (working_text n)) [] stands));
    bytes_are = refl;
    locks_are = refl;
    handles_are = refl;
  }

  pub remove_keeps : Laws files (Did who op reply ∷ H) G
  remove_keeps = assembled files (Did who op reply ∷ H) G next
      (numbers_did H who op reply job l.numbers runs)
      (l.names_once)
      (each (sites_of H) who Gone (IsNamed (jobs_of H) (names_of H)) (λ v _. l.own_names v) tt)
      (l.counted)
      (lock_files_stay files H F who op reply l)
      (l.handles)
      (l.own_locks)
      (record { not_open = λ w g k e at. l.settled.not_open w g k e (unstay (sites_of H) who Gone (At k e) w (λ e. cc) at); has_tried = λ w k e m at c. stays _ _ w (l.settled.has_tried w k e m (unstay (sites_of H) who Gone (At k e) w (λ e. cc) at) c) })
      (removed_own_dir (folder_at F) job.krate n (λ v k e is off. stay (sites_of H) who Gone (At k e) v (λ e. off (sym e ∙ at)) is) (λ v k e is. stay (sites_of H) who Gone (Out k e) v (λ same. let a = at in cc) is) (λ v k e. unstay (sites_of H) who Gone (Out k e) v (λ e. cc)) (λ v k e. unstay (sites_of H) who Gone (At k e) v (λ e. cc)) files (runs_of H) (jobs_of H) (owns_of H) (dirs_of H) (with_at (dirs_of H) who Removed) (makers_of H) (bytes_of F) before l.own_dir)
      (removed_dirs (folder_at F) job.krate n (λ v k e is off. stay (sites_of H) who Gone (At k e) v (λ e. off (sym e ∙ at)) is) (λ v k e is. stay (sites_of H) who Gone (Out k e) v (λ same. let a = at in cc) is) (λ v k e. unstay (sites_of H) who Gone (Out k e) v (λ e. cc)) (λ v k e. unstay (sites_of H) who Gone (At k e) v (λ e. cc)) l.dirs)
      (removed_file_names (folder_at F) job.krate n (λ v k e is off. stay (sites_of H) who Gone (At k e) v (λ e. off (sym e ∙ at)) is) (λ v k e is. stay (sites_of H) who Gone (Out k e) v (λ same. let a = at in cc) is) (λ v k e. unstay (sites_of H) who Gone (Out k e) v (λ e. cc)) (λ v k e. unstay (sites_of H) who Gone (At k e) v (λ e. cc)) l.file_names)
      (removed_sole (folder_at F) job.krate n (λ v k e is off. stay (sites_of H) who Gone (At k e) v (λ e. off (sym e ∙ at)) is) (λ v k e is. stay (sites_of H) who Gone (Out k e) v (λ same. let a = at in cc) is) (λ v k e. unstay (sites_of H) who Gone (Out k e) v (λ e. cc)) (λ v k e. unstay (sites_of H) who Gone (At k e) v (λ e. cc)) l.sole_names)
      (removed_wholes (folder_at F) job.krate n (λ v k e is off. stay (sites_of H) who Gone (At k e) v (λ e. off (sym e ∙ at)) is) (λ v k e is. stay (sites_of H) who Gone (Out k e) v (λ same. let a = at in cc) is) (λ v k e. unstay (sites_of H) who Gone (Out k e) v (λ e. cc)) (λ v k e. unstay (sites_of H) who Gone (At k e) v (λ e. cc)) l.wholes)
      (removed_newest (folder_at F) job.krate n (λ v k e is off. stay (sites_of H) who Gone (At k e) v (λ e. off (sym e ∙ at)) is) (λ v k e is. stay (sites_of H) who Gone (Out k e) v (λ same. let a = at in cc) is) (λ v k e. unstay (sites_of H) who Gone (Out k e) v (λ e. cc)) (λ v k e. unstay (sites_of H) who Gone (At k e) v (λ e. cc)) l.newest)
      (λ w k m hash saw. let v = l.looked w k m hash (looked_before H who op reply k (final_text m hash) w (λ no. no) saw) in (v.0, stay (sites_of H) who Gone (Out k (final_text m hash)) v.0 (λ e. let a = at in cc) v.1))
