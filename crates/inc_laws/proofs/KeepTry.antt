-- A lock that is got, from the table to the laws.
use Rattle.std.proofs.Common.{◌≡◌, ℕ, List, ◌∷◌, Bool, false, refl, ap, sym, ◌∙◌, Some}
use Rattle.std.proofs.Math.ListN.{length-set}
use Rattle.std.specs.Prelude.{slice_get}
use Rattle.std.specs.Option.{option_map}
use Rattle.inc_base.specs.declared.job.Job.{Job}
use Rattle.inc_fs.specs.declared.state.File.{File}
use Rattle.inc_fs.specs.declared.state.Handle.{Handle}
use Rattle.inc_fs.specs.declared.op.Op.{Op}
use Rattle.inc_fs.specs.declared.op.Op.TheVariants.{TryLock}
use Rattle.inc_fs.specs.declared.op.Reply.{Reply}
use Rattle.inc_fs.specs.declared.op.Reply.TheVariants.{Got}
use Rattle.inc_fs.specs.State.{State, opened_at, folder_at, lock_at, own_file, is_excluded, locked, with_lock}
use Rattle.inc_proto.specs.Views.{own, opening, mode, dir, Dir, dir_after, tried_own}
use Rattle.inc_laws.specs.Readings.{draws, running, site_of, runs_of, jobs_of, names_of, opens_of, modes_of, owns_of, dirs_of, sites_of, makers_of}
use Rattle.inc_proto.specs.Views.Dir.{Unmade, Stands, Removed, Published}
use Rattle.inc_proto.specs.Events.{own_steps}
use Rattle.inc_proto.specs.declared.event.Event.{Event}
use Rattle.inc_proto.specs.declared.event.Event.TheVariants.{Did}
use Rattle.inc_proto.specs.Files.{Files}
use Rattle.inc_laws.specs.Laws.{Laws}
use Rattle.inc_fs.specs.Readings.{bytes_of, locks_of, set_file, same_file, own_is}
use Rattle.inc_fs.specs.Points.{with_at}
use Rattle.inc_laws.proofs.Readings.{at_step, no_step}
use Rattle.inc_laws.proofs.Own.{Owners}
use Rattle.inc_laws.proofs.Next.{Next, assembled, numbers_did, lock_files_stay, settled_stay, looked_stay}
use Rattle.inc_laws.proofs.Holds.{got}
use Rattle.inc_laws.proofs.Tried.{tried_own_locks, tried_settled, tried_own_dir}

module _ (files : Files) (H : List Event) (F : State) (l : Laws files H F) (who : ℕ) (job : Job) (runs : running who H ≡ Some job)
    (h : ℕ) (exclusive : Bool) (found : ℕ × File) (mine : own_file F who h ≡ Some found) (free : is_excluded found.1.lock h exclusive ≡ false) where
  abbrev op : Op
  op = TryLock h exclusive

  abbrev reply : Reply
  reply = Got

  abbrev G : State
  G = with_lock F found (locked found.1.lock h exclusive)

  o : Owners (jobs_of H) (names_of H) (sites_of H) F.drawn
  o = record { own = l.own_names; once = l.names_once }

  still : (d : Dir) → dir_after (op, reply) d ≡ d
  still Unmade = refl
  still (Stands krate entry known) = refl
  still Removed = refl
  still (Published krate entry known) = refl

  its : (o : Handle) × (opened_at F h ≡ Some o) × (o.owner ≡ who) × (o.file ≡ found.0) × (slice_get F.files found.0 ≡ Some found.1)
  its = own_is F who h found mine

  abbrev next : Next (Did who op reply ∷ H) G
  next = record {
    names = names_of H;
    sites = sites_of H;
    dirs = dirs_of H;
    owns = with_at (owns_of H) who (tried_own h exclusive (owns_of H who));
    opens = opens_of H;
    modes = with_at (modes_of H) who (with_at (modes_of H who) h (Some exclusive));
    makers = makers_of H;
    folders = folder_at F;
    lock_files = lock_at F;
    bytes = bytes_of F;
    locks = with_at (locks_of F) its.0.file (Some (locked found.1.lock h exclusive));
    handles = opened_at F;
    names_are = sym (no_step draws who op reply H refl);
    sites_are = sym (no_step (λ s. site_of (dir s)) who op reply H (ap site_of (still (dir (own_steps who H)))));
    dirs_are = sym (no_step dir who op reply H (still (dir (own_steps who H))));
    owns_are = sym (at_step own who op reply H);
    opens_are = sym (no_step (λ s h. opening h s) who op reply H refl);
    modes_are = sym (at_step (λ s g. mode g s) who op reply H);
    makers_are = refl;
    folders_are = refl;
    lock_files_are = refl;
    bytes_are = same_file (λ f. f.bytes) F found.0 found.1 (record { bytes = found.1.bytes; lock = locked found.1.lock h exclusive }) its.4 refl;
    locks_are = (λ i. with_at (locks_of F) (its.3 i) (Some (locked found.1.lock h exclusive))) ∙ set_file (λ f. f.lock) F found.0 found.1 (record { bytes = found.1.bytes; lock = locked found.1.lock h exclusive }) its.4;
    handles_are = refl;
  }

  pub try_keeps : Laws files (Did who op reply ∷ H) G
  try_keeps = assembled files (Did who op reply ∷ H) G next
      (numbers_did H who op reply job l.numbers runs)
      (l.names_once)
      (l.own_names)
      (record { is = length-set F.files found.0 (record { bytes = found.1.bytes; lock = locked found.1.lock h exclusive }) ∙ l.counted.is; below = l.counted.below })
      (lock_files_stay files H F who op reply l)
      (got l.handles who h its.0 found.1.lock exclusive its.1 its.2 (ap (locks_of F) its.3 ∙ ap (option_map (λ (f : File). f.lock)) its.4) free)
      (tried_own_locks who h exclusive l.own_locks)
      (tried_settled who h exclusive (settled_stay files H F who op reply l))
      (tried_own_dir who h exclusive files (runs_of H) (jobs_of H) (dirs_of H) (makers_of H) (folder_at F) (bytes_of F) (λ v. refl) l.settled l.own_dir)
      (l.dirs)
      (l.file_names)
      (l.sole_names)
      (l.wholes)
      (l.newest)
      (looked_stay files H F who op reply l (λ k e saw. saw))
