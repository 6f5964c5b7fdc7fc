-- A draw, from the table to the laws.
use Rattle.std.proofs.Common.{◌≡◌, ℕ, List, ◌∷◌, refl, ap, sym, Some}
use Rattle.inc_base.specs.declared.job.Job.{Job}
use Rattle.inc_fs.specs.declared.op.Op.{Op}
use Rattle.inc_fs.specs.declared.op.Op.TheVariants.{Draw, MakeLock}
use Rattle.inc_fs.specs.declared.op.Reply.{Reply}
use Rattle.inc_fs.specs.declared.op.Reply.TheVariants.{Drawn}
use Rattle.inc_fs.specs.State.{State, Text, IsIn, opened_at, folder_at, lock_at}
use Rattle.inc_proto.specs.Views.{own, opening, mode, dir, Dir, HasTried, dir_after}
use Rattle.inc_laws.specs.Readings.{draws, running, site_of, runs_of, jobs_of, names_of, opens_of, modes_of, owns_of, dirs_of, sites_of, makers_of}
use Rattle.inc_proto.specs.declared.own.OwnLock.TheVariants.{NoLock}
use Rattle.inc_proto.specs.Views.Dir.{Unmade, Stands, Removed, Published}
use Rattle.inc_proto.specs.Events.{own_steps}
use Rattle.inc_proto.specs.declared.event.Event.{Event}
use Rattle.inc_proto.specs.declared.event.Event.TheVariants.{Did}
use Rattle.inc_proto.specs.Files.{Files}
use Rattle.inc_laws.specs.Laws.{Laws}
use Rattle.inc_fs.specs.Readings.{bytes_of, locks_of}
use Rattle.inc_laws.specs.Readings.Site.{Nowhere}
use Rattle.inc_fs.specs.Points.{with_at}
use Rattle.inc_laws.proofs.Readings.{at_step, no_step}
use Rattle.inc_laws.proofs.Next.{Next, assembled, numbers_did, tried_stays, looked_stay}
use Rattle.inc_laws.proofs.Draws.{drawn_once}
use Rattle.inc_laws.proofs.Drawn.{drawn_own_names, drawn_lock_files, drawn_own_locks, drawn_settled, lost_own_dir}

module _ (files : Files) (H : List Event) (F : State) (l : Laws files H F) (who : ℕ) (job : Job) (runs : running who H ≡ Some job)
    (moment random : ℕ) (unmade : dir (own_steps who H) ≡ Unmade) (fresh : ¬ IsIn F.drawn (moment, random)) where
  abbrev op : Op
  op = Draw

  abbrev reply : Reply
  reply = Drawn moment random

  abbrev G : State
  G = record F { drawn = (moment, random) ∷ F.drawn }

  stays : (k e : Text) (w : ℕ) → HasTried (MakeLock k e) (own_steps w H) → HasTried (MakeLock k e) (own_steps w (Did who op reply ∷ H))
  stays k e w = tried_stays H who op reply (MakeLock k e) w

  still : (d : Dir) → dir_after (op, reply) d ≡ d
  still Unmade = refl
  still (Stands krate entry known) = refl
  still Removed = refl
  still (Published krate entry known) = refl

  nowhere : sites_of H who ≡ Nowhere
  nowhere = ap site_of unmade

  abbrev next : Next (Did who op reply ∷ H) G
  next = record {
    names = with_at (names_of H) who (record { moment = moment; random = random } ∷ names_of H who);
    sites = sites_of H;
    dirs = dirs_of H;
    owns = with_at (owns_of H) who NoLock;
    opens = opens_of H;
    modes = modes_of H;
    makers = makers_of H;
    folders = folder_at F;
    lock_files = lock_at F;
    bytes = bytes_of F;
    locks = locks_of F;
    handles = opened_at F;
    names_are = sym (at_step draws who op reply H);
    sites_are = sym (no_step (λ s. site_of (dir s)) who op reply H (ap site_of (still (dir (own_steps who H)))));
    dirs_are = sym (no_step dir who op reply H (still (dir (own_steps who H))));
    owns_are = sym (at_step own who op reply H);
    opens_are = sym (no_step (λ s h. opening h s) who op reply H refl);
    modes_are = sym (no_step (λ s h. mode h s) who op reply H refl);
    makers_are = refl;
    folders_are = refl;
    lock_files_are = refl;
    bytes_are = refl;
    locks_are = refl;
    handles_are = refl;
  }

  pub draw_keeps : Laws files (Did who op reply ∷ H) G
  draw_keeps = assembled files (Did who op reply ∷ H) G next
      (numbers_did H who op reply job l.numbers runs)
      (drawn_once (names_of H) F.drawn l.names_once who (record { moment = moment; random = random }) fresh)
      (drawn_own_names (names_of H) (sites_of H) who (record { moment = moment; random = random }) nowhere (jobs_of H) l.own_names)
      (l.counted)
      (drawn_lock_files (names_of H) (sites_of H) who (record { moment = moment; random = random }) nowhere (λ w. own_steps w H) (λ w. own_steps w (Did who op reply ∷ H)) (makers_of H) (lock_at F) stays l.lock_files)
      (l.handles)
      (drawn_own_locks (names_of H) (sites_of H) who (record { moment = moment; random = random }) nowhere (runs_of H) (jobs_of H) (opens_of H) (modes_of H) (owns_of H) l.own_locks)
      (drawn_settled (names_of H) (sites_of H) who (record { moment = moment; random = random }) nowhere (owns_of H) (λ w. own_steps w H) (λ w. own_steps w (Did who op reply ∷ H)) stays l.settled)
      (lost_own_dir files (runs_of H) (jobs_of H) (owns_of H) (sites_of H) (dirs_of H) (makers_of H) (folder_at F) (bytes_of F) who NoLock (λ h e. cc) l.own_dir)
      (l.dirs)
      (l.file_names)
      (l.sole_names)
      (l.wholes)
      (l.newest)
      (looked_stay files H F who op reply l (λ k e saw. saw))
