-- A beginning keeps the laws.
use Rattle.std.proofs.Common.{◌≡◌, ℕ, List, [], ◌∷◌, refl, ap, sym, ◌∙◌, subst, None, Some, Option, IsSome, is_some, inl, inr, ◌⊎◌, arith}
use Rattle.inc_base.specs.declared.job.Job.{Job}
use Rattle.inc_fs.specs.State.{State, opened_at, folder_at}
use Rattle.inc_proto.specs.Views.{own, opening}
use Rattle.inc_laws.specs.Readings.{running, runs_of, jobs_of, names_of, opens_of, modes_of, owns_of, dirs_of, sites_of, makers_of}
use Rattle.inc_proto.specs.declared.own.OwnLock.{OwnLock}
use Rattle.inc_proto.specs.declared.own.OwnLock.TheVariants.{NoLock, Locked, Unlocked}
use Rattle.inc_proto.specs.Events.{begins, own_steps, job_of}
use Rattle.inc_proto.specs.declared.event.Event.{Event}
use Rattle.inc_proto.specs.declared.event.Event.TheVariants.{Begin}
use Rattle.inc_proto.specs.Files.{Files}
use Rattle.inc_laws.specs.Laws.{Laws}
use Rattle.inc_laws.specs.Parts.{BegunOnce, HandlesAgree, OwnLocksHeld, OwnDirKnown}
use Rattle.inc_fs.specs.Readings.{bytes_of, locks_of}
use Rattle.inc_fs.specs.Points.{with_at, there, same_number}
use Rattle.inc_laws.proofs.Mono.{grows_at, same_out, same_grows, none_some, named_stays, fits_stay, Grows}
use Rattle.inc_laws.proofs.Next.{runs_job}
use Rattle.std.specs.Prelude.{◌==◌, Bool, true, false, cond, []}
use Rattle.inc_fs.specs.Points.{with_same}
use Rattle.inc_fs.specs.State.{lock_at, opened_at}
use Rattle.inc_fs.specs.Readings.{locks_of}
use Rattle.inc_fs.specs.declared.op.Op.{Op}
use Rattle.inc_proto.specs.Events.{is_running, Steps}
use Rattle.inc_proto.specs.declared.event.Event.TheVariants.{Left}
use Rattle.inc_proto.specs.Views.{dir, mode}
use Rattle.inc_laws.specs.Readings.{site_of, draws}
use Rattle.inc_laws.specs.Parts.{DrawnOnce, OwnNames, LockFilesOnce, LocksSettled, DirsOwned, FilesPrivate, NamesSole, FinalsComplete, PublishedStands, LookedPublished}

-- who runs after a beginning, and after a leaving
pub runs_begun : (w : ℕ) (job : Job) (H : List Event) → runs_of (Begin w job ∷ H) ≡ with_at (runs_of H) w (Some job)
runs_begun w job H = λ i v. go (w == v) (is_running v H) (job_of v H) i
  where
    go : (b r : Bool) (j : Option Job) → cond (cond b true r) (cond b (Some job) j) None ≡ cond b (Some job) (cond r j None)
    go true r j = refl
    go false r j = refl

pub runs_left : (w : ℕ) (op : Option Op) (cut : ℕ) (H : List Event) → runs_of (Left w op cut ∷ H) ≡ with_at (runs_of H) w None
runs_left w op cut H = λ i v. go (w == v) (is_running v H) (job_of v H) i
  where
    go : (b r : Bool) (j : Option Job) → cond (cond b false r) j None ≡ cond b None (cond r j None)
    go true r j = refl
    go false r j = refl

module _ (files : Files) (H : List Event) (F : State) (job : Job) (l : Laws files H F) where
  unbegun : (job_of (begins H) H ≡ None) × (own_steps (begins H) H ≡ [])
  unbegun = let f = l.numbers.fresh (begins H) (omega arith) in (f.1, f.0)

  not_running : (o : Option Job) → running (begins H) H ≡ o → o ≡ None
  not_running None is = refl
  not_running (Some j) is = absurd (none_some j (job_of (begins H) H) unbegun.0 (runs_job H (begins H) j is))

  abbrev runs_next : ℕ → Option Job
  runs_next = with_at (runs_of H) (begins H) (Some job)

  jobs_grow : Grows (jobs_of H) (jobs_of (Begin (begins H) job ∷ H))
  jobs_grow = grows_at (jobs_of H) (begins H) (Some job) unbegun.0

  runs_grow : Grows (runs_of H) (runs_next)
  runs_grow = grows_at (runs_of H) (begins H) (Some job) (not_running (running (begins H) H) refl)

  some_stays : (who : ℕ) (o : Option Job) → runs_of H who ≡ o → IsSome o → IsSome (runs_next who)
  some_stays who None is h = cc
  some_stays who (Some j) is h = ap is_some (runs_grow who j is)

  -- the own steps of each session are as before
  steps_are : ◌≡◌ {A = ℕ → Steps} (λ v. own_steps v (Begin (begins H) job ∷ H)) (λ v. own_steps v H)
  steps_are = with_same (λ v. own_steps v H) (begins H) [] unbegun.1

  runs_are : runs_of (Begin (begins H) job ∷ H) ≡ runs_next
  runs_are = runs_begun (begins H) job H

  numbers : BegunOnce (Begin (begins H) job ∷ H)
  numbers = record {
    fresh = λ who h. (
      (λ i. steps_are i who) ∙ (l.numbers.fresh who (omega arith)).0,
      there (λ w. job_of w H) (begins H) (Some job) who (λ e. omega arith) ∙ (l.numbers.fresh who (omega arith)).1,
    );
  }

  -- a session that runs afterwards ran before, or has no steps
  was : (who : ℕ) → (own_steps who H ≡ []) ⊎ (runs_next who ≡ running who H)
  was who = elim (same_number (begins H) who) [
    | inl is ↦ inl (subst (λ w. own_steps w H ≡ []) is unbegun.1)
    | inr off ↦ inr (there (runs_of H) (begins H) (Some job) who off)
  ]

  handles : HandlesAgree (runs_next) (opens_of H) (modes_of H) (makers_of H) (opened_at F) (locks_of F) F.given
  handles = record {
    taken = l.handles.taken;
    seen = λ h o is. let s = l.handles.seen h o is in (s.0, some_stays o.owner (runs_of H o.owner) refl s.1, s.2, s.3);
    there = λ who h j by r o. elim (was who) [
      | inl none ↦ absurd (none_some by (opening h (own_steps who H)) (ap (opening h) none) o)
      | inr same ↦ l.handles.there who h j by (sym same ∙ r) o
    ];
    held = l.handles.held;
    only = l.handles.only;
    unopened = l.handles.unopened;
  }

  own_locks : OwnLocksHeld (runs_next) (jobs_of (Begin (begins H) job ∷ H)) (names_of H) (opens_of H) (modes_of H) (owns_of H)
  own_locks = record {
    handle = λ who h j r o. elim (was who) [
      | inl none ↦ absurd (no_lock h (own (own_steps who H)) (ap own none) o)
      | inr same ↦ l.own_locks.handle who h j (sym same ∙ r) o
    ];
    lock = l.own_locks.lock;
  }
    where
      no_lock : (h : ℕ) (o : OwnLock) → o ≡ NoLock → (o ≡ Locked h) ⊎ (o ≡ Unlocked h) → ⊥
      no_lock h o none (inl is) = cc
      no_lock h o none (inr is) = cc

  own_dir : OwnDirKnown files (runs_next) (jobs_of (Begin (begins H) job ∷ H)) (owns_of H) (sites_of H) (dirs_of H) (makers_of H) (folder_at F) (bytes_of F)
  own_dir who h krate entry names r o d = elim (was who) [
    | inl none ↦ absurd (no_lock (own (own_steps who H)) (ap own none) o)
    | inr same ↦
        let old = l.own_dir who h krate entry names (subst IsSome same r) o d in
        (old.0, old.1, λ x. fits_stay files (bytes_of F) (bytes_of F) jobs_grow (same_out (sites_of H)) (same_grows (makers_of H)) who x _ _ (λ f _. refl) (old.2 x))
  ]
    where
      no_lock : (o : OwnLock) → o ≡ NoLock → o ≡ Locked h → ⊥
      no_lock o none is = cc

  wholes : FinalsComplete files (jobs_of (Begin (begins H) job ∷ H)) (sites_of H) (folder_at F) (bytes_of F)
  wholes krate n hash folder is = let w = l.wholes krate n hash folder is in (w.0, w.1, w.2, w.3, jobs_grow _ _ w.4, w.5, w.6)

  pub begin_keeps : Laws files (Begin (begins H) job ∷ H) F
  begin_keeps = record {
    numbers = numbers;
    names_once = subst (λ steps. DrawnOnce (λ v. draws (steps v)) F.drawn) (sym steps_are) l.names_once;
    own_names = subst (λ steps. OwnNames (jobs_of (Begin (begins H) job ∷ H)) (λ v. draws (steps v)) (λ v. site_of (dir (steps v)))) (sym steps_are) (λ who. named_stays (names_of H) jobs_grow who (sites_of H who) (l.own_names who));
    counted = l.counted;
    lock_files = subst (λ steps. LockFilesOnce steps (λ v. draws (steps v)) (makers_of H) (lock_at F)) (sym steps_are) l.lock_files;
    handles = subst (λ (P : Type 0). P) (λ i. HandlesAgree (sym runs_are i) (λ v h. opening h (sym steps_are i v)) (λ v h. mode h (sym steps_are i v)) (makers_of H) (opened_at F) (locks_of F) F.given) handles;
    own_locks = subst (λ (P : Type 0). P) (λ i. OwnLocksHeld (sym runs_are i) (jobs_of (Begin (begins H) job ∷ H)) (λ v. draws (sym steps_are i v)) (λ v h. opening h (sym steps_are i v)) (λ v h. mode h (sym steps_are i v)) (λ v. own (sym steps_are i v))) own_locks;
    settled = subst (λ steps. LocksSettled (λ v. site_of (dir (steps v))) (λ v. own (steps v)) (λ v. draws (steps v)) steps) (sym steps_are) l.settled;
    own_dir = subst (λ (P : Type 0). P) (λ i. OwnDirKnown files (sym runs_are i) (jobs_of (Begin (begins H) job ∷ H)) (λ v. own (sym steps_are i v)) (λ v. site_of (dir (sym steps_are i v))) (λ v. dir (sym steps_are i v)) (makers_of H) (folder_at F) (bytes_of F)) own_dir;
    dirs = subst (λ steps. DirsOwned (λ v. site_of (dir (steps v))) (folder_at F)) (sym steps_are) l.dirs;
    file_names = subst (λ steps. FilesPrivate (λ v. site_of (dir (steps v))) (makers_of H) (folder_at F)) (sym steps_are) l.file_names;
    sole_names = subst (λ steps. NamesSole (λ v. site_of (dir (steps v))) (makers_of H) (folder_at F)) (sym steps_are) l.sole_names;
    wholes = subst (λ steps. FinalsComplete files (jobs_of (Begin (begins H) job ∷ H)) (λ v. site_of (dir (steps v))) (folder_at F) (bytes_of F)) (sym steps_are) wholes;
    newest = subst (λ steps. PublishedStands (λ v. site_of (dir (steps v))) (folder_at F)) (sym steps_are) l.newest;
    looked = subst (λ steps. LookedPublished steps (λ v. site_of (dir (steps v)))) (sym steps_are) l.looked;
  }
