-- A step that changes nothing keeps the laws.
use Rattle.std.specs.Prelude.{◌≡◌, ◌==◌, ◌<◌, ℕ, Bool, true, false, cond, List, ◌∷◌, refl, Option, Some, None}
use Rattle.std.proofs.Common.{ap, sym, subst, ◌∙◌, inl, inr}
use Rattle.inc_base.specs.declared.job.Job.{Job}
use Rattle.inc_fs.specs.Readings.{bytes_of, locks_of}
use Rattle.inc_fs.specs.State.{State, Text, opened_at, folder_at, lock_at}
use Rattle.inc_fs.specs.Step.{Step}
use Rattle.inc_fs.specs.declared.op.Op.{Op}
use Rattle.inc_fs.specs.declared.op.Op.TheVariants.{Draw, MakeLock, OpenLock, TryLock, Look, ListDir, MakeDir, Link, Read, Create, Append, Unlink, UnlinkLock, RemoveDir, Rename, Close}
use Rattle.inc_fs.specs.declared.op.Reply.{Reply}
use Rattle.inc_fs.specs.declared.op.Reply.TheVariants.{Drawn, Handle as GotHandle, Names, Bytes, Done, Got, Held, Exists, Missing, NotEmpty, Fault}
use Rattle.inc_names.specs.declared.session.SessionName.{SessionName}
use Rattle.inc_names.specs.Entries.{final_text}
use Rattle.inc_proto.specs.declared.event.Event.{Event}
use Rattle.inc_proto.specs.declared.event.Event.TheVariants.{Did}
use Rattle.inc_proto.specs.declared.own.OwnLock.{OwnLock}
use Rattle.inc_proto.specs.Events.{own_steps}
use Rattle.inc_proto.specs.Files.{Files}
use Rattle.inc_proto.specs.Views.{own, opening, mode, dir, Opening, Dir, HasLooked, IsLook, opening_after, mode_after, own_after, dir_after}
use Rattle.inc_proto.specs.Views.Dir.{Unmade, Stands, Removed, Published}
use Rattle.inc_laws.specs.Laws.{Laws}
use Rattle.inc_laws.specs.Readings.{draws, draws_after, running, made_by, count, count_after, maker, maker_after, site_of, names_of, sites_of, dirs_of, owns_of, opens_of, modes_of, makers_of}
use Rattle.inc_laws.specs.Readings.Site.{Out}
use Rattle.inc_laws.proofs.Next.{Next, assembled, numbers_did, lock_files_stay, settled_stay}
use Rattle.inc_laws.proofs.Readings.{no_step}

-- the answers that change nothing; of a directory's own file a `Read` tells something, and it is none of these
abbrev pub IsQuiet : Op → Reply → Type 0
IsQuiet (Append krate entry file piece) Fault = ⊥
IsQuiet op Fault = Unit {0}
IsQuiet op Missing = Unit {0}
IsQuiet op Exists = Unit {0}
IsQuiet op Held = Unit {0}
IsQuiet op NotEmpty = Unit {0}
IsQuiet op (Names names) = Unit {0}
IsQuiet op reply = ⊥

-- what an own step leaves of what its session sees, where its directory was as here
pub record Idle (op : Op) (reply : Reply) (its : Dir) : Type 0 where
  pub draws : (x : List SessionName) → draws_after (op, reply) x ≡ x
  pub opening : (h : ℕ) (x : Option Opening) → opening_after h (op, reply) x ≡ x
  pub mode : (h : ℕ) (x : Option Bool) → mode_after h (op, reply) x ≡ x
  pub own : (x : OwnLock) → own_after (op, reply) x ≡ x
  pub dir : dir_after (op, reply) its ≡ its
  pub made : (who : ℕ) → made_by who op reply ≡ None

module _ (files : Files) (H : List Event) (F : State) (who : ℕ) (op : Op) (reply : Reply) (job : Job) (l : Laws files H F) (r : running who H ≡ Some job) (q : Idle op reply (dirs_of H who)) where
  next : Next (Did who op reply ∷ H) F
  next = record {
    names = names_of H;
    sites = sites_of H;
    dirs = dirs_of H;
    owns = owns_of H;
    opens = opens_of H;
    modes = modes_of H;
    makers = makers_of H;
    folders = folder_at F;
    lock_files = lock_at F;
    bytes = bytes_of F;
    locks = locks_of F;
    handles = opened_at F;
    names_are = sym (no_step draws who op reply H (q.draws _));
    sites_are = sym (no_step (λ s. site_of (dir s)) who op reply H (ap site_of q.dir));
    dirs_are = sym (no_step dir who op reply H q.dir);
    owns_are = sym (no_step own who op reply H (q.own _));
    opens_are = sym (no_step (λ s h. opening h s) who op reply H (λ i h. q.opening h (opening h (own_steps who H)) i));
    modes_are = sym (no_step (λ s h. mode h s) who op reply H (λ i h. q.mode h (mode h (own_steps who H)) i));
    makers_are = λ i f. maker_after f (count H) (sym (q.made who) i) (maker f H);
    folders_are = refl;
    lock_files_are = refl;
    bytes_are = refl;
    locks_are = refl;
    handles_are = refl;
  }

  pub idle_keeps : ((krate : Text) (n : SessionName) (hash : ℕ) → IsLook krate (final_text n hash) (op, reply) → (v : ℕ) × (sites_of H v ≡ Out krate (final_text n hash))) → Laws files (Did who op reply ∷ H) F
  unfolding next
  idle_keeps saw = assembled files (Did who op reply ∷ H) F next (numbers_did H who op reply job l.numbers r) l.names_once l.own_names
      (record { is = l.counted.is ∙ same_count; below = λ f m is. subst (λ c. f < c) same_count (l.counted.below f m is) })
      (lock_files_stay files H F who op reply l) l.handles l.own_locks (settled_stay files H F who op reply l)
      l.own_dir l.dirs l.file_names l.sole_names l.wholes l.newest
      (λ w k n hash h. looked w k n hash (who == w) h)
    where
      same_count : count H ≡ count_after (made_by who op reply) (count H)
      same_count = ap (λ m. count_after m (count H)) (sym (q.made who))

      looked : (w : ℕ) (k : Text) (n : SessionName) (hash : ℕ) (b : Bool) → HasLooked k (final_text n hash) (cond b ((op, reply) ∷ own_steps w H) (own_steps w H)) → (v : ℕ) × (sites_of H v ≡ Out k (final_text n hash))
      looked w k n hash true (inl is) = saw k n hash is
      looked w k n hash true (inr h) = l.looked w k n hash h
      looked w k n hash false h = l.looked w k n hash h

-- ---- Quiet answers are idle.

quiet_draws : (op : Op) (reply : Reply) → IsQuiet op reply → (x : List SessionName) → draws_after (op, reply) x ≡ x
quiet_draws Draw (Drawn moment random) q x = absurd q
quiet_draws op reply q x = refl

quiet_opening : (h : ℕ) (op : Op) (reply : Reply) → IsQuiet op reply → (x : Option Opening) → opening_after h (op, reply) x ≡ x
quiet_opening h (MakeLock krate entry) (GotHandle handle) q x = absurd q
quiet_opening h (OpenLock krate entry) (GotHandle handle) q x = absurd q
quiet_opening h (Close handle) Done q x = absurd q
quiet_opening h op reply q x = refl

quiet_mode : (h : ℕ) (op : Op) (reply : Reply) → IsQuiet op reply → (x : Option Bool) → mode_after h (op, reply) x ≡ x
quiet_mode h (TryLock handle exclusive) Got q x = absurd q
quiet_mode h (Close handle) Done q x = absurd q
quiet_mode h op reply q x = refl

quiet_own : (op : Op) (reply : Reply) → IsQuiet op reply → (x : OwnLock) → own_after (op, reply) x ≡ x
quiet_own Draw (Drawn moment random) q x = absurd q
quiet_own (MakeLock krate entry) (GotHandle handle) q x = absurd q
quiet_own (TryLock handle exclusive) Got q x = absurd q
quiet_own (Close handle) Done q x = absurd q
quiet_own op reply q x = refl

quiet_made : (who : ℕ) (op : Op) (reply : Reply) → IsQuiet op reply → made_by who op reply ≡ None
quiet_made who (MakeLock krate entry) (GotHandle handle) q = absurd q
quiet_made who (Create krate entry file) Done q = absurd q
quiet_made who op reply q = refl

quiet_dir : (op : Op) (reply : Reply) → IsQuiet op reply → (x : Dir) → dir_after (op, reply) x ≡ x
quiet_dir op reply q Removed = refl
quiet_dir op reply q (Published krate entry files) = refl
quiet_dir (MakeDir krate entry) Done q Unmade = absurd q
quiet_dir op reply q Unmade = refl
quiet_dir (Link k from to file) Done q (Stands krate entry files) = absurd q
quiet_dir (Create k e file) Done q (Stands krate entry files) = absurd q
quiet_dir (Append k e file piece) Done q (Stands krate entry files) = absurd q
quiet_dir (Append k e file piece) Fault q (Stands krate entry files) = absurd q
quiet_dir (Read k e file) (Bytes bytes) q (Stands krate entry files) = absurd q
quiet_dir (Unlink k e file) Done q (Stands krate entry files) = absurd q
quiet_dir (RemoveDir k e) Done q (Stands krate entry files) = absurd q
quiet_dir (Rename k from to) Done q (Stands krate entry files) = absurd q
quiet_dir op reply q (Stands krate entry files) = refl

pub quiet_idle : (op : Op) (reply : Reply) (its : Dir) → IsQuiet op reply → Idle op reply its
quiet_idle op reply its q = record {
  draws = quiet_draws op reply q;
  opening = λ h. quiet_opening h op reply q;
  mode = λ h. quiet_mode h op reply q;
  own = quiet_own op reply q;
  dir = quiet_dir op reply q its;
  made = λ who. quiet_made who op reply q;
}

-- and the state is as before
pub quiet_same : (F : State) (who : ℕ) (op : Op) (reply : Reply) (G : State) → IsQuiet op reply → Step F who op reply G → G ≡ F
quiet_same F who (Append krate entry file piece) Fault G q s = absurd q
quiet_same F who op Fault G q s = s.1
quiet_same F who (MakeLock krate entry) Exists G q s = s.1
quiet_same F who (OpenLock krate entry) Missing G q s = s.1
quiet_same F who (TryLock handle exclusive) Held G q s = s.3
quiet_same F who (TryLock handle exclusive) Missing G q s = s.1
quiet_same F who (Look krate) (Names names) G q s = s.1
quiet_same F who (ListDir krate entry) (Names names) G q s = s.3
quiet_same F who (ListDir krate entry) Missing G q s = s.1
quiet_same F who (MakeDir krate entry) Exists G q s = s.1
quiet_same F who (Link krate from to file) Missing G q s = s.1
quiet_same F who (Link krate from to file) Exists G q s = s.2
quiet_same F who (Read krate entry file) Missing G q s = s.1
quiet_same F who (Create krate entry file) Missing G q s = s.1
quiet_same F who (Create krate entry file) Exists G q s = s.1
quiet_same F who (Append krate entry file piece) Missing G q s = s.1
quiet_same F who (Unlink krate entry file) Missing G q s = s.1
quiet_same F who (UnlinkLock krate entry) Missing G q s = s.1
quiet_same F who (RemoveDir krate entry) Missing G q s = s.1
quiet_same F who (RemoveDir krate entry) NotEmpty G q s = s.3
quiet_same F who (Rename krate from to) Missing G q s = s.1
quiet_same F who (Rename krate from to) Exists G q s = s.2
quiet_same F who (Close handle) Missing G q s = s.1
quiet_same F who op Missing G q s = absurd s
quiet_same F who op Exists G q s = absurd s
quiet_same F who op Held G q s = absurd s
quiet_same F who op NotEmpty G q s = absurd s
quiet_same F who op (Names names) G q s = absurd s
quiet_same F who op reply G q s = absurd q
