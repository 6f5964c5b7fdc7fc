-- A file made, and a lock file made.
use Rattle.std.proofs.Common.{◌≡◌, ◌≢◌, ℕ, ◌+◌, ◌<◌, List, [], ◌∷◌, ◌++◌, Bool, true, refl, ap, sym, ◌∙◌, subst, None, Some, Option, IsSome, inl, inr, ◌⊎◌, arith, length-append}
use Rattle.inc_base.specs.declared.job.Job.{Job}
use Rattle.inc_fs.specs.State.{Text, Path, IsIn}
use Rattle.inc_names.specs.declared.session.SessionName.{SessionName}
use Rattle.inc_names.specs.Entries.{final_text, lock_text}
use Rattle.inc_names.specs.EntryLaws.{same_lock_text}
use Rattle.inc_proto.specs.Events.{Steps}
use Rattle.inc_laws.specs.Readings.{Maker, head_of, Site}
use Rattle.inc_laws.specs.Readings.Maker.{AsLock, ByCreate}
use Rattle.inc_proto.specs.Views.{Dir, Opening, HasTried}
use Rattle.inc_proto.specs.declared.own.OwnLock.{OwnLock}
use Rattle.inc_proto.specs.declared.own.OwnLock.TheVariants.{Locked, Unlocked}
use Rattle.inc_proto.specs.Files.{Files}
use Rattle.inc_laws.specs.Parts.{DrawnOnce, OwnDirKnown, FilesPrivate, NamesSole, FinalsComplete, FilesCounted, HandlesAgree, OwnLocksHeld, LocksSettled, LockFilesOnce}
use Rattle.inc_laws.specs.Readings.Site.{At}
use Rattle.inc_fs.specs.Points.{with_at, here, there, each, put_at, each_path}
use Rattle.inc_laws.proofs.Mono.{Grows, grows_at, none_some, same_out, same_grows, whole_stays}
use Rattle.inc_fs.specs.declared.op.Op.TheVariants.{MakeLock}
use Rattle.inc_fs.specs.declared.state.Lock.{Lock}
use Rattle.inc_fs.specs.declared.state.Lock.TheVariants.{Free}
use Rattle.inc_fs.specs.declared.state.File.{File}
use Rattle.inc_fs.specs.declared.state.Handle.{Handle}
use Rattle.inc_proto.specs.Views.Opening.{Made}
use Rattle.inc_fs.specs.Readings.{held_by}
use Rattle.inc_laws.proofs.Own.{Owners, at_name, head_in}
use Rattle.inc_laws.proofs.Others.{fits_all}
use Rattle.inc_laws.proofs.InPlace.{some_same}
use Rattle.inc_laws.proofs.Closes.{handle_there, other_there, handle_here}

pub counted_next : (makers : ℕ → Option Maker) (count : ℕ) (files : List File) (m : Maker) (new : File) → FilesCounted makers count files → FilesCounted (with_at makers count (Some m)) (count + 1) (files ++ new ∷ [])
counted_next makers count files m new l = record {
  is = length-append files (new ∷ []) ∙ ap (λ n. n + 1) l.is;
  below = λ f k. each makers count (Some m) (λ f o. o ≡ Some k → f < count + 1) (λ f _ is. more f (l.below f k is)) (λ _. omega arith) f;
}
  where
    more : (f : ℕ) → f < count → f < count + 1
    more f h = omega arith

pub fresh_maker : (makers : ℕ → Option Maker) (count : ℕ) (files : List File) → FilesCounted makers count files → makers count ≡ None
fresh_maker makers count files l = go (makers count) refl
  where
    go : (o : Option Maker) → makers count ≡ o → o ≡ None
    go None is = refl
    go (Some m) is = let below : count < count = l.below count m is in absurd (omega arith)

module _ (makers : ℕ → Option Maker) (count : ℕ) (m : Maker) (fresh : makers count ≡ None) where
  abbrev makers_next : ℕ → Option Maker
  makers_next = with_at makers count (Some m)

  grow : Grows makers makers_next
  grow = grows_at makers count (Some m) fresh

  known : (f : ℕ) (k : Maker) → makers f ≡ Some k → count ≢ f
  known f k is e = none_some k (makers count) fresh (ap makers e ∙ is)

  pub file_handles : {runs : ℕ → Option Job} {opens : ℕ → ℕ → Option Opening} {modes : ℕ → ℕ → Option Bool} {handles : ℕ → Option Handle} {locks : ℕ → Option Lock} {given : List ℕ}
      → HandlesAgree runs opens modes makers handles locks given → HandlesAgree runs opens modes makers_next handles (with_at locks count (Some Free)) given
  file_handles {handles = handles} {locks = locks} l = record {
    taken = l.taken;
    seen = λ h o is. let s = l.seen h o is in (s.0, s.1, s.2, grow _ _ s.3);
    there = l.there;
    held = λ h o is. let s = l.seen h o is in ap (λ k. held_by k h) (there locks count (Some Free) o.file (known o.file _ s.3)) ∙ l.held h o is;
    only = λ f h. each locks count (Some Free) (λ f k. IsSome (held_by k h) → (o : Handle) × (handles h ≡ Some o) × (o.file ≡ f)) (λ f _ s. l.only f h s) (λ s. cc) f;
    unopened = l.unopened;
  }

  pub file_file_names : {sites : ℕ → Site} {folders : Text → Text → Option (List (Text × ℕ))} → FilesPrivate sites makers folders → FilesPrivate sites makers_next folders
  file_file_names t k e x z f is at = let s = t k e x z f is at in (s.0, grow _ _ s.1, s.2)

  pub file_sole : {sites : ℕ → Site} {folders : Text → Text → Option (List (Text × ℕ))} → FilesPrivate sites makers folders → NamesSole sites makers folders → NamesSole sites makers_next folders
  file_sole t l v k e x y z f at is mk p q =
      let s = t k e x z f is p in
      l v k e x y z f at is (sym (there makers count (Some m) f (known f _ s.1)) ∙ mk) p q

  module _ (files : Files) (jobs : ℕ → Option Job) (sites : ℕ → Site) (folders : Text → Text → Option (List (Text × ℕ))) (bytes : ℕ → Option Text) where
    abbrev bytes_next : ℕ → Option Text
    bytes_next = with_at bytes count (Some [])

    calm : (g : ℕ) (k : Maker) → makers g ≡ Some k → bytes_next g ≡ bytes g
    calm g k is = there bytes count (Some []) g (known g k is)

    pub file_wholes : FilesPrivate sites makers folders → FinalsComplete files jobs sites folders bytes → FinalsComplete files jobs sites folders bytes_next
    file_wholes t w k n hash z is =
        let s = w k n hash z is in
        (s.0, s.1, s.2, s.3, s.4, s.5, whole_stays files bytes bytes_next (same_grows jobs) (same_out sites) grow z s.2 (λ x f at. calm f _ (t k (final_text n hash) x z f is at).1) s.6)

    pub file_own_dir : (runs : ℕ → Option Job) (owns : ℕ → OwnLock) (dirs : ℕ → Dir) → OwnDirKnown files runs jobs owns sites dirs makers folders bytes → OwnDirKnown files runs jobs owns sites dirs makers_next folders bytes_next
    file_own_dir runs owns dirs l v h k e shown r locked d =
        let old = l v h k e shown r locked d in
        (old.0, old.1, λ y. fits_all files jobs sites bytes bytes_next grow calm v y _ _ (old.2 y))

-- A lock file is made, by the permission once for a name.
module _ {names : ℕ → List SessionName} {drawn : List (ℕ × ℕ)} (once : DrawnOnce names drawn) (steps steps' : ℕ → Steps) (makers : ℕ → Option Maker) (count : ℕ) (fresh : makers count ≡ None) (lock_files : Text → Text → Option ℕ)
    (who : ℕ) (krate : Text) (n : SessionName) (called : head_of (names who) ≡ Some n) (untried : ¬ HasTried (MakeLock krate (lock_text n)) (steps who)) (tried : HasTried (MakeLock krate (lock_text n)) (steps' who))
    (stays : (k e : Text) (w : ℕ) → HasTried (MakeLock k e) (steps w) → HasTried (MakeLock k e) (steps' w)) where
  pub made_lock_files : LockFilesOnce steps names makers lock_files
      → LockFilesOnce steps' names (with_at makers count (Some (AsLock krate (lock_text n)))) (put_at lock_files krate (lock_text n) (Some count))
  made_lock_files l = record {
    entry = each_path lock_files krate (lock_text n) (Some count) (λ k e found. (f : ℕ) → found ≡ Some f → with_at makers count (Some (AsLock krate (lock_text n))) f ≡ Some (AsLock k e))
        (λ k e _ f is. grows_at makers count (Some (AsLock krate (lock_text n))) fresh f (AsLock k e) (l.entry k e f is))
        (λ f is. ap (with_at makers count (Some (AsLock krate (lock_text n)))) (sym (some_same count f is)) ∙ here makers count (Some (AsLock krate (lock_text n))));
    one = λ k e f g p q. both k e f g (split f k e p) (split g k e q);
    tried = λ k e f. each makers count (Some (AsLock krate (lock_text n)))
        (λ f o. o ≡ Some (AsLock k e) → (w : ℕ) × (m : SessionName) × IsIn (names w) m × (e ≡ lock_text m) × HasTried (MakeLock k e) (steps' w))
        (λ f _ is. let t = l.tried k e f is in (t.0, t.1, t.2, t.3, stays k e t.0 t.4))
        (λ is. let s = parts krate (lock_text n) k e is in (who, n, head_in (names who) n called, sym s.1, subst (λ (q : Path). HasTried (MakeLock q.0 q.1) (steps' who)) (λ i. (s.0 i, s.1 i)) tried)) f;
  }
    where
      parts : (k e k' e' : Text) → Some (AsLock k e) ≡ Some (AsLock k' e') → (k ≡ k') × (e ≡ e')
      parts k e k' e' is = (cc, cc)

      split : (f : ℕ) (k e : Text) → with_at makers count (Some (AsLock krate (lock_text n))) f ≡ Some (AsLock k e) → ((count ≡ f) × (krate ≡ k) × (lock_text n ≡ e)) ⊎ (makers f ≡ Some (AsLock k e))
      split f k e = each makers count (Some (AsLock krate (lock_text n))) (λ f o. o ≡ Some (AsLock k e) → ((count ≡ f) × (krate ≡ k) × (lock_text n ≡ e)) ⊎ (makers f ≡ Some (AsLock k e)))
          (λ f _ is. inr is) (λ is. let s = parts krate (lock_text n) k e is in inl (refl, s.0, s.1)) f

      never : (k e : Text) (g : ℕ) → krate ≡ k → lock_text n ≡ e → makers g ≡ Some (AsLock k e) → ⊥
      never k e g kp ep is =
          let t = l.tried k e g is in
          let same : t.1 ≡ n = same_lock_text t.1 n (sym t.3 ∙ sym ep) in
          let w : t.0 ≡ who = once.once t.0 who n (subst (IsIn (names t.0)) same t.2) (head_in (names who) n called) in
          untried (subst (λ (q : Path). HasTried (MakeLock q.0 q.1) (steps who)) (λ i. (sym kp i, sym ep i)) (subst (λ v. HasTried (MakeLock k e) (steps v)) w t.4))

      both : (k e : Text) (f g : ℕ) → ((count ≡ f) × (krate ≡ k) × (lock_text n ≡ e)) ⊎ (makers f ≡ Some (AsLock k e)) → ((count ≡ g) × (krate ≡ k) × (lock_text n ≡ e)) ⊎ (makers g ≡ Some (AsLock k e)) → f ≡ g
      both k e f g (inl p) (inl q) = sym p.0 ∙ q.0
      both k e f g (inl p) (inr q) = absurd (never k e g p.1 p.2 q)
      both k e f g (inr p) (inl q) = absurd (never k e f q.1 q.2 p)
      both k e f g (inr p) (inr q) = l.one k e f g p q

  pub made_lock_settled : {jobs : ℕ → Option Job} {sites : ℕ → Site} {owns : ℕ → OwnLock} (job : Job) (h : ℕ) → Owners jobs names sites drawn → jobs who ≡ Some job → krate ≡ job.krate
      → LocksSettled sites owns names steps → LocksSettled sites (with_at owns who (Unlocked h)) names steps'
  made_lock_settled {jobs} {sites} {owns} job h o begun kp l = record {
    not_open = λ v g k e at. each owns who (Unlocked h) (λ v s. sites v ≡ At k e → s ≢ Unlocked g) (λ v _ at. l.not_open v g k e at)
        (λ at _.
        let its = at_name o who k e at in
        let same : k ≡ krate = its.3 ∙ ap (λ (j : Job). j.krate) (some_same its.0 job (sym its.2 ∙ begun)) ∙ sym kp in
        untried (subst (λ k. HasTried (MakeLock k (lock_text n)) (steps who)) same (l.has_tried who k e n at called))) v at;
    has_tried = λ v k e m at c. stays _ _ v (l.has_tried v k e m at c);
  }

  -- the new handle h is none that a running session saw
  pub made_own_locks : {runs jobs : ℕ → Option Job} {opens : ℕ → ℕ → Option Opening} {modes : ℕ → ℕ → Option Bool} {owns : ℕ → OwnLock} (job : Job) (h : ℕ) → runs who ≡ Some job → krate ≡ job.krate
      → ((v : ℕ) (j : Job) (by : Opening) → runs v ≡ Some j → opens v h ≢ Some by) → OwnLocksHeld runs jobs names opens modes owns
      → OwnLocksHeld runs jobs names (with_at opens who (with_at (opens who) h (Some (Made krate (lock_text n))))) modes (with_at owns who (Unlocked h))
  made_own_locks {runs} {jobs} {opens} {modes} {owns} job h r kp unseen l = record {
    handle = λ v g j rv. each owns who (Unlocked h) (λ v s. runs v ≡ Some j → (s ≡ Locked g) ⊎ (s ≡ Unlocked g)
        → (m : SessionName) × (head_of (names v) ≡ Some m) × (with_at opens who (with_at (opens who) h (Some (Made krate (lock_text n)))) v g ≡ Some (Made j.krate (lock_text m))))
        (λ v off rv s. let t = l.handle v g j rv s in (t.0, t.1, other_there opens who h (Some (Made krate (lock_text n))) v g off ∙ t.2))
        (λ rv s. (n, called, own g s ∙ (λ i. Some (Made ((kp ∙ ap (λ (j : Job). j.krate) (some_same job j (sym r ∙ rv))) i) (lock_text n))))) v rv;
    lock = λ v g. each owns who (Unlocked h) (λ v s. s ≡ Locked g → modes v g ≡ Some true) (λ v _ s. l.lock v g s) (λ s. cc) v;
  }
    where
      open_same : (k g : ℕ) → Unlocked k ≡ Unlocked g → k ≡ g
      open_same k g e = cc

      own : (g : ℕ) → (Unlocked h ≡ Locked g) ⊎ (Unlocked h ≡ Unlocked g) → with_at opens who (with_at (opens who) h (Some (Made krate (lock_text n)))) who g ≡ Some (Made krate (lock_text n))
      own g (inl s) = cc
      own g (inr s) = ap (with_at opens who (with_at (opens who) h (Some (Made krate (lock_text n)))) who) (sym (open_same h g s)) ∙ handle_here opens who h (Some (Made krate (lock_text n)))

-- another handle is opened
pub opened_own_locks : {runs jobs : ℕ → Option Job} {names : ℕ → List SessionName} {opens : ℕ → ℕ → Option Opening} {modes : ℕ → ℕ → Option Bool} {owns : ℕ → OwnLock} (who h : ℕ) (by : Opening)
    → ((v : ℕ) (j : Job) (by : Opening) → runs v ≡ Some j → opens v h ≢ Some by) → OwnLocksHeld runs jobs names opens modes owns → OwnLocksHeld runs jobs names (with_at opens who (with_at (opens who) h (Some by))) modes owns
opened_own_locks {opens = opens} who h by unseen l = record {
  handle = λ v g j r s.
      let t = l.handle v g j r s in
      (t.0, t.1, handle_there opens who h (Some by) v g (λ is. unseen v j _ r (ap (opens v) is ∙ t.2)) ∙ t.2);
  lock = l.lock;
}

-- a created file is no lock file
pub created_lock_files : {names : ℕ → List SessionName} {lock_files : Text → Text → Option ℕ} (who : ℕ) (makers : ℕ → Option Maker) (count : ℕ) (fresh : makers count ≡ None) (steps steps' : ℕ → Steps)
    → ((k e : Text) (w : ℕ) → HasTried (MakeLock k e) (steps w) → HasTried (MakeLock k e) (steps' w)) → LockFilesOnce steps names makers lock_files → LockFilesOnce steps' names (with_at makers count (Some (ByCreate who))) lock_files
created_lock_files who makers count fresh steps steps' stays l = record {
  entry = λ k e f is. grows_at makers count (Some (ByCreate who)) fresh f _ (l.entry k e f is);
  one = λ k e f g p q. l.one k e f g (old f k e p) (old g k e q);
  tried = λ k e f is. let t = l.tried k e f (old f k e is) in (t.0, t.1, t.2, t.3, stays k e t.0 t.4);
}
  where
    old : (f : ℕ) (k e : Text) → with_at makers count (Some (ByCreate who)) f ≡ Some (AsLock k e) → makers f ≡ Some (AsLock k e)
    old f k e = each makers count (Some (ByCreate who)) (λ f o. o ≡ Some (AsLock k e) → makers f ≡ Some (AsLock k e)) (λ f _ is. is) (λ is. cc) f
