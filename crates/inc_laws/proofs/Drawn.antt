-- A draw, and a lock file unlinked.
use Rattle.std.proofs.Common.{◌≡◌, ◌≢◌, ℕ, List, ◌∷◌, Bool, true, refl, ap, sym, ◌∙◌, subst, None, Some, Option, IsSome, inl, inr, ◌⊎◌}
use Rattle.std.specs.Map.{lookup}
use Rattle.std.specs.BTreeMap.{is_at}
use Rattle.inc_base.specs.declared.job.Job.{Job}
use Rattle.inc_fs.specs.State.{Text, IsIn, text_cmp, named}
use Rattle.inc_names.specs.declared.session.SessionName.{SessionName}
use Rattle.inc_names.specs.Entries.{lock_text}
use Rattle.inc_proto.specs.Events.{Steps}
use Rattle.inc_laws.specs.Readings.{Maker, head_of, Site}
use Rattle.inc_laws.specs.Readings.Maker.{AsLock}
use Rattle.inc_proto.specs.Views.{Dir, Opening, HasTried}
use Rattle.inc_proto.specs.declared.own.OwnLock.{OwnLock}
use Rattle.inc_proto.specs.declared.own.OwnLock.TheVariants.{Locked, Unlocked, NoLock}
use Rattle.inc_proto.specs.Views.Dir.{Stands}
use Rattle.inc_proto.specs.Files.{Files}
use Rattle.inc_laws.specs.Parts.{IsNamed, OwnNames, FitsView, OwnDirKnown, OwnLocksHeld, LocksSettled, LockFilesOnce}
use Rattle.inc_laws.specs.Readings.Site.{Nowhere, At, Gone, Out}
use Rattle.inc_fs.specs.Points.{with_at, there, each, same_number, put_at, each_path}
use Rattle.inc_laws.proofs.Mono.{none_some}
use Rattle.inc_fs.specs.declared.op.Op.TheVariants.{MakeLock}
use Rattle.inc_proto.specs.Views.Opening.{Made}

module _ (names : ℕ → List SessionName) (sites : ℕ → Site) (who : ℕ) (p : SessionName) (nowhere : sites who ≡ Nowhere) where
  abbrev names_next : ℕ → List SessionName
  names_next = with_at names who (p ∷ names who)

  not_who : (v : ℕ) (s : Site) → s ≢ Nowhere → sites v ≡ s → who ≢ v
  not_who v s not is e = not (sym is ∙ ap sites (sym e) ∙ nowhere)

  in_next : (v : ℕ) (n : SessionName) → IsIn (names v) n → IsIn (names_next v) n
  in_next v n h = each names who (p ∷ names who) (λ v ns. IsIn (names v) n → IsIn ns n) (λ v _ h. h) (λ h. inr h) v h

  pub drawn_own_names : (jobs : ℕ → Option Job) → OwnNames jobs names sites → OwnNames jobs names_next sites
  drawn_own_names jobs o v = go (same_number who v)
    where
      go : (who ≡ v) ⊎ (who ≢ v) → IsNamed jobs names_next v (sites v)
      go (inl is) = subst (λ w. IsNamed jobs names_next w (sites w)) is (subst (IsNamed jobs names_next who) (sym nowhere) tt)
      go (inr off) = named (sites v) (o v)
        where
          named : (s : Site) → IsNamed jobs names v s → IsNamed jobs names_next v s
          named Nowhere h = tt
          named (At k e) h = (h.0, h.1, h.2, h.3, ap head_of (there names who (p ∷ names who) v off) ∙ h.4, h.5)
          named Gone h = tt
          named (Out k e) h = (h.0, h.1, h.2, h.3, ap head_of (there names who (p ∷ names who) v off) ∙ h.4, h.5)

  pub drawn_lock_files : (steps steps' : ℕ → Steps) (makers : ℕ → Option Maker) (lock_files : Text → Text → Option ℕ)
      → ((k e : Text) (w : ℕ) → HasTried (MakeLock k e) (steps w) → HasTried (MakeLock k e) (steps' w)) → LockFilesOnce steps names makers lock_files → LockFilesOnce steps' names_next makers lock_files
  drawn_lock_files steps steps' makers lock_files stays l = record {
    entry = l.entry;
    one = l.one;
    tried = λ k e f is. let t = l.tried k e f is in (t.0, t.1, in_next t.0 t.1 t.2, t.3, stays k e t.0 t.4);
  }

  pub drawn_own_locks : (runs jobs : ℕ → Option Job) (opens : ℕ → ℕ → Option Opening) (modes : ℕ → ℕ → Option Bool) (owns : ℕ → OwnLock) → OwnLocksHeld runs jobs names opens modes owns
      → OwnLocksHeld runs jobs names_next opens modes (with_at owns who NoLock)
  drawn_own_locks runs jobs opens modes owns l = record {
    handle = λ v g j r. each owns who NoLock (λ v s. runs v ≡ Some j → (s ≡ Locked g) ⊎ (s ≡ Unlocked g) → (n : SessionName) × (head_of (names_next v) ≡ Some n) × (opens v g ≡ Some (Made j.krate (lock_text n))))
        (λ v off r s. let o = l.handle v g j r s in (o.0, ap head_of (there names who (p ∷ names who) v off) ∙ o.1, o.2))
        (λ r s. absurd (none g s)) v r;
    lock = λ v g s. each owns who NoLock (λ v s. s ≡ Locked g → modes v g ≡ Some true) (λ v _ s. l.lock v g s) (λ s. cc) v s;
  }
    where
      none : (g : ℕ) → (NoLock ≡ Locked g) ⊎ (NoLock ≡ Unlocked g) → ⊥
      none g (inl s) = cc
      none g (inr s) = cc

  pub drawn_settled : (owns : ℕ → OwnLock) (steps steps' : ℕ → Steps) → ((k e : Text) (w : ℕ) → HasTried (MakeLock k e) (steps w) → HasTried (MakeLock k e) (steps' w)) → LocksSettled sites owns names steps → LocksSettled sites (with_at owns who NoLock) names_next steps'
  drawn_settled owns steps steps' stays l = record {
    not_open = λ v g k e at. each owns who NoLock (λ v s. sites v ≡ At k e → s ≢ Unlocked g) (λ v _ at. l.not_open v g k e at) (λ at s. cc) v at;
    has_tried = λ v k e n at called. stays _ _ v (l.has_tried v k e n at (sym (ap head_of (there names who (p ∷ names who) v (not_who v (At k e) (λ e. cc) at))) ∙ called));
  }

-- an own lock that goes
pub lost_own_dir : (files : Files) (runs jobs : ℕ → Option Job) (owns : ℕ → OwnLock) (sites : ℕ → Site) (dirs : ℕ → Dir) (makers : ℕ → Option Maker) (folders : Text → Text → Option (List (Text × ℕ))) (bytes : ℕ → Option Text) (who : ℕ) (o : OwnLock)
    → ((h : ℕ) → o ≡ Locked h → owns who ≡ Locked h) → OwnDirKnown files runs jobs owns sites dirs makers folders bytes → OwnDirKnown files runs jobs (with_at owns who o) sites dirs makers folders bytes
lost_own_dir files runs jobs owns sites dirs makers folders bytes who o less l v g k e known r = each owns who o
    (λ v s. IsSome (runs v) → s ≡ Locked g → dirs v ≡ Stands k e known → (z : List (Text × ℕ)) × (folders k e ≡ Some z) × ((y : Text) → FitsView files jobs sites makers bytes v y (named y z) (lookup (is_at (text_cmp y)) known)))
    (λ v _ r s d. l v g k e known r s d) (λ r s d. l who g k e known r (less g s) d) v r

pub unlinked_lock_files : {steps : ℕ → Steps} {names : ℕ → List SessionName} {makers : ℕ → Option Maker} {lock_files : Text → Text → Option ℕ} (steps' : ℕ → Steps) (krate entry : Text)
    → ((k e : Text) (w : ℕ) → HasTried (MakeLock k e) (steps w) → HasTried (MakeLock k e) (steps' w)) → LockFilesOnce steps names makers lock_files → LockFilesOnce steps' names makers (put_at lock_files krate entry None)
unlinked_lock_files {makers = makers} {lock_files = lock_files} steps' krate entry stays l = record {
  entry = each_path lock_files krate entry None (λ k e found. (f : ℕ) → found ≡ Some f → makers f ≡ Some (AsLock k e)) (λ k e off f is. l.entry k e f is) (λ f is. absurd (none_some f None refl is));
  one = l.one;
  tried = λ k e f is. let t = l.tried k e f is in (t.0, t.1, t.2, t.3, stays k e t.0 t.4);
}
