-- Handles and locks as the sessions see them.
use Rattle.std.proofs.Common.{◌≡◌, ◌≢◌, ℕ, List, Bool, true, false, refl, ap, sym, ◌∙◌, subst, None, Some, Option, IsSome, inl, inr, ◌⊎◌}
use Rattle.inc_base.specs.declared.job.Job.{Job}
use Rattle.inc_fs.specs.State.{Text, is_excluded, locked}
use Rattle.inc_names.specs.declared.session.SessionName.{SessionName}
use Rattle.inc_proto.specs.Events.{Steps}
use Rattle.inc_laws.specs.Readings.{Maker, place_of}
use Rattle.inc_laws.specs.Readings.Maker.{AsLock}
use Rattle.inc_proto.specs.Views.{Opening}
use Rattle.inc_laws.specs.Parts.{HandlesAgree, LockFilesOnce}
use Rattle.inc_fs.specs.Points.{with_at, here, there, each, same_number}
use Rattle.inc_laws.proofs.Mono.{none_some}
use Rattle.inc_fs.specs.declared.state.Lock.{Lock}
use Rattle.inc_fs.specs.declared.state.Handle.{Handle}
use Rattle.inc_fs.specs.Readings.{held_in, held_by}
use Rattle.inc_fs.specs.Locks.{alone_in, locked_here, locked_there}

some_same : {X : Type 0} (x y : X) → Some x ≡ Some y → x ≡ y
some_same x y e = cc

alone_by : (lock : Option Lock) (h g : ℕ) → held_by lock h ≡ Some true → IsSome (held_by lock g) → h ≡ g
alone_by None h g e s = cc
alone_by (Some lock) h g e s = alone_in lock h g e s

module _ {runs : ℕ → Option Job} {opens : ℕ → ℕ → Option Opening} {modes : ℕ → ℕ → Option Bool} {makers : ℕ → Option Maker}
    {handles : ℕ → Option Handle} {locks : ℕ → Option Lock} {given : List ℕ} (l : HandlesAgree runs opens modes makers handles locks given) where
  -- the handle that a running session sees on a lock file
  pub open_on : (v h : ℕ) (job : Job) (by : Opening) → runs v ≡ Some job → opens v h ≡ Some by
      → (o : Handle) × (handles h ≡ Some o) × (o.owner ≡ v) × (makers o.file ≡ Some (AsLock (place_of by).0 (place_of by).1)) × (held_by (locks o.file) h ≡ modes v h)
  open_on v h job by r sees =
      let t = l.there v h job by r sees in
      let s = l.seen h t.0 t.1 in
      let same : s.0 ≡ by = some_same s.0 by (sym s.2 ∙ ap (λ w. opens w h) t.2 ∙ sees) in
      (t.0, t.1, t.2, s.3 ∙ ap (λ b. Some (AsLock (place_of b).0 (place_of b).1)) same, l.held h t.0 t.1 ∙ ap (λ w. modes w h) t.2)

  -- who holds n exclusively is alone in holding n
  pub one_holder : {steps : ℕ → Steps} {names : ℕ → List SessionName} {lock_files : Text → Text → Option ℕ} → LockFilesOnce steps names makers lock_files
      → (v w h g : ℕ) (job job' : Job) (by by' : Opening) → runs v ≡ Some job → opens v h ≡ Some by → modes v h ≡ Some true
      → runs w ≡ Some job' → opens w g ≡ Some by' → IsSome (modes w g) → place_of by ≡ place_of by' → (v ≡ w) × (h ≡ g)
  one_holder f v w h g job job' by by' r s m r' s' m' place =
      let a = open_on v h job by r s in
      let b = open_on w g job' by' r' s' in
      let file : a.0.file ≡ b.0.file = f.one _ _ a.0.file b.0.file (a.3 ∙ (λ i. Some (AsLock (place i).0 (place i).1))) b.3 in
      let handle : h ≡ g = alone_by (locks a.0.file) h g (a.4 ∙ m) (subst IsSome (sym (ap (λ n. held_by (locks n) g) file ∙ b.4)) m') in
      let same : a.0 ≡ b.0 = some_same a.0 b.0 (sym a.1 ∙ ap handles handle ∙ b.1) in
      (sym a.2 ∙ ap (λ o. o.owner) same ∙ b.2, handle)

  -- a lock is got
  module _ (who h : ℕ) (o : Handle) (lock : Lock) (exclusive : Bool) (is_open : handles h ≡ Some o) (owner : o.owner ≡ who) (lies : locks o.file ≡ Some lock)
      (free : is_excluded lock h exclusive ≡ false) where
    pub got : HandlesAgree runs opens (with_at modes who (with_at (modes who) h (Some exclusive))) makers handles (with_at locks o.file (Some (locked lock h exclusive))) given
    got = record {
      taken = l.taken;
      seen = l.seen;
      there = l.there;
      held = λ g p is. held g p is (same_number h g) (same_number o.file p.file) (same_number who p.owner);
      only = λ f g s. each locks o.file (Some (locked lock h exclusive)) (λ f k. IsSome (held_by k g) → (p : Handle) × (handles g ≡ Some p) × (p.file ≡ f)) (λ f _ s. l.only f g s) (λ s. got_only g (same_number h g) s) f s;
      unopened = λ v g none. each modes who (with_at (modes who) h (Some exclusive)) (λ v m. opens v g ≡ None → m g ≡ None) (λ v _ none. l.unopened v g none)
          (λ none. each (modes who) h (Some exclusive) (λ g m. opens who g ≡ None → m ≡ None) (λ g _ none. l.unopened who g none)
          (λ none. let s = l.seen h o is_open in absurd (none_some s.0 (opens who h) none (ap (λ w. opens w h) (sym owner) ∙ s.2))) g none) v none;
    }
      where
        got_only : (g : ℕ) → (h ≡ g) ⊎ (h ≢ g) → IsSome (held_in (locked lock h exclusive) g) → (p : Handle) × (handles g ≡ Some p) × (p.file ≡ o.file)
        got_only g (inl this) s = (o, ap handles (sym this) ∙ is_open, refl)
        got_only g (inr off) s = l.only o.file g (subst IsSome (locked_there h g off lock exclusive free ∙ sym (ap (λ k. held_by k g) lies)) s)

        modes_next : ℕ → ℕ → Option Bool
        modes_next = with_at modes who (with_at (modes who) h (Some exclusive))

        old_mode : (v g : ℕ) → h ≢ g → with_at modes who (with_at (modes who) h (Some exclusive)) v g ≡ modes v g
        old_mode v g off = each modes who (with_at (modes who) h (Some exclusive)) (λ v m. m g ≡ modes v g) (λ v _. refl) (there (modes who) h (Some exclusive) g off) v

        new_mode : with_at modes who (with_at (modes who) h (Some exclusive)) who h ≡ Some exclusive
        new_mode = (λ i. here modes who (with_at (modes who) h (Some exclusive)) i h) ∙ here (modes who) h (Some exclusive)

        locks_here : with_at locks o.file (Some (locked lock h exclusive)) o.file ≡ Some (locked lock h exclusive)
        locks_here = here locks o.file (Some (locked lock h exclusive))

        held : (g : ℕ) (p : Handle) → handles g ≡ Some p → (h ≡ g) ⊎ (h ≢ g) → (o.file ≡ p.file) ⊎ (o.file ≢ p.file) → (who ≡ p.owner) ⊎ (who ≢ p.owner)
            → held_by (with_at locks o.file (Some (locked lock h exclusive)) p.file) g ≡ with_at modes who (with_at (modes who) h (Some exclusive)) p.owner g
        held g p is (inl this) file own =
            let same : o ≡ p = some_same o p (sym is_open ∙ ap handles this ∙ is) in
            subst (λ q. held_by (with_at locks o.file (Some (locked lock h exclusive)) q.file) g ≡ with_at modes who (with_at (modes who) h (Some exclusive)) q.owner g) same
            (subst (λ g. held_by (with_at locks o.file (Some (locked lock h exclusive)) o.file) g ≡ with_at modes who (with_at (modes who) h (Some exclusive)) o.owner g) this
            (ap (λ l. held_by l h) (here locks o.file (Some (locked lock h exclusive))) ∙ locked_here lock h exclusive
            ∙ sym ((λ i. with_at modes who (with_at (modes who) h (Some exclusive)) (owner i) h) ∙ (λ i. here modes who (with_at (modes who) h (Some exclusive)) i h) ∙ here (modes who) h (Some exclusive))))
        held g p is (inr off) (inl file) own =
            (λ i. held_by (with_at locks o.file (Some (locked lock h exclusive)) (sym file i)) g) ∙ ap (λ l. held_by l g) (here locks o.file (Some (locked lock h exclusive))) ∙ locked_there h g off lock exclusive free
            ∙ sym (ap (λ l. held_by l g) lies) ∙ (λ i. held_by (locks (file i)) g) ∙ l.held g p is ∙ sym (each modes who (with_at (modes who) h (Some exclusive)) (λ v m. m g ≡ modes v g) (λ v _. refl) (there (modes who) h (Some exclusive) g off) p.owner)
        held g p is (inr off) (inr file) own =
            ap (λ l. held_by l g) (there locks o.file (Some (locked lock h exclusive)) p.file file) ∙ l.held g p is
            ∙ sym (each modes who (with_at (modes who) h (Some exclusive)) (λ v m. m g ≡ modes v g) (λ v _. refl) (there (modes who) h (Some exclusive) g off) p.owner)
