-- A handle closed keeps the laws.
use Rattle.std.proofs.Common.{◌≡◌, ◌≢◌, ℕ, ◌==◌, List, Bool, true, false, cond, refl, ap, sym, ◌∙◌, subst, None, Some, Option, IsSome, inl, inr, ◌⊎◌}
use Rattle.inc_base.specs.declared.job.Job.{Job}
use Rattle.inc_fs.specs.State.{freed}
use Rattle.inc_names.specs.declared.session.SessionName.{SessionName}
use Rattle.inc_names.specs.Entries.{lock_text}
use Rattle.inc_proto.specs.Events.{Steps}
use Rattle.inc_laws.specs.Readings.{Maker, head_of, Site}
use Rattle.inc_proto.specs.Views.{Opening, closed_own}
use Rattle.inc_proto.specs.declared.own.OwnLock.{OwnLock}
use Rattle.inc_proto.specs.declared.own.OwnLock.TheVariants.{Locked, Unlocked, NoLock}
use Rattle.inc_laws.specs.Parts.{HandlesAgree, OwnLocksHeld, LocksSettled}
use Rattle.inc_laws.specs.Readings.Site.{At}
use Rattle.inc_fs.specs.Points.{with_at, here, there, each, same_number}
use Rattle.inc_laws.proofs.Mono.{none_some}
use Rattle.inc_fs.specs.declared.state.Lock.{Lock}
use Rattle.inc_fs.specs.declared.state.Handle.{Handle}
use Rattle.std.proofs.lemmas.Bool.{ne_eqb, eq-eqb, true≢false}
use Rattle.inc_proto.specs.Views.Opening.{Made}
use Rattle.inc_fs.specs.Readings.{held_in, held_by}
use Rattle.inc_fs.specs.Locks.{freed_there, freed_here}
use Rattle.inc_laws.proofs.InPlace.{some_same}

-- what is left of the own lock
pub closed_is : (h : ℕ) (o : OwnLock) (g : ℕ) → closed_own h o ≡ Locked g → (o ≡ Locked g) × (h ≢ g)
closed_is h NoLock g e = cc
closed_is h (Unlocked k) g e = go (h == k) e
  where
    go : (b : Bool) → cond b NoLock (Unlocked k) ≡ Locked g → (Unlocked k ≡ Locked g) × (h ≢ g)
    go true e = cc
    go false e = cc
closed_is h (Locked k) g e = go (same_number h k)
  where
    locked_same : (k g : ℕ) → Locked k ≡ Locked g → k ≡ g
    locked_same k g e = cc

    go : (h ≡ k) ⊎ (h ≢ k) → (Locked k ≡ Locked g) × (h ≢ g)
    go (inl is) = let t : closed_own h (Locked k) ≡ NoLock = ap (λ b. cond b NoLock (Locked k)) (eq-eqb h k is) in cc
    go (inr off) =
        let t : Locked k ≡ Locked g = sym (ap (λ b. cond b NoLock (Locked k)) (ne_eqb h k off)) ∙ e in
        (t, λ is. off (is ∙ sym (locked_same k g t)))

pub closed_open : (h : ℕ) (o : OwnLock) (g : ℕ) → closed_own h o ≡ Unlocked g → (o ≡ Unlocked g) × (h ≢ g)
closed_open h NoLock g e = cc
closed_open h (Locked k) g e = go (h == k) e
  where
    go : (b : Bool) → cond b NoLock (Locked k) ≡ Unlocked g → (Locked k ≡ Unlocked g) × (h ≢ g)
    go true e = cc
    go false e = cc
closed_open h (Unlocked k) g e = go (same_number h k)
  where
    open_same : (k g : ℕ) → Unlocked k ≡ Unlocked g → k ≡ g
    open_same k g e = cc

    go : (h ≡ k) ⊎ (h ≢ k) → (Unlocked k ≡ Unlocked g) × (h ≢ g)
    go (inl is) = let t : closed_own h (Unlocked k) ≡ NoLock = ap (λ b. cond b NoLock (Unlocked k)) (eq-eqb h k is) in cc
    go (inr off) =
        let t : Unlocked k ≡ Unlocked g = sym (ap (λ b. cond b NoLock (Unlocked k)) (ne_eqb h k off)) ∙ e in
        (t, λ is. off (is ∙ sym (open_same k g t)))

-- a reading by session and handle, where it changes at one handle of one session
module _ {X : Type 0} (f : ℕ → ℕ → X) (who h : ℕ) (x : X) where
  abbrev at_handle : ℕ → ℕ → X
  at_handle = with_at f who (with_at (f who) h x)

  pub handle_there : (v g : ℕ) → h ≢ g → with_at f who (with_at (f who) h x) v g ≡ f v g
  handle_there v g off = each f who (with_at (f who) h x) (λ v s. s g ≡ f v g) (λ v _. refl) (there (f who) h x g off) v

  pub other_there : (v g : ℕ) → who ≢ v → with_at f who (with_at (f who) h x) v g ≡ f v g
  other_there v g off = λ i. there f who (with_at (f who) h x) v off i g

  pub handle_here : with_at f who (with_at (f who) h x) who h ≡ x
  handle_here = (λ i. here f who (with_at (f who) h x) i h) ∙ here (f who) h x

module _ {runs : ℕ → Option Job} {opens : ℕ → ℕ → Option Opening} {modes : ℕ → ℕ → Option Bool} {makers : ℕ → Option Maker}
    {handles : ℕ → Option Handle} {locks : ℕ → Option Lock} {given : List ℕ} (l : HandlesAgree runs opens modes makers handles locks given) (who h : ℕ) (o : Handle) (lock : Lock)
    (is_open : handles h ≡ Some o) (owner : o.owner ≡ who) (lies : locks o.file ≡ Some lock) where
  abbrev opens_next : ℕ → ℕ → Option Opening
  opens_next = with_at opens who (with_at (opens who) h None)

  abbrev modes_next : ℕ → ℕ → Option Bool
  modes_next = with_at modes who (with_at (modes who) h None)

  abbrev locks_next : ℕ → Option Lock
  locks_next = with_at locks o.file (Some (freed lock h))

  -- another handle is there afterwards as before
  left : (g : ℕ) (p : Handle) → with_at handles h None g ≡ Some p → (handles g ≡ Some p) × (h ≢ g)
  left g p = each handles h None (λ g k. k ≡ Some p → (handles g ≡ Some p) × (h ≢ g)) (λ g off is. (is, off)) (λ is. absurd (none_some p None refl is)) g

  held_before : (f g : ℕ) → h ≢ g → held_by (with_at locks o.file (Some (freed lock h)) f) g ≡ held_by (locks f) g
  held_before f g off = each locks o.file (Some (freed lock h)) (λ f k. held_by k g ≡ held_by (locks f) g) (λ f _. refl) (freed_there h g off lock ∙ sym (ap (λ k. held_by k g) lies)) f

  freed_all : (f : ℕ) → IsSome (held_by (with_at locks o.file (Some (freed lock h)) f) h) → ⊥
  freed_all f = each locks o.file (Some (freed lock h)) (λ f k. IsSome (held_by k h) → ⊥)
      (λ f off s. let t = l.only f h s in off (ap (λ p. p.file) (some_same o t.0 (sym is_open ∙ t.1)) ∙ t.2))
      (λ s. nothing (held_in (freed lock h) h) (freed_here h lock) s) f
    where
      nothing : (k : Option Bool) → k ≡ None → IsSome k → ⊥
      nothing None e s = true≢false (sym s)
      nothing (Some b) e s = none_some b (Some b) e refl

  pub closed_handles : HandlesAgree runs opens_next modes_next makers (with_at handles h None) locks_next given
  closed_handles = record {
    taken = λ g p is. l.taken g p (left g p is).0;
    seen = λ g p is. let s = l.seen g p (left g p is).0 in (s.0, s.1, handle_there opens who h None p.owner g (left g p is).1 ∙ s.2, s.3);
    there = λ v g j by r sees. is_there v g j by r sees (same_number h g);
    held = λ g p is. held_before p.file g (left g p is).1 ∙ l.held g p (left g p is).0 ∙ sym (handle_there modes who h None p.owner g (left g p is).1);
    only = λ f g s. is_only f g s (same_number h g);
    unopened = λ v g none. each opens who (with_at (opens who) h None) (λ v s. s g ≡ None → modes_next v g ≡ None)
        (λ v off none. other_there modes who h None v g off ∙ l.unopened v g none)
        (each (opens who) h None (λ g s. s ≡ None → modes_next who g ≡ None)
        (λ g off none. handle_there modes who h None who g off ∙ l.unopened who g none) (λ _. handle_here modes who h None) g) v none;
  }
    where
      is_only : (f g : ℕ) → IsSome (held_by (locks_next f) g) → (h ≡ g) ⊎ (h ≢ g) → (p : Handle) × (with_at handles h None g ≡ Some p) × (p.file ≡ f)
      is_only f g s (inl is) = absurd (freed_all f (subst (λ g. IsSome (held_by (locks_next f) g)) (sym is) s))
      is_only f g s (inr off) = let t = l.only f g (subst IsSome (held_before f g off) s) in (t.0, there handles h None g off ∙ t.1, t.2)

      is_there : (v g : ℕ) (j : Job) (by : Opening) → runs v ≡ Some j → opens_next v g ≡ Some by → (h ≡ g) ⊎ (h ≢ g) → (p : Handle) × (with_at handles h None g ≡ Some p) × (p.owner ≡ v)
      is_there v g j by r sees (inr off) = let t = l.there v g j by r (sym (handle_there opens who h None v g off) ∙ sees) in (t.0, there handles h None g off ∙ t.1, t.2)
      is_there v g j by r sees (inl is) = elim (same_number who v) [
        | inl own ↦ absurd (none_some by (opens_next v g) (subst (λ w. opens_next w g ≡ None) own (ap (opens_next who) (sym is) ∙ handle_here opens who h None)) sees)
        | inr other ↦
            let t = l.there v g j by r (sym (other_there opens who h None v g other) ∙ sees) in
            absurd (other (sym owner ∙ ap (λ p. p.owner) (some_same o t.0 (sym is_open ∙ ap handles is ∙ t.1)) ∙ t.2))
      ]

module _ {runs jobs : ℕ → Option Job} {names : ℕ → List SessionName} {opens : ℕ → ℕ → Option Opening} {modes : ℕ → ℕ → Option Bool} {owns : ℕ → OwnLock} (who h : ℕ) where
  pub closed_own_locks : OwnLocksHeld runs jobs names opens modes owns → OwnLocksHeld runs jobs names (with_at opens who (with_at (opens who) h None)) (with_at modes who (with_at (modes who) h None)) (with_at owns who (closed_own h (owns who)))
  closed_own_locks l = record {
    handle = λ v g j r. each owns who (closed_own h (owns who))
        (λ v s. runs v ≡ Some j → (s ≡ Locked g) ⊎ (s ≡ Unlocked g) → (n : SessionName) × (head_of (names v) ≡ Some n) × (with_at opens who (with_at (opens who) h None) v g ≡ Some (Made j.krate (lock_text n))))
        (λ v off r s. let t = l.handle v g j r s in (t.0, t.1, other_there opens who h None v g off ∙ t.2))
        (λ r s. elim s [
          | inl s ↦ let c = closed_is h (owns who) g s in let t = l.handle who g j r (inl c.0) in (t.0, t.1, handle_there opens who h None who g c.1 ∙ t.2)
          | inr s ↦ let c = closed_open h (owns who) g s in let t = l.handle who g j r (inr c.0) in (t.0, t.1, handle_there opens who h None who g c.1 ∙ t.2)
        ]) v r;
    lock = λ v g. each owns who (closed_own h (owns who)) (λ v s. s ≡ Locked g → with_at modes who (with_at (modes who) h None) v g ≡ Some true)
        (λ v off s. other_there modes who h None v g off ∙ l.lock v g s)
        (λ s. let c = closed_is h (owns who) g s in handle_there modes who h None who g c.1 ∙ l.lock who g c.0) v;
  }

pub closed_settled : {names : ℕ → List SessionName} {owns : ℕ → OwnLock} {sites : ℕ → Site} {steps : ℕ → Steps} (steps' : ℕ → Steps) (who h : ℕ) → LocksSettled sites owns names steps → LocksSettled sites (with_at owns who (closed_own h (owns who))) names steps
closed_settled {owns = owns} {sites = sites} steps' who h l = record {
  not_open = λ v g k e at. each owns who (closed_own h (owns who)) (λ v s. sites v ≡ At k e → s ≢ Unlocked g) (λ v _ at. l.not_open v g k e at)
      (λ at is. l.not_open who g k e at (closed_open h (owns who) g is).0) v at;
  has_tried = l.has_tried;
}
