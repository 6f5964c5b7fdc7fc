-- A lock that is got keeps the laws on the own locks.
use Rattle.std.proofs.Common.{◌≡◌, ◌≢◌, ℕ, List, Bool, true, false, cond, refl, ap, sym, ◌∙◌, subst, Some, Option, IsSome, inl, inr, ◌⊎◌}
use Rattle.std.specs.Map.{lookup}
use Rattle.std.specs.BTreeMap.{is_at}
use Rattle.inc_base.specs.declared.job.Job.{Job}
use Rattle.inc_fs.specs.State.{Text, text_cmp, named}
use Rattle.inc_names.specs.declared.session.SessionName.{SessionName}
use Rattle.inc_names.specs.Entries.{lock_text}
use Rattle.inc_proto.specs.Events.{Steps}
use Rattle.inc_laws.specs.Readings.{Maker, head_of, Site, site_of}
use Rattle.inc_proto.specs.Views.{Dir, Opening, tried_own}
use Rattle.inc_proto.specs.declared.own.OwnLock.{OwnLock}
use Rattle.inc_proto.specs.declared.own.OwnLock.TheVariants.{Locked, Unlocked, NoLock}
use Rattle.inc_proto.specs.Views.Dir.{Stands}
use Rattle.inc_proto.specs.Files.{Files}
use Rattle.inc_laws.specs.Parts.{FitsView, OwnDirKnown, OwnLocksHeld, LocksSettled}
use Rattle.inc_laws.specs.Readings.Site.{At}
use Rattle.inc_fs.specs.Points.{with_at, here, there, each, same_number}
use Rattle.inc_proto.specs.Views.Opening.{Made}
use Rattle.std.proofs.lemmas.Bool.{ne_eqb, eq-eqb}

-- what a lock that was got, or a handle that was closed, can leave of the own lock
pub tried_is : (h : ℕ) (exclusive : Bool) (o : OwnLock) (g : ℕ) → tried_own h exclusive o ≡ Locked g → ((o ≡ Locked g) × ((h ≢ g) ⊎ (exclusive ≡ true))) ⊎ ((o ≡ Unlocked g) × (h ≡ g) × (exclusive ≡ true))
tried_is h exclusive NoLock g e = cc
tried_is h true (Unlocked k) g e = elim (same_number h k) [
  | inl is ↦ let t : tried_own h true (Unlocked k) ≡ Locked k = ap (λ b. cond b (Locked k) (Unlocked k)) (eq-eqb h k is) in inr (cc, is ∙ locked_same k g (sym t ∙ e), refl)
  | inr off ↦ let t : tried_own h true (Unlocked k) ≡ Unlocked k = ap (λ b. cond b (Locked k) (Unlocked k)) (ne_eqb h k off) in cc
]
  where
    locked_same : (k g : ℕ) → Locked k ≡ Locked g → k ≡ g
    locked_same k g e = cc
tried_is h false (Unlocked k) g e = cc
tried_is h true (Locked k) g e = inl (e, inr refl)
tried_is h false (Locked k) g e = elim (same_number h k) [
  | inl is ↦ let t : tried_own h false (Locked k) ≡ NoLock = ap (λ b. cond b NoLock (Locked k)) (eq-eqb h k is) in cc
  | inr off ↦ let t : tried_own h false (Locked k) ≡ Locked k = ap (λ b. cond b NoLock (Locked k)) (ne_eqb h k off) in inl (sym t ∙ e, inl (λ is. off (is ∙ locked_same g k (sym e ∙ t))))
]
  where
    locked_same : (k g : ℕ) → Locked k ≡ Locked g → k ≡ g
    locked_same k g e = cc

pub tried_open : (h : ℕ) (exclusive : Bool) (o : OwnLock) (g : ℕ) → tried_own h exclusive o ≡ Unlocked g → o ≡ Unlocked g
tried_open h exclusive NoLock g e = cc
tried_open h true (Unlocked k) g e = elim (same_number h k) [
  | inl is ↦ let t : tried_own h true (Unlocked k) ≡ Locked k = ap (λ b. cond b (Locked k) (Unlocked k)) (eq-eqb h k is) in cc
  | inr off ↦ sym (ap (λ b. cond b (Locked k) (Unlocked k)) (ne_eqb h k off)) ∙ e
]
tried_open h false (Unlocked k) g e = e
tried_open h true (Locked k) g e = cc
tried_open h false (Locked k) g e = elim (same_number h k) [
  | inl is ↦ let t : tried_own h false (Locked k) ≡ NoLock = ap (λ b. cond b NoLock (Locked k)) (eq-eqb h k is) in cc
  | inr off ↦ let t : tried_own h false (Locked k) ≡ Locked k = ap (λ b. cond b NoLock (Locked k)) (ne_eqb h k off) in cc
]

module _ {runs jobs : ℕ → Option Job} {names : ℕ → List SessionName} {opens : ℕ → ℕ → Option Opening} {modes : ℕ → ℕ → Option Bool} {owns : ℕ → OwnLock} (who h : ℕ) (exclusive : Bool) where
  pub tried_own_locks : OwnLocksHeld runs jobs names opens modes owns → OwnLocksHeld runs jobs names opens (with_at modes who (with_at (modes who) h (Some exclusive))) (with_at owns who (tried_own h exclusive (owns who)))
  tried_own_locks l = record {
    handle = λ v g j r. each owns who (tried_own h exclusive (owns who))
        (λ v s. runs v ≡ Some j → (s ≡ Locked g) ⊎ (s ≡ Unlocked g) → (n : SessionName) × (head_of (names v) ≡ Some n) × (opens v g ≡ Some (Made j.krate (lock_text n))))
        (λ v _ r s. l.handle v g j r s)
        (λ r s. elim s [
          | inl s ↦ elim (tried_is h exclusive (owns who) g s) [ inl a ↦ l.handle who g j r (inl a.0) | inr a ↦ l.handle who g j r (inr a.0) ]
          | inr s ↦ l.handle who g j r (inr (tried_open h exclusive (owns who) g s))
        ]) v r;
    lock = λ v g s. both v g (same_number who v) s;
  }
    where
      both : (v g : ℕ) → (who ≡ v) ⊎ (who ≢ v) → with_at owns who (tried_own h exclusive (owns who)) v ≡ Locked g → with_at modes who (with_at (modes who) h (Some exclusive)) v g ≡ Some true
      both v g (inr off) s = (λ i. there modes who (with_at (modes who) h (Some exclusive)) v off i g) ∙ l.lock v g (sym (there owns who (tried_own h exclusive (owns who)) v off) ∙ s)
      both v g (inl is) s = subst (λ v. with_at modes who (with_at (modes who) h (Some exclusive)) v g ≡ Some true) is
          ((λ i. here modes who (with_at (modes who) h (Some exclusive)) i g)
          ∙ own (tried_is h exclusive (owns who) g (sym (here owns who (tried_own h exclusive (owns who))) ∙ subst (λ v. with_at owns who (tried_own h exclusive (owns who)) v ≡ Locked g) (sym is) s)))
        where
          own : ((owns who ≡ Locked g) × ((h ≢ g) ⊎ (exclusive ≡ true))) ⊎ ((owns who ≡ Unlocked g) × (h ≡ g) × (exclusive ≡ true)) → with_at (modes who) h (Some exclusive) g ≡ Some true
          own (inr a) = ap (with_at (modes who) h (Some exclusive)) (sym a.1) ∙ here (modes who) h (Some exclusive) ∙ ap Some a.2
          own (inl a) = elim a.1 [
            | inl off ↦ there (modes who) h (Some exclusive) g off ∙ l.lock who g a.0
            | inr sure ↦ elim (same_number h g) [
              | inl is ↦ ap (with_at (modes who) h (Some exclusive)) (sym is) ∙ here (modes who) h (Some exclusive) ∙ ap Some sure
              | inr off ↦ there (modes who) h (Some exclusive) g off ∙ l.lock who g a.0
            ]
          ]

module _ {names : ℕ → List SessionName} {owns : ℕ → OwnLock} (who h : ℕ) (exclusive : Bool) where
  pub tried_settled : {sites : ℕ → Site} {steps : ℕ → Steps} → LocksSettled sites owns names steps → LocksSettled sites (with_at owns who (tried_own h exclusive (owns who))) names steps
  tried_settled {sites} l = record {
    not_open = λ v g k e at. each owns who (tried_own h exclusive (owns who)) (λ v s. sites v ≡ At k e → s ≢ Unlocked g) (λ v _ at. l.not_open v g k e at)
        (λ at is. l.not_open who g k e at (tried_open h exclusive (owns who) g is)) v at;
    has_tried = l.has_tried;
  }

  -- a session whose directory stands gets its own lock only where it has it
  pub tried_own_dir : {sites : ℕ → Site} {steps : ℕ → Steps} (files : Files) (runs jobs : ℕ → Option Job) (dirs : ℕ → Dir) (makers : ℕ → Option Maker) (folders : Text → Text → Option (List (Text × ℕ))) (bytes : ℕ → Option Text)
      → ((v : ℕ) → sites v ≡ site_of (dirs v)) → LocksSettled sites owns names steps → OwnDirKnown files runs jobs owns sites dirs makers folders bytes
      → OwnDirKnown files runs jobs (with_at owns who (tried_own h exclusive (owns who))) sites dirs makers folders bytes
  tried_own_dir {sites} files runs jobs dirs makers folders bytes same set l v g k e known r = each owns who (tried_own h exclusive (owns who))
      (λ v s. IsSome (runs v) → s ≡ Locked g → dirs v ≡ Stands k e known
      → (z : List (Text × ℕ)) × (folders k e ≡ Some z) × ((y : Text) → FitsView files jobs sites makers bytes v y (named y z) (lookup (is_at (text_cmp y)) known)))
      (λ v _ r s d. l v g k e known r s d)
      (λ r s d. elim (tried_is h exclusive (owns who) g s) [
        | inl a ↦ l who g k e known r a.0 d
        | inr a ↦ absurd (set.not_open who g k e (same who ∙ ap site_of d) a.0)
      ]) v r
