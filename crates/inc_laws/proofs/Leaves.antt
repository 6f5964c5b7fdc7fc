-- A leaving keeps the laws: the session no longer runs, and its handles are gone.
use Rattle.std.proofs.Common.{◌≡◌, ◌≢◌, ℕ, List, ◌∷◌, Bool, refl, ap, sym, ◌∙◌, subst, None, Some, Option, IsSome, is_some, inl, inr, ◌⊎◌}
use Rattle.inc_base.specs.declared.job.Job.{Job}
use Rattle.inc_fs.specs.State.{Text, IsIn}
use Rattle.inc_names.specs.declared.session.SessionName.{SessionName}
use Rattle.inc_laws.specs.Readings.{Maker, Site, place_of}
use Rattle.inc_laws.specs.Readings.Maker.{AsLock}
use Rattle.inc_proto.specs.declared.own.Known.{Known}
use Rattle.inc_proto.specs.Views.{Dir, Opening}
use Rattle.inc_proto.specs.declared.own.OwnLock.{OwnLock}
use Rattle.inc_proto.specs.Files.{Files}
use Rattle.inc_laws.specs.Parts.{FitsView, OwnDirKnown, HandlesAgree, OwnLocksHeld}
use Rattle.inc_fs.specs.Points.{with_at, here, there, each, same_number}
use Rattle.inc_laws.proofs.Mono.{stay, none_some}
use Rattle.inc_fs.specs.declared.state.Lock.{Lock}
use Rattle.inc_fs.specs.declared.state.Handle.{Handle}
use Rattle.inc_fs.specs.Readings.{held_by}

-- the handles of the others, and what they hold
pub record Others (who : ℕ) (handles handles' : ℕ → Option Handle) (locks locks' : ℕ → Option Lock) : Type 0 where
  pub kept : (h : ℕ) (o : Handle) → handles h ≡ Some o → o.owner ≢ who → handles' h ≡ Some o
  pub only : (h : ℕ) (o : Handle) → handles' h ≡ Some o → (handles h ≡ Some o) × (o.owner ≢ who)
  pub held : (f h : ℕ) (o : Handle) → handles h ≡ Some o → o.owner ≢ who → held_by (locks' f) h ≡ held_by (locks f) h
  pub freed : (f h : ℕ) → IsSome (held_by (locks' f) h) → IsSome (held_by (locks f) h) × ((o : Handle) → handles h ≡ Some o → o.owner ≢ who)

module _ {runs : ℕ → Option Job} {opens : ℕ → ℕ → Option Opening} {modes : ℕ → ℕ → Option Bool} {makers : ℕ → Option Maker}
    {handles handles' : ℕ → Option Handle} {locks locks' : ℕ → Option Lock} {given : List ℕ} (l : HandlesAgree runs opens modes makers handles locks given) (who : ℕ) (t : Others who handles handles' locks locks') where
  runs_there : (v : ℕ) → v ≢ who → with_at runs who None v ≡ runs v
  runs_there v off = there runs who None v (λ e. off (sym e))

  pub ran : (v : ℕ) (j : Job) → with_at runs who None v ≡ Some j → (runs v ≡ Some j) × (v ≢ who)
  ran v j = each runs who None (λ v r. r ≡ Some j → (runs v ≡ Some j) × (v ≢ who)) (λ v off is. (is, λ e. off (sym e))) (λ is. absurd (none_some j None refl is)) v

  pub left_handles : HandlesAgree (with_at runs who None) opens modes makers handles' locks' given
  left_handles = record {
    taken = λ h o is. l.taken h o (t.only h o is).0;
    seen = λ h o is. let s = l.seen h o (t.only h o is).0 in (s.0, subst IsSome (sym (runs_there o.owner (t.only h o is).1)) s.1, s.2, s.3);
    there = λ v h j by r sees. let w = ran v j r in let s = l.there v h j by w.0 sees in (s.0, t.kept h s.0 s.1 (λ e. w.1 (sym s.2 ∙ e)), s.2);
    held = λ h o is. t.held o.file h o (t.only h o is).0 (t.only h o is).1 ∙ l.held h o (t.only h o is).0;
    only = λ f h s. let old = l.only f h (t.freed f h s).0 in (old.0, t.kept h old.0 old.1 ((t.freed f h s).1 old.0 old.1), old.2);
    unopened = l.unopened;
  }

  pub left_own_locks : {jobs : ℕ → Option Job} {names : ℕ → List SessionName} {owns : ℕ → OwnLock} → OwnLocksHeld runs jobs names opens modes owns → OwnLocksHeld (with_at runs who None) jobs names opens modes owns
  left_own_locks own = record { handle = λ v h j r. own.handle v h j (ran v j r).0; lock = own.lock }

  -- also where the session stops within an append, of which no other session's file and no published one gets a byte
  pub left_own_dir : (files : Files) (jobs : ℕ → Option Job) (owns : ℕ → OwnLock) (sites : ℕ → Site) (dirs : ℕ → Dir) (bytes bytes' : ℕ → Option Text) (folders : Text → Text → Option (List (Text × ℕ)))
      → ((v : ℕ) → v ≢ who → (x : Text) (found : Option ℕ) (known : Option Known) → FitsView files jobs sites makers bytes v x found known → FitsView files jobs sites makers bytes' v x found known)
      → OwnDirKnown files runs jobs owns sites dirs makers folders bytes → OwnDirKnown files (with_at runs who None) jobs owns sites dirs makers folders bytes'
  left_own_dir files jobs owns sites dirs bytes bytes' folders fits d v h k e known r locked at =
      let w = ran_some v r in
      let old = d v h k e known w.0 locked at in
      (old.0, old.1, λ y. fits v w.1 y _ _ (old.2 y))
    where
      ran_some : (v : ℕ) → IsSome (with_at runs who None v) → IsSome (runs v) × (v ≢ who)
      ran_some v = each runs who None (λ v r. IsSome r → IsSome (runs v) × (v ≢ who)) (λ v off is. (is, λ e. off (sym e))) (λ is. cc) v

-- A lock file is opened.
module _ {runs : ℕ → Option Job} {opens : ℕ → ℕ → Option Opening} {modes : ℕ → ℕ → Option Bool} {makers : ℕ → Option Maker}
    {handles : ℕ → Option Handle} {locks : ℕ → Option Lock} {given : List ℕ} (l : HandlesAgree runs opens modes makers handles locks given) (who h f : ℕ) (job : Job) (by : Opening)
    (r : runs who ≡ Some job) (fresh : ¬ IsIn given h) (made : makers f ≡ Some (AsLock (place_of by).0 (place_of by).1)) where
  abbrev opened : Handle
  opened = record { owner = who; file = f }

  unused : (o : Handle) → handles h ≢ Some o
  unused o is = fresh (l.taken h o is)

  pub unseen : (v : ℕ) (j : Job) (by : Opening) → runs v ≡ Some j → opens v h ≢ Some by
  unseen v j by rv sees = let t = l.there v h j by rv sees in unused t.0 t.1

  no_mode : modes who h ≡ None
  no_mode = go (opens who h) refl
    where
      go : (o : Option Opening) → opens who h ≡ o → modes who h ≡ None
      go None is = l.unopened who h is
      go (Some b) is = absurd (unseen who job b r is)

  not_held : (k : Option Bool) → held_by (locks f) h ≡ k → k ≡ None
  not_held None is = refl
  not_held (Some b) is = let t = l.only f h (ap is_some is) in absurd (unused t.0 t.1)

  opens_next : ℕ → ℕ → Option Opening
  opens_next = with_at opens who (with_at (opens who) h (Some by))

  -- another handle is seen as before
  as_before : (v g : ℕ) → h ≢ g → with_at opens who (with_at (opens who) h (Some by)) v g ≡ opens v g
  as_before v g off = each opens who (with_at (opens who) h (Some by)) (λ v s. s g ≡ opens v g) (λ v _. refl) (there (opens who) h (Some by) g off) v

  pub opened_handles : HandlesAgree runs (with_at opens who (with_at (opens who) h (Some by))) modes makers (with_at handles h (Some (record { owner = who; file = f }))) locks (h ∷ given)
  opened_handles = record {
    taken = each handles h (Some opened) (λ g k. (o : Handle) → k ≡ Some o → IsIn (h ∷ given) g) (λ g _ o is. inr (l.taken g o is)) (λ o is. inl refl);
    seen = each handles h (Some opened) (λ g k. (o : Handle) → k ≡ Some o → (b : Opening) × IsSome (runs o.owner) × (with_at opens who (with_at (opens who) h (Some by)) o.owner g ≡ Some b) × (makers o.file ≡ Some (AsLock (place_of b).0 (place_of b).1)))
        (λ g off o is. let s = l.seen g o is in (s.0, s.1, as_before o.owner g off ∙ s.2, s.3))
        (λ o is. new_seen o (some_is opened o is));
    there = λ v g j b rv sees. is_there v g j b rv sees (same_number h g);
    held = each handles h (Some opened) (λ g k. (o : Handle) → k ≡ Some o → held_by (locks o.file) g ≡ modes o.owner g)
        (λ g _ o is. l.held g o is)
        (λ o is. subst (λ o. held_by (locks o.file) h ≡ modes o.owner h) (some_is opened o is) (not_held _ refl ∙ sym no_mode));
    only = λ g k s. let t = l.only g k s in (t.0, stay handles h (Some opened) (Some t.0) k (unused t.0) t.1, t.2);
    unopened = λ v g. each opens who (with_at (opens who) h (Some by)) (λ v s. s g ≡ None → modes v g ≡ None) (λ v _ none. l.unopened v g none)
        (each (opens who) h (Some by) (λ g s. s ≡ None → modes who g ≡ None) (λ g _ none. l.unopened who g none) (λ none. absurd (none_some by (Some by) none refl)) g) v;
  }
    where
      some_is : (x y : Handle) → Some x ≡ Some y → x ≡ y
      some_is x y e = cc

      new_opens : with_at opens who (with_at (opens who) h (Some by)) who h ≡ Some by
      new_opens = (λ i. here opens who (with_at (opens who) h (Some by)) i h) ∙ here (opens who) h (Some by)

      new_seen : (o : Handle) → opened ≡ o → (b : Opening) × IsSome (runs o.owner) × (with_at opens who (with_at (opens who) h (Some by)) o.owner h ≡ Some b) × (makers o.file ≡ Some (AsLock (place_of b).0 (place_of b).1))
      new_seen o is = subst (λ o. (b : Opening) × IsSome (runs o.owner) × (with_at opens who (with_at (opens who) h (Some by)) o.owner h ≡ Some b) × (makers o.file ≡ Some (AsLock (place_of b).0 (place_of b).1))) is
          (by, ap is_some r, (λ i. here opens who (with_at (opens who) h (Some by)) i h) ∙ here (opens who) h (Some by), made)

      is_there : (v g : ℕ) (j : Job) (b : Opening) → runs v ≡ Some j → with_at opens who (with_at (opens who) h (Some by)) v g ≡ Some b → (h ≡ g) ⊎ (h ≢ g) → (o : Handle) × (with_at handles h (Some opened) g ≡ Some o) × (o.owner ≡ v)
      is_there v g j b rv sees (inr off) = let t = l.there v g j b rv (sym (as_before v g off) ∙ sees) in (t.0, there handles h (Some opened) g off ∙ t.1, t.2)
      is_there v g j b rv sees (inl this) = elim (same_number who v) [
        | inl own ↦ (opened, ap (with_at handles h (Some opened)) (sym this) ∙ here handles h (Some opened), own)
        | inr other ↦ absurd (unseen v j b rv (ap (opens v) this ∙ sym (λ i. there opens who (with_at (opens who) h (Some by)) v other i g) ∙ sees))
      ]
