-- A directory made, or renamed back: the sessions' own directories.
use Rattle.std.proofs.Common.{◌≡◌, ◌≢◌, ℕ, List, [], false, cond, refl, ap, sym, ◌∙◌, subst, None, Some, Option, IsSome, inl, inr, ◌⊎◌}
use Rattle.std.specs.Map.{lookup}
use Rattle.std.specs.BTreeMap.{is_at}
use Rattle.std.specs.Ordering.{is_eq}
use Rattle.std.specs.Cmp.{tied_itself}
use Rattle.inc_base.specs.declared.job.Job.{Job}
use Rattle.inc_fs.specs.State.{Text, Path, path_cmp, text_cmp, named}
use Rattle.inc_names.specs.declared.session.SessionName.{SessionName}
use Rattle.inc_names.specs.Entries.{working_text, final_text, lock_text}
use Rattle.inc_names.specs.EntryLaws.{same_working_text}
use Rattle.inc_laws.proofs.Texts.{final_no_working}
use Rattle.inc_proto.specs.Events.{Steps}
use Rattle.inc_laws.specs.Readings.{Maker, head_of, Site, site_of}
use Rattle.inc_laws.specs.Readings.Maker.{ByCreate}
use Rattle.inc_proto.specs.Views.{Dir, HasTried}
use Rattle.inc_proto.specs.declared.own.OwnLock.{OwnLock}
use Rattle.inc_proto.specs.declared.own.OwnLock.TheVariants.{Locked, Unlocked}
use Rattle.inc_proto.specs.Views.Dir.{Stands}
use Rattle.inc_proto.specs.Files.{Files}
use Rattle.inc_laws.specs.Parts.{FitsView, OwnDirKnown, NamesSole, DirsOwned, LocksSettled}
use Rattle.inc_laws.specs.Readings.Site.{Nowhere, At, Out}
use Rattle.inc_fs.specs.Points.{with_at, here, each, put_at, put_here, put_there}
use Rattle.inc_fs.specs.Lookups.{path_cmp_total, same_paths}
use Rattle.inc_laws.proofs.Mono.{OutStays, stay, none_some, same_grows}
use Rattle.inc_fs.specs.declared.op.Op.TheVariants.{MakeLock}
use Rattle.inc_laws.proofs.Own.{Owners, at_name, one_out, whose_final, at_same}
use Rattle.inc_laws.proofs.Others.{own_dir_calm}
use Rattle.inc_laws.proofs.InPlace.{some_same}
use Rattle.inc_laws.proofs.Backs.{was}

module _ {jobs : ℕ → Option Job} {names : ℕ → List SessionName} {sites : ℕ → Site} {drawn : List (ℕ × ℕ)} (folders : Text → Text → Option (List (Text × ℕ)))
    (o : Owners jobs names sites drawn) (who : ℕ) (krate : Text) (n : SessionName) (nowhere : sites who ≡ Nowhere) (called : head_of (names who) ≡ Some n) where
  abbrev sites_next : ℕ → Site
  sites_next = with_at sites who (At krate (working_text n))

  out_stays : OutStays sites sites_next
  out_stays v k e is = stay sites who _ (Out k e) v (λ is. let x = nowhere in cc) is

  pub made_own_dir : (files : Files) (runs : ℕ → Option Job) (owns : ℕ → OwnLock) (dirs : ℕ → Dir) (makers : ℕ → Option Maker) (bytes : ℕ → Option Text) → ((v : ℕ) → sites v ≡ site_of (dirs v))
      → OwnDirKnown files runs jobs owns sites dirs makers folders bytes
      → OwnDirKnown files runs jobs owns sites_next (with_at dirs who (Stands krate (working_text n) [])) makers (put_at folders krate (working_text n) (Some [])) bytes
  made_own_dir files runs owns dirs makers bytes same l v h k e known r locked = each dirs who (Stands krate (working_text n) [])
      (λ v d. IsSome (runs v) → owns v ≡ Locked h → d ≡ Stands k e known
      → (z : List (Text × ℕ)) × (put_at folders krate (working_text n) (Some []) k e ≡ Some z) × ((y : Text) → FitsView files jobs sites_next makers bytes v y (named y z) (lookup (is_at (text_cmp y)) known)))
      (λ v off r locked d. own_dir_calm files jobs bytes bytes who out_stays (same_grows makers) (λ g u is _. refl) runs o same l krate n (Some []) called v h k e known (λ is. off (sym is)) r locked d)
      (λ r locked d. mine (parts d)) v r locked
    where
      parts : Stands krate (working_text n) [] ≡ Stands k e known → (krate ≡ k) × (working_text n ≡ e) × ([] ≡ known)
      parts d = (cc, cc, cc)

      mine : (krate ≡ k) × (working_text n ≡ e) × ([] ≡ known) → (z : List (Text × ℕ)) × (put_at folders krate (working_text n) (Some []) k e ≡ Some z) × ((y : Text) → FitsView files jobs sites_next makers bytes who y (named y z) (lookup (is_at (text_cmp y)) known))
      mine p = (
        [],
        subst (λ (q : Path). put_at folders krate (working_text n) (Some []) q.0 q.1 ≡ Some []) (λ i. (p.0 i, p.1 i)) (put_here folders krate (working_text n) (Some [])),
        λ y. subst (λ known. FitsView files jobs sites_next makers bytes who y None (lookup (is_at (text_cmp y)) known)) p.2 tt,
      )

  pub made_sole : {makers : ℕ → Option Maker} → NamesSole sites makers folders → NamesSole sites_next makers (put_at folders krate (working_text n) (Some []))
  made_sole {makers} l v k e y z shown f at is m p q = go (same_paths (k, e) (krate, working_text n))
    where
      nothing : Some [] ≡ Some shown → named y shown ≡ Some f → ⊥
      nothing e p = none_some f (named y []) refl (ap (named y) (some_same [] shown e) ∙ p)

      apart : (krate ≡ k) × (working_text n ≡ e) → is_eq (path_cmp (k, e) (krate, working_text n)) ≡ false → ⊥
      apart same off =
          let t : is_eq (path_cmp (krate, working_text n) (krate, working_text n)) ≡ false = subst (λ (p : Path). is_eq (path_cmp p (krate, working_text n)) ≡ false) (λ i. (sym same.0 i, sym same.1 i)) off in
          let u = ap is_eq (tied_itself path_cmp_total (krate, working_text n)) in
          cc

      go : (◌≡◌ {A = Path} (k, e) (krate, working_text n)) ⊎ (is_eq (path_cmp (k, e) (krate, working_text n)) ≡ false) → y ≡ z
      go (inl at_it) = absurd (nothing (sym (put_here folders krate (working_text n) (Some [])) ∙ ap (λ (p : Path). put_at folders krate (working_text n) (Some []) p.0 p.1) (sym at_it) ∙ is) p)
      go (inr off) = each sites who (At krate (working_text n)) (λ v s. s ≡ At k e → makers f ≡ Some (ByCreate v) → y ≡ z)
          (λ v _ at m. l v k e y z shown f at (sym (ap (λ b. cond b (Some []) (folders k e)) off) ∙ is) m p q)
          (λ at m. absurd (apart (at_same krate (working_text n) k e at) off)) v at m

  pub made_settled : {owns : ℕ → OwnLock} {steps steps' : ℕ → Steps} (h : ℕ) → owns who ≡ Locked h → HasTried (MakeLock krate (lock_text n)) (steps' who)
      → ((k e : Text) (w : ℕ) → HasTried (MakeLock k e) (steps w) → HasTried (MakeLock k e) (steps' w)) → LocksSettled sites owns names steps → LocksSettled sites_next owns names steps'
  made_settled {owns} {steps} {steps'} h locked tried stays l = record {
    not_open = λ v g k e at. each sites who (At krate (working_text n)) (λ v s. s ≡ At k e → owns v ≢ Unlocked g) (λ v _ at. l.not_open v g k e at) (λ at is. cc) v at;
    has_tried = λ v k e m at c. each sites who (At krate (working_text n)) (λ v s. s ≡ At k e → head_of (names v) ≡ Some m → HasTried (MakeLock k (lock_text m)) (steps' v))
        (λ v _ at c. stays _ _ v (l.has_tried v k e m at c))
        (λ at c. subst (λ (q : Text × SessionName). HasTried (MakeLock q.0 (lock_text q.1)) (steps' who)) (pair (at_same krate (working_text n) k e at).0 (some_same n m (sym called ∙ c))) tried) v at c;
  }
    where
      pair : {a b : Text} {c d : SessionName} → a ≡ b → c ≡ d → ◌≡◌ {A = Text × SessionName} (a, c) (b, d)
      pair p q = λ i. (p i, q i)

-- renamed back
module _ {jobs : ℕ → Option Job} {names : ℕ → List SessionName} {sites : ℕ → Site} {drawn : List (ℕ × ℕ)} {folders : Text → Text → Option (List (Text × ℕ))}
    (o : Owners jobs names sites drawn) (l : DirsOwned sites folders) (krate : Text) (n : SessionName) (hash : ℕ) (folder : List (Text × ℕ))
    (stands : folders krate (final_text n hash) ≡ Some folder) where
  pub back_own_dir : (files : Files) (runs : ℕ → Option Job) (owns : ℕ → OwnLock) (dirs : ℕ → Dir) (makers : ℕ → Option Maker) (bytes : ℕ → Option Text) → ((v : ℕ) → sites v ≡ site_of (dirs v))
      → OwnDirKnown files runs jobs owns sites dirs makers folders bytes
      → OwnDirKnown files runs jobs owns sites dirs makers (put_at (put_at folders krate (working_text n) (Some folder)) krate (final_text n hash) None) bytes
  back_own_dir files runs owns dirs makers bytes same t v h k e known r locked d =
      let old = t v h k e known r locked d in
      let its = at_name o v k e (same v ∙ ap site_of d) in (
        old.0,
        put_there (put_at folders krate (working_text n) (Some folder)) krate (final_text n hash) None k e (λ is. final_no_working n its.1 hash (sym is ∙ its.5))
            ∙ elsewhere old.0 old.1 (same_paths (k, e) (krate, working_text n)),
        old.2,
      )
    where
      elsewhere : (z : List (Text × ℕ)) → folders k e ≡ Some z → (◌≡◌ {A = Path} (k, e) (krate, working_text n)) ⊎ (is_eq (path_cmp (k, e) (krate, working_text n)) ≡ false) → put_at folders krate (working_text n) (Some folder) k e ≡ Some z
      elsewhere z is (inl here) = absurd (l.apart krate n hash z folder (ap (λ (p : Path). folders p.0 p.1) (sym here) ∙ is) stands)
      elsewhere z is (inr off) = ap (λ b. cond b (Some folder) (folders k e)) off ∙ is

  pub back_sole : {makers : ℕ → Option Maker} → NamesSole sites makers folders → NamesSole sites makers (put_at (put_at folders krate (working_text n) (Some folder)) krate (final_text n hash) None)
  back_sole {makers} t v k e y z shown f at is m p q = go (was o l krate n hash folder stands k e shown is)
    where
      -- who has a directory under that working name didn't publish it
      not_both : (k ≡ krate) → (e ≡ working_text n) → ⊥
      not_both kp ep =
          let w = whose_final o krate n hash (l.whose krate (final_text n hash) folder stands) in
          let a : sites v ≡ At krate (working_text n) = at ∙ (λ i. At (kp i) (ep i)) in
          let its = at_name o v krate (working_text n) a in
          let same : w.0 ≡ v = one_out o w.0 v krate n hash w.1 (its.4 ∙ ap Some (sym (same_working_text n its.1 its.5))) in
          let out : sites v ≡ Out krate (final_text n hash) = subst (λ u. sites u ≡ Out krate (final_text n hash)) same w.1 in
          cc

      go : ((k ≡ krate) × (e ≡ working_text n) × (shown ≡ folder)) ⊎ ((folders k e ≡ Some shown) × (At k e ≢ At krate (final_text n hash))) → y ≡ z
      go (inl new) = absurd (not_both new.0 new.1)
      go (inr old) = t v k e y z shown f at old.0 m p q
