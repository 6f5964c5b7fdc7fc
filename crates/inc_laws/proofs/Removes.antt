-- A directory removed keeps the laws.
use Rattle.std.proofs.Common.{◌≡◌, ◌≢◌, ℕ, List, false, refl, ap, sym, ◌∙◌, subst, None, Some, Option, IsSome, inl, inr}
use Rattle.std.specs.Ordering.{is_eq}
use Rattle.std.specs.Cmp.{tied_itself}
use Rattle.inc_base.specs.declared.job.Job.{Job}
use Rattle.inc_fs.specs.State.{Text, Path, path_cmp}
use Rattle.inc_names.specs.declared.session.SessionName.{SessionName}
use Rattle.inc_names.specs.Entries.{working_text, final_text}
use Rattle.inc_laws.proofs.Texts.{final_no_working}
use Rattle.inc_laws.specs.Readings.{Maker, Site}
use Rattle.inc_proto.specs.declared.own.Known.{Known}
use Rattle.inc_proto.specs.Views.{Dir}
use Rattle.inc_proto.specs.declared.own.OwnLock.{OwnLock}
use Rattle.inc_proto.specs.declared.own.OwnLock.TheVariants.{Locked}
use Rattle.inc_proto.specs.Views.Dir.{Stands}
use Rattle.inc_proto.specs.Files.{Files}
use Rattle.inc_laws.specs.Parts.{OwnDirKnown, FilesPrivate, NamesSole, FinalsComplete, IsWhose, DirsOwned, PublishedStands}
use Rattle.inc_laws.specs.Readings.Site.{At}
use Rattle.inc_fs.specs.Points.{put_at, each_path, put_there}
use Rattle.inc_fs.specs.Lookups.{path_cmp_total}
use Rattle.inc_laws.proofs.Mono.{OutStays, none_some, same_grows, fits_stay}
use Rattle.inc_laws.proofs.Own.{at_same}

-- the sites after: who removed its own directory has none; else they are as before
module _ {sites sites' : ℕ → Site} (folders : Text → Text → Option (List (Text × ℕ))) (krate : Text) (n : SessionName)
    (kept : (v : ℕ) (k e : Text) → sites v ≡ At k e → At k e ≢ At krate (working_text n) → sites' v ≡ At k e)
    (out : OutStays sites sites') (out_before : OutStays sites' sites) (at_before : (v : ℕ) (k e : Text) → sites' v ≡ At k e → sites v ≡ At k e) where
  abbrev folders_next : Text → Text → Option (List (Text × ℕ))
  folders_next = put_at folders krate (working_text n) None

  was : (k e : Text) (z : List (Text × ℕ)) → folders_next k e ≡ Some z → (folders k e ≡ Some z) × (At k e ≢ At krate (working_text n))
  was = each_path folders krate (working_text n) None (λ k e found. (z : List (Text × ℕ)) → found ≡ Some z → (folders k e ≡ Some z) × (At k e ≢ At krate (working_text n)))
      (λ k e off z is. (is, λ same. apart k e (at_same k e krate (working_text n) same) off)) (λ z is. absurd (none_some z None refl is))
    where
      apart : (k e : Text) → (k ≡ krate) × (e ≡ working_text n) → is_eq (path_cmp (k, e) (krate, working_text n)) ≡ false → ⊥
      apart k e same off =
          let t : is_eq (path_cmp (krate, working_text n) (krate, working_text n)) ≡ false = subst (λ (p : Path). is_eq (path_cmp p (krate, working_text n)) ≡ false) (λ i. (same.0 i, same.1 i)) off in
          let u = ap is_eq (tied_itself path_cmp_total (krate, working_text n)) in
          cc

  pub removed_dirs : DirsOwned sites folders → DirsOwned sites' folders_next
  removed_dirs l = record {
    whose = λ k e z is. whose k e (was k e z is).1 (l.whose k e z (was k e z is).0);
    apart = λ k m hash x y a b. l.apart k m hash x y (was k (working_text m) x a).0 (was k (final_text m hash) y b).0;
  }
    where
      whose : (k e : Text) → At k e ≢ At krate (working_text n) → IsWhose sites k e → IsWhose sites' k e
      whose k e off w = (
        w.0,
        elim w.1 [
          | inl a ↦ inl (kept w.0 k e a off)
          | inr rest ↦ elim rest [ inl a ↦ inr (inl (out w.0 _ _ a)) | inr t ↦ inr (inr (t.0, t.1, t.2, out w.0 _ _ t.3)) ]
        ],
      )

  pub removed_file_names : {makers : ℕ → Option Maker} → FilesPrivate sites makers folders → FilesPrivate sites' makers folders_next
  removed_file_names t k e x z f is at =
      let s = t k e x z f (was k e z is).0 at in
      (s.0, s.1, elim s.2 [ inl p ↦ inl (p.0, p.1, out s.0 _ _ p.2) | inr a ↦ inr (kept s.0 k e a (was k e z is).1) ])

  pub removed_sole : {makers : ℕ → Option Maker} → NamesSole sites makers folders → NamesSole sites' makers folders_next
  removed_sole t v k e x y z f at is m p q = t v k e x y z f (at_before v k e at) (was k e z is).0 m p q

  pub removed_wholes : {files : Files} {jobs : ℕ → Option Job} {bytes : ℕ → Option Text} → FinalsComplete files jobs sites folders bytes → FinalsComplete files jobs sites' folders_next bytes
  removed_wholes t k m hash z is = let w = t k m hash z (was k (final_text m hash) z is).0 in (w.0, w.1, w.2, out w.0 _ _ w.3, w.4, w.5, w.6)

  pub removed_newest : PublishedStands sites folders → PublishedStands sites' folders_next
  removed_newest t w k m hash is = elim (t w k m hash (out_before w _ _ is)) [
    | inl s ↦ inl (subst IsSome (sym (put_there folders krate (working_text n) None k (final_text m hash) (λ e. final_no_working m n hash e))) s)
    | inr v ↦ inr (v.0, v.1, v.2, out v.0 _ _ v.3, v.4)
  ]

  -- no session has its own directory there any more
  pub removed_own_dir : (files : Files) (runs jobs : ℕ → Option Job) (owns : ℕ → OwnLock) (dirs dirs' : ℕ → Dir) (makers : ℕ → Option Maker) (bytes : ℕ → Option Text)
      → ((v h : ℕ) (k e : Text) (known : List (Text × Known)) → IsSome (runs v) → owns v ≡ Locked h → dirs' v ≡ Stands k e known → (dirs v ≡ Stands k e known) × (At k e ≢ At krate (working_text n)))
      → OwnDirKnown files runs jobs owns sites dirs makers folders bytes → OwnDirKnown files runs jobs owns sites' dirs' makers folders_next bytes
  removed_own_dir files runs jobs owns dirs dirs' makers bytes before t v h k e known r locked d =
      let b = before v h k e known r locked d in
      let old = t v h k e known r locked b.0 in
      (old.0, elsewhere b.1 ∙ old.1, λ y. fits_stay files bytes bytes (same_grows jobs) out (same_grows makers) v y _ _ (λ f _. refl) (old.2 y))
    where
      elsewhere : At k e ≢ At krate (working_text n) → folders_next k e ≡ folders k e
      elsewhere off = each_path folders krate (working_text n) None (λ k e found. At k e ≢ At krate (working_text n) → found ≡ folders k e) (λ k e _ _. refl) (λ off. absurd (off refl)) k e off
