-- A directory made keeps the laws.
use Rattle.std.proofs.Common.{◌≡◌, ◌≢◌, ℕ, List, [], ◌∷◌, refl, ap, sym, ◌∙◌, subst, None, Some, Option, IsSome, inl, inr, ◌⊎◌}
use Rattle.inc_base.specs.declared.job.Job.{Job}
use Rattle.inc_fs.specs.State.{Text, named}
use Rattle.inc_names.specs.declared.session.SessionName.{SessionName}
use Rattle.inc_names.specs.Entries.{working_text, final_text}
use Rattle.inc_names.specs.EntryLaws.{same_working_text}
use Rattle.inc_laws.proofs.Texts.{final_no_working}
use Rattle.inc_laws.specs.Readings.{Maker, head_of, Site}
use Rattle.inc_laws.specs.Readings.Maker.{ByCreate}
use Rattle.inc_proto.specs.Files.{Files}
use Rattle.inc_laws.specs.Parts.{IsNamed, OwnNames, IsPublished, FilesPrivate, FinalsComplete, IsWhose, DirsOwned, PublishedStands}
use Rattle.inc_laws.specs.Readings.Site.{Nowhere, At, Out}
use Rattle.inc_fs.specs.Points.{with_at, here, each, put_there, put_at, each_path}
use Rattle.inc_laws.proofs.Mono.{unstay, stay, none_some}
use Rattle.inc_laws.proofs.Own.{Owners, one_out, whose_final}

module _ {jobs : ℕ → Option Job} {names : ℕ → List SessionName} {sites : ℕ → Site} {drawn : List (ℕ × ℕ)} {folders : Text → Text → Option (List (Text × ℕ))}
    (o : Owners jobs names sites drawn) (l : DirsOwned sites folders)
    (who : ℕ) (job : Job) (n : SessionName) (nowhere : sites who ≡ Nowhere) (begun : jobs who ≡ Some job) (called : head_of (names who) ≡ Some n) where
  site_stays : (v : ℕ) (s : Site) → s ≢ Nowhere → sites v ≡ s → with_at sites who (At job.krate (working_text n)) v ≡ s
  site_stays v s not is = stay sites who (At job.krate (working_text n)) s v (λ e. not (sym e ∙ nowhere)) is

  pub made_own_names : OwnNames jobs names (with_at sites who (At job.krate (working_text n)))
  made_own_names = each sites who (At job.krate (working_text n)) (IsNamed jobs names) (λ v _. o.own v) (job, n, begun, refl, called, refl)

  whose_stays : (k e : Text) → IsWhose sites k e → IsWhose (with_at sites who (At job.krate (working_text n))) k e
  whose_stays k e w = (
    w.0,
    elim w.1 [
      | inl a ↦ inl (site_stays w.0 _ (λ e. cc) a)
      | inr rest ↦ elim rest [ inl a ↦ inr (inl (site_stays w.0 _ (λ e. cc) a)) | inr t ↦ inr (inr (t.0, t.1, t.2, site_stays w.0 _ (λ e. cc) t.3)) ]
    ],
  )

  pub made_dirs : folders job.krate (working_text n) ≡ None → DirsOwned (with_at sites who (At job.krate (working_text n))) (put_at folders job.krate (working_text n) (Some []))
  made_dirs none = record {
    whose = each_path folders job.krate (working_text n) (Some []) (λ k e found. (z : List (Text × ℕ)) → found ≡ Some z → IsWhose (with_at sites who (At job.krate (working_text n))) k e)
        (λ k e off z is. whose_stays k e (l.whose k e z is))
        (λ z is. (who, inl (here sites who (At job.krate (working_text n)))));
    apart = λ k m hash x y a b. go k m hash x y (was k (working_text m) x a) (was k (final_text m hash) y b);
  }
    where
      was : (k e : Text) (z : List (Text × ℕ)) → put_at folders job.krate (working_text n) (Some []) k e ≡ Some z → (folders k e ≡ Some z) ⊎ (e ≡ working_text n)
      was = each_path folders job.krate (working_text n) (Some []) (λ k e found. (z : List (Text × ℕ)) → found ≡ Some z → (folders k e ≡ Some z) ⊎ (e ≡ working_text n))
          (λ k e off z is. inl is) (λ z is. inr refl)

      go : (k : Text) (m : SessionName) (hash : ℕ) (x y : List (Text × ℕ)) → (folders k (working_text m) ≡ Some x) ⊎ (working_text m ≡ working_text n) → (folders k (final_text m hash) ≡ Some y) ⊎ (final_text m hash ≡ working_text n) → ⊥
      go k m hash x y a (inr b) = final_no_working m n hash b
      go k m hash x y (inl a) (inl b) = l.apart k m hash x y a b
      go k m hash x y (inr a) (inl b) =
          let v = whose_final o k m hash (l.whose k (final_text m hash) y b) in
          let same : v.0 ≡ who = one_out o v.0 who k m hash v.1 (called ∙ ap Some (sym (same_working_text m n a))) in
          let out : sites who ≡ Out k (final_text m hash) = subst (λ w. sites w ≡ Out k (final_text m hash)) same v.1 in
          cc

  pub made_newest : folders job.krate (working_text n) ≡ None → PublishedStands sites folders → PublishedStands (with_at sites who (At job.krate (working_text n))) (put_at folders job.krate (working_text n) (Some []))
  made_newest none t w k m hash is = elim (t w k m hash (unstay sites who (At job.krate (working_text n)) (Out k (final_text m hash)) w (λ e. cc) is)) [
    | inl s ↦ inl (each_path folders job.krate (working_text n) (Some []) (λ k e found. IsSome (folders k e) → IsSome found) (λ k e off s. s) (λ s. refl) k (final_text m hash) s)
    | inr v ↦ inr (v.0, v.1, v.2, site_stays v.0 _ (λ e. cc) v.3, v.4)
  ]

  pub made_file_names : {makers : ℕ → Option Maker} → FilesPrivate sites makers folders → FilesPrivate (with_at sites who (At job.krate (working_text n))) makers (put_at folders job.krate (working_text n) (Some []))
  made_file_names {makers} t k e x z f = each_path folders job.krate (working_text n) (Some [])
      (λ k e found. found ≡ Some z → named x z ≡ Some f → (v : ℕ) × (makers f ≡ Some (ByCreate v)) × (IsPublished (with_at sites who (At job.krate (working_text n))) v ⊎ (with_at sites who (At job.krate (working_text n)) v ≡ At k e)))
      (λ k e off is at. let s = t k e x z f is at in (
        s.0,
        s.1,
        elim s.2 [
          | inl out ↦ inl (out.0, out.1, site_stays s.0 _ (λ e. cc) out.2)
          | inr a ↦ inr (site_stays s.0 _ (λ e. cc) a)
        ],
      ))
      (λ is at. absurd (nothing z is at)) k e
    where
      nothing : (z : List (Text × ℕ)) → Some [] ≡ Some z → named x z ≡ Some f → ⊥
      nothing [] is at = none_some f None refl at
      nothing (y ∷ ys) is at = cc

  pub made_wholes : {files : Files} {bytes : ℕ → Option Text} → folders job.krate (working_text n) ≡ None → FinalsComplete files jobs sites folders bytes
      → FinalsComplete files jobs (with_at sites who (At job.krate (working_text n))) (put_at folders job.krate (working_text n) (Some [])) bytes
  made_wholes {files} {bytes} none t = λ k m hash z is. let w = t k m hash z (was k m hash z is) in (w.0, w.1, w.2, site_stays w.0 _ (λ e. cc) w.3, w.4, w.5, w.6)
    where
      was : (k : Text) (m : SessionName) (hash : ℕ) (z : List (Text × ℕ)) → put_at folders job.krate (working_text n) (Some []) k (final_text m hash) ≡ Some z → folders k (final_text m hash) ≡ Some z
      was k m hash z = sym_path (working_text n) (λ e. final_no_working m n hash e)
        where
          sym_path : (e : Text) → (final_text m hash ≡ e → ⊥) → put_at folders job.krate e (Some []) k (final_text m hash) ≡ Some z → folders k (final_text m hash) ≡ Some z
          sym_path e off h = sym (put_there folders job.krate e (Some []) k (final_text m hash) off) ∙ h
