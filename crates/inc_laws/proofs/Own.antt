-- Whose a directory is.
use Rattle.std.proofs.Common.{◌≡◌, ℕ, List, [], ◌∷◌, refl, ap, sym, ◌∙◌, subst, None, Some, Option, inl, inr}
use Rattle.inc_base.specs.declared.job.Job.{Job}
use Rattle.inc_fs.specs.State.{Text, IsIn}
use Rattle.inc_names.specs.declared.session.SessionName.{SessionName}
use Rattle.inc_names.specs.Entries.{working_text, final_text}
use Rattle.inc_wire.specs.Forms.{job_hash_of}
use Rattle.inc_names.specs.EntryLaws.{same_final_name, same_working_text}
use Rattle.inc_laws.proofs.Texts.{final_no_working}
use Rattle.inc_laws.specs.Readings.{head_of, Site}
use Rattle.inc_laws.specs.Parts.{IsNamed, OwnNames, DrawnOnce, IsWhose, DirsOwned}
use Rattle.inc_laws.specs.Readings.Site.{At, Out}
use Rattle.inc_fs.specs.Points.{put_at, each_path}
use Rattle.inc_laws.proofs.Mono.{none_some}

pub head_in : (xs : List SessionName) (n : SessionName) → head_of xs ≡ Some n → IsIn xs n
head_in [] n h = absurd (none_some n (head_of []) refl h)
head_in (x ∷ xs) n h = inl (some_same x n h)
  where
    some_same : (x n : SessionName) → Some x ≡ Some n → x ≡ n
    some_same x n e = cc

pub at_same : (k e k' e' : Text) → At k e ≡ At k' e' → (k ≡ k') × (e ≡ e')
at_same k e k' e' h = (cc, cc)

pub record Owners (jobs : ℕ → Option Job) (names : ℕ → List SessionName) (sites : ℕ → Site) (drawn : List (ℕ × ℕ)) : Type 0 where
  pub own : OwnNames jobs names sites
  pub once : DrawnOnce names drawn

module _ {jobs : ℕ → Option Job} {names : ℕ → List SessionName} {sites : ℕ → Site} {drawn : List (ℕ × ℕ)} (o : Owners jobs names sites drawn) where
  pub at_name : (v : ℕ) (k e : Text) → sites v ≡ At k e → (job : Job) × (n : SessionName) × (jobs v ≡ Some job) × (k ≡ job.krate) × (head_of (names v) ≡ Some n) × (e ≡ working_text n)
  at_name v k e is = subst (IsNamed jobs names v) is (o.own v)

  pub out_name : (v : ℕ) (k e : Text) → sites v ≡ Out k e → (job : Job) × (n : SessionName) × (jobs v ≡ Some job) × (k ≡ job.krate) × (head_of (names v) ≡ Some n) × (e ≡ final_text n (job_hash_of job))
  out_name v k e is = subst (IsNamed jobs names v) is (o.own v)

  -- one session at most has a directory of a name
  pub one_at : (v w : ℕ) (k : Text) (n : SessionName) → sites v ≡ At k (working_text n) → head_of (names w) ≡ Some n → v ≡ w
  one_at v w k n a b =
      let x = at_name v k (working_text n) a in
      o.once.once v w n (head_in (names v) n (x.4 ∙ ap Some (sym (same_working_text n x.1 x.5)))) (head_in (names w) n b)

  pub one_out : (v w : ℕ) (k : Text) (n : SessionName) (hash : ℕ) → sites v ≡ Out k (final_text n hash) → head_of (names w) ≡ Some n → v ≡ w
  one_out v w k n hash a b =
      let x = out_name v k (final_text n hash) a in
      o.once.once v w n (head_in (names v) n (x.4 ∙ ap Some (sym (same_final_name n x.1 hash (job_hash_of x.0) x.5)))) (head_in (names w) n b)

  -- no finalised name is a working directory's
  pub not_at : (v : ℕ) (k : Text) (n : SessionName) (hash : ℕ) → sites v ≡ At k (final_text n hash) → ⊥
  not_at v k n hash a = let x = at_name v k (final_text n hash) a in final_no_working n x.1 hash x.5

  -- a directory under a finalised name was published under it
  pub whose_final : (k : Text) (n : SessionName) (hash : ℕ) → IsWhose sites k (final_text n hash) → (v : ℕ) × (sites v ≡ Out k (final_text n hash))
  whose_final k n hash w = elim w.1 [
    | inl a ↦ absurd (not_at w.0 k n hash a)
    | inr rest ↦ elim rest [ inl is ↦ (w.0, is) | inr t ↦ absurd (final_no_working n t.0 hash t.2) ]
  ]

-- the laws where only the files of directories change, or directories go
module _ {sites : ℕ → Site} {folders folders' : Text → Text → Option (List (Text × ℕ))}
    (fewer : (k e : Text) (z : List (Text × ℕ)) → folders' k e ≡ Some z → (y : List (Text × ℕ)) × (folders k e ≡ Some y)) where
  pub dirs_fewer : DirsOwned sites folders → DirsOwned sites folders'
  dirs_fewer l = record {
    whose = λ k e z is. let y = fewer k e z is in l.whose k e y.0 y.1;
    apart = λ k n hash x y a b. let p = fewer k (working_text n) x a in let q = fewer k (final_text n hash) y b in l.apart k n hash p.0 q.0 p.1 q.1;
  }

module _ (folders : Text → Text → Option (List (Text × ℕ))) (krate entry : Text) where
  -- a directory in its place
  pub fewer_put : (old new : List (Text × ℕ)) → folders krate entry ≡ Some old → (k e : Text) (z : List (Text × ℕ)) → put_at folders krate entry (Some new) k e ≡ Some z → (y : List (Text × ℕ)) × (folders k e ≡ Some y)
  fewer_put old new is = each_path folders krate entry (Some new) (λ k e found. (z : List (Text × ℕ)) → found ≡ Some z → (y : List (Text × ℕ)) × (folders k e ≡ Some y))
      (λ k e off z h. (z, h)) (λ z h. (old, is))

  pub fewer_cut : (k e : Text) (z : List (Text × ℕ)) → put_at folders krate entry None k e ≡ Some z → (y : List (Text × ℕ)) × (folders k e ≡ Some y)
  fewer_cut = each_path folders krate entry None (λ k e found. (z : List (Text × ℕ)) → found ≡ Some z → (y : List (Text × ℕ)) × (folders k e ≡ Some y))
      (λ k e off z h. (z, h)) (λ z h. absurd (none_some z None refl h))
