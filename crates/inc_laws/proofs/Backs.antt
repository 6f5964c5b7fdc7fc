-- A directory that is renamed back keeps the laws.
use Rattle.std.proofs.Common.{◌≡◌, ◌≢◌, ℕ, List, [], false, refl, ap, sym, ◌∙◌, subst, None, Some, Option, IsSome, inl, inr, ◌⊎◌}
use Rattle.std.specs.Ordering.{is_eq}
use Rattle.std.specs.Cmp.{tied_itself}
use Rattle.inc_base.specs.declared.job.Job.{Job}
use Rattle.inc_fs.specs.State.{Text, Path, path_cmp, named}
use Rattle.inc_names.specs.declared.session.SessionName.{SessionName}
use Rattle.inc_names.specs.Entries.{working_text, final_text, IsNewer}
use Rattle.inc_wire.specs.Forms.{job_hash_of}
use Rattle.inc_names.specs.EntryLaws.{same_final_name, same_working_text}
use Rattle.inc_laws.proofs.Texts.{final_no_working}
use Rattle.inc_laws.specs.Readings.{Maker, Site}
use Rattle.inc_laws.specs.Readings.Maker.{ByCreate}
use Rattle.inc_proto.specs.Files.{Files}
use Rattle.inc_laws.specs.Parts.{IsPublished, FilesPrivate, FinalsComplete, IsWhose, DirsOwned, PublishedStands}
use Rattle.inc_laws.specs.Readings.Site.{Nowhere, At, Gone, Out}
use Rattle.inc_fs.specs.Points.{put_at, each_path}
use Rattle.inc_fs.specs.Lookups.{path_cmp_total}
use Rattle.inc_laws.proofs.Mono.{none_some}
use Rattle.inc_laws.proofs.Own.{Owners, out_name, one_out, not_at, whose_final, at_same}

module _ {jobs : ℕ → Option Job} {names : ℕ → List SessionName} {sites : ℕ → Site} {drawn : List (ℕ × ℕ)} {folders : Text → Text → Option (List (Text × ℕ))}
    (o : Owners jobs names sites drawn) (l : DirsOwned sites folders) (krate : Text) (n : SessionName) (hash : ℕ) (folder : List (Text × ℕ))
    (stands : folders krate (final_text n hash) ≡ Some folder) where
  abbrev folders_back : Text → Text → Option (List (Text × ℕ))
  folders_back = put_at (put_at folders krate (working_text n) (Some folder)) krate (final_text n hash) None

  -- each directory afterwards is the one renamed, or was there before, under another path
  pub was : (k e : Text) (z : List (Text × ℕ)) → folders_back k e ≡ Some z → ((k ≡ krate) × (e ≡ working_text n) × (z ≡ folder)) ⊎ ((folders k e ≡ Some z) × (At k e ≢ At krate (final_text n hash)))
  was = each_path (put_at folders krate (working_text n) (Some folder)) krate (final_text n hash) None
      (λ k e found. (z : List (Text × ℕ)) → found ≡ Some z → ((k ≡ krate) × (e ≡ working_text n) × (z ≡ folder)) ⊎ ((folders k e ≡ Some z) × (At k e ≢ At krate (final_text n hash))))
      (λ k e off. each_path folders krate (working_text n) (Some folder)
      (λ k e found. is_eq (path_cmp (k, e) (krate, final_text n hash)) ≡ false → (z : List (Text × ℕ)) → found ≡ Some z → ((k ≡ krate) × (e ≡ working_text n) × (z ≡ folder)) ⊎ ((folders k e ≡ Some z) × (At k e ≢ At krate (final_text n hash))))
      (λ k e _ off z is. inr (is, apart k e off))
      (λ off z is. inl (refl, refl, some_same z folder is)) k e off)
      (λ z is. absurd (none_some z None refl is))
    where
      some_same : (x y : List (Text × ℕ)) → Some y ≡ Some x → x ≡ y
      some_same x y e = cc

      apart : (k e : Text) → is_eq (path_cmp (k, e) (krate, final_text n hash)) ≡ false → At k e ≢ At krate (final_text n hash)
      apart k e off is =
          let s = at_same k e krate (final_text n hash) is in
          let t : is_eq (path_cmp (krate, final_text n hash) (krate, final_text n hash)) ≡ false = subst (λ (p : Path). is_eq (path_cmp p (krate, final_text n hash)) ≡ false) (λ i. (s.0 i, s.1 i)) off in
          let u = ap is_eq (tied_itself path_cmp_total (krate, final_text n hash)) in
          cc

  -- who published it
  pub by : (v : ℕ) × (sites v ≡ Out krate (final_text n hash))
  by = whose_final o krate n hash (l.whose krate (final_text n hash) folder stands)

  pub back_dirs : DirsOwned sites folders_back
  back_dirs = record {
    whose = λ k e z is. whose k e z (was k e z is);
    apart = λ k m h x y a b. apart k m h x y (was k (working_text m) x a) (was k (final_text m h) y b);
  }
    where
      whose : (k e : Text) (z : List (Text × ℕ)) → ((k ≡ krate) × (e ≡ working_text n) × (z ≡ folder)) ⊎ ((folders k e ≡ Some z) × (At k e ≢ At krate (final_text n hash))) → IsWhose sites k e
      whose k e z (inl new) =
          let v = whose_final o krate n hash (l.whose krate (final_text n hash) folder stands) in
          (v.0, inr (inr (n, hash, new.1, v.1 ∙ (λ i. Out (sym new.0 i) (final_text n hash)))))
      whose k e z (inr old) = l.whose k e z old.0

      apart : (k : Text) (m : SessionName) (h : ℕ) (x y : List (Text × ℕ)) → ((k ≡ krate) × (working_text m ≡ working_text n) × (x ≡ folder)) ⊎ ((folders k (working_text m) ≡ Some x) × (At k (working_text m) ≢ At krate (final_text n hash)))
          → ((k ≡ krate) × (final_text m h ≡ working_text n) × (y ≡ folder)) ⊎ ((folders k (final_text m h) ≡ Some y) × (At k (final_text m h) ≢ At krate (final_text n hash))) → ⊥
      apart k m h x y a (inl b) = final_no_working m n h b.1
      apart k m h x y (inr a) (inr b) = l.apart k m h x y a.0 b.0
      apart k m h x y (inl a) (inr b) =
          let v = whose_final o krate n hash (l.whose krate (final_text n hash) folder stands) in
          let w = whose_final o k m h (l.whose k (final_text m h) y b.0) in
          let nv = out_name o v.0 krate (final_text n hash) v.1 in
          let same : w.0 ≡ v.0 = one_out o w.0 v.0 k m h w.1 (nv.4 ∙ ap Some (sym (same_final_name n nv.1 hash (job_hash_of nv.0) nv.5) ∙ sym (same_working_text m n a.1))) in
          let two : Out k (final_text m h) ≡ Out krate (final_text n hash) = sym w.1 ∙ ap sites same ∙ v.1 in
          b.1 (λ i. At (k_of (two i)) (e_of (two i)))
        where
          k_of : Site → Text
          k_of (Out k e) = k
          k_of (At k e) = k
          k_of Nowhere = []
          k_of Gone = []

          e_of : Site → Text
          e_of (Out k e) = e
          e_of (At k e) = e
          e_of Nowhere = []
          e_of Gone = []

  pub back_file_names : {makers : ℕ → Option Maker} → FilesPrivate sites makers folders → FilesPrivate sites makers folders_back
  back_file_names {makers} t k e x z f is found = go (was k e z is)
    where
      published : (v : ℕ) → IsPublished sites v ⊎ (sites v ≡ At krate (final_text n hash)) → IsPublished sites v
      published v (inl p) = p
      published v (inr a) = absurd (not_at o v krate n hash a)

      go : ((k ≡ krate) × (e ≡ working_text n) × (z ≡ folder)) ⊎ ((folders k e ≡ Some z) × (At k e ≢ At krate (final_text n hash))) → (v : ℕ) × (makers f ≡ Some (ByCreate v)) × (IsPublished sites v ⊎ (sites v ≡ At k e))
      go (inl new) = let s = t krate (final_text n hash) x folder f stands (sym (ap (named x) new.2) ∙ found) in (s.0, s.1, inl (published s.0 s.2))
      go (inr old) = t k e x z f old.0 found

  pub back_wholes : {files : Files} {bytes : ℕ → Option Text} → FinalsComplete files jobs sites folders bytes → FinalsComplete files jobs sites folders_back bytes
  back_wholes t k m h z is = elim (was k (final_text m h) z is) [
    | inl new ↦ absurd (final_no_working m n h new.1)
    | inr old ↦ t k m h z old.0
  ]

  -- a newer one was published
  pub back_newest : (u : ℕ) (newer : SessionName) (its : ℕ) → sites u ≡ Out krate (final_text newer its) → IsNewer newer n → PublishedStands sites folders → PublishedStands sites folders_back
  back_newest u newer its out after t w k m h is = elim (t w k m h is) [
    | inl s ↦ each_path (put_at folders krate (working_text n) (Some folder)) krate (final_text n hash) None
        (λ k e found. e ≡ final_text m h → IsSome (folders k e) → IsSome found ⊎ ((v : ℕ) × (a : SessionName) × (b : ℕ) × (sites v ≡ Out k (final_text a b)) × IsNewer a m))
        (λ k e _ same s. inl (each_path folders krate (working_text n) (Some folder) (λ k e found. IsSome (folders k e) → IsSome found) (λ k e _ s. s) (λ s. refl) k e s))
        (λ same s. inr (u, newer, its, out, subst (IsNewer newer) (same_final_name n m hash h same) after))
        k (final_text m h) refl s
    | inr v ↦ inr v
  ]
