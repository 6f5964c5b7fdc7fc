-- A publishing keeps the laws.
use Rattle.std.proofs.Common.{◌≡◌, ◌≢◌, ℕ, List, [], ◌∷◌, true, false, cond, refl, ap, sym, ◌∙◌, subst, None, Some, Option, IsSome, is_some, inl, inr, ◌⊎◌}
use Rattle.std.specs.Map.{lookup}
use Rattle.std.specs.BTreeMap.{is_at}
use Rattle.std.specs.Ordering.{is_eq}
use Rattle.std.specs.Cmp.{tied_itself}
use Rattle.inc_base.specs.declared.job.Job.{Job}
use Rattle.inc_fs.specs.State.{Text, Path, path_cmp, text_cmp, named}
use Rattle.inc_names.specs.declared.session.SessionName.{SessionName}
use Rattle.inc_names.specs.Entries.{working_text, final_text, IsNewer}
use Rattle.inc_wire.specs.Forms.{job_hash_of}
use Rattle.inc_names.specs.EntryLaws.{same_final_name}
use Rattle.inc_laws.proofs.Texts.{final_no_working}
use Rattle.inc_laws.specs.Readings.{Maker, head_of, Site, site_of}
use Rattle.inc_laws.specs.Readings.Maker.{ByCreate}
use Rattle.inc_proto.specs.declared.own.Known.{Known}
use Rattle.inc_proto.specs.Views.{Dir}
use Rattle.inc_proto.specs.declared.own.OwnLock.{OwnLock}
use Rattle.inc_proto.specs.declared.own.OwnLock.TheVariants.{Locked}
use Rattle.inc_proto.specs.Views.Dir.{Stands, Published}
use Rattle.inc_proto.specs.Files.{Files}
use Rattle.inc_laws.specs.Parts.{IsNamed, OwnNames, IsPublished, FitsView, OwnDirKnown, FilesPrivate, NamesSole, IsBytes, HoldsSet, FinalsComplete, IsWhose, DirsOwned, PublishedStands}
use Rattle.inc_laws.specs.Readings.Site.{At, Out}
use Rattle.inc_fs.specs.Points.{with_at, here, each, put_at, put_here, each_path, put_there}
use Rattle.inc_fs.specs.Lookups.{path_cmp_total}
use Rattle.inc_laws.proofs.Mono.{unstay, OutStays, stay, none_some, same_grows, fits_stay}
use Rattle.inc_proto.specs.Permits.{complete, with_bytes}
use Rattle.inc_laws.proofs.Own.{Owners, at_name, one_at, not_at, at_same}

-- the readings after: who, who had a directory under its working name, has it under its finalised one
module _ {jobs : ℕ → Option Job} {names : ℕ → List SessionName} {sites : ℕ → Site} {drawn : List (ℕ × ℕ)} {folders : Text → Text → Option (List (Text × ℕ))}
    (o : Owners jobs names sites drawn) (l : DirsOwned sites folders) (who : ℕ) (job : Job) (n : SessionName) (folder : List (Text × ℕ))
    (at : sites who ≡ At job.krate (working_text n)) (begun : jobs who ≡ Some job) (called : head_of (names who) ≡ Some n)
    (stands : folders job.krate (working_text n) ≡ Some folder) where
  abbrev final : Text
  final = final_text n (job_hash_of job)

  abbrev sites_next : ℕ → Site
  sites_next = with_at sites who (Out job.krate (final_text n (job_hash_of job)))

  abbrev folders_next : Text → Text → Option (List (Text × ℕ))
  folders_next = put_at (put_at folders job.krate (final_text n (job_hash_of job)) (Some folder)) job.krate (working_text n) None

  pub published_out : OutStays sites sites_next
  published_out v k e is = stay sites who _ (Out k e) v (λ e. cc) is

  pub published_own_names : OwnNames jobs names sites_next
  published_own_names = each sites who (Out job.krate (final_text n (job_hash_of job))) (IsNamed jobs names) (λ v _. o.own v) (job, n, begun, refl, called, refl)

  -- each directory afterwards is the published one, or was there before under the same path, which isn't the working one
  pub was : (k e : Text) (z : List (Text × ℕ)) → folders_next k e ≡ Some z → ((k ≡ job.krate) × (e ≡ final) × (z ≡ folder)) ⊎ ((folders k e ≡ Some z) × (At k e ≢ At job.krate (working_text n)))
  was = each_path (put_at folders job.krate final (Some folder)) job.krate (working_text n) None
      (λ k e found. (z : List (Text × ℕ)) → found ≡ Some z → ((k ≡ job.krate) × (e ≡ final) × (z ≡ folder)) ⊎ ((folders k e ≡ Some z) × (At k e ≢ At job.krate (working_text n))))
      (λ k e off. each_path folders job.krate final (Some folder)
      (λ k e found. is_eq (path_cmp (k, e) (job.krate, working_text n)) ≡ false → (z : List (Text × ℕ)) → found ≡ Some z → ((k ≡ job.krate) × (e ≡ final) × (z ≡ folder)) ⊎ ((folders k e ≡ Some z) × (At k e ≢ At job.krate (working_text n))))
      (λ k e _ off z is. inr (is, apart k e off))
      (λ off z is. inl (refl, refl, some_same z folder is)) k e off)
      (λ z is. absurd (none_some z None refl is))
    where
      some_same : (x y : List (Text × ℕ)) → Some y ≡ Some x → x ≡ y
      some_same x y e = cc

      apart : (k e : Text) → is_eq (path_cmp (k, e) (job.krate, working_text n)) ≡ false → At k e ≢ At job.krate (working_text n)
      apart k e off is =
          let s = at_same k e job.krate (working_text n) is in
          let t : is_eq (path_cmp (job.krate, working_text n) (job.krate, working_text n)) ≡ false = subst (λ (p : Path). is_eq (path_cmp p (job.krate, working_text n)) ≡ false) (λ i. (s.0 i, s.1 i)) off in
          let u = ap is_eq (tied_itself path_cmp_total (job.krate, working_text n)) in
          cc

  pub published_dirs : DirsOwned sites_next folders_next
  published_dirs = record {
    whose = λ k e z is. whose k e z (was k e z is);
    apart = λ k m hash x y a b. apart k m hash x y (was k (working_text m) x a) (was k (final_text m hash) y b);
  }
    where
      whose : (k e : Text) (z : List (Text × ℕ)) → ((k ≡ job.krate) × (e ≡ final) × (z ≡ folder)) ⊎ ((folders k e ≡ Some z) × (At k e ≢ At job.krate (working_text n))) → IsWhose sites_next k e
      whose k e z (inl new) = (who, inr (inl (here sites who (Out job.krate final) ∙ (λ i. Out (sym new.0 i) (sym new.1 i)))))
      whose k e z (inr old) =
          let w = l.whose k e z old.0 in (
            w.0,
            elim w.1 [
              | inl a ↦ inl (stay sites who _ (At k e) w.0 (λ is. old.1 (sym is ∙ at)) a)
              | inr rest ↦ elim rest [ inl a ↦ inr (inl (published_out w.0 _ _ a)) | inr t ↦ inr (inr (t.0, t.1, t.2, published_out w.0 _ _ t.3)) ]
            ],
          )

      apart : (k : Text) (m : SessionName) (hash : ℕ) (x y : List (Text × ℕ)) → ((k ≡ job.krate) × (working_text m ≡ final) × (x ≡ folder)) ⊎ ((folders k (working_text m) ≡ Some x) × (At k (working_text m) ≢ At job.krate (working_text n)))
          → ((k ≡ job.krate) × (final_text m hash ≡ final) × (y ≡ folder)) ⊎ ((folders k (final_text m hash) ≡ Some y) × (At k (final_text m hash) ≢ At job.krate (working_text n))) → ⊥
      apart k m hash x y (inl a) b = final_no_working n m (job_hash_of job) (sym a.1)
      apart k m hash x y (inr a) (inl b) = a.1 (λ i. At (b.0 i) (working_text ((same_final_name m n hash (job_hash_of job) b.1) i)))
      apart k m hash x y (inr a) (inr b) = l.apart k m hash x y a.0 b.0

  pub published_file_names : {makers : ℕ → Option Maker} → FilesPrivate sites makers folders → FilesPrivate sites_next makers folders_next
  published_file_names {makers} t k e x z f is found = go (was k e z is)
    where
      kept : (v : ℕ) (k e : Text) → IsPublished sites v ⊎ (sites v ≡ At k e) → (At k e ≢ At job.krate (working_text n)) → IsPublished sites_next v ⊎ (sites_next v ≡ At k e)
      kept v k e (inl p) off = inl (p.0, p.1, published_out v _ _ p.2)
      kept v k e (inr a) off = inr (stay sites who _ (At k e) v (λ is. off (sym is ∙ at)) a)

      moved : (v : ℕ) → IsPublished sites v ⊎ (sites v ≡ At job.krate (working_text n)) → IsPublished sites_next v
      moved v (inl p) = (p.0, p.1, published_out v _ _ p.2)
      moved v (inr a) = (job.krate, final, subst (λ w. sites_next w ≡ Out job.krate final) (sym (one_at o v who job.krate n a called)) (here sites who (Out job.krate final)))

      go : ((k ≡ job.krate) × (e ≡ final) × (z ≡ folder)) ⊎ ((folders k e ≡ Some z) × (At k e ≢ At job.krate (working_text n))) → (v : ℕ) × (makers f ≡ Some (ByCreate v)) × (IsPublished sites_next v ⊎ (sites_next v ≡ At k e))
      go (inl new) = let s = t job.krate (working_text n) x folder f stands (sym (ap (named x) new.2) ∙ found) in (s.0, s.1, inl (moved s.0 s.2))
      go (inr old) = let s = t k e x z f old.0 found in (s.0, s.1, kept s.0 k e s.2 old.1)

  pub published_newest : folders job.krate final ≡ None → PublishedStands sites folders → PublishedStands sites_next folders_next
  published_newest none t w k m hash = each sites who (Out job.krate final) (λ w s. s ≡ Out k (final_text m hash) → Stays w) old new w
    where
      Stays : ℕ → Type 0
      Stays w = IsSome (folders_next k (final_text m hash)) ⊎ ((v : ℕ) × (u : SessionName) × (newer : ℕ) × (sites_next v ≡ Out k (final_text u newer)) × IsNewer u m)

      up : IsSome (put_at folders job.krate final (Some folder) k (final_text m hash)) → IsSome (folders_next k (final_text m hash))
      up s = subst IsSome (sym (put_there (put_at folders job.krate final (Some folder)) job.krate (working_text n) None k (final_text m hash) (λ e. final_no_working m n hash e))) s

      old : (v : ℕ) → who ≢ v → sites v ≡ Out k (final_text m hash) → Stays v
      old v _ is = elim (t v k m hash is) [
        | inl s ↦ inl (up (each_path folders job.krate final (Some folder) (λ k e found. IsSome (folders k e) → IsSome found) (λ k e off s. s) (λ s. refl) k (final_text m hash) s))
        | inr u ↦ inr (u.0, u.1, u.2, published_out u.0 _ _ u.3, u.4)
      ]

      new : Out job.krate final ≡ Out k (final_text m hash) → Stays who
      new is =
          let s : (job.krate ≡ k) × (final ≡ final_text m hash) = (cc, cc) in
          inl (up (subst (λ (p : Path). IsSome (put_at folders job.krate final (Some folder) p.0 p.1)) (λ i. (s.0 i, s.1 i)) (ap is_some (put_here folders job.krate final (Some folder)))))

  pub published_sole : {makers : ℕ → Option Maker} → NamesSole sites makers folders → NamesSole sites_next makers folders_next
  published_sole {makers} t v k e x y z f av is mk p q = go (was k e z is)
    where
      before : sites v ≡ At k e
      before = unstay sites who (Out job.krate final) (At k e) v (λ e. cc) av

      go : ((k ≡ job.krate) × (e ≡ final) × (z ≡ folder)) ⊎ ((folders k e ≡ Some z) × (At k e ≢ At job.krate (working_text n))) → x ≡ y
      go (inl new) = absurd (not_at o v k n (job_hash_of job) (before ∙ (λ i. At k (new.1 i))))
      go (inr old) = t v k e x y z f before old.0 mk p q

  pub published_wholes : {files : Files} {bytes : ℕ → Option Text} (set : List (Text × Text)) → files job ≡ Some set → HoldsSet bytes folder set → FinalsComplete files jobs sites folders bytes → FinalsComplete files jobs sites_next folders_next bytes
  published_wholes {files} {bytes} set given whole t k m hash z is = go (was k (final_text m hash) z is)
    where
      go : ((k ≡ job.krate) × (final_text m hash ≡ final) × (z ≡ folder)) ⊎ ((folders k (final_text m hash) ≡ Some z) × (At k (final_text m hash) ≢ At job.krate (working_text n)))
          → (w : ℕ) × (j : Job) × (s : List (Text × Text)) × (sites_next w ≡ Out k (final_text m hash)) × (jobs w ≡ Some j) × (files j ≡ Some s) × HoldsSet bytes z s
      go (inl new) = (who, job, set, here sites who (Out job.krate final) ∙ (λ i. Out (sym new.0 i) (sym new.1 i)), begun, given, subst (λ z. HoldsSet bytes z set) (sym new.2) whole)
      go (inr old) = let w = t k m hash z old.0 in (w.0, w.1, w.2, published_out w.0 _ _ w.3, w.4, w.5, w.6)

  pub published_own_dir : (files : Files) (runs : ℕ → Option Job) (owns : ℕ → OwnLock) (dirs : ℕ → Dir) (makers : ℕ → Option Maker) (bytes : ℕ → Option Text) (its : List (Text × Known)) → ((v : ℕ) → sites v ≡ site_of (dirs v))
      → OwnDirKnown files runs jobs owns sites dirs makers folders bytes → OwnDirKnown files runs jobs owns sites_next (with_at dirs who (Published job.krate final its)) makers folders_next bytes
  published_own_dir files runs owns dirs makers bytes its same t v h k e known r locked = each dirs who (Published job.krate final its)
      (λ v d. IsSome (runs v) → owns v ≡ Locked h → d ≡ Stands k e known → (z : List (Text × ℕ)) × (folders_next k e ≡ Some z) × ((y : Text) → FitsView files jobs sites_next makers bytes v y (named y z) (lookup (is_at (text_cmp y)) known)))
      (λ v off r locked d.
      let old = t v h k e known r locked d in
      let name = at_name o v k e (same v ∙ ap site_of d) in (
        old.0,
        put_there (put_at folders job.krate final (Some folder)) job.krate (working_text n) None k e (λ is. off (sym (one_at o v who k n (same v ∙ ap site_of d ∙ ap (At k) is) called)))
            ∙ put_there folders job.krate final (Some folder) k e (λ is. final_no_working n name.1 (job_hash_of job) (sym is ∙ name.5)) ∙ old.1,
        λ y. fits_stay files bytes bytes (same_grows jobs) published_out (same_grows makers) v y _ _ (λ f _. refl) (old.2 y),
      ))
      (λ r locked d. cc) v r locked

-- what a complete view knows of a name is what the set has
abbrev pub Matches : Option Known → Option Text → Type 0
Matches None found = found ≡ None
Matches (Some known) found = IsSome found × (known.bytes ≡ found)

known_lookup : (x : Text) (names : List (Text × Known)) (set : List (Text × Text)) → complete names ≡ Some set → Matches (lookup (is_at (text_cmp x)) names) (lookup (is_at (text_cmp x)) set)
known_lookup x [] [] is = refl
known_lookup x [] (y ∷ set) is = cc
known_lookup x (y ∷ names) set is = go (known_lookup x names) y.1.bytes refl (complete names) refl is
  where
    go : ((set : List (Text × Text)) → complete names ≡ Some set → Matches (lookup (is_at (text_cmp x)) names) (lookup (is_at (text_cmp x)) set))
        → (b : Option Text) → y.1.bytes ≡ b → (rest : Option (List (Text × Text))) → complete names ≡ rest → with_bytes y.0 b rest ≡ Some set
        → Matches (cond (is_eq (text_cmp x y.0)) (Some y.1) (lookup (is_at (text_cmp x)) names)) (lookup (is_at (text_cmp x)) set)
    go ih None b rest r e = absurd (none_some set None refl e)
    go ih (Some t) b None r e = absurd (none_some set None refl e)
    go ih (Some t) b (Some rest) r e =
        let whole : (y.0, t) ∷ rest ≡ set = cc in
        subst (λ set. Matches (cond (is_eq (text_cmp x y.0)) (Some y.1) (lookup (is_at (text_cmp x)) names)) (lookup (is_at (text_cmp x)) set)) whole
        (elim (is_eq (text_cmp x y.0)) as (λ c. Matches (cond c (Some y.1) (lookup (is_at (text_cmp x)) names)) (cond c (Some t) (lookup (is_at (text_cmp x)) rest))) [
          | true ↦ (refl, b)
          | false ↦ ih rest r
        ])

module _ (files : Files) (jobs : ℕ → Option Job) (sites : ℕ → Site) (makers : ℕ → Option Maker) (bytes : ℕ → Option Text) (who : ℕ) where
  fits_whole : (x : Text) (found : Option ℕ) (known : Option Known) (b : Option Text) → FitsView files jobs sites makers bytes who x found known → Matches known b → IsBytes bytes found b
  fits_whole x None None b f m = m
  fits_whole x None (Some known) b f m = absurd f
  fits_whole x (Some g) None b f m = absurd f
  fits_whole x (Some g) (Some known) None f m = cc
  fits_whole x (Some g) (Some known) (Some t) f m = (refl, f.0 t m.1)

  -- a session that knows all of its directory has the whole set there
  pub published_whole : (folder : List (Text × ℕ)) (names : List (Text × Known)) (set : List (Text × Text)) → complete names ≡ Some set
      → ((x : Text) → FitsView files jobs sites makers bytes who x (named x folder) (lookup (is_at (text_cmp x)) names)) → HoldsSet bytes folder set
  published_whole folder names set is f = λ x. fits_whole x _ _ _ (f x) (known_lookup x names set is)
