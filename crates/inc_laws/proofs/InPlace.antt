-- Steps that change a directory in its place.
use Rattle.std.proofs.Common.{◌≡◌, ◌≢◌, ℕ, List, [], false, refl, ap, sym, ◌∙◌, subst, None, Some, Option, IsSome, inl, inr, ◌⊎◌}
use Rattle.std.specs.Map.{lookup, set_value}
use Rattle.std.proofs.lemmas.Map.{lookup-set_value}
use Rattle.std.proofs.lemmas.Bool.{true≢false}
use Rattle.std.specs.Cmp.{tied_itself, eq_by_cmp_equiv}
use Rattle.std.specs.Prelude.{true, cond, is_some}
use Rattle.std.specs.BTreeMap.{insert_entry, is_at}
use Rattle.std.specs.Ordering.{is_eq}
use Rattle.std.specs.Cmp.Lexicographic.{nat_list_cmp_total}
use Rattle.inc_base.specs.declared.job.Job.{Job}
use Rattle.inc_fs.specs.State.{Text, text_cmp, named}
use Rattle.inc_names.specs.declared.session.SessionName.{SessionName}
use Rattle.inc_names.specs.Entries.{working_text, final_text}
use Rattle.inc_laws.proofs.Texts.{final_no_working}
use Rattle.inc_laws.specs.Readings.{Maker, head_of, Site, site_of}
use Rattle.inc_laws.specs.Readings.Maker.{ByCreate}
use Rattle.inc_proto.specs.declared.own.Known.{Known}
use Rattle.inc_proto.specs.Views.{Dir, read_as, read_by}
use Rattle.inc_proto.specs.declared.own.OwnLock.{OwnLock}
use Rattle.inc_proto.specs.Views.Dir.{Stands}
use Rattle.inc_proto.specs.Files.{Files}
use Rattle.inc_laws.specs.Parts.{IsPublished, FitsView, OwnDirKnown, FilesPrivate, NamesSole, FinalsComplete, PublishedStands}
use Rattle.inc_laws.specs.Readings.Site.{At}
use Rattle.inc_fs.specs.Points.{with_at, here, there, put_at, each_path, put_there}
use Rattle.inc_fs.specs.Lookups.{lookup_here, lookup_there, same_texts}
use Rattle.inc_laws.proofs.Mono.{Grows, grows_at, none_some, same_out}
use Rattle.inc_laws.proofs.Own.{Owners}
use Rattle.inc_laws.proofs.Others.{own_dir_step, fits_all, wholes_calm}

pub some_same : {X : Type 0} (x y : X) → Some x ≡ Some y → x ≡ y
some_same x y e = cc

-- Laws on names in directories, where one directory changes.
module _ {sites : ℕ → Site} {makers makers' : ℕ → Option Maker} (folders : Text → Text → Option (List (Text × ℕ))) (krate entry : Text) (new : List (Text × ℕ)) (grow : Grows makers makers') where
  pub file_names_put : ((y : Text) (f : ℕ) → named y new ≡ Some f → (v : ℕ) × (makers' f ≡ Some (ByCreate v)) × (IsPublished sites v ⊎ (sites v ≡ At krate entry)))
      → FilesPrivate sites makers folders → FilesPrivate sites makers' (put_at folders krate entry (Some new))
  file_names_put this t k e x z f = each_path folders krate entry (Some new)
      (λ k e found. found ≡ Some z → named x z ≡ Some f → (v : ℕ) × (makers' f ≡ Some (ByCreate v)) × (IsPublished sites v ⊎ (sites v ≡ At k e)))
      (λ k e off is at. let s = t k e x z f is at in (s.0, grow _ _ s.1, s.2))
      (λ is at. this x f (ap (named x) (some_same new z is) ∙ at)) k e

  pub newest_put : PublishedStands sites folders → PublishedStands sites (put_at folders krate entry (Some new))
  newest_put t w k m hash is = elim (t w k m hash is) [
    | inl s ↦ inl (each_path folders krate entry (Some new) (λ k e found. IsSome (folders k e) → IsSome found) (λ k e off s. s) (λ s. refl) k (final_text m hash) s)
    | inr v ↦ inr v
  ]

-- the names of a directory with one more
module _ {V : Type 0} (names : List (Text × V)) (x : Text) (v : V) where
  pub more : (P : Text → Option V → Type 0) → ((y : Text) → is_eq (text_cmp y x) ≡ false → P y (lookup (is_at (text_cmp y)) names)) → P x (Some v)
      → (y : Text) → P y (lookup (is_at (text_cmp y)) (insert_entry text_cmp names x v))
  more P old new y = elim (same_texts y x) [
    | inl is ↦ subst (λ z. P z (lookup (is_at (text_cmp z)) (insert_entry text_cmp names x v))) (sym is) (subst (P x) (sym (lookup_here text_cmp nat_list_cmp_total names x v)) new)
    | inr off ↦ subst (P y) (sym (lookup_there text_cmp nat_list_cmp_total names x y v off)) (old y off)
  ]

module _ {V W : Type 0} (names : List (Text × V)) (others : List (Text × W)) (x : Text) (v : V) (w : W) where
  pub more2 : (P : Text → Option V → Option W → Type 0) → ((y : Text) → is_eq (text_cmp y x) ≡ false → P y (lookup (is_at (text_cmp y)) names) (lookup (is_at (text_cmp y)) others)) → P x (Some v) (Some w)
      → (y : Text) → P y (lookup (is_at (text_cmp y)) (insert_entry text_cmp names x v)) (lookup (is_at (text_cmp y)) (insert_entry text_cmp others x w))
  more2 P old new = more names x v (λ y found. P y found (lookup (is_at (text_cmp y)) (insert_entry text_cmp others x w)))
      (λ y off. subst (P y (lookup (is_at (text_cmp y)) names)) (sym (lookup_there text_cmp nat_list_cmp_total others x y w off)) (old y off))
      (subst (P x (Some v)) (sym (lookup_here text_cmp nat_list_cmp_total others x w)) new)

-- the names of a directory with another value at one
module _ {V : Type 0} (names : List (Text × V)) (x : Text) (old new : V) (sees : lookup (is_at (text_cmp x)) names ≡ Some old) where
  alike : (y z : Text) → is_eq (text_cmp x y) ≡ true → is_eq (text_cmp x z) ≡ is_eq (text_cmp y z)
  alike y z tied = elim (same_texts x y) [
    | inl is ↦ ap (λ t. is_eq (text_cmp t z)) is
    | inr off ↦ absurd (true≢false (sym tied ∙ off))
  ]

  apart : (y : Text) → is_eq (text_cmp x y) ≡ false → is_eq (text_cmp y x) ≡ false
  apart y off = elim (same_texts y x) [
    | inl is ↦ absurd (true≢false (sym (ap is_eq (tied_itself nat_list_cmp_total x)) ∙ ap (λ t. is_eq (text_cmp x t)) (sym is) ∙ off))
    | inr untied ↦ untied
  ]

  pub instead : (P : Text → Option V → Type 0) → ((y : Text) → is_eq (text_cmp y x) ≡ false → P y (lookup (is_at (text_cmp y)) names)) → P x (Some new)
      → (y : Text) → P y (lookup (is_at (text_cmp y)) (set_value (is_at (text_cmp x)) names new))
  instead P others this y = subst (P y) (sym (lookup-set_value (eq_by_cmp_equiv nat_list_cmp_total) (is_at (text_cmp x)) alike y new names (ap is_some sees))) (elim (same_texts x y) [
    | inl is ↦ subst (λ z. P z (cond (is_eq (text_cmp x z)) (Some new) (lookup (is_at (text_cmp z)) names))) is
        (subst (λ b. P x (cond b (Some new) (lookup (is_at (text_cmp x)) names))) (sym (ap is_eq (tied_itself nat_list_cmp_total x))) this)
    | inr off ↦ subst (λ b. P y (cond b (Some new) (lookup (is_at (text_cmp y)) names))) (sym off) (others y (apart y off))
  ])

-- A file is created.
module _ (files : Files) (runs jobs : ℕ → Option Job) (owns : ℕ → OwnLock) {names : ℕ → List SessionName} {sites : ℕ → Site} {drawn : List (ℕ × ℕ)} (dirs : ℕ → Dir) (makers : ℕ → Option Maker) (bytes : ℕ → Option Text)
    (folders : Text → Text → Option (List (Text × ℕ))) (o : Owners jobs names sites drawn) (same : (v : ℕ) → sites v ≡ site_of (dirs v))
    (who : ℕ) (job : Job) (n : SessionName) (known : List (Text × Known)) (folder : List (Text × ℕ)) (x : Text) (count : ℕ)
    (called : head_of (names who) ≡ Some n) (d : dirs who ≡ Stands job.krate (working_text n) known) (stands : folders job.krate (working_text n) ≡ Some folder)
    (fresh : makers count ≡ None) where
  abbrev created : Known
  created = record { linked = None; bytes = Some [] }

  abbrev makers_next : ℕ → Option Maker
  makers_next = with_at makers count (Some (ByCreate who))

  abbrev bytes_next : ℕ → Option Text
  bytes_next = with_at bytes count (Some [])

  abbrev folders_next : Text → Text → Option (List (Text × ℕ))
  folders_next = put_at folders job.krate (working_text n) (Some (insert_entry text_cmp folder x count))

  abbrev dirs_next : ℕ → Dir
  dirs_next = with_at dirs who (Stands job.krate (working_text n) (insert_entry text_cmp known x created))

  at : sites who ≡ At job.krate (working_text n)
  at = same who ∙ ap site_of d

  grow : Grows makers makers_next
  grow = grows_at makers count (Some (ByCreate who)) fresh

  calm : (g : ℕ) (m : Maker) → makers g ≡ Some m → bytes_next g ≡ bytes g
  calm g m is = there bytes count (Some []) g (λ e. none_some m (makers count) fresh (ap makers e ∙ is))

  pub created_file_names : FilesPrivate sites makers folders → FilesPrivate sites makers_next folders_next
  created_file_names t = file_names_put folders job.krate (working_text n) (insert_entry text_cmp folder x count) grow
      (λ y. more folder x count (λ y found. (f : ℕ) → found ≡ Some f → (v : ℕ) × (makers_next f ≡ Some (ByCreate v)) × (IsPublished sites v ⊎ (sites v ≡ At job.krate (working_text n))))
      (λ y off f is. let s = t job.krate (working_text n) y folder f stands is in (s.0, grow _ _ s.1, s.2))
      (λ f is. (who, subst (λ f. makers_next f ≡ Some (ByCreate who)) (some_same count f is) (here makers count (Some (ByCreate who))), inr at)) y) t

  pub created_wholes : FilesPrivate sites makers folders → FinalsComplete files jobs sites folders bytes → FinalsComplete files jobs sites folders_next bytes_next
  created_wholes t w = wholes_calm files jobs bytes bytes_next who (same_out sites) grow (λ g u is _. calm g _ is) folders folders_next o t
      (λ k m hash z is. sym (put_there folders job.krate (working_text n) (Some (insert_entry text_cmp folder x count)) k (final_text m hash) (λ e. final_no_working m n hash e)) ∙ is) w

  pub created_own_dir : OwnDirKnown files runs jobs owns sites dirs makers folders bytes → OwnDirKnown files runs jobs owns sites dirs_next makers_next folders_next bytes_next
  created_own_dir = own_dir_step files runs jobs owns dirs makers makers_next bytes bytes_next folders o same who job.krate n known (insert_entry text_cmp known x created) (insert_entry text_cmp folder x count)
      called d grow (λ g u is _. calm g _ is)
      (λ folder' is old. more2 folder known x count created (λ y found shown. FitsView files jobs sites makers_next bytes_next who y found shown)
      (λ y _. fits_all files jobs sites bytes bytes_next grow calm who y _ _ (subst (λ z. FitsView files jobs sites makers bytes who y (named y z) (lookup (is_at (text_cmp y)) known)) (some_same folder' folder (sym is ∙ stands)) (old y)))
      (λ b is. here bytes count (Some []) ∙ is, here makers count (Some (ByCreate who))))

  -- no name leads to a file that isn't made yet
  pub created_sole : FilesPrivate sites makers folders → NamesSole sites makers folders → NamesSole sites makers_next folders_next
  created_sole t l v k e y z shown f av = each_path folders job.krate (working_text n) (Some (insert_entry text_cmp folder x count))
      (λ k e found. sites v ≡ At k e → found ≡ Some shown → makers_next f ≡ Some (ByCreate v) → named y shown ≡ Some f → named z shown ≡ Some f → y ≡ z)
      (λ k e off av is m p q. l v k e y z shown f av is (before k e y shown f is p v m) p q)
      (λ av is m p q.
      let new : insert_entry text_cmp folder x count ≡ shown = some_same _ _ is in
      both v av m (split y f (ap (named y) new ∙ p)) (split z f (ap (named z) new ∙ q))) k e av
    where
      before : (k e y : Text) (shown : List (Text × ℕ)) (f : ℕ) → folders k e ≡ Some shown → named y shown ≡ Some f → (v : ℕ) → makers_next f ≡ Some (ByCreate v) → makers f ≡ Some (ByCreate v)
      before k e y shown f is p v m =
          let s = t k e y shown f is p in
          there_back f (λ e. none_some (ByCreate s.0) (makers count) fresh (ap makers e ∙ s.1)) v m
        where
          there_back : (f : ℕ) → count ≢ f → (v : ℕ) → makers_next f ≡ Some (ByCreate v) → makers f ≡ Some (ByCreate v)
          there_back f off v m = sym (there makers count (Some (ByCreate who)) f off) ∙ m

      -- a name is the new one, or led to an older file
      split : (y : Text) (f : ℕ) → named y (insert_entry text_cmp folder x count) ≡ Some f → ((y ≡ x) × (count ≡ f)) ⊎ (named y folder ≡ Some f)
      split y f = more folder x count (λ y found. found ≡ Some f → ((y ≡ x) × (count ≡ f)) ⊎ (named y folder ≡ Some f)) (λ y off is. inr is) (λ is. inl (refl, some_same count f is)) y

      not_both : (z : Text) (f : ℕ) → count ≡ f → named z folder ≡ Some f → ⊥
      not_both z f new old = let s = t job.krate (working_text n) z folder f stands old in none_some (ByCreate s.0) (makers count) fresh (ap makers new ∙ s.1)

      both : (v : ℕ) → sites v ≡ At job.krate (working_text n) → makers_next f ≡ Some (ByCreate v) → ((y ≡ x) × (count ≡ f)) ⊎ (named y folder ≡ Some f) → ((z ≡ x) × (count ≡ f)) ⊎ (named z folder ≡ Some f) → y ≡ z
      both v av m (inl p) (inl q) = p.0 ∙ sym q.0
      both v av m (inl p) (inr q) = absurd (not_both z f p.1 q)
      both v av m (inr p) (inl q) = absurd (not_both y f q.1 p)
      both v av m (inr p) (inr q) = l v job.krate (working_text n) y z folder f av stands (before job.krate (working_text n) y folder f stands p v m) p q

-- A file is read: its bytes are known, where it was linked.
pub read_fits : (files : Files) (jobs : ℕ → Option Job) (sites : ℕ → Site) (makers : ℕ → Option Maker) (bytes : ℕ → Option Text) (who : ℕ) (folder : List (Text × ℕ)) (known : List (Text × Known)) (x b : Text) (its : Known) (f : ℕ)
    → named x folder ≡ Some f → bytes f ≡ Some b → lookup (is_at (text_cmp x)) known ≡ Some its
    → ((y : Text) → FitsView files jobs sites makers bytes who y (named y folder) (lookup (is_at (text_cmp y)) known))
    → (y : Text) → FitsView files jobs sites makers bytes who y (named y folder) (lookup (is_at (text_cmp y)) (set_value (is_at (text_cmp x)) known (read_as b its)))
read_fits files jobs sites makers bytes who folder known x b its f has holds sees old = instead known x its (read_as b its) sees (λ y found. FitsView files jobs sites makers bytes who y (named y folder) found)
    (λ y off. old y)
    (subst (λ r. FitsView files jobs sites makers bytes who x r (Some (read_as b its))) (sym has)
    (go its.linked refl (subst (λ (P : Type 0). P) (λ i. FitsView files jobs sites makers bytes who x (has i) (sees i)) (old x))))
  where
    go : (from : Option Text) → its.linked ≡ from → FitsView files jobs sites makers bytes who x (Some f) (Some its) → FitsView files jobs sites makers bytes who x (Some f) (Some (read_by b its.linked its))
    go None e h = subst (λ from. FitsView files jobs sites makers bytes who x (Some f) (Some (read_by b from its))) (sym e) h
    go (Some t) e h = subst (λ from. FitsView files jobs sites makers bytes who x (Some f) (Some (read_by b from its))) (sym e) ((λ c is. holds ∙ is), h.1)
