-- An append keeps the laws.
use Rattle.std.proofs.Common.{◌≡◌, ◌≢◌, ℕ, List, ◌++◌, false, refl, ap, sym, ◌∙◌, subst, None, Some, Option, inl, inr, ◌⊎◌}
use Rattle.std.specs.Map.{lookup, set_value}
use Rattle.std.specs.BTreeMap.{is_at}
use Rattle.std.specs.Ordering.{is_eq}
use Rattle.std.specs.Cmp.Lexicographic.{nat_list_cmp_total}
use Rattle.std.specs.Cmp.{tied_itself}
use Rattle.inc_base.specs.declared.job.Job.{Job}
use Rattle.inc_fs.specs.State.{Text, text_cmp, named}
use Rattle.inc_names.specs.declared.session.SessionName.{SessionName}
use Rattle.inc_names.specs.Entries.{working_text}
use Rattle.inc_laws.specs.Readings.{Maker, head_of, Site, site_of}
use Rattle.inc_laws.specs.Readings.Maker.{ByCreate}
use Rattle.inc_proto.specs.declared.own.Known.{Known}
use Rattle.inc_proto.specs.Views.{Dir, appended, forgotten}
use Rattle.inc_proto.specs.declared.own.OwnLock.{OwnLock}
use Rattle.inc_proto.specs.Views.Dir.{Stands}
use Rattle.inc_proto.specs.Files.{Files}
use Rattle.inc_laws.specs.Parts.{IsPublished, IsSource, FitsView, OwnDirKnown, FilesPrivate, NamesSole, FinalsComplete}
use Rattle.inc_laws.specs.Readings.Site.{At, Out}
use Rattle.inc_fs.specs.Points.{with_at, here, there, put_at}
use Rattle.inc_laws.proofs.Mono.{none_some, same_out, same_grows, source_stays}
use Rattle.std.specs.Option.{option_map}
use Rattle.inc_laws.proofs.Own.{Owners}
use Rattle.inc_laws.proofs.Others.{fits_calm, wholes_calm, own_dir_step}
use Rattle.inc_laws.proofs.InPlace.{some_same, instead}

module _ (files : Files) (runs jobs : ℕ → Option Job) (owns : ℕ → OwnLock) {names : ℕ → List SessionName} {sites : ℕ → Site} {drawn : List (ℕ × ℕ)} (dirs : ℕ → Dir) (makers : ℕ → Option Maker) (bytes : ℕ → Option Text)
    (folders : Text → Text → Option (List (Text × ℕ))) (o : Owners jobs names sites drawn) (same : (v : ℕ) → sites v ≡ site_of (dirs v))
    (t : FilesPrivate sites makers folders) (sole : NamesSole sites makers folders)
    (who : ℕ) (krate : Text) (n : SessionName) (known : List (Text × Known)) (folder : List (Text × ℕ)) (x : Text) (f : ℕ) (its : Known) (old : Text) (piece : Text)
    (called : head_of (names who) ≡ Some n) (d : dirs who ≡ Stands krate (working_text n) known) (stands : folders krate (working_text n) ≡ Some folder)
    (has : named x folder ≡ Some f) (mine : makers f ≡ Some (ByCreate who)) (sees : lookup (is_at (text_cmp x)) known ≡ Some its) (created : its.linked ≡ None) (was : bytes f ≡ Some old) where
  abbrev bytes_next : ℕ → Option Text
  bytes_next = with_at bytes f (Some (old ++ piece))

  at : sites who ≡ At krate (working_text n)
  at = same who ∙ ap site_of d

  maker_same : (v u : ℕ) → Some (ByCreate v) ≡ Some (ByCreate u) → v ≡ u
  maker_same v u e = cc

  -- of files whose creator has published, and of other sessions' files, no byte changes
  pub calm : (g u : ℕ) → makers g ≡ Some (ByCreate u) → (IsPublished sites u ⊎ (u ≢ who)) → bytes_next g ≡ bytes g
  calm g u is p = there bytes f (Some (old ++ piece)) g (λ e. apart (maker_same who u (sym mine ∙ ap makers e ∙ is)) p)
    where
      apart : who ≡ u → (IsPublished sites u ⊎ (u ≢ who)) → ⊥
      apart e (inl p) = let out : sites who ≡ Out p.0 p.1 = subst (λ w. sites w ≡ Out p.0 p.1) (sym e) p.2 in cc at
      apart e (inr off) = off (sym e)

  pub appended_wholes : FinalsComplete files jobs sites folders bytes → FinalsComplete files jobs sites folders bytes_next
  appended_wholes = wholes_calm files jobs bytes bytes_next who (same_out sites) (same_grows makers) calm folders folders o t (λ k m hash z is. is)

  fits : (shown : Known) → ((b : Text) → shown.bytes ≡ Some b → bytes_next f ≡ Some b) → shown.linked ≡ None → (folder' : List (Text × ℕ)) → folders krate (working_text n) ≡ Some folder'
      → ((y : Text) → FitsView files jobs sites makers bytes who y (named y folder') (lookup (is_at (text_cmp y)) known))
      → (y : Text) → FitsView files jobs sites makers bytes_next who y (named y folder) (lookup (is_at (text_cmp y)) (set_value (is_at (text_cmp x)) known shown))
  fits shown now none folder' is before = instead known x its shown sees (λ y found. FitsView files jobs sites makers bytes_next who y (named y folder) found)
      (λ y off. others y off _ _ refl (subst (λ z. FitsView files jobs sites makers bytes who y (named y z) (lookup (is_at (text_cmp y)) known)) (some_same folder' folder (sym is ∙ stands)) (before y)))
      (this (named x folder) has)
    where
      this : (found : Option ℕ) → found ≡ Some f → FitsView files jobs sites makers bytes_next who x found (Some shown)
      this None e = absurd (none_some f None refl e)
      this (Some g) e = (λ b is. ap bytes_next (some_same g f e) ∙ now b is, subst (λ from. IsSource files jobs sites makers bytes_next who x g from) (sym none) (ap makers (some_same g f e) ∙ mine))

      others : (y : Text) → is_eq (text_cmp y x) ≡ false → (found : Option ℕ) (k : Option Known) → named y folder ≡ found → FitsView files jobs sites makers bytes who y found k → FitsView files jobs sites makers bytes_next who y found k
      others y off None None e h = tt
      others y off None (Some k) e h = h
      others y off (Some g) None e h = h
      others y off (Some g) (Some k) e h = (λ b is. still k.linked h.1 ∙ h.0 b is, source_stays files bytes bytes_next (same_grows jobs) (same_out sites) (same_grows makers) who y g k.linked (still k.linked h.1) h.1)
        where
          still : (from : Option Text) → IsSource files jobs sites makers bytes who y g from → bytes_next g ≡ bytes g
          still None s = there bytes f (Some (old ++ piece)) g (λ same.
              let two : x ≡ y = sole who krate (working_text n) x y folder f at stands mine has (e ∙ ap Some (sym same)) in
              let eq : is_eq (text_cmp x x) ≡ false = subst (λ y. is_eq (text_cmp y x) ≡ false) (sym two) off in
              let yes = ap is_eq (tied_itself nat_list_cmp_total x) in
              cc)
          still (Some from) s = calm g s.0 s.5 (inl s.6)

  pub appended_own_dir : OwnDirKnown files runs jobs owns sites dirs makers folders bytes
      → OwnDirKnown files runs jobs owns sites (with_at dirs who (Stands krate (working_text n) (set_value (is_at (text_cmp x)) known (appended piece its)))) makers (put_at folders krate (working_text n) (Some folder)) bytes_next
  appended_own_dir l = own_dir_step files runs jobs owns dirs makers makers bytes bytes_next folders o same who krate n known (set_value (is_at (text_cmp x)) known (appended piece its)) folder called d (same_grows makers) calm
      (λ folder' is before. fits (appended piece its) (now folder' is (before x)) created folder' is before) l
    where
      now : (folder' : List (Text × ℕ)) → folders krate (working_text n) ≡ Some folder' → FitsView files jobs sites makers bytes who x (named x folder') (lookup (is_at (text_cmp x)) known)
          → (b : Text) → option_map (λ bytes. bytes ++ piece) its.bytes ≡ Some b → bytes_next f ≡ Some b
      now folder' is h = go its.bytes refl (subst (λ k. FitsView files jobs sites makers bytes who x (Some f) k) sees (subst (λ r. FitsView files jobs sites makers bytes who x r (lookup (is_at (text_cmp x)) known)) (ap (named x) (some_same folder' folder (sym is ∙ stands)) ∙ has) h))
        where
          go : (t : Option Text) → its.bytes ≡ t → FitsView files jobs sites makers bytes who x (Some f) (Some its) → (b : Text) → option_map (λ bytes. bytes ++ piece) t ≡ Some b → bytes_next f ≡ Some b
          go None e h b is = absurd (none_some b None refl is)
          go (Some t) e h b is =
              let known : bytes f ≡ Some t = h.0 t e in
              let whole : old ≡ t = some_same old t (sym was ∙ known) in
              here bytes f (Some (old ++ piece)) ∙ ap (λ t. Some (t ++ piece)) whole ∙ is

  -- an append that was cut off: its bytes aren't known any more
  pub spoiled_own_dir : OwnDirKnown files runs jobs owns sites dirs makers folders bytes
      → OwnDirKnown files runs jobs owns sites (with_at dirs who (Stands krate (working_text n) (set_value (is_at (text_cmp x)) known (forgotten its)))) makers (put_at folders krate (working_text n) (Some folder)) bytes_next
  spoiled_own_dir l = own_dir_step files runs jobs owns dirs makers makers bytes bytes_next folders o same who krate n known (set_value (is_at (text_cmp x)) known (forgotten its)) folder called d (same_grows makers) calm
      (λ folder' is before. fits (forgotten its) (λ b is. absurd (none_some b None refl is)) created folder' is before) l

  -- of the other sessions
  pub spoiled_fits : (v : ℕ) → v ≢ who → (y : Text) (found : Option ℕ) (k : Option Known) → FitsView files jobs sites makers bytes v y found k → FitsView files jobs sites makers bytes_next v y found k
  spoiled_fits = fits_calm files jobs bytes bytes_next who (same_out sites) (same_grows makers) calm
