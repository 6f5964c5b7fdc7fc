-- A link keeps the laws.
use Rattle.std.proofs.Common.{◌≡◌, ℕ, List, refl, ap, sym, ◌∙◌, subst, None, Some, Option, inl, inr, ◌⊎◌}
use Rattle.std.specs.Map.{lookup}
use Rattle.std.specs.BTreeMap.{insert_entry, is_at}
use Rattle.inc_base.specs.declared.job.Job.{Job}
use Rattle.inc_fs.specs.State.{Text, text_cmp, named}
use Rattle.inc_names.specs.declared.session.SessionName.{SessionName}
use Rattle.inc_names.specs.Entries.{working_text, final_text}
use Rattle.inc_laws.specs.Readings.{Maker, head_of, Site, site_of}
use Rattle.inc_laws.specs.Readings.Maker.{ByCreate}
use Rattle.inc_proto.specs.declared.own.Known.{Known}
use Rattle.inc_proto.specs.Views.{Dir}
use Rattle.inc_proto.specs.declared.own.OwnLock.{OwnLock}
use Rattle.inc_proto.specs.Views.Dir.{Stands}
use Rattle.inc_proto.specs.Files.{Files}
use Rattle.inc_laws.specs.Parts.{IsPublished, IsSource, FitsView, OwnDirKnown, FilesPrivate, NamesSole, IsBytes, FinalsComplete}
use Rattle.inc_laws.specs.Readings.Site.{At, Out}
use Rattle.inc_fs.specs.Points.{with_at, put_at, each_path}
use Rattle.inc_laws.proofs.Mono.{none_some, same_grows}
use Rattle.inc_laws.proofs.Own.{Owners, not_at}
use Rattle.inc_laws.proofs.Others.{own_dir_step}
use Rattle.inc_laws.proofs.InPlace.{more, more2, some_same, file_names_put}

module _ (files : Files) (runs jobs : ℕ → Option Job) (owns : ℕ → OwnLock) {names : ℕ → List SessionName} {sites : ℕ → Site} {drawn : List (ℕ × ℕ)} (dirs : ℕ → Dir) (makers : ℕ → Option Maker) (bytes : ℕ → Option Text)
    (folders : Text → Text → Option (List (Text × ℕ))) (o : Owners jobs names sites drawn) (same : (v : ℕ) → sites v ≡ site_of (dirs v))
    (t : FilesPrivate sites makers folders) (w : FinalsComplete files jobs sites folders bytes)
    (who : ℕ) (krate : Text) (n : SessionName) (known : List (Text × Known)) (folder source : List (Text × ℕ)) (x : Text) (f : ℕ) (m : SessionName) (hash : ℕ)
    (called : head_of (names who) ≡ Some n) (d : dirs who ≡ Stands krate (working_text n) known) (stands : folders krate (working_text n) ≡ Some folder)
    (from : folders krate (final_text m hash) ≡ Some source) (has : named x source ≡ Some f) where
  abbrev linked : Known
  linked = record { linked = Some (final_text m hash); bytes = None }

  abbrev folders_next : Text → Text → Option (List (Text × ℕ))
  folders_next = put_at folders krate (working_text n) (Some (insert_entry text_cmp folder x f))

  -- whose the file is
  by : (v : ℕ) × (makers f ≡ Some (ByCreate v)) × IsPublished sites v
  by = let s = t krate (final_text m hash) x source f from has in (s.0, s.1, published s.0 s.2)
    where
      published : (v : ℕ) → IsPublished sites v ⊎ (sites v ≡ At krate (final_text m hash)) → IsPublished sites v
      published v (inl p) = p
      published v (inr a) = absurd (not_at o v krate m hash a)

  is_source : IsSource files jobs sites makers bytes who x f (Some (final_text m hash))
  is_source =
      let whole = w krate m hash source from in
      (by.0, whole.0, krate, whole.1, whole.2, by.1, by.2, whole.3, whole.4, whole.5, at_set (named x source) has (whole.6 x))
    where
      at_set : {found : Option Text} (file : Option ℕ) → file ≡ Some f → IsBytes bytes file found → bytes f ≡ found
      at_set None is b = absurd (none_some f None refl is)
      at_set (Some g) is b = ap bytes (sym (some_same g f is)) ∙ b.1

  pub linked_file_names : FilesPrivate sites makers folders_next
  linked_file_names = file_names_put folders krate (working_text n) (insert_entry text_cmp folder x f) (same_grows makers)
      (λ y. more folder x f (λ y found. (g : ℕ) → found ≡ Some g → (v : ℕ) × (makers g ≡ Some (ByCreate v)) × (IsPublished sites v ⊎ (sites v ≡ At krate (working_text n))))
      (λ y off g is. t krate (working_text n) y folder g stands is)
      (λ g is. (by.0, ap makers (sym (some_same f g is)) ∙ by.1, inl by.2)) y) t

  pub linked_own_dir : OwnDirKnown files runs jobs owns sites dirs makers folders bytes
      → OwnDirKnown files runs jobs owns sites (with_at dirs who (Stands krate (working_text n) (insert_entry text_cmp known x linked))) makers folders_next bytes
  linked_own_dir = own_dir_step files runs jobs owns dirs makers makers bytes bytes folders o same who krate n known (insert_entry text_cmp known x linked) (insert_entry text_cmp folder x f)
      called d (same_grows makers) (λ g u is _. refl)
      (λ folder' is old. more2 folder known x f linked (λ y found shown. FitsView files jobs sites makers bytes who y found shown)
      (λ y _. subst (λ z. FitsView files jobs sites makers bytes who y (named y z) (lookup (is_at (text_cmp y)) known)) (some_same folder' folder (sym is ∙ stands)) (old y))
      (λ b is. absurd (none_some b None refl is), is_source))

  pub linked_sole : NamesSole sites makers folders → NamesSole sites makers folders_next
  linked_sole l v k e y z shown g = each_path folders krate (working_text n) (Some (insert_entry text_cmp folder x f))
      (λ k e found. sites v ≡ At k e → found ≡ Some shown → makers g ≡ Some (ByCreate v) → named y shown ≡ Some g → named z shown ≡ Some g → y ≡ z)
      (λ k e off av is m p q. l v k e y z shown g av is m p q)
      (λ av is mk p q.
      let new : insert_entry text_cmp folder x f ≡ shown = some_same _ _ is in
      l v krate (working_text n) y z folder g av stands mk (old av mk y (ap (named y) new ∙ p)) (old av mk z (ap (named z) new ∙ q))) k e
    where
      maker_same : (v u : ℕ) → Some (ByCreate v) ≡ Some (ByCreate u) → v ≡ u
      maker_same v u e = cc

      old : sites v ≡ At krate (working_text n) → makers g ≡ Some (ByCreate v) → (y : Text) → named y (insert_entry text_cmp folder x f) ≡ Some g → named y folder ≡ Some g
      old av mk = more folder x f (λ y found. found ≡ Some g → named y folder ≡ Some g) (λ y off is. is)
          (λ is.
          let u : by.0 ≡ v = maker_same by.0 v (sym by.1 ∙ ap makers (some_same f g is) ∙ mk) in
          let out : sites v ≡ Out by.2.0 by.2.1 = subst (λ w. sites w ≡ Out by.2.0 by.2.1) u by.2.2 in
          cc)
