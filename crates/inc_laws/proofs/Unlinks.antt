-- A name that is taken away keeps the laws.
use Rattle.std.proofs.Common.{◌≡◌, ◌≢◌, ℕ, List, Bool, true, refl, ap, sym, ◌∙◌, subst, None, Some, Option, IsSome, is_some, inl, inr}
use Rattle.std.specs.Map.{lookup}
use Rattle.std.specs.BTreeMap.{is_at}
use Rattle.std.specs.Cmp.Lexicographic.{nat_list_cmp_total}
use Rattle.inc_base.specs.declared.job.Job.{Job}
use Rattle.inc_fs.specs.State.{Text, text_cmp, named, remove_entry}
use Rattle.inc_names.specs.declared.session.SessionName.{SessionName}
use Rattle.inc_names.specs.Entries.{working_text, final_text, lock_text}
use Rattle.inc_names.specs.EntryLaws.{same_working_text}
use Rattle.inc_laws.proofs.Texts.{final_no_working}
use Rattle.inc_proto.specs.Events.{Steps}
use Rattle.inc_laws.specs.Readings.{Maker, head_of, Site, site_of, place_of}
use Rattle.inc_laws.specs.Readings.Maker.{ByCreate}
use Rattle.inc_proto.specs.declared.own.Known.{Known}
use Rattle.inc_proto.specs.Views.{Dir, Opening}
use Rattle.inc_proto.specs.declared.own.OwnLock.{OwnLock}
use Rattle.inc_proto.specs.declared.own.OwnLock.TheVariants.{Locked}
use Rattle.inc_proto.specs.Views.Dir.{Stands}
use Rattle.inc_proto.specs.Files.{Files}
use Rattle.inc_laws.specs.Parts.{FitsView, OwnDirKnown, FilesPrivate, NamesSole, FinalsComplete, DirsOwned, PublishedStands, HandlesAgree, LockFilesOnce, OwnLocksHeld}
use Rattle.inc_laws.specs.Readings.Site.{At}
use Rattle.inc_fs.specs.Points.{with_at, put_at, each_path, put_there}
use Rattle.inc_fs.specs.Lookups.{removed_here, removed_there, same_texts}
use Rattle.inc_laws.proofs.Mono.{none_some, same_grows}
use Rattle.inc_fs.specs.declared.state.Lock.{Lock}
use Rattle.inc_fs.specs.declared.state.Handle.{Handle}
use Rattle.inc_proto.specs.Views.Opening.{Made}
use Rattle.inc_laws.proofs.Holds.{one_holder}
use Rattle.inc_laws.proofs.Own.{Owners, at_name, dirs_fewer, fewer_put}
use Rattle.inc_laws.proofs.Others.{own_dir_step}
use Rattle.inc_laws.proofs.InPlace.{some_same, file_names_put, newest_put}

-- the names that are left
pub less : {V : Type 0} (names : List (Text × V)) (x y : Text) (v : V) → lookup (is_at (text_cmp y)) (remove_entry (is_at (text_cmp x)) names) ≡ Some v → lookup (is_at (text_cmp y)) names ≡ Some v
less names x y v is = elim (same_texts y x) [
  | inl same ↦ absurd (none_some v _ (removed_here text_cmp nat_list_cmp_total names x) (subst (λ z. lookup (is_at (text_cmp z)) (remove_entry (is_at (text_cmp x)) names) ≡ Some v) same is))
  | inr off ↦ sym (removed_there text_cmp nat_list_cmp_total names x y off) ∙ is
]

pub less2 : {V W : Type 0} (names : List (Text × V)) (others : List (Text × W)) (x : Text) (P : Text → Option V → Option W → Type 0)
    → ((y : Text) → P y (lookup (is_at (text_cmp y)) names) (lookup (is_at (text_cmp y)) others)) → P x None None
    → (y : Text) → P y (lookup (is_at (text_cmp y)) (remove_entry (is_at (text_cmp x)) names)) (lookup (is_at (text_cmp y)) (remove_entry (is_at (text_cmp x)) others))
less2 {V} {W} names others x P old new y = elim (same_texts y x) [
  | inl same ↦ subst (λ z. P z (lookup (is_at (text_cmp z)) (remove_entry (is_at (text_cmp x)) names)) (lookup (is_at (text_cmp z)) (remove_entry (is_at (text_cmp x)) others))) (sym same)
      (subst (λ (P : Type 0). P) (λ i. P x (sym (removed_here text_cmp nat_list_cmp_total names x) i) (sym (removed_here text_cmp nat_list_cmp_total others x) i)) new)
  | inr off ↦ subst (λ (P : Type 0). P) (λ i. P y (sym (removed_there text_cmp nat_list_cmp_total names x y off) i) (sym (removed_there text_cmp nat_list_cmp_total others x y off) i)) (old y)
]

-- who holds n exclusively is the only one who can have a directory of n with its own lock
module _ {runs jobs : ℕ → Option Job} {opens : ℕ → ℕ → Option Opening} {modes : ℕ → ℕ → Option Bool} {owns : ℕ → OwnLock} {makers : ℕ → Option Maker}
    {handles : ℕ → Option Handle} {locks : ℕ → Option Lock} {given : List ℕ} {steps : ℕ → Steps} {names : ℕ → List SessionName} {lock_files : Text → Text → Option ℕ} {sites : ℕ → Site} {drawn : List (ℕ × ℕ)}
    (l : HandlesAgree runs opens modes makers handles locks given) (f : LockFilesOnce steps names makers lock_files) (own : OwnLocksHeld runs jobs names opens modes owns) (o : Owners jobs names sites drawn)
    (begun : (v : ℕ) (j : Job) → runs v ≡ Some j → jobs v ≡ Some j) where
  pub excludes : (who h : ℕ) (job : Job) (by : Opening) (krate : Text) (n : SessionName) → runs who ≡ Some job → opens who h ≡ Some by → ◌≡◌ {A = Text × Text} (place_of by) (krate, lock_text n) → modes who h ≡ Some true
      → (v g : ℕ) (j : Job) → runs v ≡ Some j → owns v ≡ Locked g → sites v ≡ At krate (working_text n) → v ≡ who
  excludes who h job by krate n r sees place m v g j rv locked at =
      let its = at_name o v krate (working_text n) at in
      let mine = own.handle v g j rv (inl locked) in
      let same_name : mine.0 ≡ n = some_same mine.0 n (sym mine.1 ∙ its.4 ∙ ap Some (sym (same_working_text n its.1 its.5))) in
      let same_krate : j.krate ≡ krate = ap (λ (j : Job). j.krate) (some_same j its.0 (sym (begun v j rv) ∙ its.2)) ∙ sym its.3 in
      let alone = own.lock v g locked in
      (one_holder l f v who g h j job (Made j.krate (lock_text mine.0)) by rv mine.2 alone r sees (ap is_some m)
      (pair same_krate same_name ∙ sym place)).0
    where
      pair : {k k' : Text} {a b : SessionName} → k' ≡ k → a ≡ b → ◌≡◌ {A = Text × Text} (k', lock_text a) (k, lock_text b)
      pair p q = λ i. (p i, lock_text (q i))

-- In its place.
module _ (folders : Text → Text → Option (List (Text × ℕ))) (sites : ℕ → Site) (makers : ℕ → Option Maker) (krate : Text) (n : SessionName) (folder : List (Text × ℕ)) (x : Text)
    (stands : folders krate (working_text n) ≡ Some folder) where
  abbrev left : List (Text × ℕ)
  left = remove_entry (is_at (text_cmp x)) folder

  abbrev folders_next : Text → Text → Option (List (Text × ℕ))
  folders_next = put_at folders krate (working_text n) (Some (remove_entry (is_at (text_cmp x)) folder))

  pub unlinked_file_names : FilesPrivate sites makers folders → FilesPrivate sites makers folders_next
  unlinked_file_names t = file_names_put folders krate (working_text n) left (same_grows makers) (λ y f is. t krate (working_text n) y folder f stands (less folder x y f is)) t

  pub unlinked_dirs : DirsOwned sites folders → DirsOwned sites folders_next
  unlinked_dirs = dirs_fewer (fewer_put folders krate (working_text n) folder left stands)

  pub unlinked_newest : PublishedStands sites folders → PublishedStands sites folders_next
  unlinked_newest = newest_put folders krate (working_text n) left (same_grows makers)

  pub unlinked_sole : NamesSole sites makers folders → NamesSole sites makers folders_next
  unlinked_sole l v k e y z shown f = each_path folders krate (working_text n) (Some left)
      (λ k e found. sites v ≡ At k e → found ≡ Some shown → makers f ≡ Some (ByCreate v) → named y shown ≡ Some f → named z shown ≡ Some f → y ≡ z)
      (λ k e off. l v k e y z shown f)
      (λ av is m p q.
      let new : left ≡ shown = some_same left shown is in
      l v krate (working_text n) y z folder f av stands m (less folder x y f (ap (named y) new ∙ p)) (less folder x z f (ap (named z) new ∙ q))) k e

  pub unlinked_wholes : {files : Files} {jobs : ℕ → Option Job} {bytes : ℕ → Option Text} → FinalsComplete files jobs sites folders bytes → FinalsComplete files jobs sites folders_next bytes
  unlinked_wholes w k m hash z is = w k m hash z (sym (put_there folders krate (working_text n) (Some left) k (final_text m hash) (λ e. final_no_working m n hash e)) ∙ is)

  -- another's directory of that name is no one's with its own lock
  pub emptied_own_dir : (files : Files) (runs jobs : ℕ → Option Job) (owns : ℕ → OwnLock) (dirs : ℕ → Dir) (bytes : ℕ → Option Text) → ((v : ℕ) → sites v ≡ site_of (dirs v))
      → ((v g : ℕ) → IsSome (runs v) → owns v ≡ Locked g → sites v ≢ At krate (working_text n)) → OwnDirKnown files runs jobs owns sites dirs makers folders bytes → OwnDirKnown files runs jobs owns sites dirs makers folders_next bytes
  emptied_own_dir files runs jobs owns dirs bytes same none l v h k e known r locked d =
      let old = l v h k e known r locked d in
      let site : sites v ≡ At k e = same v ∙ ap site_of d in
      (old.0, elsewhere site (none v h r locked) ∙ old.1, old.2)
    where
      elsewhere : sites v ≡ At k e → sites v ≢ At krate (working_text n) → folders_next k e ≡ folders k e
      elsewhere site none = each_path folders krate (working_text n) (Some left) (λ k e found. sites v ≡ At k e → found ≡ folders k e) (λ k e off site. refl) (λ site. absurd (none site)) k e site

-- its own directory
module _ (files : Files) (runs jobs : ℕ → Option Job) (owns : ℕ → OwnLock) {names : ℕ → List SessionName} {sites : ℕ → Site} {drawn : List (ℕ × ℕ)} (dirs : ℕ → Dir) (makers : ℕ → Option Maker) (bytes : ℕ → Option Text)
    (folders : Text → Text → Option (List (Text × ℕ))) (o : Owners jobs names sites drawn) (same : (v : ℕ) → sites v ≡ site_of (dirs v))
    (who : ℕ) (krate : Text) (n : SessionName) (known : List (Text × Known)) (folder : List (Text × ℕ)) (x : Text)
    (called : head_of (names who) ≡ Some n) (d : dirs who ≡ Stands krate (working_text n) known) (stands : folders krate (working_text n) ≡ Some folder) where
  pub unlinked_own_dir : OwnDirKnown files runs jobs owns sites dirs makers folders bytes
      → OwnDirKnown files runs jobs owns sites (with_at dirs who (Stands krate (working_text n) (remove_entry (is_at (text_cmp x)) known))) makers
      (put_at folders krate (working_text n) (Some (remove_entry (is_at (text_cmp x)) folder))) bytes
  unlinked_own_dir = own_dir_step files runs jobs owns dirs makers makers bytes bytes folders o same who krate n known (remove_entry (is_at (text_cmp x)) known) (remove_entry (is_at (text_cmp x)) folder)
      called d (same_grows makers) (λ g u is _. refl)
      (λ folder' is old. less2 folder known x (λ y found shown. FitsView files jobs sites makers bytes who y found shown)
      (λ y. subst (λ z. FitsView files jobs sites makers bytes who y (named y z) (lookup (is_at (text_cmp y)) known)) (some_same folder' folder (sym is ∙ stands)) (old y)) tt)
