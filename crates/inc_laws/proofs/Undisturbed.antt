-- A session that has its own lock finds its directory as its own steps say, so no step that it may make there is answered
-- as if the directory weren't.
use Rattle.std.specs.Prelude.{◌≡◌, ◌⊎◌, ℕ, List, [], ◌∷◌, cond, refl, Option, Some, None, IsSome, is_some}
use Rattle.std.specs.Map.{lookup}
use Rattle.std.specs.BTreeMap.{is_at}
use Rattle.std.specs.Option.{option_and_then}
use Rattle.std.specs.Ordering.{is_eq}
use Rattle.std.specs.Cmp.{tied_itself}
use Rattle.std.specs.Cmp.Lexicographic.{nat_list_cmp_total}
use Rattle.std.proofs.Common.{ap, sym, subst, ◌∙◌, inl, inr, arith}
use Rattle.std.proofs.lemmas.Option.{slice_get_cases}
use Rattle.inc_base.specs.declared.job.Job.{Job}
use Rattle.inc_fs.specs.declared.state.Entry.{Entry}
use Rattle.inc_fs.specs.declared.state.Entry.TheVariants.{LockFile, Folder}
use Rattle.inc_fs.specs.Readings.{bytes_of}
use Rattle.inc_fs.specs.State.{State, Text, text_cmp, entry_at, lock_of, folder_of, folder_at, number_at, numbered, file_at, named}
use Rattle.inc_fs.specs.declared.op.Op.TheVariants.{MakeDir, Link, Read, Create, Append, RemoveDir, Rename}
use Rattle.inc_fs.specs.declared.op.Reply.{Reply}
use Rattle.inc_fs.specs.declared.op.Reply.TheVariants.{Exists, Missing, NotEmpty}
use Rattle.inc_names.specs.declared.session.SessionName.{SessionName}
use Rattle.inc_names.specs.Entries.{working_text, final_text}
use Rattle.inc_names.specs.EntryLaws.{lock_is_no_working, same_working_text, working_is_no_final}
use Rattle.inc_wire.specs.Forms.{job_hash_of}
use Rattle.inc_proto.specs.declared.event.Event.{Event}
use Rattle.inc_proto.specs.declared.own.Known.{Known}
use Rattle.inc_proto.specs.declared.own.OwnLock.TheVariants.{Locked}
use Rattle.inc_proto.specs.Events.{Steps, own_steps}
use Rattle.inc_proto.specs.Files.{Files}
use Rattle.inc_proto.specs.Permits.{HasDir, HasLock, MayLink, MayCreate, MayAppend, MayMakeDirectory, MayPublish, MayRetire}
use Rattle.inc_proto.specs.Views.{own, dir}
use Rattle.inc_proto.specs.Views.Dir.{Stands}
use Rattle.inc_laws.specs.Fair.{CanBe}
use Rattle.inc_laws.specs.Laws.{Laws}
use Rattle.inc_laws.specs.Parts.{FitsView, IsSource, IsWhose}
use Rattle.inc_laws.specs.Readings.{running, Site, site_of, head_of, jobs_of, names_of, sites_of, makers_of, Maker}
use Rattle.inc_laws.specs.Readings.Maker.{ByCreate}
use Rattle.inc_laws.specs.Readings.Site.{Nowhere, At, Out}
use Rattle.inc_laws.proofs.Answered.{Made, made}
use Rattle.inc_laws.proofs.InPlace.{some_same}
use Rattle.inc_laws.proofs.Lasting.{may_parts, laws_hold, stands_published}
use Rattle.inc_laws.proofs.Names.{name_is}
use Rattle.inc_laws.proofs.Own.{Owners, out_name, one_at, one_out}
use Rattle.inc_laws.proofs.Texts.{final_no_working}
use Rattle.inc_laws.proofs.Wraps.{own_place, untried_unmade, found_at}

none_some : {A : Type 0} (o : Option A) → o ≡ None → IsSome o → ⊥
none_some o none some = cc

-- ---- Of a state that the laws hold of, and a session that has its own lock.

module _ (files : Files) (H : List Event) (F : State) (l : Laws files H F) (who : ℕ) (runs : IsSome (running who H)) (h : ℕ) (locked : own (own_steps who H) ≡ Locked h)
    (krate entry : Text) (known : List (Text × Known)) (d : dir (own_steps who H) ≡ Stands krate entry known) where
  abbrev Fits : Text → Option ℕ → Option Known → Type 0
  Fits x found o = FitsView files (jobs_of H) (sites_of H) (makers_of H) (bytes_of F) who x found o

  own_folder : (folder : List (Text × ℕ)) × (folder_at F krate entry ≡ Some folder) × ((x : Text) → Fits x (named x folder) (lookup (is_at (text_cmp x)) known))
  own_folder = l.own_dir who h krate entry known runs locked d

  own_stands : folder_at F krate entry ≡ None → ⊥
  own_stands none = none_some (folder_at F krate entry) none (ap is_some own_folder.1)

  -- a file that it lacks isn't there
  own_lacks : (file : Text) → lookup (is_at (text_cmp file)) known ≡ None → number_at F krate entry file ≡ None
  own_lacks file lacks = ap (option_and_then (named file)) own_folder.1 ∙ go (named file own_folder.0) (subst (Fits file (named file own_folder.0)) lacks (own_folder.2 file))
    where
      go : (o : Option ℕ) → Fits file o None → o ≡ None
      go None fits = refl
      go (Some f) fits = absurd fits

  -- and one that it has is
  own_has : (file : Text) (its : Known) → lookup (is_at (text_cmp file)) known ≡ Some its → IsSome (file_at F krate entry file)
  own_has file its sees = go (named file own_folder.0) refl (subst (Fits file (named file own_folder.0)) sees (own_folder.2 file))
    where
      maker : (f : ℕ) (from : Option Text) → IsSource files (jobs_of H) (sites_of H) (makers_of H) (bytes_of F) who file f from → (m : Maker) × (makers_of H f ≡ Some m)
      maker f None s = (ByCreate who, s)
      maker f (Some from) s = (ByCreate s.0, s.5)

      at_number : (f : ℕ) (m : Maker) → named file own_folder.0 ≡ Some f → makers_of H f ≡ Some m → IsSome (file_at F krate entry file)
      at_number f m has mine = elim (slice_get_cases F.files f).1 [
        | inl (x, within, is, _) ↦ ap is_some (ap (option_and_then (numbered F)) (ap (option_and_then (named file)) own_folder.1 ∙ has) ∙ found_at F f x is)
        | inr past ↦ absurd (omega (arith, past.0, l.counted.is, l.counted.below f m mine))
      ]

      go : (o : Option ℕ) → named file own_folder.0 ≡ o → Fits file o (Some its) → IsSome (file_at F krate entry file)
      go None has fits = absurd fits
      go (Some f) has fits = let m = maker f its.linked fits.1 in at_number f m.0 has m.1

-- where it has no file, the directory is there and empty
first_named : (k : Text) (v : ℕ) (rest : List (Text × ℕ)) → named k ((k, v) ∷ rest) ≡ Some v
first_named k v rest = ap (λ r. cond (is_eq r) (Some v) (lookup (is_at (text_cmp k)) rest)) (tied_itself nat_list_cmp_total k)

module _ (files : Files) (H : List Event) (F : State) (l : Laws files H F) (who : ℕ) (runs : IsSome (running who H)) (h : ℕ) (locked : own (own_steps who H) ≡ Locked h)
    (krate entry : Text) (d : dir (own_steps who H) ≡ Stands krate entry []) where
  abbrev FitsNone : Text → Option ℕ → Type 0
  FitsNone x found = FitsView files (jobs_of H) (sites_of H) (makers_of H) (bytes_of F) who x found None

  no_names : (folder : List (Text × ℕ)) → folder_at F krate entry ≡ Some folder → ((x : Text) → FitsNone x (named x folder)) → folder_at F krate entry ≡ Some []
  no_names [] is fits = is
  no_names ((k, v) ∷ rest) is fits = let no : FitsNone k (Some v) = subst (FitsNone k) (first_named k v rest) (fits k) in absurd no

  own_empty : folder_at F krate entry ≡ Some []
  own_empty =
      let its = own_folder files H F l who runs h locked krate entry [] d in
      no_names its.0 its.1 its.2

-- ---- The names under which it makes its directory, and publishes it, are its alone.

module _ (files : Files) (H : List Event) (F : State) (l : Laws files H F) (who : ℕ) (n : SessionName) (called : head_of (names_of H who) ≡ Some n) (krate : Text) where
  owners : Owners (jobs_of H) (names_of H) (sites_of H) F.drawn
  owners = record { own = l.own_names; once = l.names_once }

  -- nothing stands under its working name before it made it
  working_free : sites_of H who ≡ Nowhere → IsSome (entry_at F krate (working_text n)) → ⊥
  working_free nowhere = go (entry_at F krate (working_text n)) refl
    where
      at_site : (v : ℕ) (s : Site) → sites_of H v ≡ s → v ≡ who → s ≡ Nowhere
      at_site v s is same = sym is ∙ ap (sites_of H) same ∙ nowhere

      not_at : (k e : Text) → At k e ≡ Nowhere → ⊥
      not_at k e is = cc

      not_out : (k e : Text) → Out k e ≡ Nowhere → ⊥
      not_out k e is = cc

      whose : IsWhose (sites_of H) krate (working_text n) → ⊥
      whose w = elim w.1 [
        | inl at ↦ not_at krate (working_text n) (at_site w.0 (At krate (working_text n)) at (one_at owners w.0 who krate n at called))
        | inr rest ↦ elim rest [
          | inl out ↦ let its = out_name owners w.0 krate (working_text n) out in working_is_no_final n its.1 (job_hash_of its.0) its.5
          | inr back ↦
              let same : back.0 ≡ n = sym (same_working_text n back.0 back.2) in
              not_out krate (final_text back.0 back.1) (at_site w.0 (Out krate (final_text back.0 back.1)) back.3 (one_out owners w.0 who krate back.0 back.1 back.3 (called ∙ ap Some (sym same))))
        ]
      ]

      go : (e : Option Entry) → entry_at F krate (working_text n) ≡ e → IsSome e → ⊥
      go None is some = cc
      go (Some (LockFile f)) is some =
          let t = l.lock_files.tried krate (working_text n) f (l.lock_files.entry krate (working_text n) f (ap lock_of is)) in
          lock_is_no_working t.1 n (sym t.3)
      go (Some (Folder folder)) is some = whose (l.dirs.whose krate (working_text n) folder (ap folder_of is))

  -- nor under its finalised names before it published
  final_free : (k e : Text) → sites_of H who ≡ At k e → (hash : ℕ) → IsSome (entry_at F krate (final_text n hash)) → ⊥
  final_free k e at hash some =
      let v = stands_published files H F l krate n hash some in
      apart (sym at ∙ ap (sites_of H) (sym (one_out owners v.0 who krate n hash v.1 called)) ∙ v.1)
    where
      apart : At k e ≡ Out krate (final_text n hash) → ⊥
      apart is = cc

-- ---- So by its own steps.

module _ (files : Files) (job : Job) where
  pub dir_made : (krate entry : Text) (steps : Steps) → ¬ CanBe files job ((MakeDir krate entry, Exists) ∷ steps)
  dir_made krate entry steps c =
      let m = made files job (MakeDir krate entry, Exists) steps c in
      let may = may_parts files m.events c.who (MakeDir krate entry) m.may in
      let p : MayMakeDirectory may.0 (own_steps c.who m.events) krate entry = may.2 in
      working_free files m.events m.before (laws_hold files m.events m.before m.leads m.allowed) c.who p.0 (name_is (own_steps c.who m.events) ∙ p.3) krate
      (ap site_of (untried_unmade (own_steps c.who m.events) p.6)) (subst (λ e. IsSome (entry_at m.before krate e)) p.5 m.step_is.0)

  pub linked : (krate from to file : Text) (steps : Steps) → ¬ CanBe files job ((Link krate from to file, Exists) ∷ steps)
  linked krate from to file steps c =
      let m = made files job (Link krate from to file, Exists) steps c in
      let p : MayLink (own_steps c.who m.events) krate from to file = (may_parts files m.events c.who (Link krate from to file) m.may).2 in
      none_some (number_at m.before krate to file)
      (own_lacks files m.events m.before (laws_hold files m.events m.before m.leads m.allowed) c.who (ap is_some m.runs) p.6.0 p.6.1 krate to p.0 p.5 file p.7) m.step_is.1

  pub created : (krate entry file : Text) (steps : Steps) → ¬ CanBe files job ((Create krate entry file, Exists) ∷ steps)
  created krate entry file steps c =
      let m = made files job (Create krate entry file, Exists) steps c in
      let p : MayCreate (own_steps c.who m.events) krate entry file = (may_parts files m.events c.who (Create krate entry file) m.may).2 in
      none_some (number_at m.before krate entry file)
      (own_lacks files m.events m.before (laws_hold files m.events m.before m.leads m.allowed) c.who (ap is_some m.runs) p.2.0 p.2.1 krate entry p.0 p.1 file p.3) m.step_is.0

  pub created_there : (krate entry file : Text) (steps : Steps) → ¬ CanBe files job ((Create krate entry file, Missing) ∷ steps)
  created_there krate entry file steps c =
      let m = made files job (Create krate entry file, Missing) steps c in
      let p : MayCreate (own_steps c.who m.events) krate entry file = (may_parts files m.events c.who (Create krate entry file) m.may).2 in
      own_stands files m.events m.before (laws_hold files m.events m.before m.leads m.allowed) c.who (ap is_some m.runs) p.2.0 p.2.1 krate entry p.0 p.1 m.step_is.0

  pub appended : (krate entry file piece : Text) (steps : Steps) → ¬ CanBe files job ((Append krate entry file piece, Missing) ∷ steps)
  appended krate entry file piece steps c =
      let m = made files job (Append krate entry file piece, Missing) steps c in
      let p : MayAppend (own_steps c.who m.events) krate entry file piece = (may_parts files m.events c.who (Append krate entry file piece) m.may).2 in
      none_some (file_at m.before krate entry file) m.step_is.0
      (own_has files m.events m.before (laws_hold files m.events m.before m.leads m.allowed) c.who (ap is_some m.runs) p.3.0 p.3.1 krate entry p.0 p.2 file p.1 p.4)

  pub read_there : (krate entry file : Text) (known : List (Text × Known)) (its : Known) (h : ℕ) (steps : Steps) → own steps ≡ Locked h → HasDir steps krate entry known → lookup (is_at (text_cmp file)) known ≡ Some its
      → ¬ CanBe files job ((Read krate entry file, Missing) ∷ steps)
  read_there krate entry file known its h steps locked d sees c =
      let m = made files job (Read krate entry file, Missing) steps c in
      none_some (file_at m.before krate entry file) m.step_is.0
      (own_has files m.events m.before (laws_hold files m.events m.before m.leads m.allowed) c.who (ap is_some m.runs) h (ap own m.own_is ∙ locked) krate entry known (ap dir m.own_is ∙ d) file its sees)

  pub removed_there : (krate entry : Text) (h : ℕ) (steps : Steps) → own steps ≡ Locked h → HasDir steps krate entry [] → ¬ CanBe files job ((RemoveDir krate entry, Missing) ∷ steps)
  removed_there krate entry h steps locked d c =
      let m = made files job (RemoveDir krate entry, Missing) steps c in
      own_stands files m.events m.before (laws_hold files m.events m.before m.leads m.allowed) c.who (ap is_some m.runs) h (ap own m.own_is ∙ locked) krate entry [] (ap dir m.own_is ∙ d) m.step_is.0

  pub removed_empty : (krate entry : Text) (h : ℕ) (steps : Steps) → own steps ≡ Locked h → HasDir steps krate entry [] → ¬ CanBe files job ((RemoveDir krate entry, NotEmpty) ∷ steps)
  removed_empty krate entry h steps locked d c =
      let m = made files job (RemoveDir krate entry, NotEmpty) steps c in
      let empty = own_empty files m.events m.before (laws_hold files m.events m.before m.leads m.allowed) c.who (ap is_some m.runs) h (ap own m.own_is ∙ locked) krate entry (ap dir m.own_is ∙ d) in
      m.step_is.2 (some_same m.step_is.0 [] (sym m.step_is.1 ∙ empty))

  -- renaming its own directory publishes it
  abbrev Publishes : Text → Text → Text → List Event → ℕ → Type 0
  Publishes krate from to events who = (n : SessionName) × (hash : ℕ) × HasLock (own_steps who events) × (head_of (names_of events who) ≡ Some n) × (to ≡ final_text n hash)

  publishes : (krate from to : Text) (known : List (Text × Known)) (reply : Reply) (steps : Steps) (who : ℕ) (all : List Event) (m : Made files job (Rename krate from to, reply) steps who all)
      → dir (own_steps who m.events) ≡ Stands krate from known → Publishes krate from to m.events who
  publishes krate from to known reply steps who all m d = go (may_parts files m.events who (Rename krate from to) m.may)
    where
      go : (its : Job) × (running who m.events ≡ Some its) × (MayPublish files its (own_steps who m.events) krate from to ⊎ MayRetire (own_steps who m.events) krate from to) → Publishes krate from to m.events who
      go (its, runs, inl p) = (p.1, job_hash_of its, p.4, name_is (own_steps who m.events) ∙ p.5, p.6)
      go (its, runs, inr p) =
          let place = own_place files m.events m.before (laws_hold files m.events m.before m.leads m.allowed) who its runs krate from known d in
          absurd (final_no_working p.0 place.0 p.1 (sym p.8 ∙ place.3))

  pub published_there : (krate from to : Text) (known : List (Text × Known)) (steps : Steps) → HasDir steps krate from known → ¬ CanBe files job ((Rename krate from to, Missing) ∷ steps)
  published_there krate from to known steps d c =
      let m = made files job (Rename krate from to, Missing) steps c in
      let d_then : dir (own_steps c.who m.events) ≡ Stands krate from known = ap dir m.own_is ∙ d in
      let p = publishes krate from to known Missing steps c.who c.events m d_then in
      own_stands files m.events m.before (laws_hold files m.events m.before m.leads m.allowed) c.who (ap is_some m.runs) p.2.0 p.2.1 krate from known d_then m.step_is.0

  pub published : (krate from to : Text) (known : List (Text × Known)) (steps : Steps) → HasDir steps krate from known → ¬ CanBe files job ((Rename krate from to, Exists) ∷ steps)
  published krate from to known steps d c =
      let m = made files job (Rename krate from to, Exists) steps c in
      let d_then : dir (own_steps c.who m.events) ≡ Stands krate from known = ap dir m.own_is ∙ d in
      let p = publishes krate from to known Exists steps c.who c.events m d_then in
      final_free files m.events m.before (laws_hold files m.events m.before m.leads m.allowed) c.who p.0 p.3 krate krate from (ap site_of d_then) p.1 (subst (λ e. IsSome (entry_at m.before krate e)) p.4 m.step_is.1)
