-- From the permissions and the table to the steps that keep the laws: what holds of a session's own directory.
use Rattle.std.specs.Prelude.{◌≡◌, ◌≢◌, ◌==◌, ℕ, Bool, true, false, cond, List, [], ◌∷◌, refl, Option, Some, None, IsSome, is_some, slice_get}
use Rattle.std.specs.Map.{lookup}
use Rattle.std.specs.BTreeMap.{is_at}
use Rattle.std.specs.Option.{option_and_then, option_map}
use Rattle.std.specs.Ordering.{is_eq}
use Rattle.std.specs.Cmp.{tied_itself}
use Rattle.std.proofs.Common.{ap, sym, subst, ◌∙◌, inl, inr, arith}
use Rattle.std.proofs.lemmas.Bool.{true≢false}
use Rattle.std.proofs.lemmas.Option.{slice_get_cases}
use Rattle.inc_base.specs.declared.job.Job.{Job}
use Rattle.inc_fs.specs.declared.state.File.{File}
use Rattle.inc_fs.specs.Lookups.{path_cmp_total}
use Rattle.inc_fs.specs.Readings.{bytes_of}
use Rattle.inc_fs.specs.State.{State, Text, Path, path_cmp, text_cmp, folder_at, file_at, named, numbered}
use Rattle.inc_fs.specs.declared.op.Op.{Op}
use Rattle.inc_fs.specs.declared.op.Op.TheVariants.{TryLock, MakeDir, Close}
use Rattle.inc_fs.specs.declared.op.Reply.{Reply}
use Rattle.inc_fs.specs.declared.op.Reply.TheVariants.{Done, Got}
use Rattle.inc_names.specs.declared.session.SessionName.{SessionName}
use Rattle.inc_names.specs.Entries.{lock_text, working_text}
use Rattle.inc_proto.specs.declared.event.Event.{Event}
use Rattle.inc_proto.specs.declared.own.Known.{Known}
use Rattle.inc_proto.specs.declared.own.OwnLock.TheVariants.{Locked}
use Rattle.inc_proto.specs.Events.{Steps, own_steps}
use Rattle.inc_proto.specs.Files.{Files}
use Rattle.inc_proto.specs.Permits.{IsOn, HoldsAlone}
use Rattle.inc_proto.specs.Views.{Opening, own, opening, mode, mode_after, alone, alone_after, begun, grown, dir, dir_after, made_dir, IsMakeDir, HasTriedDir}
use Rattle.inc_proto.specs.Views.Opening.{Made, Opened as ByOpen}
use Rattle.inc_proto.specs.Views.Dir.{Unmade, Stands}
use Rattle.inc_laws.specs.Laws.{Laws}
use Rattle.inc_laws.specs.Parts.{FitsView, IsSource}
use Rattle.inc_laws.specs.Readings.{running, head_of, place_of, site_of, jobs_of, names_of, sites_of, runs_of, owns_of, makers_of}
use Rattle.inc_laws.specs.Readings.Maker.{ByCreate}
use Rattle.inc_laws.specs.Readings.Site.{At}
use Rattle.inc_laws.proofs.InPlace.{some_same}
use Rattle.inc_laws.proofs.Next.{runs_job}
use Rattle.inc_laws.proofs.Own.{Owners, at_name, at_same}
use Rattle.inc_laws.proofs.Unlinks.{excludes}

-- ---- Paths.

-- what holds at one path holds at a path that is the same
pub at_path : (P : Text → Text → Type 0) (k e k' e' : Text) → k ≡ k' → e ≡ e' → P k' e' → P k e
at_path P k e k' e' p q h = subst (λ (x : Path). P x.0 x.1) (λ i. (sym p i, sym q i)) h

pub apart_at : (k e krate entry : Text) → is_eq (path_cmp (k, e) (krate, entry)) ≡ false → At k e ≢ At krate entry
apart_at k e krate entry off same =
    let is = at_same k e krate entry same in
    true≢false (sym (ap is_eq (tied_itself path_cmp_total (krate, entry))) ∙ at_path (λ k e. is_eq (path_cmp (k, e) (krate, entry)) ≡ false) krate entry k e (sym is.0) (sym is.1) off)

-- ---- What was found.

pub number_is : (o : Option (List (Text × ℕ))) (file : Text) (number : ℕ) → option_and_then (named file) o ≡ Some number → (folder : List (Text × ℕ)) × (o ≡ Some folder) × (named file folder ≡ Some number)
number_is None file number is = cc
number_is (Some folder) file number is = (folder, refl, is)

pub found_at : (F : State) (number : ℕ) (file : File) → slice_get F.files number ≡ Some file → numbered F number ≡ Some (number, file)
found_at F number file is = ap (option_map (λ (file : File). (number, file))) is

-- ---- What a session sees.

-- where its steps since a lock was got are there, it holds the lock exclusively
alone_step : (h : ℕ) (step : Op × Reply) (before : Option Steps) (held : Option Bool) → (IsSome before → held ≡ Some true) → IsSome (alone_after h step before) → mode_after h step held ≡ Some true
alone_step h (TryLock handle true, Got) before held old s = go (handle == h) s
  where
    less : (before : Option Steps) → (IsSome before → held ≡ Some true) → IsSome (grown (TryLock handle true, Got) before) → held ≡ Some true
    less None old s = cc
    less (Some steps) old s = old refl

    go : (b : Bool) → IsSome (cond b (begun (TryLock handle true, Got) before) (grown (TryLock handle true, Got) before)) → cond b (Some true) held ≡ Some true
    go true s = refl
    go false s = less before old s
alone_step h (TryLock handle false, Got) before held old s = go (handle == h) before old s
  where
    go : (b : Bool) (before : Option Steps) → (IsSome before → held ≡ Some true) → IsSome (cond b None (grown (TryLock handle false, Got) before)) → cond b (Some false) held ≡ Some true
    go true before old s = cc
    go false None old s = cc
    go false (Some steps) old s = old refl
alone_step h (Close handle, Done) before held old s = go (handle == h) before old s
  where
    go : (b : Bool) (before : Option Steps) → (IsSome before → held ≡ Some true) → IsSome (cond b None (grown (Close handle, Done) before)) → cond b None held ≡ Some true
    go true before old s = cc
    go false None old s = cc
    go false (Some steps) old s = old refl
alone_step h (op, reply) None held old s = cc
alone_step h (op, reply) (Some steps) held old s = old refl

pub alone_mode : (h : ℕ) (steps : Steps) → IsSome (alone h steps) → mode h steps ≡ Some true
alone_mode h [] s = cc
alone_mode h (step ∷ steps) s = alone_step h step (alone h steps) (mode h steps) (alone_mode h steps) s

pub on_place : (k e : Text) (o : Option Opening) → IsOn k e o → (by : Opening) × (o ≡ Some by) × (◌≡◌ {A = Text × Text} (place_of by) (k, e))
on_place k e None h = absurd h
on_place k e (Some (Made a b)) h = (Made a b, refl, (λ i. (h.0 i, h.1 i)))
on_place k e (Some (ByOpen a b)) h = (ByOpen a b, refl, (λ i. (h.0 i, h.1 i)))

made_none : (op : Op) (reply : Reply) → ¬ IsMakeDir (op, reply) → made_dir (op, reply) ≡ Unmade
made_none (MakeDir krate entry) reply other = absurd (other tt)
made_none op reply other = refl

-- who never asked for a directory has none
pub untried_unmade : (steps : Steps) → ¬ HasTriedDir steps → dir steps ≡ Unmade
untried_unmade [] never = refl
untried_unmade ((op, reply) ∷ steps) never =
    ap (dir_after (op, reply)) (untried_unmade steps (λ h. never (inr h))) ∙ made_none op reply (λ h. never (inl h))

-- ---- What the laws say of it.

module _ (files : Files) (H : List Event) (F : State) (l : Laws files H F) (who : ℕ) (job : Job) (runs : running who H ≡ Some job) where
  owners : Owners (jobs_of H) (names_of H) (sites_of H) F.drawn
  owners = record { own = l.own_names; once = l.names_once }

  -- its directory stands under its working name, in its crate directory
  pub own_place : (krate entry : Text) (known : List (Text × Known)) → dir (own_steps who H) ≡ Stands krate entry known
      → (n : SessionName) × (head_of (names_of H who) ≡ Some n) × (krate ≡ job.krate) × (entry ≡ working_text n)
  own_place krate entry known d =
      let its = at_name owners who krate entry (ap site_of d) in
      let same : its.0 ≡ job = some_same its.0 job (sym its.2 ∙ runs_job H who job runs) in
      (its.1, its.4, its.3 ∙ ap (λ (j : Job). j.krate) same, its.5)

  -- who holds n exclusively is the only one who can have a directory of n with its own lock
  pub only_holder : (krate : Text) (n : SessionName) (h : ℕ) (after : Steps) → HoldsAlone krate n (own_steps who H) h after
      → (v g : ℕ) → IsSome (runs_of H v) → owns_of H v ≡ Locked g → sites_of H v ≡ At krate (working_text n) → v ≡ who
  only_holder krate n h after holds v g r locked at =
      let by = on_place krate (lock_text n) (opening h (own_steps who H)) holds.0 in
      go (runs_of H v) refl r by.0 by.1 by.2
    where
      go : (j : Option Job) → runs_of H v ≡ j → IsSome j → (by : Opening) → opening h (own_steps who H) ≡ Some by → ◌≡◌ {A = Text × Text} (place_of by) (krate, lock_text n) → v ≡ who
      go None e s by sees place = cc
      go (Some j) e s by sees place = excludes l.handles l.lock_files l.own_locks owners (runs_job H) who h job by krate n runs sees place (alone_mode h (own_steps who H) (ap is_some holds.1)) v g j e locked at

  -- where the view has a file that it created, its name leads to one
  pub own_file_found : (krate entry file : Text) (h : ℕ) (known : List (Text × Known)) (its : Known) → own (own_steps who H) ≡ Locked h → dir (own_steps who H) ≡ Stands krate entry known
      → lookup (is_at (text_cmp file)) known ≡ Some its → its.linked ≡ None
      → (found : ℕ × File) × (file_at F krate entry file ≡ Some found) × (makers_of H found.0 ≡ Some (ByCreate who))
  own_file_found krate entry file h known its locked d sees created =
      let old = l.own_dir who h krate entry known (ap is_some runs) locked d in
      go old.0 old.1 (named file old.0) refl (subst (FitsView files (jobs_of H) (sites_of H) (makers_of H) (bytes_of F) who file (named file old.0)) sees (old.2 file))
    where
      made : (f : ℕ) (from : Option Text) → from ≡ None → IsSource files (jobs_of H) (sites_of H) (makers_of H) (bytes_of F) who file f from → makers_of H f ≡ Some (ByCreate who)
      made f None e s = s
      made f (Some from) e s = cc

      at_number : (folder : List (Text × ℕ)) (f : ℕ) → folder_at F krate entry ≡ Some folder → named file folder ≡ Some f → makers_of H f ≡ Some (ByCreate who)
          → (found : ℕ × File) × (file_at F krate entry file ≡ Some found) × (makers_of H found.0 ≡ Some (ByCreate who))
      at_number folder f stands has mine = elim (slice_get_cases F.files f).1 [
        | inl (x, within, is, _) ↦ ((f, x), ap (option_and_then (numbered F)) (ap (option_and_then (named file)) stands ∙ has) ∙ found_at F f x is, mine)
        | inr past ↦ absurd (omega (arith, past.0, l.counted.is, l.counted.below f _ mine))
      ]

      go : (folder : List (Text × ℕ)) → folder_at F krate entry ≡ Some folder → (o : Option ℕ) → named file folder ≡ o → FitsView files (jobs_of H) (sites_of H) (makers_of H) (bytes_of F) who file o (Some its)
          → (found : ℕ × File) × (file_at F krate entry file ≡ Some found) × (makers_of H found.0 ≡ Some (ByCreate who))
      go folder stands None has fits = absurd fits
      go folder stands (Some f) has fits = at_number folder f stands has (made f its.linked created fits.1)
