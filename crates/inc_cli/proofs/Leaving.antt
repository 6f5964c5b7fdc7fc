-- What the directory of a session that published is in each state that a legal history leads to.
use Rattle.std.proofs.Common.{◌≡◌, ℕ, ◌++◌, cond, List, [], ◌∷◌, Some, None, ap, ◌∙◌, sym, subst, inl, inr, refl, eq-eqb}
use Rattle.std.specs.Prelude.{Bool, Option, IsSome}
use Rattle.std.specs.List.{AllByRecursion}
use Rattle.std.proofs.lemmas.Bool.{ne_eqb}
use Rattle.inc_base.specs.declared.job.Job.{Job}
use Rattle.inc_fs.specs.Paths.{Text}
use Rattle.inc_fs.specs.Readings.{bytes_of}
use Rattle.inc_fs.specs.State.{State, folder_at, IsIn}
use Rattle.inc_fs.specs.declared.op.Op.TheVariants.{Close}
use Rattle.inc_fs.specs.declared.op.Op.TheVariants.{Draw}
use Rattle.inc_fs.specs.declared.op.Reply.TheVariants.{Drawn}
use Rattle.inc_laws.specs.Invariants.{NamesOnce, HeldExclusively, FinalisedComplete, NewestStands}
use Rattle.inc_laws.specs.Parts.{HoldsSet, IsNamed, IsWhose}
use Rattle.inc_laws.specs.Readings.{draws, head_of, jobs_of, names_of, sites_of, site_of}
use Rattle.inc_laws.specs.Readings.Site.{At, Gone, Out}
use Rattle.inc_names.specs.declared.session.SessionName.{SessionName}
use Rattle.inc_names.specs.Entries.{working_text, final_text}
use Rattle.inc_names.specs.EntryLaws.{same_final_name, same_working_text, working_is_no_final}
use Rattle.inc_proto.specs.declared.event.Event.{Event}
use Rattle.inc_proto.specs.declared.event.Event.TheVariants.{Begin, Did, Left}
use Rattle.inc_proto.specs.Events.{Steps, did, job_of, latest}
use Rattle.inc_proto.specs.Files.{IsSet}
use Rattle.inc_proto.specs.Growth.{IsOfOther, GrowsBy, TellsBy, AddsOne}
use Rattle.inc_proto.specs.GrowthLaws.{of_other, latest_own}
use Rattle.inc_proto.specs.Views.{name, dir, dir_after}
use Rattle.inc_session.specs.Ends.{HasBuilt}
use Rattle.inc_session.specs.Saves.{IsLegalHere, saved_files}
use Rattle.inc_session.specs.declared.outcome.Used.{Used}
use Rattle.inc_wire.specs.Forms.{job_hash_of}
use Rattle.inc_cli.specs.Run.{HasLeft}

-- ---- The job of a session that visited.

-- others' events leave a session's job alone
others_keep_job : (who : ℕ) (others old : List Event) → AllByRecursion (IsOfOther who) others → job_of who (others ++ old) ≡ job_of who old
others_keep_job who [] old h = refl
others_keep_job who (Begin number job ∷ others) old h = ap (λ b. cond b (Some job) (job_of who (others ++ old))) (ne_eqb number who h.0) ∙ others_keep_job who others old h.1
others_keep_job who (Did number op reply ∷ others) old h = others_keep_job who others old h.1
others_keep_job who (Left number op cut ∷ others) old h = others_keep_job who others old h.1

module _ (own : List ℕ) (who : ℕ) (its : IsIn own who) (job : Job) where
  job_of_run : (steps : Steps) (old new : List Event) → GrowsBy IsLegalHere own old new (did who steps ++ Begin who job ∷ []) → job_of who new ≡ Some job
  job_of_run [] old new (mid, before, g) = ap (job_of who) g.is ∙ ap (λ b. cond b (Some job) (job_of who (g.others ++ mid))) (eq-eqb who who refl)
  job_of_run (step ∷ steps) old new (mid, before, g) =
      ap (job_of who) g.is ∙ others_keep_job who g.others mid (of_other own who its g.others g.by_others) ∙ job_of_run steps old mid before

  job_of_whole : (steps : Steps) (old new : List Event) → GrowsBy IsLegalHere own old new (Left who None 0 ∷ (did who steps ++ Begin who job ∷ [])) → job_of who new ≡ Some job
  job_of_whole steps old new (mid, before, g) =
      ap (job_of who) g.is ∙ others_keep_job who g.others mid (of_other own who its g.others g.by_others) ∙ job_of_run steps old mid before

pub told_job : (before own : List ℕ) (job : Job) (steps : Steps) (old new : Option (List Event)) (history : List Event) → AddsOne old before own
    → TellsBy IsLegalHere own old new (Left (latest own) None 0 ∷ (did (latest own) steps ++ Begin (latest own) job ∷ [])) → new ≡ Some history → job_of (latest own) history ≡ Some job
told_job before own job steps None new history one told is = let gone : new ≡ None = told in absurd (cc)
told_job before own job steps (Some old) None history one told is = absurd told
told_job before own job steps (Some old) (Some new) history one told is =
    let same : new ≡ history = cc in
    ap (job_of (latest own)) (sym same) ∙ job_of_whole own (latest own) (latest_own before own one) job steps old new told

-- ---- Its directory.

-- a session that published has its directory out
pub is_out : (job : Job) (diags image : Text) (used : Used) (note : Bool) (steps : Steps) (built : HasBuilt job diags image used note steps) → site_of (dir steps) ≡ Out job.krate (final_text built.its (job_hash_of job))
is_out job diags image used note steps built = ap (λ steps. site_of (dir steps)) built.ended ∙ ap (λ d. site_of (dir_after (Close built.handle, built.closed) d)) built.saved.out

head_in : (names : List SessionName) (n : SessionName) → head_of names ≡ Some n → IsIn names n
head_in [] n is = absurd (cc)
head_in (name ∷ names) n is = inl (cc)

module _ (history : List Event) (F : State) (names : NamesOnce history F) (complete : FinalisedComplete saved_files history F) (newest : NewestStands history F)
    (own : ℕ) (job : Job) (its : SessionName) (jobs : job_of own history ≡ Some job) (out : sites_of history own ≡ Out job.krate (final_text its (job_hash_of job))) where
  abbrev entry : Text
  entry = final_text its (job_hash_of job)

  -- the name under which a directory is out is its session's
  called : (who : ℕ) → sites_of history who ≡ Out job.krate entry → head_of (names_of history who) ≡ Some its
  called who is =
      let named : IsNamed (jobs_of history) (names_of history) who (Out job.krate entry) = subst (IsNamed (jobs_of history) (names_of history) who) is (names.own_names who) in
      named.4 ∙ ap Some (sym (same_final_name its named.1 (job_hash_of job) (job_hash_of named.0) named.5))

  only_own : (who : ℕ) → sites_of history who ≡ Out job.krate entry → who ≡ own
  only_own who is = names.drawn.once who own its (head_in (names_of history who) its (called who is)) (head_in (names_of history own) its (called own out))

  abbrev Stands : Type 0
  Stands = (folder : List (Text × ℕ)) × (set : List (Text × Text)) × (folder_at F job.krate entry ≡ Some folder) × IsSet saved_files job set × HoldsSet (bytes_of F) folder set

  whole : (found : Option (List (Text × ℕ))) → folder_at F job.krate entry ≡ found → IsSome found → Stands
  whole None is some = absurd (cc)
  whole (Some folder) is some =
      let c = complete.complete job.krate its (job_hash_of job) folder is in
      let same : c.1 ≡ job = (let both : Some c.1 ≡ Some job = sym c.4 ∙ ap (λ who. job_of who history) (only_own c.0 c.3) ∙ jobs in cc) in
      (folder, c.2, is, subst (λ job. IsSet saved_files job c.2) same c.5, c.6)

  pub has_left : HasLeft own job its history F
  has_left = record {
    out = out;
    stands = elim (newest.stands own job.krate its (job_hash_of job) out) [
      | inl stands ↦ inl (whole (folder_at F job.krate entry) refl stands)
      | inr newer ↦ inr newer
    ];
  }

-- ---- The directory of a session that ended with errors.

-- a session's name is one that it drew
pub named_in : (steps : Steps) (n : SessionName) → name steps ≡ Some n → IsIn (draws steps) n
named_in [] n is = absurd (cc)
named_in ((Draw, Drawn moment random) ∷ steps) n is = inl (cc)
named_in (step ∷ steps) n is = named_in steps n is

-- where it was removed, none stands under its working name
module _ (history : List Event) (F : State) (names : NamesOnce history F) (held : HeldExclusively history F)
    (own : ℕ) (krate : Text) (its : SessionName) (drew : IsIn (names_of history own) its) (gone : sites_of history own ≡ Gone) where
  -- a name that it drew is nobody else's
  nobody : (who : ℕ) → IsIn (names_of history who) its → sites_of history who ≡ Gone
  nobody who drawn = ap (sites_of history) (names.drawn.once who own its drawn drew) ∙ gone

  of_nobody : IsWhose (sites_of history) krate (working_text its) → ⊥
  of_nobody (who, inl at) =
      let named : IsNamed (jobs_of history) (names_of history) who (At krate (working_text its)) = subst (IsNamed (jobs_of history) (names_of history) who) at (names.own_names who) in
      let same : named.1 ≡ its = sym (same_working_text its named.1 named.5) in
      let none = nobody who (head_in (names_of history who) its (named.4 ∙ ap Some same)) in
      cc
  of_nobody (who, inr (inl out)) =
      let named : IsNamed (jobs_of history) (names_of history) who (Out krate (working_text its)) = subst (IsNamed (jobs_of history) (names_of history) who) out (names.own_names who) in
      working_is_no_final its named.1 (job_hash_of named.0) named.5
  of_nobody (who, inr (inr back)) =
      let named : IsNamed (jobs_of history) (names_of history) who (Out krate (final_text back.0 back.1)) = subst (IsNamed (jobs_of history) (names_of history) who) back.3 (names.own_names who) in
      let same : named.1 ≡ its = sym (same_final_name back.0 named.1 back.1 (job_hash_of named.0) named.5) ∙ sym (same_working_text its back.0 back.2) in
      let none = nobody who (head_in (names_of history who) its (named.4 ∙ ap Some same)) in
      let out = back.3 in
      cc

  pub is_gone : folder_at F krate (working_text its) ≡ None
  is_gone = by (folder_at F krate (working_text its)) refl
    where
      by : (found : Option (List (Text × ℕ))) → folder_at F krate (working_text its) ≡ found → folder_at F krate (working_text its) ≡ None
      by None is = is
      by (Some folder) is = absurd (of_nobody (held.whose krate (working_text its) folder is))
