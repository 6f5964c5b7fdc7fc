-- A command is its words, its text and, for a build, its session.
use Rattle.std.proofs.Common.{◌≡◌, inl, inr, ℕ, [], ◌∷◌, ◌++◌, Some, None, ap, ◌∙◌, subst, sym, arith}
use Rattle.std.specs.Prelude.{Bool, Option, List, IfSome}
use Rattle.inc_base.specs.declared.job.Compiler.{Compiler}
use Rattle.inc_base.specs.declared.job.Job.{Job}
use Rattle.inc_fs.specs.Paths.{Text}
use Rattle.inc_fs.specs.State.{State}
use Rattle.inc_fs.specs.declared.op.Op.{Op}
use Rattle.inc_fs.specs.declared.op.Op.TheVariants.{Close}
use Rattle.inc_fs.specs.declared.op.Reply.{Reply}
use Rattle.inc_base.specs.Meters.{raised}
use Rattle.inc_laws.specs.Invariants.{NamesOnce, HeldExclusively, FinalisedComplete, NewestStands}
use Rattle.inc_words.specs.Words.{AsksFor}
use Rattle.inc_words.specs.declared.words.Command.{Command}
use Rattle.inc_words.specs.declared.words.Command.TheVariants.{Build, Clean}
use Rattle.inc_proto.specs.declared.event.Event.{Event}
use Rattle.inc_proto.specs.declared.event.Event.TheVariants.{Begin, Left}
use Rattle.inc_proto.specs.Events.{Steps, did, latest, own_steps}
use Rattle.inc_proto.specs.Files.{Files}
use Rattle.inc_proto.specs.Growth.{TellsBy, AddsOne}
use Rattle.inc_proto.specs.GrowthLaws.{steps_of_whole, latest_own}
use Rattle.inc_proto.specs.Leads.{LeadsTo}
use Rattle.inc_proto.specs.Legal.{AreAllowed}
use Rattle.inc_proto.specs.Views.{dir}
use Rattle.inc_dir.specs.Promises.{IsRefusal}
use Rattle.inc_fs.specs.State.{IsIn}
use Rattle.inc_laws.specs.Readings.{draws, site_of}
use Rattle.inc_session.specs.CompilingLaws.{built_clean, errors_clean}
use Rattle.inc_session.specs.Ends.{HasBuilt, HasFailed as WithErrors}
use Rattle.inc_session.specs.Saves.{IsLegalHere, saved_files}
use Rattle.inc_session.specs.declared.outcome.Used.{Used}
use Rattle.link_laws.specs.Told.{AreLines, Tells}
use Rattle.rs_lines.specs.declared.line.Line.{Line}
use Rattle.rs_queries.specs.Built.{IsClean}
use Rattle.rs_queries.specs.declared.compiled.CleanBuild.{CleanBuild}
use Rattle.rs_queries.specs.declared.reading.Reading.{Reading}
use Rattle.inc_cli.specs.declared.answer.Answer.{Answer}
use Rattle.inc_cli.specs.declared.answer.Answer.TheVariants.{Built, Failed, Cleaned}
use Rattle.inc_cli.specs.declared.status.Status.{Status}
use Rattle.inc_cli.specs.declared.status.Status.TheVariants.{Done, Errors, BadWords, DirectoryFault, SinkFault, SourceFault, OutOfMemory, Lost, OverLimit, Disturbed}
use Rattle.inc_cli.specs.Run.{FailsToWrite, Inputs, Outputs, session_of, AreTold, ComesTo, HasCleaned, HasFailed, HasLeft, HasPublished, IsCleanOf, IsGone, IsSoFar, KeepsDir, Refuses, Visit}
use Rattle.inc_cli.specs.Parts.{IsText, FailsText, Visited, BuildsSo, FailsSo, HasSession, FailsSession}
use Rattle.inc_cli.proofs.Leaving.{told_job, is_out, is_gone, has_left, named_in}

told_as_own : (before own : List ℕ) (job : Job) (steps : Steps) (old new : Option (List Event)) → AddsOne old before own
    → TellsBy IsLegalHere own old new (Left (latest own) None 0 ∷ (did (latest own) steps ++ Begin (latest own) job ∷ [])) → IfSome new (λ history. own_steps (latest own) history ≡ steps)
told_as_own before own job steps None new one told = subst (λ new. IfSome new (λ history. own_steps (latest own) history ≡ steps)) (sym told) tt
told_as_own before own job steps (Some old) None one told = tt
told_as_own before own job steps (Some old) (Some new) one told = steps_of_whole IsLegalHere own (latest own) (latest_own before own one) job steps old new told

same_head : (x y : Op × Reply) (xs ys : Steps) → x ∷ xs ≡ y ∷ ys → x ≡ y
same_head x y xs ys is = cc

-- a refused renaming is no closing
no_refusal : (handle : ℕ) (closed : Reply) (asked : Op) (reply : Reply) (before told : Steps) → (Close handle, closed) ∷ before ≡ (asked, reply) ∷ told → ¬ IsRefusal asked reply
no_refusal handle closed asked reply before told is = λ refusal.
    let closes : asked ≡ Close handle = sym (ap (λ (step : Op × Reply). step.0) (same_head (Close handle, closed) (asked, reply) before told is)) in
    (subst (λ asked. IsRefusal asked reply) closes refusal).0

-- all steps of a session are told where the last of them closes its lock
all_told : (handle : ℕ) (closed : Reply) (before steps told : Steps) → steps ≡ (Close handle, closed) ∷ before → AreTold steps told → told ≡ steps
all_told handle closed before steps told last (inl all) = all
all_told handle closed before steps told last (inr (asked, reply, refusal, is)) = absurd (no_refusal handle closed asked reply before told (sym last ∙ is) refusal)

-- a clean build tells the lines of its text, by the law that objects link
clean_of : ((text : List ℕ) (level : ℕ) (build : CleanBuild) (lines : List Line) → IsClean text level build → AreLines text lines → Tells build lines)
    → (text : List ℕ) (level : ℕ) (build : CleanBuild) → IsClean text level build → IsCleanOf text level build
clean_of tells text level build is = record { is = is; tells = λ lines are. tells text level build lines is are }

-- so a clean build of the source's text is what the command asks for
pub has_cleaned : ((text : List ℕ) (level : ℕ) (build : CleanBuild) (lines : List Line) → IsClean text level build → AreLines text lines → Tells build lines)
    → (words : List (List ℕ)) (compiler : Compiler) (text : List ℕ) (reading : Reading) (build : CleanBuild) (old new : Inputs) → AsksFor words (Clean compiler) → IsText text reading old.left new.left → KeepsDir old new
    → IsClean text compiler.level build → HasCleaned words build old new
has_cleaned tells words compiler text reading build old new asks is keeps clean = record {
  compiler = compiler;
  asks = asks;
  text = text;
  of_source = is.of_source;
  clean = clean_of tells text compiler.level build clean;
  read = is.read;
  keeps = keeps;
}

none_emitted : (count : ℕ) → raised count 0 ≡ count
none_emitted count = omega arith

module _ (words : List (List ℕ)) (job : Job) (reading : Reading) (old new : Inputs) (asks : AsksFor words (Build job.krate job.compiler)) (text : IsText job.text reading old.left new.left) where
  visit_of : (IsEnd : Job → Steps → Type 0) → Visited IsEnd job old.dir new.dir → Visit IsEnd words old.left old.dir new.dir
  visit_of IsEnd visited = record {
    job = job;
    steps = visited.steps;
    of_job = record { asks = asks; text = text.of_source };
    visited = visited.visited;
    ends = visited.ends;
    told = told_as_own old.dir.own new.dir.own job visited.visited.told_steps old.dir.told new.dir.told visited.visited.one visited.visited.told;
  }

  -- what a told history has as the session's own
  own_told : {IsEnd : Job → Steps → Type 0} (visit : Visited IsEnd job old.dir new.dir) → visit.visited.told_steps ≡ visit.steps → (history : List Event) → new.dir.told ≡ Some history
      → own_steps (session_of new.dir) history ≡ visit.steps
  own_told visit all history is =
      subst (λ told. IfSome told (λ history. own_steps (session_of new.dir) history ≡ visit.visited.told_steps)) is
      (told_as_own old.dir.own new.dir.own job visit.visited.told_steps old.dir.told new.dir.told visit.visited.one visit.visited.told)
      ∙ all

  module _ (names_once : (files : Files) (events : List Event) (F : State) → LeadsTo events F → AreAllowed files events → NamesOnce events F)
      (held_exclusively : (files : Files) (events : List Event) (F : State) → LeadsTo events F → AreAllowed files events → HeldExclusively events F)
      (finalised_complete : (files : Files) (events : List Event) (F : State) → LeadsTo events F → AreAllowed files events → FinalisedComplete files events F)
      (newest_stands : (files : Files) (events : List Event) (F : State) → LeadsTo events F → AreAllowed files events → NewestStands events F)
      (tells : (text : List ℕ) (level : ℕ) (build : CleanBuild) (lines : List Line) → IsClean text level build → AreLines text lines → Tells build lines) where
    module _ (diags image : Text) (used : Used) (note : Bool) (session : BuildsSo job diags image used note old.dir new.dir old.meter new.meter) where
      abbrev built : HasBuilt job diags image used note session.visit.steps
      built = session.visit.ends.cause

      all : session.visit.visited.told_steps ≡ session.visit.steps
      all = all_told built.handle built.closed built.before session.visit.steps session.visit.visited.told_steps built.ended session.visit.visited.are_told

      leaves : (history : List Event) (F : State) → new.dir.told ≡ Some history → IsLegalHere history → LeadsTo history F → HasLeft (session_of new.dir) job built.its history F
      leaves history F is legal leads =
          has_left history F (names_once saved_files history F leads legal.allowed) (finalised_complete saved_files history F leads legal.allowed) (newest_stands saved_files history F leads legal.allowed)
          (session_of new.dir) job built.its
          (told_job old.dir.own new.dir.own job session.visit.visited.told_steps old.dir.told new.dir.told history session.visit.visited.one session.visit.visited.told is)
          (ap (λ steps. site_of (dir steps)) (own_told session.visit all history is) ∙ is_out job diags image used note session.visit.steps built)

      clean : IsClean job.text job.compiler.level (record { diags = diags; image = Some image; units = used.units })
      clean = subst (λ (b : CleanBuild). IsClean job.text job.compiler.level b)
          (λ j. record { diags = sym built.diags_are j; image = Some (sym built.image_is j); units = sym built.units_are j }) (built_clean job built.made built.compiled)

      each : used.emitted ≡ used.units
      each = built.all_emitted ∙ sym built.units_are

      -- a session of the job that published is a build that did
      has_published : HasPublished words diags image used note old new
      unfolding visit_of
      has_published = record {
        visit = visit_of _ session.visit;
        clean = clean_of tells _ _ _ clean;
        each = each;
        all = all;
        read = text.read;
        meter = session.meter ∙ ap (raised old.meter) (sym each);
        stands = leaves;
      }

    module _ (diags : Text) (note : Bool) (session : FailsSo job diags note old.dir new.dir old.meter new.meter) where
      abbrev failed : WithErrors job diags note session.visit.steps
      failed = session.visit.ends.cause

      all_of : session.visit.visited.told_steps ≡ session.visit.steps
      all_of = all_told failed.handle failed.closed failed.sooner session.visit.steps session.visit.visited.told_steps failed.last session.visit.visited.are_told

      goes : (history : List Event) (F : State) → new.dir.told ≡ Some history → IsLegalHere history → LeadsTo history F → IsGone job failed.its session.visit.steps F
      goes history F is legal leads = λ removed.
          is_gone history F (names_once saved_files history F leads legal.allowed) (held_exclusively saved_files history F leads legal.allowed) (session_of new.dir) job.krate failed.its
          (subst (λ steps. IsIn (draws steps) failed.its) (sym (own_told session.visit all_of history is)) (named_in session.visit.steps failed.its failed.named))
          (ap (λ steps. site_of (dir steps)) (own_told session.visit all_of history is) ∙ ap site_of (failed.removed removed))

      -- one whose text has errors is a build that failed
      has_failed : HasFailed words diags note old new
      unfolding visit_of
      has_failed =
          let clean = errors_clean job failed.errors in
          record {
            visit = visit_of _ session.visit;
            units = clean.0;
            clean = clean_of tells _ _ _ (subst (λ diags. IsClean job.text job.compiler.level (record { diags = diags; image = None; units = clean.0 })) (sym failed.diags_are) clean.1);
            all = all_of;
            read = text.read;
            meter = session.meter ∙ none_emitted old.meter;
            gone = goes;
          }

    -- a session of the job that came to an answer is a build that did
    pub comes_to : (answer : Answer) → HasSession job answer old.dir new.dir old.meter new.meter → ComesTo words answer old new
    comes_to (Built diags image used note) session = has_published diags image used note session
    comes_to (Failed diags note) session = has_failed diags note session
    comes_to (Cleaned build) session = absurd session

  -- and one that came to none is refused for its cause
  pub is_refused : (status : Status) → FailsSession status job old.dir new.dir (record { faults = old.dir_faults; meter = old.meter }) (record { faults = new.dir_faults; meter = new.meter }) → Refuses status words old new
  is_refused DirectoryFault (visited, rose) = record { visit = visit_of _ visited; read = text.read; faults = rose }
  is_refused Lost lost = record { visit = visit_of _ lost.visit; read = text.read; meter = lost.meter }
  is_refused Disturbed visited = record { visit = visit_of _ visited; read = text.read }
  is_refused OutOfMemory (inl others) = inr (inl ((job.krate, job.compiler, asks), others))
  is_refused OutOfMemory (inr visited) = inr (inr (visit_of _ visited))
  is_refused Done cause = absurd cause
  is_refused Errors cause = absurd cause
  is_refused BadWords cause = absurd cause
  is_refused SinkFault cause = absurd cause
  is_refused SourceFault cause = absurd cause
  is_refused (OverLimit limit) cause = absurd cause

-- a source that gives no text refuses any command for its cause
pub no_text : (words : List (List ℕ)) (command : Command) (old new : Inputs) → AsksFor words command → KeepsDir old new → (status : Status) → FailsText status old.left old.source_faults new.source_faults → Refuses status words old new
no_text words command old new asks keeps SourceFault rose = record { command = command; asks = asks; faults = rose; keeps = keeps }
no_text words command old new asks keeps (OverLimit limit) over = record { command = command; asks = asks; over = over; keeps = keeps }
no_text words command old new asks keeps OutOfMemory cause = inl keeps
no_text words command old new asks keeps Done cause = absurd cause
no_text words command old new asks keeps Errors cause = absurd cause
no_text words command old new asks keeps BadWords cause = absurd cause
no_text words command old new asks keeps DirectoryFault cause = absurd cause
no_text words command old new asks keeps SinkFault cause = absurd cause
no_text words command old new asks keeps Lost cause = absurd cause
no_text words command old new asks keeps Disturbed cause = absurd cause

-- so where a command that came to an answer finds no memory for its lines, what a want of memory allows has come to pass
went_so_far : {IsEnd : Job → Steps → Type 0} (words : List (List ℕ)) (old new : Inputs) (visit : Visit IsEnd words old.left old.dir new.dir) → IsSoFar visit.job visit.steps → Refuses OutOfMemory words old new
went_so_far words old new visit far = inr (inr (record {
  job = visit.job;
  steps = visit.steps;
  of_job = visit.of_job;
  visited = visit.visited;
  ends = far;
  told = visit.told;
}))

pub out_of_memory : (words : List (List ℕ)) (answer : Answer) (old new : Inputs) → ComesTo words answer old new → Refuses OutOfMemory words old new
out_of_memory words (Built diags image used note) old new published = went_so_far words old new published.visit published.visit.ends.whole.follows
out_of_memory words (Failed diags note) old new failed = went_so_far words old new failed.visit failed.visit.ends.whole.follows
out_of_memory words (Cleaned build) old new cleaned = inl cleaned.keeps

-- what was written is what was to be
pub wrote_part : (written lines : List ℕ) (bytes image : Option (List ℕ)) (before after : Outputs) → written ≡ lines → bytes ≡ image → FailsToWrite written bytes before after → FailsToWrite lines image before after
wrote_part written lines bytes image before after same all wrote = subst (λ image. FailsToWrite lines image before after) all (subst (λ lines. FailsToWrite lines bytes before after) same wrote)
