-- Directories in memory.
use Rattle.std.specs.Prelude.{◌≡◌, ◌⊎◌, ℕ, ◌==◌, Bool, true, false, List, [], ◌∷◌, ◌++◌, drop, filter, None, slice_get, unwrap_or}
use Rattle.inc_base.specs.Meters.{ticked}
use Rattle.inc_base.specs.declared.job.Job.{Job}
use Rattle.inc_fs.specs.State.{IsIn, end_of}
use Rattle.inc_fs.specs.Step.{StepWith}
use Rattle.inc_fs.specs.declared.op.Op.{Op}
use Rattle.inc_fs.specs.declared.op.Chance.{Chance}
use Rattle.inc_fs.specs.declared.op.Reply.{Reply}
use Rattle.inc_proto.specs.declared.event.Event.TheVariants.{Begin, Did, Left}
use Rattle.inc_proto.specs.Events.{begins, latest}
use Rattle.inc_proto.specs.Files.{Files}
use Rattle.inc_proto.specs.Legal.{World, MayDo}
use Rattle.inc_dir.specs.Promises.{IsRefusal}
use Rattle.inc_dir.specs.Replays.{faults_after}
use Rattle.inc_dir.specs.declared.foreign.Foreign.{Foreign}

-- The history with the state that it leads to; what the outside decides of each act; others' steps, and how many of them were
-- looked at for the act to come; how many acts there were; the numbers of its own sessions, the latest first, and whether
-- that one runs; and the count of faults.
pub record Remembering : Type 0 where
  pub world : World
  pub chances : List Chance
  pub between : List Foreign
  pub looked : ℕ
  pub acts : ℕ
  pub own : List ℕ
  pub runs : Bool
  pub faults : ℕ

-- no failure, moment 0 and random part 0
abbrev pub no_chance : Chance
no_chance = record { moment = 0; random = 0; fails = None }

-- what the outside decides of the next act
abbrev pub chance_of : Remembering → Chance
chance_of dir = unwrap_or (slice_get dir.chances dir.acts) no_chance

-- the number of its latest session
abbrev pub session_of : Remembering → ℕ
session_of dir = latest dir.own

-- ---- Others' steps.

-- another's step that is to be made before this act
abbrev pub is_due : ℕ → Foreign → Bool
is_due acts step = step.before == acts

-- another's step may be made: it isn't of an own session, and its session runs and may make it
abbrev pub MayForeign : Files → List ℕ → World → Foreign → Type 0
MayForeign files own world step = (¬ IsIn own step.who) × MayDo files world.history step.who step.op

-- the session was answered so, by the table, and that is the newest event
pub record HasStepped (who : ℕ) (op : Op) (chance : Chance) (old : World) (reply : Reply) (new : World) : Type 0 where
  pub step : StepWith old.state who op chance reply new.state
  pub history : new.history ≡ Did who op reply ∷ old.history

-- another's step was made where it may be made, and else it was skipped
abbrev pub IsMade : Files → List ℕ → Foreign → World → World → Type 0
IsMade files own step old new =
    (MayForeign files own old step × (reply : Reply) × HasStepped step.who step.op step.chance old reply new)
    ⊎ ((¬ MayForeign files own old step) × (new ≡ old))

-- these were, in their order
abbrev pub AreMade : Files → List ℕ → List Foreign → World → World → Type 0
AreMade files own [] old new = new ≡ old
AreMade files own (step ∷ steps) old new = (mid : World) × IsMade files own step old mid × AreMade files own steps mid new

-- the ones of these that are due
abbrev pub due_of : ℕ → List Foreign → List Foreign
due_of acts steps = filter (is_due acts) steps

-- From place `from` to place `to` of these steps all were looked at, and the ones that are due were made or skipped.
pub record HasLooked (files : Files) (own : List ℕ) (acts : ℕ) (between : List Foreign) (from : ℕ) (old : World) (to : ℕ) (new : World) : Type 0 where
  pub front : List Foreign
  pub front_is : drop from between ≡ front ++ drop to between
  pub made : AreMade files own (due_of acts front) old new

-- Some more of others' steps were looked at for the act to come. All else is as before.
pub record HasGoneOn (files : Files) (old new : Remembering) : Type 0 where
  pub looks : HasLooked files old.own old.acts old.between old.looked old.world new.looked new.world
  pub rest : new ≡ record old { world = new.world; looked = new.looked }

-- ---- Its own.

-- The next session began with this job. All else is as before.
abbrev pub with_begun : Remembering → Job → Remembering
with_begun dir job = record dir {
  world = record { history = Begin (begins dir.world.history) job ∷ dir.world.history; state = dir.world.state };
  own = begins dir.world.history ∷ dir.own;
  runs = true;
}

-- a renaming that isn't permitted was refused, and nothing was done
pub record HasRefused (files : Files) (who : ℕ) (op : Op) (old : World) (reply : Reply) (new : World) : Type 0 where
  pub refusal : IsRefusal op reply
  pub unfit : ¬ MayDo files old.history who op
  pub kept : new ≡ old

-- The session was answered so, where all steps of others that are due were made before it: it was refused, or the step was
-- made with the act's chance.
pub record HasActed (files : Files) (old : Remembering) (op : Op) (reply : Reply) (new : Remembering) : Type 0 where
  pub own : HasRefused files (session_of old) op old.world reply new.world ⊎ HasStepped (session_of old) op (chance_of old) old.world reply new.world
  pub rest : new ≡ record old { world = new.world; looked = 0; acts = ticked old.acts; faults = faults_after old.faults reply }

-- This act was answered so: others' steps that are due were made first, then its own. It is counted, and a fault is counted
-- too. All else is as before.
pub record HasAnswered (files : Files) (old : Remembering) (op : Op) (reply : Reply) (new : Remembering) : Type 0 where
  pub mid : World
  pub others : AreMade files old.own (due_of old.acts (drop old.looked old.between)) old.world mid
  pub own : HasRefused files (session_of old) op mid reply new.world ⊎ HasStepped (session_of old) op (chance_of old) mid reply new.world
  pub rest : new ≡ record old { world = new.world; looked = 0; acts = ticked old.acts; faults = faults_after old.faults reply }

-- The latest session left. All else is as before.
abbrev pub with_left : Remembering → Remembering
with_left dir = record dir {
  world = record { history = Left (session_of dir) None 0 ∷ dir.world.history; state = end_of dir.world.state (session_of dir) };
  runs = false;
}
