-- How far a session has gone in a directory.
use Rattle.std.specs.Prelude.{◌≡◌, ℕ, List, [], ◌∷◌, Option, Some, None, IfSome}
use Rattle.inc_base.specs.Outside.{Rose}
use Rattle.inc_base.specs.declared.job.Job.{Job}
use Rattle.inc_fs.specs.State.{IsIn}
use Rattle.inc_fs.specs.declared.op.Op.{Op}
use Rattle.inc_fs.specs.declared.op.Reply.TheVariants.{Fault}
use Rattle.inc_proto.specs.declared.event.Event.{Event}
use Rattle.inc_proto.specs.Events.{Steps, did, latest}
use Rattle.inc_proto.specs.Growth.{TellsBy, TellsOn}
use Rattle.inc_proto.specs.Legal.{view_of}
use Rattle.inc_session.specs.Compiling.{units_of}
use Rattle.inc_session.specs.Made.{HasMade}
use Rattle.inc_session.specs.Reading.{metered}
use Rattle.inc_session.specs.Saves.{IsLegalHere}
use Rattle.inc_session.specs.declared.session.Session.{Session}
use Rattle.inc_cli.specs.Run.{AreTold, IsSoFar}

-- Where the history is told, it grew by the told ones of these steps, and then by others' events alone.
pub record HasGrown (own : List ℕ) (steps : Steps) (old new : Option (List Event)) : Type 0 where
  pub told_steps : Steps
  pub are_told : AreTold steps told_steps
  pub mid : Option (List Event)
  pub told : TellsBy IsLegalHere own old mid (did (latest own) told_steps)
  pub rest : TellsOn IsLegalHere own mid new []

-- The session has gone so far in its order.
pub record HasGone (own : List ℕ) (job : Job) (steps : Steps) (old new : Option (List Event)) : Type 0 where
  pub grown : HasGrown own steps old new
  pub far : IsSoFar job steps

-- the directory's count rose where the latest step was answered by a fault
abbrev pub IsFaultOf : Steps → ℕ → ℕ → Type 0
IsFaultOf steps before after = (asked : Op) (earlier : Steps) → steps ≡ (asked, Fault) ∷ earlier → Rose before after

-- What a session that ended by these steps left: the meter stands where they lead it, and the directory's count rose where
-- the latest was a fault.
pub record HasEnded (session : Session) (steps : Steps) (before after started meter : ℕ) : Type 0 where
  pub made : HasMade session steps
  pub ended : session.op ≡ None
  pub faulted : IsFaultOf steps before after
  pub metered : meter ≡ metered (units_of session.task) steps started

-- Where the history is told, the latest own session sees its job and these steps.
abbrev pub Sees : List ℕ → Job → Steps → Option (List Event) → Type 0
Sees own job steps told = IfSome told (λ history. IsIn own (latest own) × (view_of (latest own) history ≡ Some (record { job = job; steps = steps })))
