-- What a directory asks of steps, and what it promises of the history that it tells.
use Rattle.std.specs.Prelude.{◌≡◌, ◌⊎◌, List, [], ◌∷◌, Option, Some, None, IfSome, ℕ}
use Rattle.inc_base.specs.declared.job.Job.{Job}
use Rattle.inc_fs.specs.declared.op.Op.{Op}
use Rattle.inc_fs.specs.declared.op.Op.TheVariants.{Rename}
use Rattle.inc_fs.specs.declared.op.Reply.{Reply}
use Rattle.inc_fs.specs.declared.op.Reply.TheVariants.{Fault}
use Rattle.inc_names.specs.declared.session.SessionName.{SessionName}
use Rattle.inc_names.specs.Entries.{working_text}
use Rattle.inc_proto.specs.declared.event.Event.{Event}
use Rattle.inc_proto.specs.declared.event.Event.TheVariants.{Did}
use Rattle.inc_proto.specs.Events.{latest}
use Rattle.inc_proto.specs.Files.{Files}
use Rattle.inc_proto.specs.Growth.{TellsOn}
use Rattle.inc_proto.specs.Legal.{IsLegal, MayDo, jobs}

-- ---- What it asks.

-- a renaming of a working directory, as publishing is; a directory that is retired has another name
abbrev pub IsPublishing : Op → Type 0
IsPublishing (Rename krate from to) = (n : SessionName) × (from ≡ working_text n)
IsPublishing op = ⊥

-- Where the told history is legal, the own steps of the session permit this one. For a renaming that publishes, that is asked
-- only where the jobs that began are clear, since else the files that the session made need not be its job's.
abbrev pub IsOwed : Files → (List Job → Type 0) → Option (List Event) → List ℕ → Op → Type 0
IsOwed files clear None own op = Unit {0}
IsOwed files clear (Some history) own op = IsLegal files history → (IsPublishing op → clear (jobs history)) → MayDo files history (latest own) op

-- ---- What it promises.

abbrev pub IsRename : Op → Type 0
IsRename (Rename krate from to) = Unit {0}
IsRename op = ⊥

-- a renaming is answered by a fault
abbrev pub IsRefusal : Op → Reply → Type 0
IsRefusal op reply = IsRename op × (reply ≡ Fault)

-- The directory answers a fault to a renaming that the session's own steps don't permit, and doesn't make it: the history
-- grew by others' events alone.
pub record IsRefused (files : Files) (own : List ℕ) (old new : Option (List Event)) (op : Op) (reply : Reply) : Type 0 where
  pub refusal : IsRefusal op reply
  pub others : TellsOn (IsLegal files) own old new []
  pub unfit : IfSome new (λ history. ¬ MayDo files history (latest own) op)

-- The latest own session was answered so: the history grew by its step, or by none of its own where the directory refused it.
abbrev pub TellsStep : Files → List ℕ → Option (List Event) → Option (List Event) → Op → Reply → Type 0
TellsStep files own old new op reply = TellsOn (IsLegal files) own old new (Did (latest own) op reply ∷ []) ⊎ IsRefused files own old new op reply
