-- How a session saves: each file is made and its bytes are added in pieces, in name order, and then it publishes.
use Rattle.std.specs.Prelude.{ℕ, zero, suc, Bool, true, false, ◌&&◌, List, [], ◌∷◌, ◌++◌, map, length, take, drop, Option, Some, None}
use Rattle.inc_base.specs.declared.job.Job.{Job}
use Rattle.inc_fs.specs.Paths.{Text}
use Rattle.inc_fs.specs.declared.op.Op.{Op}
use Rattle.inc_fs.specs.declared.op.Op.TheVariants.{MakeDir, Create, Append, Rename}
use Rattle.inc_fs.specs.declared.op.Reply.{Reply}
use Rattle.inc_fs.specs.declared.op.Reply.TheVariants.{Done, Fault}
use Rattle.inc_names.specs.declared.session.SessionName.{SessionName}
use Rattle.inc_names.specs.Entries.{working_text, final_text}
use Rattle.inc_plan.specs.Plan.{Plan}
use Rattle.inc_plan.specs.Plan.Plan.{Give, Ask}
use Rattle.inc_wire.specs.Forms.{job_hash_of}

-- the bytes in pieces of 65,536, the last with what is left; n bounds how many
abbrev pub pieces_by : ℕ → Text → List Text
pieces_by zero bytes = []
pieces_by (suc n) [] = []
pieces_by (suc n) (x ∷ xs) = take 65536 (x ∷ xs) ∷ pieces_by n (drop 65536 (x ∷ xs))

unfoldable pub pieces : Text → List Text
pieces bytes = pieces_by (length bytes) bytes

-- the steps that save a file
abbrev pub file_ops : Text → Text → Text × Text → List Op
file_ops krate entry file = Create krate entry file.0 ∷ map (Append krate entry file.0) (pieces file.1)

-- and those that save some, in their order
abbrev pub saving_ops : Text → Text → List (Text × Text) → List Op
saving_ops krate entry [] = []
saving_ops krate entry (file ∷ files) = file_ops krate entry file ++ saving_ops krate entry files

-- the step that publishes
abbrev pub publishing : Job → SessionName → Op
publishing job its = Rename job.krate (working_text its) (final_text its (job_hash_of job))

-- all of them
abbrev pub all_ops : Job → SessionName → List (Text × Text) → List Op
all_ops job its files = saving_ops job.krate (working_text its) files ++ publishing job its ∷ []

-- whether a step makes no directory, as none does that saves
abbrev pub is_write : Op → Bool
is_write (MakeDir krate entry) = false
is_write op = true

abbrev pub are_writes : List Op → Bool
are_writes [] = true
are_writes (op ∷ ops) = is_write op && are_writes ops

-- the first of some steps, and those after it
abbrev pub first_of : List Op → Option Op
first_of [] = None
first_of (op ∷ ops) = Some op

abbrev pub taken_of : List Op → Option (Op × List Op)
taken_of [] = None
taken_of (op ∷ ops) = Some (op, ops)

-- it published, or a step was answered by a fault, or by a reply that disagrees with its own steps
pub data SaveEnd : Type 0 where
  Saved : SaveEnd
  Faulted : SaveEnd
  Off : Op → Reply → SaveEnd

abbrev pub answered : Plan SaveEnd → Op → Reply → Plan SaveEnd
answered next op Done = next
answered next op Fault = Give Faulted
answered next op reply = Give (Off op reply)

-- each of these steps in turn, as long as they are answered `Done`
abbrev pub each : List Op → Plan SaveEnd
each [] = Give Saved
each (op ∷ ops) = Ask op (answered (each ops) op)
