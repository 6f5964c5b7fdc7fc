-- What is said of a kind of step: that it keeps the laws, whatever the directory answers.
use Rattle.std.specs.Prelude.{ℕ, List, ◌∷◌}
use Rattle.inc_fs.specs.State.{State}
use Rattle.inc_fs.specs.Step.{Step}
use Rattle.inc_fs.specs.declared.op.Op.{Op}
use Rattle.inc_fs.specs.declared.op.Reply.{Reply}
use Rattle.inc_proto.specs.declared.event.Event.{Event}
use Rattle.inc_proto.specs.declared.event.Event.TheVariants.{Did}
use Rattle.inc_proto.specs.Files.{Files}
use Rattle.inc_proto.specs.Legal.{MayDo}
use Rattle.inc_laws.specs.Laws.{Laws}

-- from any history and state that meet the laws, a step of this op that is permitted there leads to ones that meet them
abbrev pub KeepsLaws : Op → Type 0
KeepsLaws op = (files : Files) (events : List Event) (F G : State) (who : ℕ) (reply : Reply) → Laws files events F → MayDo files events who op → Step F who op reply G → Laws files (Did who op reply ∷ events) G
