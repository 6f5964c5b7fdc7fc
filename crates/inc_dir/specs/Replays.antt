-- Directories that answer from a list.
use Rattle.std.specs.Prelude.{ℕ, Bool, true, false, if◌then◌else◌, List, [], ◌∷◌, drop}
use Rattle.inc_fs.specs.declared.op.Op.{Op}
use Rattle.inc_fs.specs.declared.op.Reply.{Reply}
use Rattle.inc_fs.specs.declared.op.Reply.TheVariants.{Fault}
use Rattle.inc_base.specs.Meters.{ticked}
use Rattle.inc_fs.specs.Kinds.{is_kind_of}

-- the replies that are left, whether a session runs, and the count of faults
pub record Replaying : Type 0 where
  pub left : List Reply
  pub runs : Bool
  pub faults : ℕ

-- the first reply that is left, where it is of the row, else a fault
abbrev pub next_reply : List Reply → Op → Reply
next_reply [] op = Fault
next_reply (reply ∷ replies) op = if is_kind_of op reply then reply else Fault

abbrev pub is_fault : Reply → Bool
is_fault Fault = true
is_fault reply = false

-- a count of faults after a reply
abbrev pub faults_after : ℕ → Reply → ℕ
faults_after faults reply = if is_fault reply then ticked faults else faults

-- after this answer: a reply is used up, and a fault is counted
abbrev pub answered : Replaying → Reply → Replaying
answered dir reply = record dir { left = drop 1 dir.left; faults = faults_after dir.faults reply }
