-- The kinds of replies that a row of the table has.
use Rattle.std.specs.Prelude.{ℕ, Bool, true, false, IsTrue, refl}
use Rattle.inc_fs.specs.declared.op.Op.{Op}
use Rattle.inc_fs.specs.declared.op.Op.TheVariants.{Draw, MakeLock, OpenLock, TryLock, Look, ListDir, MakeDir, Link, Read, Create, Append, Unlink, UnlinkLock, RemoveDir, Rename, Close}
use Rattle.inc_fs.specs.declared.op.Reply.{Reply}
use Rattle.inc_fs.specs.declared.op.Reply.TheVariants.{Drawn, Handle, Names, Bytes, Done, Got, Held, Exists, Missing, NotEmpty, Fault}
use Rattle.inc_fs.specs.State.{State}
use Rattle.inc_fs.specs.Step.{Step}

-- whether the row of this op has replies of this reply's kind; each row has `Fault`
abbrev pub is_kind_of : Op → Reply → Bool
is_kind_of op Fault = true
is_kind_of Draw (Drawn moment random) = true
is_kind_of (MakeLock krate entry) (Handle handle) = true
is_kind_of (MakeLock krate entry) Exists = true
is_kind_of (OpenLock krate entry) (Handle handle) = true
is_kind_of (OpenLock krate entry) Missing = true
is_kind_of (TryLock handle exclusive) Got = true
is_kind_of (TryLock handle exclusive) Held = true
is_kind_of (TryLock handle exclusive) Missing = true
is_kind_of (Look krate) (Names names) = true
is_kind_of (ListDir krate entry) (Names names) = true
is_kind_of (ListDir krate entry) Missing = true
is_kind_of (MakeDir krate entry) Done = true
is_kind_of (MakeDir krate entry) Exists = true
is_kind_of (Link krate from to file) Done = true
is_kind_of (Link krate from to file) Missing = true
is_kind_of (Link krate from to file) Exists = true
is_kind_of (Read krate entry file) (Bytes bytes) = true
is_kind_of (Read krate entry file) Missing = true
is_kind_of (Create krate entry file) Done = true
is_kind_of (Create krate entry file) Missing = true
is_kind_of (Create krate entry file) Exists = true
is_kind_of (Append krate entry file piece) Done = true
is_kind_of (Append krate entry file piece) Missing = true
is_kind_of (Unlink krate entry file) Done = true
is_kind_of (Unlink krate entry file) Missing = true
is_kind_of (UnlinkLock krate entry) Done = true
is_kind_of (UnlinkLock krate entry) Missing = true
is_kind_of (RemoveDir krate entry) Done = true
is_kind_of (RemoveDir krate entry) Missing = true
is_kind_of (RemoveDir krate entry) NotEmpty = true
is_kind_of (Rename krate from to) Done = true
is_kind_of (Rename krate from to) Missing = true
is_kind_of (Rename krate from to) Exists = true
is_kind_of (Close handle) Done = true
is_kind_of (Close handle) Missing = true
is_kind_of op reply = false

-- the reply's kind is one of its row's
abbrev pub IsKindOf : Op → Reply → Type 0
IsKindOf op reply = IsTrue (is_kind_of op reply)

-- a reply with a list, which only a step that changes nothing has
abbrev pub IsTold : Reply → Type 0
IsTold (Names names) = Unit {0}
IsTold (Bytes bytes) = Unit {0}
IsTold reply = ⊥

-- a step is answered by a reply of its row
pub step_kind : (F : State) (who : ℕ) (op : Op) (reply : Reply) (G : State) → Step F who op reply G → IsKindOf op reply
step_kind F who op Fault G step = refl
step_kind F who Draw (Drawn moment random) G step = refl
step_kind F who (MakeLock krate entry) (Handle handle) G step = refl
step_kind F who (MakeLock krate entry) Exists G step = refl
step_kind F who (OpenLock krate entry) (Handle handle) G step = refl
step_kind F who (OpenLock krate entry) Missing G step = refl
step_kind F who (TryLock handle exclusive) Got G step = refl
step_kind F who (TryLock handle exclusive) Held G step = refl
step_kind F who (TryLock handle exclusive) Missing G step = refl
step_kind F who (Look krate) (Names names) G step = refl
step_kind F who (ListDir krate entry) (Names names) G step = refl
step_kind F who (ListDir krate entry) Missing G step = refl
step_kind F who (MakeDir krate entry) Done G step = refl
step_kind F who (MakeDir krate entry) Exists G step = refl
step_kind F who (Link krate from to file) Done G step = refl
step_kind F who (Link krate from to file) Missing G step = refl
step_kind F who (Link krate from to file) Exists G step = refl
step_kind F who (Read krate entry file) (Bytes bytes) G step = refl
step_kind F who (Read krate entry file) Missing G step = refl
step_kind F who (Create krate entry file) Done G step = refl
step_kind F who (Create krate entry file) Missing G step = refl
step_kind F who (Create krate entry file) Exists G step = refl
step_kind F who (Append krate entry file piece) Done G step = refl
step_kind F who (Append krate entry file piece) Missing G step = refl
step_kind F who (Unlink krate entry file) Done G step = refl
step_kind F who (Unlink krate entry file) Missing G step = refl
step_kind F who (UnlinkLock krate entry) Done G step = refl
step_kind F who (UnlinkLock krate entry) Missing G step = refl
step_kind F who (RemoveDir krate entry) Done G step = refl
step_kind F who (RemoveDir krate entry) Missing G step = refl
step_kind F who (RemoveDir krate entry) NotEmpty G step = refl
step_kind F who (Rename krate from to) Done G step = refl
step_kind F who (Rename krate from to) Missing G step = refl
step_kind F who (Rename krate from to) Exists G step = refl
step_kind F who (Close handle) Done G step = refl
step_kind F who (Close handle) Missing G step = refl
step_kind F who op reply G step = absurd step
