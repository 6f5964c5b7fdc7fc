-- What a session's own steps say of its order, the newest first.
use Rattle.std.specs.Prelude.{ℕ, ◌+◌, Bool, true, false, not, if◌then◌else◌, List, [], ◌∷◌, Option, Some, None}
use Rattle.inc_base.specs.Meters.{raised}
use Rattle.inc_fs.specs.Kinds.{IsKindOf}
use Rattle.inc_fs.specs.Paths.{Text}
use Rattle.inc_fs.specs.declared.op.Op.{Op}
use Rattle.inc_fs.specs.declared.op.Op.TheVariants.{MakeLock, TryLock, Look, MakeDir, Create, Append, Rename}
use Rattle.inc_fs.specs.declared.op.Reply.{Reply}
use Rattle.inc_fs.specs.declared.op.Reply.TheVariants.{Names, Done, Held, Exists, Missing}
use Rattle.inc_names.specs.declared.session.SessionName.{SessionName}
use Rattle.inc_names.specs.Entries.{lock_text}
use Rattle.inc_proto.specs.Events.{Steps}
use Rattle.inc_proto.specs.Views.{name}
use Rattle.inc_session.specs.Naming.{lists}
use Rattle.inc_session.specs.declared.naming.NamingEnd.{NamingEnd}
use Rattle.inc_session.specs.declared.naming.NamingEnd.TheVariants.{Named}
use Rattle.inc_session.specs.declared.naming.NamingFed.{NamingFed}
use Rattle.inc_session.specs.declared.naming.NamingFed.TheVariants.{On, End}

-- each of these replies is of its row's kinds
abbrev pub AreAnswered : Steps → Type 0
AreAnswered [] = Unit {0}
AreAnswered (step ∷ steps) = IsKindOf step.0 step.1 × AreAnswered steps

-- ---- Lost names.

-- whether a listing has the lock file of this name
abbrev pub is_listed : List Text → Option SessionName → Bool
is_listed names None = false
is_listed names (Some n) = lists names (lock_text n)

-- whether a step loses the session's name: its lock file is there already, its lock is another's, or a look doesn't list it
abbrev pub loses : Op × Reply → Option SessionName → Bool
loses (MakeLock krate entry, Exists) its = true
loses (TryLock handle exclusive, Held) its = true
loses (TryLock handle exclusive, Missing) its = true
loses (Look krate, Names names) its = not (is_listed names its)
loses step its = false

-- how many names it lost
abbrev pub lost_names : Steps → ℕ
lost_names [] = 0
lost_names (step ∷ steps) = if loses step (name steps) then lost_names steps + 1 else lost_names steps

-- ---- Its meter.

-- The units of its text are emitted where its directory was made: after this step the meter stands here, where it stood at
-- `count` before.
abbrev pub metered_step : ℕ → Op → Reply → ℕ → ℕ
metered_step units (MakeDir krate entry) Done count = raised count units
metered_step units op reply count = count

abbrev pub metered_for : ℕ → Option Op → Reply → ℕ → ℕ
metered_for units None reply count = count
metered_for units (Some op) reply count = metered_step units op reply count

-- the same by how naming goes on: it compiles where naming ended with a name
abbrev pub metered_end : ℕ → NamingEnd → ℕ → ℕ
metered_end units (Named its handle) count = raised count units
metered_end units end count = count

abbrev pub metered_fed : ℕ → NamingFed → ℕ → ℕ
metered_fed units (On n) count = count
metered_fed units (End end) count = metered_end units end count

-- where it stands after these steps, if it stood at `start` before them
abbrev pub metered : ℕ → Steps → ℕ → ℕ
metered units [] start = start
metered units (step ∷ steps) start = metered_step units step.0 step.1 (metered units steps start)

-- ---- Replies that disagree with its own steps.

-- a step on its own directory was answered as if something else stood there, or nothing
abbrev pub IsDisturbing : Op → Reply → Type 0
IsDisturbing (MakeDir krate entry) Exists = Unit {0}
IsDisturbing (Create krate entry file) Exists = Unit {0}
IsDisturbing (Create krate entry file) Missing = Unit {0}
IsDisturbing (Append krate entry file piece) Missing = Unit {0}
IsDisturbing (Rename krate from to) Exists = Unit {0}
IsDisturbing (Rename krate from to) Missing = Unit {0}
IsDisturbing op reply = ⊥
