-- What is looked for among a session's own steps: words of `Views` and `Permits` as one relation of what is asked.
use Rattle.std.specs.Prelude.{◌≡◌, ℕ, ◌+◌, ◌==◌, true, false, if◌then◌else◌, Option, Some, None, ◌⊎◌}
use Rattle.inc_fs.specs.declared.op.Op.{Op}
use Rattle.inc_fs.specs.declared.op.Op.TheVariants.{MakeLock, OpenLock, TryLock, Rename, Close}
use Rattle.inc_fs.specs.declared.op.Reply.{Reply}
use Rattle.inc_fs.specs.declared.op.Reply.TheVariants.{Handle, Got, Done}
use Rattle.inc_fs.specs.Paths.{Text}
use Rattle.inc_names.specs.declared.session.SessionName.{SessionName}
use Rattle.inc_names.specs.Entries.{final_text, lock_text, IsSessionName, IsNewer}
use Rattle.inc_proto.specs.Events.{Steps}
use Rattle.inc_proto.specs.Views.{Opening, opening, since, alone, begun, grown, HasAny, IsTry, IsMakeDir, IsLook, IsListing, IsDone}
use Rattle.inc_proto.specs.Views.Opening.{Made, Opened}
use Rattle.inc_proto.specs.Permits.{IsHash}
use Rattle.inc_proto.specs.declared.sought.Sought.{Sought}
use Rattle.inc_proto.specs.declared.sought.Sought.TheVariants.{Look, Both, Listing, Back, Newer, LockMaking, DirMaking}
use Rattle.inc_proto.specs.declared.holds.Way.{Way}
use Rattle.inc_proto.specs.declared.holds.Way.TheVariants.{Alone, ByOpening}
use Rattle.inc_proto.specs.declared.holds.Turn.{Turn}
use Rattle.inc_proto.specs.declared.holds.Question.{Question}
use Rattle.inc_proto.specs.declared.holds.Question.TheVariants.{Has, Either, Clear}
use Rattle.inc_proto.specs.Clears.{HasClearLook}
use Rattle.inc_proto.specs.declared.holds.Turn.TheVariants.{Gets, Loses, Stays}

-- a step is what is looked for
abbrev pub IsSought : Sought → Op × Reply → Type 0
IsSought (Look krate entry) step = IsLook krate.now entry.now step
IsSought (Both krate x y) step = IsLook krate.now x.now step × IsLook krate.now y.now step
IsSought (Listing krate entry file) step = IsListing krate.now entry.now file.now step
IsSought (Back krate entry n) step = (hash : ℕ) × IsHash hash × IsDone (Rename krate.now (final_text n hash) entry.now) step
IsSought (Newer krate n) step =
    (m : SessionName) × (hash : ℕ) × IsSessionName m × IsHash hash × IsLook krate.now (final_text m hash) step × IsNewer m n
IsSought (LockMaking krate entry) step = IsTry (MakeLock krate.now entry.now) step
IsSought DirMaking step = IsMakeDir step

-- ---- In which way a lock is held: exclusively, by whatever handle, or in whatever mode, by a handle that was opened.

-- the handle is one that counts, on this lock file
abbrev pub IsOnBy : Way → Text → Text → Option Opening → Type 0
IsOnBy way krate entry None = ⊥
IsOnBy Alone krate entry (Some (Made k e)) = (k ≡ krate) × (e ≡ entry)
IsOnBy ByOpening krate entry (Some (Made k e)) = ⊥
IsOnBy way krate entry (Some (Opened k e)) = (k ≡ krate) × (e ≡ entry)

-- the steps since the hold began
abbrev pub held : Way → ℕ → Steps → Option Steps
held Alone h steps = alone h steps
held ByOpening h steps = since h steps

-- it holds n in this way by this handle, and these are its steps since
abbrev pub Holds : Way → Text → SessionName → Steps → ℕ → Steps → Type 0
Holds way krate n steps h after = IsOnBy way krate (lock_text n) (opening h steps) × (held way h steps ≡ Some after)

-- what a step does to a hold of this way on this handle
abbrev pub turn_of : Way → ℕ → Op × Reply → Turn
turn_of Alone h (TryLock handle true, Got) = if handle == h then Gets else Stays
turn_of Alone h (TryLock handle false, Got) = if handle == h then Loses else Stays
turn_of ByOpening h (TryLock handle exclusive, Got) = if handle == h then Gets else Stays
turn_of way h (Close handle, Done) = if handle == h then Loses else Stays
turn_of way h step = Stays

abbrev pub turned : Turn → Op × Reply → Option Steps → Option Steps
turned Gets step before = begun step before
turned Loses step before = None
turned Stays step before = grown step before

-- the same, of how many steps there were when the hold began, and how many there were at this one
abbrev pub begun_at : Option ℕ → ℕ → Option ℕ
begun_at None at = Some (at + 1)
begun_at (Some from) at = Some from

abbrev pub turned_at : Turn → Option ℕ → ℕ → Option ℕ
turned_at Gets before at = begun_at before at
turned_at Loses before at = None
turned_at Stays before at = before

-- the handle was given on this lock file
abbrev pub IsGiven : Text → Text → ℕ → Op × Reply → Type 0
IsGiven krate entry h (MakeLock k e, Handle handle) = (k ≡ krate) × (e ≡ entry) × (handle ≡ h)
IsGiven krate entry h (OpenLock k e, Handle handle) = (k ≡ krate) × (e ≡ entry) × (handle ≡ h)
IsGiven krate entry h step = ⊥

-- what is asked of the steps since a name is held
abbrev pub Answers : Question → Steps → Type 0
Answers (Has sought) steps = HasAny (IsSought sought) steps
Answers (Either one other) steps = HasAny (IsSought one) steps ⊎ HasAny (IsSought other) steps
Answers (Clear krate n) steps = HasClearLook krate.now n steps
