-- What a session's own steps say, the newest first: the folds that the permissions read.
use Rattle.std.specs.Prelude.{◌≡◌, ℕ, ◌==◌, ◌&&◌, Bool, true, false, not, if◌then◌else◌, List, [], ◌∷◌, ◌++◌, filter, Option, Some, None, nat_eq, ◌⊎◌}
use Rattle.std.specs.Cmp.Lexicographic.{pointwise}
use Rattle.std.specs.Map.{lookup, set_value}
use Rattle.std.specs.BTreeMap.{insert_entry, is_at}
use Rattle.std.specs.Option.{option_map}
use Rattle.inc_fs.specs.Lists.{IsIn, remove_entry}
use Rattle.inc_fs.specs.Paths.{Text, text_cmp}
use Rattle.inc_fs.specs.declared.op.Op.{Op}
use Rattle.inc_fs.specs.declared.op.Op.TheVariants.{Draw, MakeLock, OpenLock, TryLock, Look, ListDir, MakeDir, Link, Read, Create, Append, Unlink, UnlinkLock, RemoveDir, Rename, Close}
use Rattle.inc_fs.specs.declared.op.Reply.{Reply}
use Rattle.inc_fs.specs.declared.op.Reply.TheVariants.{Drawn, Handle, Names, Bytes, Done, Got, Fault}
use Rattle.inc_names.specs.declared.session.SessionName.{SessionName}
use Rattle.inc_proto.specs.Events.{Steps}
use Rattle.inc_proto.specs.declared.own.OwnLock.{OwnLock}
use Rattle.inc_proto.specs.declared.own.OwnLock.TheVariants.{NoLock, Unlocked, Locked}
use Rattle.inc_proto.specs.declared.own.Known.{Known}

abbrev pub same_text : Text → Text → Bool
same_text = pointwise nat_eq

-- ---- Its name.

abbrev pub name_after : Op × Reply → Option SessionName → Option SessionName
name_after (Draw, Drawn moment random) before = Some (record { moment = moment; random = random })
name_after step before = before

-- its name: the latest pair that it drew
abbrev pub name : Steps → Option SessionName
name [] = None
name (step ∷ steps) = name_after step (name steps)

-- ---- Its handles.

-- how a handle was opened: by making the lock file at this path, or by opening the one that was there
pub data Opening : Type 0 where
  Made : Text → Text → Opening
  Opened : Text → Text → Opening

abbrev pub opening_after : ℕ → Op × Reply → Option Opening → Option Opening
opening_after h (MakeLock krate entry, Handle handle) before = if handle == h then Some (Made krate entry) else before
opening_after h (OpenLock krate entry, Handle handle) before = if handle == h then Some (Opened krate entry) else before
opening_after h (Close handle, Done) before = if handle == h then None else before
opening_after h step before = before

-- how its open handle h was opened
abbrev pub opening : ℕ → Steps → Option Opening
opening h [] = None
opening h (step ∷ steps) = opening_after h step (opening h steps)

abbrev pub mode_after : ℕ → Op × Reply → Option Bool → Option Bool
mode_after h (TryLock handle exclusive, Got) before = if handle == h then Some exclusive else before
mode_after h (Close handle, Done) before = if handle == h then None else before
mode_after h step before = before

-- how its handle h holds the lock: exclusively (true), shared (false), or not
abbrev pub mode : ℕ → Steps → Option Bool
mode h [] = None
mode h (step ∷ steps) = mode_after h step (mode h steps)

abbrev pub grown : Op × Reply → Option Steps → Option Steps
grown step None = None
grown step (Some steps) = Some (step ∷ steps)

-- a lock is got, or got again
abbrev pub begun : Op × Reply → Option Steps → Option Steps
begun step None = Some []
begun step (Some steps) = Some (step ∷ steps)

abbrev pub since_after : ℕ → Op × Reply → Option Steps → Option Steps
since_after h (TryLock handle exclusive, Got) before = if handle == h then begun (TryLock handle exclusive, Got) before else grown (TryLock handle exclusive, Got) before
since_after h (Close handle, Done) before = if handle == h then None else grown (Close handle, Done) before
since_after h step before = grown step before

-- its steps since its handle h has held the lock, in whatever mode, without a break
abbrev pub since : ℕ → Steps → Option Steps
since h [] = None
since h (step ∷ steps) = since_after h step (since h steps)

abbrev pub alone_after : ℕ → Op × Reply → Option Steps → Option Steps
alone_after h (TryLock handle true, Got) before = if handle == h then begun (TryLock handle true, Got) before else grown (TryLock handle true, Got) before
alone_after h (TryLock handle false, Got) before = if handle == h then None else grown (TryLock handle false, Got) before
alone_after h (Close handle, Done) before = if handle == h then None else grown (Close handle, Done) before
alone_after h step before = grown step before

-- its steps since its handle h has held the lock exclusively, without a break
abbrev pub alone : ℕ → Steps → Option Steps
alone h [] = None
alone h (step ∷ steps) = alone_after h step (alone h steps)

-- ---- Its own lock.

abbrev pub tried_own : ℕ → Bool → OwnLock → OwnLock
tried_own handle exclusive NoLock = NoLock
tried_own handle true (Unlocked h) = if handle == h then Locked h else Unlocked h
tried_own handle false (Unlocked h) = Unlocked h
tried_own handle true (Locked h) = Locked h
tried_own handle false (Locked h) = if handle == h then NoLock else Locked h

abbrev pub closed_own : ℕ → OwnLock → OwnLock
closed_own handle NoLock = NoLock
closed_own handle (Unlocked h) = if handle == h then NoLock else Unlocked h
closed_own handle (Locked h) = if handle == h then NoLock else Locked h

abbrev pub own_after : Op × Reply → OwnLock → OwnLock
own_after (Draw, Drawn moment random) before = NoLock
own_after (MakeLock krate entry, Handle handle) before = Unlocked handle
own_after (TryLock handle exclusive, Got) before = tried_own handle exclusive before
own_after (Close handle, Done) before = closed_own handle before
own_after step before = before

-- Its own lock: the exclusive lock on the handle that its `MakeLock` gave, held without a break. One that was taken
-- shared for a while, or closed, is lost for good, and a new name has none yet.
abbrev pub own : Steps → OwnLock
own [] = NoLock
own (step ∷ steps) = own_after step (own steps)

-- ---- Its directory.

-- the directory that it made: at which path it stands, or under which it was published, and with which files
pub data Dir : Type 0 where
  Unmade : Dir
  Stands : Text → Text → List (Text × Known) → Dir
  Removed : Dir
  Published : Text → Text → List (Text × Known) → Dir

abbrev pub appended : Text → Known → Known
appended piece known = record known { bytes = option_map (λ bytes. bytes ++ piece) known.bytes }

abbrev pub forgotten : Known → Known
forgotten known = record known { bytes = None }

-- a read tells the bytes of a linked file; one that the session made is known from its own appends alone
abbrev pub read_by : Text → Option Text → Known → Known
read_by bytes None known = known
read_by bytes (Some from) known = record known { bytes = Some bytes }

abbrev pub read_as : Text → Known → Known
read_as bytes known = read_by bytes known.linked known

abbrev pub put : Text → (Known → Known) → Option Known → List (Text × Known) → List (Text × Known)
put file f None files = files
put file f (Some known) files = set_value (is_at (text_cmp file)) files (f known)

-- with what is known of one file changed
abbrev pub changed : Text → (Known → Known) → List (Text × Known) → List (Text × Known)
changed file f files = put file f (lookup (is_at (text_cmp file)) files) files

abbrev pub is_here : Text → Text → Text → Text → Bool
is_here krate entry k e = same_text k krate && same_text e entry

-- Its directory after a step. It links, creates, appends and reads in its own directory alone.
abbrev pub in_dir : Op × Reply → Text → Text → List (Text × Known) → Dir
in_dir (Link k from to file, Done) krate entry files = Stands krate entry (insert_entry text_cmp files file (record { linked = Some from; bytes = None }))
in_dir (Create k e file, Done) krate entry files = Stands krate entry (insert_entry text_cmp files file (record { linked = None; bytes = Some [] }))
in_dir (Append k e file piece, Done) krate entry files = Stands krate entry (changed file (appended piece) files)
in_dir (Append k e file piece, Fault) krate entry files = Stands krate entry (changed file forgotten files)
in_dir (Read k e file, Bytes bytes) krate entry files = Stands krate entry (changed file (read_as bytes) files)
in_dir (Unlink k e file, Done) krate entry files =
    if is_here krate entry k e then Stands krate entry (remove_entry (is_at (text_cmp file)) files) else Stands krate entry files
in_dir (RemoveDir k e, Done) krate entry files = if is_here krate entry k e then Removed else Stands krate entry files
in_dir (Rename k from to, Done) krate entry files = if is_here krate entry k from then Published k to files else Stands krate entry files
in_dir step krate entry files = Stands krate entry files

abbrev pub made_dir : Op × Reply → Dir
made_dir (MakeDir krate entry, Done) = Stands krate entry []
made_dir step = Unmade

abbrev pub dir_after : Op × Reply → Dir → Dir
dir_after step Unmade = made_dir step
dir_after step (Stands krate entry files) = in_dir step krate entry files
dir_after step Removed = Removed
dir_after step (Published krate entry files) = Published krate entry files

-- Its directory, with its files' names and what is known of them. What it published stays published, whoever renames
-- it back later.
abbrev pub dir : Steps → Dir
dir [] = Unmade
dir (step ∷ steps) = dir_after step (dir steps)

-- ---- What it tried, whatever came of it, and what it saw.

-- one of these steps is such a one
abbrev pub HasAny : (Op × Reply → Type 0) → Steps → Type 0
HasAny IsSuch [] = ⊥
HasAny IsSuch (step ∷ steps) = IsSuch step ⊎ HasAny IsSuch steps

-- it asked for this, whatever the reply
abbrev pub IsTry : Op → Op × Reply → Type 0
IsTry op step = step.0 ≡ op

abbrev pub HasTried : Op → Steps → Type 0
HasTried op = HasAny (IsTry op)

abbrev pub IsMakeDir : Op × Reply → Type 0
IsMakeDir (MakeDir krate entry, reply) = Unit {0}
IsMakeDir step = ⊥

-- it asked for a directory, whatever the reply
abbrev pub HasTriedDir : Steps → Type 0
HasTriedDir = HasAny IsMakeDir

-- a `Look` of this crate directory lists this
abbrev pub IsLook : Text → Text → Op × Reply → Type 0
IsLook krate entry (Look k, Names names) = (k ≡ krate) × IsIn names entry
IsLook krate entry step = ⊥

abbrev pub HasLooked : Text → Text → Steps → Type 0
HasLooked krate entry = HasAny (IsLook krate entry)

-- one `Look` lists both
abbrev pub HasSeenBoth : Text → Text → Text → Steps → Type 0
HasSeenBoth krate x y = HasAny (λ step. IsLook krate x step × IsLook krate y step)

-- a `ListDir` of that directory lists this file
abbrev pub IsListing : Text → Text → Text → Op × Reply → Type 0
IsListing krate entry file (ListDir k e, Names names) = (k ≡ krate) × (e ≡ entry) × IsIn names file
IsListing krate entry file step = ⊥

abbrev pub HasListed : Text → Text → Text → Steps → Type 0
HasListed krate entry file = HasAny (IsListing krate entry file)

-- it did this, and was answered `Done`
abbrev pub IsDone : Op → Op × Reply → Type 0
IsDone op (o, Done) = o ≡ op
IsDone op step = ⊥

abbrev pub HasDone : Op → Steps → Type 0
HasDone op = HasAny (IsDone op)

-- a `Look` lists this lock file, whose name it hasn't taken away since
abbrev pub IsStanding : Text → Text → Steps → Type 0
IsStanding krate entry [] = ⊥
IsStanding krate entry (step ∷ steps) = IsLook krate entry step ⊎ ((¬ IsDone (UnlinkLock krate entry) step) × IsStanding krate entry steps)

-- the names without this one
abbrev pub without : Text → List Text → List Text
without entry names = filter (λ x. not (same_text x entry)) names

-- what is listed in a crate directory, once this own step has changed it: a directory was made, removed or renamed
abbrev pub left_by : Text → Op × Reply → List Text → List Text
left_by krate (MakeDir k e, Done) names = if same_text k krate then names ++ e ∷ [] else names
left_by krate (RemoveDir k e, Done) names = if same_text k krate then without e names else names
left_by krate (Rename k from to, Done) names = if same_text k krate then without from names ++ to ∷ [] else names
left_by krate step names = names

-- the same after these own steps
abbrev pub left_after : Text → Steps → List Text → List Text
left_after krate [] names = names
left_after krate (step ∷ steps) names = left_by krate step (left_after krate steps names)
