-- What a session may do: nine permissions, each a fact about its own steps alone, the newest first. They are said in
-- plain words, each with its reason, in docs/PROTOCOL.md, "What a session may do".
use Rattle.std.specs.Prelude.{◌≡◌, ◌≢◌, ℕ, ◌<◌, ◌≤◌, ◌^◌, List, [], ◌∷◌, ◌++◌, length, Option, Some, None, ◌⊎◌}
use Rattle.std.specs.Map.{lookup}
use Rattle.std.specs.BTreeMap.{is_at}
use Rattle.inc_base.specs.declared.job.Job.{Job}
use Rattle.inc_fs.specs.Lists.{IsIn}
use Rattle.inc_fs.specs.Paths.{Text, text_cmp}
use Rattle.inc_fs.specs.declared.op.Op.{Op}
use Rattle.inc_fs.specs.declared.op.Op.TheVariants.{Draw, MakeLock, OpenLock, TryLock, Look, ListDir, MakeDir, Link, Read, Create, Append, Unlink, UnlinkLock, RemoveDir, Rename, Close}
use Rattle.inc_fs.specs.declared.op.Reply.TheVariants.{Names}
use Rattle.inc_names.specs.declared.session.SessionName.{SessionName}
use Rattle.inc_names.specs.Entries.{lock_text, working_text, final_text, IsSessionName, IsNewer}
use Rattle.inc_wire.specs.Forms.{job_hash_of}
use Rattle.inc_proto.specs.Events.{Steps}
use Rattle.inc_proto.specs.Files.{Files, IsSet}
use Rattle.inc_proto.specs.declared.own.OwnLock.TheVariants.{Locked}
use Rattle.inc_proto.specs.declared.own.Known.{Known}
use Rattle.inc_proto.specs.Views.{name, Dir, Opening, opening, since, alone, own, dir, HasTried, HasTriedDir, HasLooked, HasSeenBoth, HasListed, HasDone, IsStanding, left_after}
use Rattle.inc_proto.specs.Views.Opening.{Made, Opened}
use Rattle.inc_proto.specs.Views.Dir.{Unmade, Stands, Removed, Published}

-- ---- Words of the permissions.

-- it has its own lock
abbrev pub HasLock : Steps → Type 0
HasLock steps = (h : ℕ) × (own steps ≡ Locked h)

-- the working directory that it made stands there, and has these files
abbrev pub HasDir : Steps → Text → Text → List (Text × Known) → Type 0
HasDir steps krate entry files = dir steps ≡ Stands krate entry files

-- a hash has 128 bits; the text of a greater one is another's, or no entry's
abbrev pub IsHash : ℕ → Type 0
IsHash hash = hash < 2 ^ 128

-- the handle is open on this lock file, which it made or opened
abbrev pub IsOn : Text → Text → Option Opening → Type 0
IsOn krate entry None = ⊥
IsOn krate entry (Some (Made k e)) = (k ≡ krate) × (e ≡ entry)
IsOn krate entry (Some (Opened k e)) = (k ≡ krate) × (e ≡ entry)

-- It holds n exclusively by this handle, and these are its steps since then: the lock was got on a handle of its own
-- on n's lock file, which wasn't closed since.
abbrev pub HoldsAlone : Text → SessionName → Steps → ℕ → Steps → Type 0
HoldsAlone krate n steps h after = IsOn krate (lock_text n) (opening h steps) × (alone h steps ≡ Some after)

-- It holds n, in whatever mode, by a handle that it opened on n's lock file, and these are its steps since then.
abbrev pub HoldsOpened : Text → SessionName → Steps → ℕ → Steps → Type 0
HoldsOpened krate n steps h after = (opening h steps ≡ Some (Opened krate (lock_text n))) × (since h steps ≡ Some after)

-- the directory isn't one of n that it published
abbrev pub IsNotOut : Text → SessionName → Dir → Type 0
IsNotOut krate n d = (hash : ℕ) (files : List (Text × Known)) → IsHash hash → d ≢ Published krate (final_text n hash) files

-- the directory of that name isn't one that it published itself
abbrev pub IsOthers : Text → SessionName → Steps → Type 0
IsOthers krate n steps = IsNotOut krate n (dir steps)

-- no directory of that name is among these, neither the working one nor a finalised one
abbrev pub HasNoDir : SessionName → List Text → Type 0
HasNoDir n names = (¬ IsIn names (working_text n)) × ((hash : ℕ) → IsHash hash → ¬ IsIn names (final_text n hash))

abbrev pub with_bytes : Text → Option Text → Option (List (Text × Text)) → Option (List (Text × Text))
with_bytes file None rest = None
with_bytes file (Some bytes) None = None
with_bytes file (Some bytes) (Some rest) = Some ((file, bytes) ∷ rest)

-- the files with their bytes, where each has known bytes
abbrev pub complete : List (Text × Known) → Option (List (Text × Text))
complete [] = Some []
complete (file ∷ files) = with_bytes file.0 file.1.bytes (complete files)

-- ---- The permissions.

-- It may draw until it has made a directory,
abbrev pub MayDraw : Steps → Type 0
MayDraw steps = dir steps ≡ Unmade

-- and it may read in its own working directory.
abbrev pub MayRead : Steps → Text → Text → Type 0
MayRead steps krate entry = (files : List (Text × Known)) × HasDir steps krate entry files

-- Observing: opening and trying locks, looking, listing and closing are always permitted; reading and drawing as above.
abbrev pub MayObserve : Steps → Op → Type 0
MayObserve steps Draw = MayDraw steps
MayObserve steps (OpenLock krate entry) = Unit {0}
MayObserve steps (TryLock handle exclusive) = Unit {0}
MayObserve steps (Look krate) = Unit {0}
MayObserve steps (ListDir krate entry) = Unit {0}
MayObserve steps (Read krate entry file) = MayRead steps krate entry
MayObserve steps (Close handle) = Unit {0}
MayObserve steps op = ⊥

-- It may make the lock file of its name, once.
abbrev pub MayMakeLock : Job → Steps → Text → Text → Type 0
MayMakeLock job steps krate entry =
    (n : SessionName) × (name steps ≡ Some n) × (krate ≡ job.krate) × (entry ≡ lock_text n) × (¬ HasTried (MakeLock krate entry) steps)

-- It may make its working directory, once, with its own lock and a later `Look` that lists its lock file, whose name it
-- hasn't taken away since.
abbrev pub MayMakeDirectory : Job → Steps → Text → Text → Type 0
MayMakeDirectory job steps krate entry =
    (n : SessionName) × (h : ℕ) × (after : Steps)
    × (name steps ≡ Some n) × (krate ≡ job.krate) × (entry ≡ working_text n) × (¬ HasTriedDir steps)
    × (own steps ≡ Locked h) × (alone h steps ≡ Some after) × IsStanding krate (lock_text n) after

-- It may link a file of a finalised directory of its crate into its working directory, which has no such name, with its
-- own lock, while it holds that directory's name n by a handle that it opened, and since then listed the file there.
abbrev pub MayLink : Steps → Text → Text → Text → Text → Type 0
MayLink steps krate from to file =
    (files : List (Text × Known)) × (n : SessionName) × (hash : ℕ) × (h : ℕ) × (after : Steps)
    × HasDir steps krate to files × HasLock steps × (lookup (is_at (text_cmp file)) files ≡ None)
    × IsSessionName n × IsHash hash × (from ≡ final_text n hash) × HoldsOpened krate n steps h after × HasListed krate from file after

-- With its own lock it may create a file that its working directory lacks,
abbrev pub MayCreate : Steps → Text → Text → Text → Type 0
MayCreate steps krate entry file =
    (files : List (Text × Known)) × HasDir steps krate entry files × HasLock steps × (lookup (is_at (text_cmp file)) files ≡ None)

-- and append a piece of 1 to 65,536 bytes to a file that it created there and hasn't taken away.
abbrev pub MayAppend : Steps → Text → Text → Text → Text → Type 0
MayAppend steps krate entry file piece =
    (files : List (Text × Known)) × (known : Known) × HasDir steps krate entry files × HasLock steps
    × (lookup (is_at (text_cmp file)) files ≡ Some known) × (known.linked ≡ None) × (0 < length piece) × (length piece ≤ 65536)

-- Writing: creating and appending.
abbrev pub MayWrite : Steps → Op → Type 0
MayWrite steps (Create krate entry file) = MayCreate steps krate entry file
MayWrite steps (Append krate entry file piece) = MayAppend steps krate entry file piece
MayWrite steps op = ⊥

-- Its own working directory, with its own lock.
abbrev pub MayClearOwn : Steps → Text → Text → Type 0
MayClearOwn steps krate entry = (files : List (Text × Known)) × HasDir steps krate entry files × HasLock steps

-- A directory under another's working name, while it holds that name n exclusively and since then saw it or renamed it
-- back itself.
abbrev pub MayClearOthers : Steps → Text → Text → Type 0
MayClearOthers steps krate entry =
    (n : SessionName) × (h : ℕ) × (after : Steps) × IsSessionName n × (entry ≡ working_text n) × HoldsAlone krate n steps h after
    × IsOthers krate n steps
    × (HasLooked krate entry after ⊎ ((hash : ℕ) × IsHash hash × HasDone (Rename krate (final_text n hash) entry) after))

-- Clearing: it may take names out of such a directory, and remove it.
abbrev pub MayClear : Steps → Text → Text → Type 0
MayClear steps krate entry = MayClearOwn steps krate entry ⊎ MayClearOthers steps krate entry

-- Publishing: it may rename its working directory to its name with the job's hash, with its own lock, where the bytes
-- of each of the directory's files are known, and names and bytes are exactly the job's files.
abbrev pub MayPublish : Files → Job → Steps → Text → Text → Text → Type 0
MayPublish files job steps krate from to =
    (its : List (Text × Known)) × (n : SessionName) × (set : List (Text × Text)) × HasDir steps krate from its × HasLock steps
    × (name steps ≡ Some n) × (to ≡ final_text n (job_hash_of job)) × (complete its ≡ Some set) × IsSet files job set

-- Retiring: it may rename a finalised directory back to the working name, while it holds that name n exclusively, since
-- then saw n's lock file and this directory in one `Look`, and some `Look` of its own lists a newer finalised directory
-- of that crate. What it published itself it leaves to others.
abbrev pub MayRetire : Steps → Text → Text → Text → Type 0
MayRetire steps krate from to =
    (n : SessionName) × (hash : ℕ) × (h : ℕ) × (after : Steps) × (m : SessionName) × (newer : ℕ)
    × IsSessionName n × IsHash hash × (from ≡ final_text n hash) × (to ≡ working_text n) × HoldsAlone krate n steps h after
    × IsOthers krate n steps × HasSeenBoth krate (lock_text n) from after
    × IsSessionName m × IsHash newer × HasLooked krate (final_text m newer) steps × IsNewer m n

-- Its own lock file, with its own lock, where its directory was never made or was removed.
abbrev pub MayRemoveOwn : Job → Steps → Text → Text → Type 0
MayRemoveOwn job steps krate entry =
    (n : SessionName) × (name steps ≡ Some n) × (krate ≡ job.krate) × (entry ≡ lock_text n) × HasLock steps
    × ((dir steps ≡ Unmade) ⊎ (dir steps ≡ Removed))

-- A lock file of a name n that it holds exclusively, where a `Look` since then lists it, and what that `Look` lists, as
-- its own steps since have changed it, has no directory of n.
abbrev pub MayRemoveOthers : Steps → Text → Text → Type 0
MayRemoveOthers steps krate entry =
    (n : SessionName) × (h : ℕ) × (after later earlier : Steps) × (names : List Text)
    × IsSessionName n × (entry ≡ lock_text n) × HoldsAlone krate n steps h after
    × (after ≡ later ++ (Look krate, Names names) ∷ earlier) × IsIn names entry × HasNoDir n (left_after krate later names)

-- It may remove such lock files.
abbrev pub MayRemoveLock : Job → Steps → Text → Text → Type 0
MayRemoveLock job steps krate entry = MayRemoveOwn job steps krate entry ⊎ MayRemoveOthers steps krate entry

-- ---- What is permitted, by the kind of step.

abbrev pub IsPermitted : Files → Job → Steps → Op → Type 0
IsPermitted files job steps Draw = MayObserve steps Draw
IsPermitted files job steps (MakeLock krate entry) = MayMakeLock job steps krate entry
IsPermitted files job steps (OpenLock krate entry) = MayObserve steps (OpenLock krate entry)
IsPermitted files job steps (TryLock handle exclusive) = MayObserve steps (TryLock handle exclusive)
IsPermitted files job steps (Look krate) = MayObserve steps (Look krate)
IsPermitted files job steps (ListDir krate entry) = MayObserve steps (ListDir krate entry)
IsPermitted files job steps (MakeDir krate entry) = MayMakeDirectory job steps krate entry
IsPermitted files job steps (Link krate from to file) = MayLink steps krate from to file
IsPermitted files job steps (Read krate entry file) = MayObserve steps (Read krate entry file)
IsPermitted files job steps (Create krate entry file) = MayWrite steps (Create krate entry file)
IsPermitted files job steps (Append krate entry file piece) = MayWrite steps (Append krate entry file piece)
IsPermitted files job steps (Unlink krate entry file) = MayClear steps krate entry
IsPermitted files job steps (UnlinkLock krate entry) = MayRemoveLock job steps krate entry
IsPermitted files job steps (RemoveDir krate entry) = MayClear steps krate entry
IsPermitted files job steps (Rename krate from to) = MayPublish files job steps krate from to ⊎ MayRetire steps krate from to
IsPermitted files job steps (Close handle) = MayObserve steps (Close handle)
