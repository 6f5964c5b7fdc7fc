-- The parts of the laws. Each speaks of a few readings, which it takes as functions: of a session's number, of a file's,
-- of a handle's, of a path.
use Rattle.std.specs.Prelude.{◌≡◌, ◌≢◌, ℕ, ◌<◌, ◌≤◌, Bool, true, List, [], length, Option, Some, None, IsSome, ◌⊎◌}
use Rattle.std.specs.Map.{lookup}
use Rattle.std.specs.BTreeMap.{is_at}
use Rattle.inc_base.specs.declared.job.Job.{Job}
use Rattle.inc_fs.specs.declared.state.Lock.{Lock}
use Rattle.inc_fs.specs.declared.state.File.{File}
use Rattle.inc_fs.specs.declared.state.Handle.{Handle}
use Rattle.inc_fs.specs.declared.op.Op.TheVariants.{MakeLock}
use Rattle.inc_fs.specs.Readings.{held_by}
use Rattle.inc_fs.specs.State.{IsIn, Text, text_cmp, named}
use Rattle.inc_names.specs.declared.session.SessionName.{SessionName}
use Rattle.inc_names.specs.Entries.{lock_text, working_text, final_text, IsNewer}
use Rattle.inc_wire.specs.Forms.{job_hash_of}
use Rattle.inc_proto.specs.declared.event.Event.{Event}
use Rattle.inc_proto.specs.declared.own.OwnLock.{OwnLock}
use Rattle.inc_proto.specs.declared.own.OwnLock.TheVariants.{Locked, Unlocked}
use Rattle.inc_proto.specs.declared.own.Known.{Known}
use Rattle.inc_proto.specs.Events.{Steps, begins, own_steps, job_of}
use Rattle.inc_proto.specs.Files.{Files, IsSet}
use Rattle.inc_proto.specs.Views.{Opening, Dir, HasLooked, HasTried}
use Rattle.inc_proto.specs.Views.Opening.{Made}
use Rattle.inc_proto.specs.Views.Dir.{Stands}
use Rattle.inc_laws.specs.Readings.{Maker, Site, head_of, place_of}
use Rattle.inc_laws.specs.Readings.Maker.{AsLock, ByCreate}
use Rattle.inc_laws.specs.Readings.Site.{Nowhere, At, Gone, Out}

-- ---- Sessions and their names.

-- a number that hasn't begun has no steps and no job
pub record BegunOnce (events : List Event) : Type 0 where
  pub fresh : (who : ℕ) → begins events ≤ who → (own_steps who events ≡ []) × (job_of who events ≡ None)

-- what a session calls its own was drawn, and no two sessions drew the same pair
pub record DrawnOnce (names : ℕ → List SessionName) (drawn : List (ℕ × ℕ)) : Type 0 where
  pub known : (who : ℕ) (n : SessionName) → IsIn (names who) n → IsIn drawn (n.moment, n.random)
  pub once : (v w : ℕ) (n : SessionName) → IsIn (names v) n → IsIn (names w) n → v ≡ w

-- a session's directory bears its latest name, in the crate directory of its job, and what it published bears its job's
-- hash with it
abbrev pub IsNamed : (ℕ → Option Job) → (ℕ → List SessionName) → ℕ → Site → Type 0
IsNamed jobs names who Nowhere = Unit {0}
IsNamed jobs names who (At krate entry) =
    (job : Job) × (n : SessionName) × (jobs who ≡ Some job) × (krate ≡ job.krate) × (head_of (names who) ≡ Some n) × (entry ≡ working_text n)
IsNamed jobs names who Gone = Unit {0}
IsNamed jobs names who (Out krate entry) =
    (job : Job) × (n : SessionName) × (jobs who ≡ Some job) × (krate ≡ job.krate) × (head_of (names who) ≡ Some n) × (entry ≡ final_text n (job_hash_of job))

abbrev pub OwnNames : (ℕ → Option Job) → (ℕ → List SessionName) → (ℕ → Site) → Type 0
OwnNames jobs names sites = (who : ℕ) → IsNamed jobs names who (sites who)

-- ---- Lock files, handles and locks.

-- a lock file that stands is the one that was made at its path; there was one at most, and it was made by the session
-- that drew its name
pub record LockFilesOnce (steps : ℕ → Steps) (names : ℕ → List SessionName) (makers : ℕ → Option Maker) (locks : Text → Text → Option ℕ) : Type 0 where
  pub entry : (krate entry : Text) (f : ℕ) → locks krate entry ≡ Some f → makers f ≡ Some (AsLock krate entry)
  pub one : (krate entry : Text) (f g : ℕ) → makers f ≡ Some (AsLock krate entry) → makers g ≡ Some (AsLock krate entry) → f ≡ g
  pub tried : (krate entry : Text) (f : ℕ) → makers f ≡ Some (AsLock krate entry)
      → (who : ℕ) × (n : SessionName) × IsIn (names who) n × (entry ≡ lock_text n) × HasTried (MakeLock krate entry) (steps who)

-- the files are those that were made, by their numbers
pub record FilesCounted (makers : ℕ → Option Maker) (count : ℕ) (files : List File) : Type 0 where
  pub is : length files ≡ count
  pub below : (f : ℕ) (m : Maker) → makers f ≡ Some m → f < count

-- an open handle was given, is of a session that runs and sees it open, and leads to the one file that was made as the
-- lock file it was opened on; the handles that a running session sees open are open and its own; how a handle holds its
-- lock is as its session sees it, a lock is held by open handles on its file alone, and no session sees a mode on a handle
-- that it sees closed
pub record HandlesAgree (runs : ℕ → Option Job) (opens : ℕ → ℕ → Option Opening) (modes : ℕ → ℕ → Option Bool) (makers : ℕ → Option Maker)
    (handles : ℕ → Option Handle) (locks : ℕ → Option Lock) (given : List ℕ) : Type 0 where
  pub taken : (h : ℕ) (o : Handle) → handles h ≡ Some o → IsIn given h
  pub seen : (h : ℕ) (o : Handle) → handles h ≡ Some o
      → (by : Opening) × IsSome (runs o.owner) × (opens o.owner h ≡ Some by) × (makers o.file ≡ Some (AsLock (place_of by).0 (place_of by).1))
  pub there : (who h : ℕ) (job : Job) (by : Opening) → runs who ≡ Some job → opens who h ≡ Some by → (o : Handle) × (handles h ≡ Some o) × (o.owner ≡ who)
  pub held : (h : ℕ) (o : Handle) → handles h ≡ Some o → held_by (locks o.file) h ≡ modes o.owner h
  pub only : (f h : ℕ) → IsSome (held_by (locks f) h) → (o : Handle) × (handles h ≡ Some o) × (o.file ≡ f)
  pub unopened : (who h : ℕ) → opens who h ≡ None → modes who h ≡ None

-- a running session's own lock is on the lock file of its latest name, which it made, and is held exclusively
pub record OwnLocksHeld (runs jobs : ℕ → Option Job) (names : ℕ → List SessionName) (opens : ℕ → ℕ → Option Opening) (modes : ℕ → ℕ → Option Bool) (owns : ℕ → OwnLock) : Type 0 where
  pub handle : (who h : ℕ) (job : Job) → runs who ≡ Some job → (owns who ≡ Locked h) ⊎ (owns who ≡ Unlocked h)
      → (n : SessionName) × (head_of (names who) ≡ Some n) × (opens who h ≡ Some (Made job.krate (lock_text n)))
  pub lock : (who h : ℕ) → owns who ≡ Locked h → modes who h ≡ Some true

-- a session whose directory stands has tried to make the lock file of its name, so it never again gets a lock that it lost
pub record LocksSettled (sites : ℕ → Site) (owns : ℕ → OwnLock) (names : ℕ → List SessionName) (steps : ℕ → Steps) : Type 0 where
  pub not_open : (who h : ℕ) (krate entry : Text) → sites who ≡ At krate entry → owns who ≢ Unlocked h
  pub has_tried : (who : ℕ) (krate entry : Text) (n : SessionName) → sites who ≡ At krate entry → head_of (names who) ≡ Some n → HasTried (MakeLock krate (lock_text n)) (steps who)

-- ---- Directories and files.

-- the session has published
abbrev pub IsPublished : (ℕ → Site) → ℕ → Type 0
IsPublished sites who = (krate : Text) × (entry : Text) × (sites who ≡ Out krate entry)

-- a name in a directory leads to a file that a session created which has published, or whose directory this is
abbrev pub FilesPrivate : (ℕ → Site) → (ℕ → Option Maker) → (Text → Text → Option (List (Text × ℕ))) → Type 0
FilesPrivate sites makers folders =
    (krate entry x : Text) (folder : List (Text × ℕ)) (f : ℕ) → folders krate entry ≡ Some folder → named x folder ≡ Some f
    → (v : ℕ) × (makers f ≡ Some (ByCreate v)) × (IsPublished sites v ⊎ (sites v ≡ At krate entry))

-- a created file has one name until its creator has published
abbrev pub NamesSole : (ℕ → Site) → (ℕ → Option Maker) → (Text → Text → Option (List (Text × ℕ))) → Type 0
NamesSole sites makers folders =
    (v : ℕ) (krate entry x y : Text) (folder : List (Text × ℕ)) (f : ℕ) → sites v ≡ At krate entry → folders krate entry ≡ Some folder → makers f ≡ Some (ByCreate v)
    → named x folder ≡ Some f → named y folder ≡ Some f → x ≡ y

-- a created file was made by the session itself; a linked one has the bytes that a published set has under this name, and
-- its creator has published
abbrev pub IsSource : Files → (ℕ → Option Job) → (ℕ → Site) → (ℕ → Option Maker) → (ℕ → Option Text) → ℕ → Text → ℕ → Option Text → Type 0
IsSource files jobs sites makers bytes who x f None = makers f ≡ Some (ByCreate who)
IsSource files jobs sites makers bytes who x f (Some from) =
    (v : ℕ) × (w : ℕ) × (krate : Text) × (job : Job) × (set : List (Text × Text)) × (makers f ≡ Some (ByCreate v)) × IsPublished sites v
    × (sites w ≡ Out krate from) × (jobs w ≡ Some job) × IsSet files job set × (bytes f ≡ lookup (is_at (text_cmp x)) set)

-- what a name leads to is as the session's view says: there, with the known bytes, and from where the view has it
abbrev pub FitsView : Files → (ℕ → Option Job) → (ℕ → Site) → (ℕ → Option Maker) → (ℕ → Option Text) → ℕ → Text → Option ℕ → Option Known → Type 0
FitsView files jobs sites makers bytes who x None None = Unit {0}
FitsView files jobs sites makers bytes who x None (Some known) = ⊥
FitsView files jobs sites makers bytes who x (Some f) None = ⊥
FitsView files jobs sites makers bytes who x (Some f) (Some known) =
    ((b : Text) → known.bytes ≡ Some b → bytes f ≡ Some b) × IsSource files jobs sites makers bytes who x f known.linked

-- the directory of a running session that has its own lock and hasn't published is as its view says
abbrev pub OwnDirKnown : Files → (ℕ → Option Job) → (ℕ → Option Job) → (ℕ → OwnLock) → (ℕ → Site) → (ℕ → Dir) → (ℕ → Option Maker) → (Text → Text → Option (List (Text × ℕ))) → (ℕ → Option Text) → Type 0
OwnDirKnown files runs jobs owns sites dirs makers folders bytes =
    (who h : ℕ) (krate entry : Text) (names : List (Text × Known)) → IsSome (runs who) → owns who ≡ Locked h → dirs who ≡ Stands krate entry names
    → (folder : List (Text × ℕ)) × (folders krate entry ≡ Some folder)
    × ((x : Text) → FitsView files jobs sites makers bytes who x (named x folder) (lookup (is_at (text_cmp x)) names))

-- whose a directory is: a session's working one, what a session published, or that renamed back
abbrev pub IsWhose : (ℕ → Site) → Text → Text → Type 0
IsWhose sites krate entry =
    (who : ℕ) × ((sites who ≡ At krate entry) ⊎ (sites who ≡ Out krate entry)
    ⊎ ((n : SessionName) × (hash : ℕ) × (entry ≡ working_text n) × (sites who ≡ Out krate (final_text n hash))))

-- each directory is a session's, and a name has one at most
pub record DirsOwned (sites : ℕ → Site) (folders : Text → Text → Option (List (Text × ℕ))) : Type 0 where
  pub whose : (krate entry : Text) (folder : List (Text × ℕ)) → folders krate entry ≡ Some folder → IsWhose sites krate entry
  pub apart : (krate : Text) (n : SessionName) (hash : ℕ) (x y : List (Text × ℕ)) → folders krate (working_text n) ≡ Some x → folders krate (final_text n hash) ≡ Some y → ⊥

abbrev pub IsBytes : (ℕ → Option Text) → Option ℕ → Option Text → Type 0
IsBytes bytes None found = found ≡ None
IsBytes bytes (Some f) found = IsSome found × (bytes f ≡ found)

-- a directory has exactly the names of the set, each with its bytes
abbrev pub HoldsSet : (ℕ → Option Text) → List (Text × ℕ) → List (Text × Text) → Type 0
HoldsSet bytes folder set = (x : Text) → IsBytes bytes (named x folder) (lookup (is_at (text_cmp x)) set)

-- a directory under a finalised name was published by a session, and holds exactly its job's files
abbrev pub FinalsComplete : Files → (ℕ → Option Job) → (ℕ → Site) → (Text → Text → Option (List (Text × ℕ))) → (ℕ → Option Text) → Type 0
FinalsComplete files jobs sites folders bytes =
    (krate : Text) (n : SessionName) (hash : ℕ) (folder : List (Text × ℕ)) → folders krate (final_text n hash) ≡ Some folder
    → (who : ℕ) × (job : Job) × (set : List (Text × Text)) × (sites who ≡ Out krate (final_text n hash)) × (jobs who ≡ Some job)
    × IsSet files job set × HoldsSet bytes folder set

-- what was published stands, or a newer one of its crate was published
abbrev pub PublishedStands : (ℕ → Site) → (Text → Text → Option (List (Text × ℕ))) → Type 0
PublishedStands sites folders =
    (who : ℕ) (krate : Text) (n : SessionName) (hash : ℕ) → sites who ≡ Out krate (final_text n hash)
    → IsSome (folders krate (final_text n hash)) ⊎ ((v : ℕ) × (m : SessionName) × (newer : ℕ) × (sites v ≡ Out krate (final_text m newer)) × IsNewer m n)

-- each finalised entry that a session's `Look` listed was published
abbrev pub LookedPublished : (ℕ → Steps) → (ℕ → Site) → Type 0
LookedPublished steps sites =
    (who : ℕ) (krate : Text) (n : SessionName) (hash : ℕ) → HasLooked krate (final_text n hash) (steps who) → (v : ℕ) × (sites v ≡ Out krate (final_text n hash))
