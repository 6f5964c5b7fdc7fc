-- Parts of the permissions that are asked of a session's own steps.
use Rattle.std.specs.Prelude.{◌≡◌, ℕ, List, [], ◌∷◌, Option, Some, None}
use Rattle.std.specs.List.Sorted.{IsStrictlySortedBy}
use Rattle.std.specs.Map.{lookup, keys_of}
use Rattle.std.specs.BTreeMap.{is_at}
use Rattle.inc_base.specs.declared.job.Job.{Job}
use Rattle.inc_fs.specs.Paths.{Text, text_cmp}
use Rattle.inc_names.specs.declared.session.SessionName.{SessionName}
use Rattle.inc_names.specs.Entries.{lock_text, final_text, IsSessionName, IsNewer}
use Rattle.inc_proto.specs.declared.holds.Way.TheVariants.{Alone}
use Rattle.inc_proto.specs.declared.own.Known.{Known}
use Rattle.inc_proto.specs.Events.{Steps}
use Rattle.inc_proto.specs.Files.{Files, IsSet}
use Rattle.inc_proto.specs.Permits.{IsHash, complete}
use Rattle.inc_proto.specs.Sought.{Holds}
use Rattle.inc_proto.specs.Views.{Dir, HasLooked, HasSeenBoth}
use Rattle.inc_proto.specs.Views.Dir.{Stands}

-- a `Look` lists a finalised directory newer than n's
abbrev pub HasNewer : Text → SessionName → Steps → Type 0
HasNewer krate n steps =
    (m : SessionName) × (hash : ℕ) × IsSessionName m × IsHash hash × HasLooked krate (final_text m hash) steps × IsNewer m n

-- it holds n exclusively, and since then saw n's lock file and this directory in one `Look`
abbrev pub HoldsBoth : Text → Text → SessionName → Steps → Type 0
HoldsBoth krate from n steps = (h : ℕ) × (after : Steps) × Holds Alone krate n steps h after × HasSeenBoth krate (lock_text n) from after

-- the directory stands there, and is known to have exactly the job's files
abbrev pub HasWanted : Files → Job → Dir → Text → Text → Type 0
HasWanted files job d krate from =
    (its : List (Text × Known)) × (set : List (Text × Text)) × (d ≡ Stands krate from its) × (complete its ≡ Some set) × IsSet files job set

-- the files of a directory that stands are in the order of their names
abbrev pub AreOrdered : Dir → Type 0
AreOrdered (Stands krate entry files) = IsStrictlySortedBy text_cmp (keys_of files)
AreOrdered d = Unit {0}

abbrev pub bytes_of : Option Known → Option Text
bytes_of None = None
bytes_of (Some known) = known.bytes

-- the bytes of a file, where it is there and they are known
abbrev pub bytes_at : Text → List (Text × Known) → Option Text
bytes_at name files = bytes_of (lookup (is_at (text_cmp name)) files)

-- these names are those of the wanted files, in their order, and each file is known to have the wanted bytes
abbrev pub AreWanted : List (Text × Known) → List Text → List (Text × Text) → Type 0
AreWanted files [] [] = Unit {0}
AreWanted files (name ∷ names) (one ∷ wanted) = (name ≡ one.0) × (bytes_at name files ≡ Some one.1) × AreWanted files names wanted
AreWanted files names wanted = ⊥
