-- A state of the directory, what stands in it at a path, a number or a handle, and how a step changes it.
use Rattle.std.specs.Prelude.{ℕ, ◌==◌, Bool, true, false, not, if◌then◌else◌, List, [], ◌∷◌, ◌++◌, map, filter, Option, Some, None, slice_get, slice_set}
use Rattle.std.specs.List.{list_any}
use Rattle.std.specs.Ordering.{nat_cmp}
use Rattle.std.specs.Map.{lookup, keys_of}
use Rattle.std.specs.BTreeMap.{insert_entry, is_at}
use Rattle.std.specs.Option.{option_and_then, option_map}
use Rattle.inc_fs.specs.declared.state.Lock.{Lock}
use Rattle.inc_fs.specs.declared.state.Lock.TheVariants.{Free, Shared, Exclusive}
use Rattle.inc_fs.specs.declared.state.File.{File}
use Rattle.inc_fs.specs.declared.state.Entry.{Entry}
use Rattle.inc_fs.specs.declared.state.Entry.TheVariants.{LockFile, Folder}
use Rattle.inc_fs.specs.declared.state.Handle.{Handle}
pub use Rattle.inc_fs.specs.Lists.{IsIn, remove_entry}
pub use Rattle.inc_fs.specs.Paths.{Text, Path, text_cmp, path_cmp, names_in}

-- Files have the numbers from 0 on, and keep them. Entries stand in the order of their paths, and the names of
-- a directory and the open handles in theirs. `given` has the handle numbers given out so far, and `drawn`
-- the drawn pairs of a moment and a random part, both the latest first.
pub record State : Type 0 where
  pub files : List File
  pub entries : List (Path × Entry)
  pub handles : List (ℕ × Handle)
  pub given : List ℕ
  pub drawn : List (ℕ × ℕ)

-- the empty directory
abbrev pub start : State
start = record { files = []; entries = []; handles = []; given = []; drawn = [] }

-- ---- What stands where.

-- what stands at a path. A missing crate directory is one in which nothing stands.
abbrev pub entry_at : State → Text → Text → Option Entry
entry_at F krate entry = lookup (is_at (path_cmp (krate, entry))) F.entries

abbrev pub lock_of : Option Entry → Option ℕ
lock_of None = None
lock_of (Some (LockFile number)) = Some number
lock_of (Some (Folder names)) = None

abbrev pub folder_of : Option Entry → Option (List (Text × ℕ))
folder_of None = None
folder_of (Some (LockFile number)) = None
folder_of (Some (Folder names)) = Some names

-- the number of the lock file at a path
abbrev pub lock_at : State → Text → Text → Option ℕ
lock_at F krate entry = lock_of (entry_at F krate entry)

-- the names in the directory at a path, with the numbers of their files
abbrev pub folder_at : State → Text → Text → Option (List (Text × ℕ))
folder_at F krate entry = folder_of (entry_at F krate entry)

abbrev pub named : Text → List (Text × ℕ) → Option ℕ
named file names = lookup (is_at (text_cmp file)) names

-- the number of the file of that name in the directory at a path
abbrev pub number_at : State → Text → Text → Text → Option ℕ
number_at F krate entry file = option_and_then (named file) (folder_at F krate entry)

-- a number with its file, if there is one
abbrev pub numbered : State → ℕ → Option (ℕ × File)
numbered F number = option_map (λ file. (number, file)) (slice_get F.files number)

-- the file of that name in the directory at a path, with its number
abbrev pub file_at : State → Text → Text → Text → Option (ℕ × File)
file_at F krate entry file = option_and_then (numbered F) (number_at F krate entry file)

-- the open handle of that number
abbrev pub opened_at : State → ℕ → Option Handle
opened_at F handle = lookup (is_at (nat_cmp handle)) F.handles

-- the number of a handle's file, where the handle is open and this session's
abbrev pub owned : ℕ → Option Handle → Option ℕ
owned who None = None
owned who (Some opened) = if opened.owner == who then Some opened.file else None

-- the file of the session's own open handle, with its number
abbrev pub own_file : State → ℕ → ℕ → Option (ℕ × File)
own_file F who handle = option_and_then (numbered F) (owned who (opened_at F handle))

-- the names of the entries of a crate directory
abbrev pub listed : Text → List (Path × Entry) → List Text
listed krate entries = names_in krate (keys_of entries)

-- the moment of the pair drawn last, or 0
abbrev pub last_moment : List (ℕ × ℕ) → ℕ
last_moment [] = 0
last_moment (pair ∷ pairs) = pair.0

-- ---- Changes of entries and files.

abbrev pub with_entry : State → Text → Text → Entry → State
with_entry F krate entry what = record F { entries = insert_entry path_cmp F.entries (krate, entry) what }

abbrev pub without_entry : State → Text → Text → State
without_entry F krate entry = record F { entries = remove_entry (is_at (path_cmp (krate, entry))) F.entries }

-- with a new file, empty and free, whose number is the count of the files before
abbrev pub with_new_file : State → State
with_new_file F = record F { files = F.files ++ record { bytes = []; lock = Free } ∷ [] }

abbrev pub with_file : State → ℕ → File → State
with_file F number file = record F { files = slice_set F.files number file }

abbrev pub with_bytes : State → ℕ × File → Text → State
with_bytes F found bytes = with_file F found.0 (record { bytes = bytes; lock = found.1.lock })

abbrev pub with_lock : State → ℕ × File → Lock → State
with_lock F found lock = with_file F found.0 (record { bytes = found.1.bytes; lock = lock })

-- with a piece at the end of a file, if it is there
abbrev pub with_piece : State → Option (ℕ × File) → Text → State
with_piece F None piece = F
with_piece F (Some found) piece = with_bytes F found (found.1.bytes ++ piece)

-- ---- Changes of locks and handles.

-- whether another handle holds the file in a way that excludes this one
abbrev pub is_excluded : Lock → ℕ → Bool → Bool
is_excluded Free handle exclusive = false
is_excluded (Shared holders) handle true = list_any (λ other. not (other == handle)) holders
is_excluded (Shared holders) handle false = false
is_excluded (Exclusive holder) handle exclusive = not (holder == handle)

-- the other handles that hold it shared
abbrev pub others : Lock → ℕ → List ℕ
others Free handle = []
others (Shared holders) handle = filter (λ other. not (other == handle)) holders
others (Exclusive holder) handle = []

-- the lock once this handle has got it: in this mode and in no other
abbrev pub locked : Lock → ℕ → Bool → Lock
locked lock handle true = Exclusive handle
locked lock handle false = Shared (others lock handle ++ handle ∷ [])

-- the lock that these handles hold shared, free where there are none
unfoldable pub shared_by : List ℕ → Lock
shared_by [] = Free
shared_by (holder ∷ holders) = Shared (holder ∷ holders)

-- the lock once this handle is closed
abbrev pub freed : Lock → ℕ → Lock
freed Free handle = Free
freed (Shared holders) handle = shared_by (filter (λ other. not (other == handle)) holders)
freed (Exclusive holder) handle = if holder == handle then Free else Exclusive holder

-- with a new handle of this session, on this file
abbrev pub with_handle : State → ℕ → ℕ → ℕ → State
with_handle F who handle file = record F { handles = insert_entry nat_cmp F.handles handle (record { owner = who; file = file }); given = handle ∷ F.given }

-- without this handle, which is open on this file, and what it held
abbrev pub without_handle : State → ℕ → ℕ × File → State
without_handle F handle found =
    record (with_lock F found (freed found.1.lock handle)) { handles = remove_entry (is_at (nat_cmp handle)) F.handles }

-- ---- The end of a session.

abbrev pub is_owner : ℕ → Option Handle → Bool
is_owner who None = false
is_owner who (Some opened) = opened.owner == who

-- whether this handle is open and this session's
abbrev pub is_whose : List (ℕ × Handle) → ℕ → ℕ → Bool
is_whose handles who handle = is_owner who (lookup (is_at (nat_cmp handle)) handles)

-- a lock without what this session's handles hold
abbrev pub released : List (ℕ × Handle) → ℕ → Lock → Lock
released handles who Free = Free
released handles who (Shared holders) = shared_by (filter (λ handle. not (is_whose handles who handle)) holders)
released handles who (Exclusive handle) = if is_whose handles who handle then Free else Exclusive handle

abbrev pub released_file : List (ℕ × Handle) → ℕ → File → File
released_file handles who file = record { bytes = file.bytes; lock = released handles who file.lock }

-- the state once a session has ended: its handles are gone, and what they held is free
abbrev pub end_of : State → ℕ → State
end_of F who = record F { files = map (released_file F.handles who) F.files; handles = filter (λ pair. not (pair.1.owner == who)) F.handles }
