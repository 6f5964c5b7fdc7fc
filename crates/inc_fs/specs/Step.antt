-- The table of steps, a row for each kind of step: asked in the state F by the session `who`, the directory may give
-- this reply and go on to the state G. A row that a reply doesn't name doesn't give it.
use Rattle.std.specs.Prelude.{◌≡◌, ◌≢◌, ℕ, ◌^◌, ◌<◌, ◌≤◌, Bool, true, false, List, [], ◌∷◌, length, take, max, IsSome, Option, Some, None, ◌⊎◌}
use Rattle.std.specs.Map.{keys_of}
use Rattle.std.specs.BTreeMap.{insert_entry, is_at}
use Rattle.inc_fs.specs.declared.state.Entry.TheVariants.{LockFile, Folder}
use Rattle.inc_fs.specs.declared.state.File.{File}
use Rattle.inc_fs.specs.declared.op.Op.{Op}
use Rattle.inc_fs.specs.declared.op.Op.TheVariants.{Draw, MakeLock, OpenLock, TryLock, Look, ListDir, MakeDir, Link, Read, Create, Append, Unlink, UnlinkLock, RemoveDir, Rename, Close}
use Rattle.inc_fs.specs.declared.op.Reply.{Reply}
use Rattle.inc_fs.specs.declared.op.Reply.TheVariants.{Drawn, Handle, Names, Bytes, Done, Got, Held, Exists, Missing, NotEmpty, Fault}
use Rattle.inc_fs.specs.declared.op.Chance.{Chance}
use Rattle.inc_fs.specs.Drawn.{AreDrawnUpTo}
use Rattle.inc_fs.specs.State.{State, IsIn, Text, remove_entry, entry_at, lock_at, folder_at, number_at, named, own_file, file_at, listed, with_entry, without_entry, with_handle, with_new_file, with_lock, with_piece, is_excluded, locked, without_handle, last_moment, text_cmp}

-- `Draw`: a new pair, whose moment is not before the one drawn last. A moment is below 2^64 and a random part below 2^32.
abbrev pub Draws : State → Reply → State → Type 0
Draws F (Drawn moment random) G =
    (last_moment F.drawn ≤ moment) × (¬ IsIn F.drawn (moment, random))
    × (G ≡ record F { drawn = (moment, random) ∷ F.drawn }) × (moment < 2 ^ 64) × (random < 2 ^ 32)
Draws F reply G = ⊥

-- `MakeLock`: an empty file under a name that nothing has, opened by a handle that was never given. Its number is below
-- 2^32, here and in the next row.
abbrev pub MakesLock : State → ℕ → Text → Text → Reply → State → Type 0
MakesLock F who krate entry (Handle handle) G =
    (entry_at F krate entry ≡ None) × (¬ IsIn F.given handle)
    × (G ≡ with_handle (with_entry (with_new_file F) krate entry (LockFile (length F.files))) who handle (length F.files)) × (handle < 2 ^ 32)
MakesLock F who krate entry Exists G = IsSome (entry_at F krate entry) × (G ≡ F)
MakesLock F who krate entry reply G = ⊥

-- `OpenLock`: a handle that was never given, on the lock file of that name
abbrev pub OpensLock : State → ℕ → Text → Text → Reply → State → Type 0
OpensLock F who krate entry (Handle handle) G =
    (number : ℕ) × (lock_at F krate entry ≡ Some number) × (¬ IsIn F.given handle) × (G ≡ with_handle F who handle number) × (handle < 2 ^ 32)
OpensLock F who krate entry Missing G = (lock_at F krate entry ≡ None) × (G ≡ F)
OpensLock F who krate entry reply G = ⊥

-- `TryLock`: the own open handle holds its file in this mode, unless another handle excludes it
abbrev pub TriesLock : State → ℕ → ℕ → Bool → Reply → State → Type 0
TriesLock F who handle exclusive Got G =
    (found : ℕ × File) × (own_file F who handle ≡ Some found) × (is_excluded found.1.lock handle exclusive ≡ false)
    × (G ≡ with_lock F found (locked found.1.lock handle exclusive))
TriesLock F who handle exclusive Held G =
    (found : ℕ × File) × (own_file F who handle ≡ Some found) × (is_excluded found.1.lock handle exclusive ≡ true) × (G ≡ F)
TriesLock F who handle exclusive Missing G = (own_file F who handle ≡ None) × (G ≡ F)
TriesLock F who handle exclusive reply G = ⊥

-- `Look`: the names of the entries of a crate directory, in the order of their bytes
abbrev pub Looks : State → Text → Reply → State → Type 0
Looks F krate (Names names) G = (names ≡ listed krate F.entries) × (G ≡ F)
Looks F krate reply G = ⊥

-- `ListDir`: the names of the files of a directory, in the order of their bytes
abbrev pub ListsDir : State → Text → Text → Reply → State → Type 0
ListsDir F krate entry (Names names) G = (folder : List (Text × ℕ)) × (folder_at F krate entry ≡ Some folder) × (names ≡ keys_of folder) × (G ≡ F)
ListsDir F krate entry Missing G = (folder_at F krate entry ≡ None) × (G ≡ F)
ListsDir F krate entry reply G = ⊥

-- `MakeDir`: an empty directory under a name that nothing has
abbrev pub MakesDir : State → Text → Text → Reply → State → Type 0
MakesDir F krate entry Done G = (entry_at F krate entry ≡ None) × (G ≡ with_entry F krate entry (Folder []))
MakesDir F krate entry Exists G = IsSome (entry_at F krate entry) × (G ≡ F)
MakesDir F krate entry reply G = ⊥

-- `Link`: the name in `to` leads to the file of that name in `from`
abbrev pub Links : State → Text → Text → Text → Text → Reply → State → Type 0
Links F krate from to file Done G =
    (number : ℕ) × (folder : List (Text × ℕ)) × (number_at F krate from file ≡ Some number) × (folder_at F krate to ≡ Some folder)
    × (named file folder ≡ None) × (G ≡ with_entry F krate to (Folder (insert_entry text_cmp folder file number)))
Links F krate from to file Missing G = ((number_at F krate from file ≡ None) ⊎ (folder_at F krate to ≡ None)) × (G ≡ F)
Links F krate from to file Exists G = IsSome (number_at F krate from file) × IsSome (number_at F krate to file) × (G ≡ F)
Links F krate from to file reply G = ⊥

-- `Read`: all bytes of a file
abbrev pub Reads : State → Text → Text → Text → Reply → State → Type 0
Reads F krate entry file (Bytes bytes) G =
    (found : ℕ × File) × (file_at F krate entry file ≡ Some found) × (bytes ≡ found.1.bytes) × (G ≡ F)
Reads F krate entry file Missing G = (file_at F krate entry file ≡ None) × (G ≡ F)
Reads F krate entry file reply G = ⊥

-- `Create`: a new empty file under a name that the directory lacks
abbrev pub Creates : State → Text → Text → Text → Reply → State → Type 0
Creates F krate entry file Done G =
    (folder : List (Text × ℕ)) × (folder_at F krate entry ≡ Some folder) × (named file folder ≡ None)
    × (G ≡ with_entry (with_new_file F) krate entry (Folder (insert_entry text_cmp folder file (length F.files))))
Creates F krate entry file Missing G = (folder_at F krate entry ≡ None) × (G ≡ F)
Creates F krate entry file Exists G = IsSome (number_at F krate entry file) × (G ≡ F)
Creates F krate entry file reply G = ⊥

-- `Append`: a piece at the end of a file, seen under all its names
abbrev pub Appends : State → Text → Text → Text → Text → Reply → State → Type 0
Appends F krate entry file piece Done G = IsSome (file_at F krate entry file) × (G ≡ with_piece F (file_at F krate entry file) piece)
Appends F krate entry file piece Missing G = (file_at F krate entry file ≡ None) × (G ≡ F)
Appends F krate entry file piece reply G = ⊥

-- `Unlink`: a name of a file is taken away, and the file stays with its other names
abbrev pub Unlinks : State → Text → Text → Text → Reply → State → Type 0
Unlinks F krate entry file Done G =
    (folder : List (Text × ℕ)) × (folder_at F krate entry ≡ Some folder) × IsSome (named file folder)
    × (G ≡ with_entry F krate entry (Folder (remove_entry (is_at (text_cmp file)) folder)))
Unlinks F krate entry file Missing G = (number_at F krate entry file ≡ None) × (G ≡ F)
Unlinks F krate entry file reply G = ⊥

-- `UnlinkLock`: the name of a lock file is taken away. Open handles keep the file and its lock.
abbrev pub UnlinksLock : State → Text → Text → Reply → State → Type 0
UnlinksLock F krate entry Done G = IsSome (lock_at F krate entry) × (G ≡ without_entry F krate entry)
UnlinksLock F krate entry Missing G = (lock_at F krate entry ≡ None) × (G ≡ F)
UnlinksLock F krate entry reply G = ⊥

-- `RemoveDir`: an empty directory is taken away
abbrev pub RemovesDir : State → Text → Text → Reply → State → Type 0
RemovesDir F krate entry Done G = (folder_at F krate entry ≡ Some []) × (G ≡ without_entry F krate entry)
RemovesDir F krate entry Missing G = (folder_at F krate entry ≡ None) × (G ≡ F)
RemovesDir F krate entry NotEmpty G = (folder : List (Text × ℕ)) × (folder_at F krate entry ≡ Some folder) × (folder ≢ []) × (G ≡ F)
RemovesDir F krate entry reply G = ⊥

-- `Rename`: a directory goes to a name that nothing has
abbrev pub Renames : State → Text → Text → Text → Reply → State → Type 0
Renames F krate from to Done G =
    (folder : List (Text × ℕ)) × (folder_at F krate from ≡ Some folder) × (entry_at F krate to ≡ None)
    × (G ≡ without_entry (with_entry F krate to (Folder folder)) krate from)
Renames F krate from to Missing G = (folder_at F krate from ≡ None) × (G ≡ F)
Renames F krate from to Exists G = IsSome (folder_at F krate from) × IsSome (entry_at F krate to) × (G ≡ F)
Renames F krate from to reply G = ⊥

-- `Close`: the own open handle is gone, and its file's lock free of it
abbrev pub Closes : State → ℕ → ℕ → Reply → State → Type 0
Closes F who handle Done G = (found : ℕ × File) × (own_file F who handle ≡ Some found) × (G ≡ without_handle F handle found)
Closes F who handle Missing G = (own_file F who handle ≡ None) × (G ≡ F)
Closes F who handle reply G = ⊥

-- what a fault leaves: the state as it was, but for this many bytes of an append
abbrev pub cut_short : State → Op → ℕ → State
cut_short F (Append krate entry file piece) cut = with_piece F (file_at F krate entry file) (take cut piece)
cut_short F op cut = F

-- every reply but a fault, by the rows
abbrev pub Answers : State → ℕ → Op → Reply → State → Type 0
Answers F who Draw reply G = Draws F reply G
Answers F who (MakeLock krate entry) reply G = MakesLock F who krate entry reply G
Answers F who (OpenLock krate entry) reply G = OpensLock F who krate entry reply G
Answers F who (TryLock handle exclusive) reply G = TriesLock F who handle exclusive reply G
Answers F who (Look krate) reply G = Looks F krate reply G
Answers F who (ListDir krate entry) reply G = ListsDir F krate entry reply G
Answers F who (MakeDir krate entry) reply G = MakesDir F krate entry reply G
Answers F who (Link krate from to file) reply G = Links F krate from to file reply G
Answers F who (Read krate entry file) reply G = Reads F krate entry file reply G
Answers F who (Create krate entry file) reply G = Creates F krate entry file reply G
Answers F who (Append krate entry file piece) reply G = Appends F krate entry file piece reply G
Answers F who (Unlink krate entry file) reply G = Unlinks F krate entry file reply G
Answers F who (UnlinkLock krate entry) reply G = UnlinksLock F krate entry reply G
Answers F who (RemoveDir krate entry) reply G = RemovesDir F krate entry reply G
Answers F who (Rename krate from to) reply G = Renames F krate from to reply G
Answers F who (Close handle) reply G = Closes F who handle reply G

-- A step: a fault may answer any op, and leaves a front of an append's piece. Other replies are by the rows.
abbrev pub Step : State → ℕ → Op → Reply → State → Type 0
Step F who op Fault G = (cut : ℕ) × (G ≡ cut_short F op cut)
Step F who op reply G = Answers F who op reply G

-- the pair that a draw with this chance gives: the first that is new, so that each before it was drawn
abbrev pub IsFirstNew : List (ℕ × ℕ) → Chance → Reply → Type 0
IsFirstNew drawn chance (Drawn moment random) =
    (moment ≡ max chance.moment (last_moment drawn))
    × AreDrawnUpTo drawn moment chance.random random
IsFirstNew drawn chance reply = Unit {0}

-- what the chance decides of a step
abbrev pub Decided : Chance → Option ℕ → State → Op → Reply → State → Type 0
Decided chance (Some cut) F op reply G = (reply ≡ Fault) × (G ≡ cut_short F op cut)
Decided chance None F op reply G = (reply ≢ Fault) × IsFirstNew F.drawn chance reply

-- a step with this chance
pub record StepWith (F : State) (who : ℕ) (op : Op) (chance : Chance) (reply : Reply) (G : State) : Type 0 where
  pub step : Step F who op reply G
  pub decided : Decided chance chance.fails F op reply G
