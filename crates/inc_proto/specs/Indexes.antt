-- What a view keeps of its own steps, so that questions cost look-ups, brought forward by each of them. A step's place is
-- the number of steps before it.
use Rattle.std.specs.Prelude.{◌≡◌, ◌≢◌, ℕ, ◌≤◌, ◌<◌, ◌++◌, ◌↔◌, ◌⊎◌, List, [], ◌∷◌, length, Option, Some, None, unwrap_or}
use Rattle.std.specs.declared.cmp.Ordering.{Ordering}
use Rattle.std.specs.Ordering.{nat_cmp, ordering_then}
use Rattle.std.specs.Map.{lookup}
use Rattle.std.specs.BTreeMap.{insert_entry, is_at}
use Rattle.inc_fs.specs.Lists.{IsIn, remove_entry}
use Rattle.inc_fs.specs.Paths.{Text, Path, text_cmp, path_cmp}
use Rattle.inc_fs.specs.declared.op.Op.{Op}
use Rattle.inc_fs.specs.declared.op.Op.TheVariants.{MakeLock, OpenLock, TryLock, Look, ListDir, MakeDir, UnlinkLock, Rename, Close}
use Rattle.inc_fs.specs.declared.op.Reply.{Reply}
use Rattle.inc_fs.specs.declared.op.Reply.TheVariants.{Handle, Names, Got, Done}
use Rattle.inc_names.specs.declared.session.SessionName.{SessionName}
use Rattle.inc_names.specs.Entries.{lock_text, final_text, IsSessionName, IsNewer}
use Rattle.inc_proto.specs.Asked.{HasNewer}
use Rattle.inc_proto.specs.Lefts.{AreLeft}
use Rattle.inc_proto.specs.Permits.{IsHash}
use Rattle.inc_proto.specs.declared.holds.Way.{Way}
use Rattle.inc_proto.specs.declared.holds.Way.TheVariants.{Alone, ByOpening}
use Rattle.inc_proto.specs.declared.index.Handed.{Handed}
use Rattle.inc_proto.specs.declared.index.Handed.TheVariants.{Shut, MadeAt, OpenedAt}
use Rattle.inc_proto.specs.declared.index.Hold.{Hold}
use Rattle.inc_proto.specs.declared.index.Index.{Index}
use Rattle.inc_proto.specs.declared.index.Told.{Told}
use Rattle.inc_proto.specs.declared.index.Told.TheVariants.{At, Surely}
use Rattle.inc_proto.specs.Events.{Steps}
use Rattle.inc_proto.specs.Sought.{IsOnBy, IsGiven, held, turn_of, turned_at}
use Rattle.inc_proto.specs.Views.{Opening, opening, HasAny, IsLook, IsListing, IsDone, HasTried, HasTriedDir, HasDone}
use Rattle.inc_proto.specs.Views.Opening.{Made, Opened}

-- ---- What a handle holds.

abbrev pub opening_of : Handed → Option Opening
opening_of Shut = None
opening_of (MadeAt krate entry) = Some (Made krate entry)
opening_of (OpenedAt krate entry) = Some (Opened krate entry)

-- the handle that a step gave, locked or closed
abbrev pub handle_of : Op × Reply → Option ℕ
handle_of (MakeLock krate entry, Handle handle) = Some handle
handle_of (OpenLock krate entry, Handle handle) = Some handle
handle_of (TryLock handle exclusive, Got) = Some handle
handle_of (Close handle, Done) = Some handle
handle_of step = None

-- how that handle is open after the step
abbrev pub handed_by : Op × Reply → Handed → Handed
handed_by (MakeLock krate entry, Handle handle) before = MadeAt krate entry
handed_by (OpenLock krate entry, Handle handle) before = OpenedAt krate entry
handed_by (Close handle, Done) before = Shut
handed_by step before = before

-- what that handle holds after the step, which stands at this place
abbrev pub hold_by : Op × Reply → ℕ → ℕ → Hold → Hold
hold_by step h at hold = record {
  handed = handed_by step hold.handed;
  since = turned_at (turn_of ByOpening h step) hold.since at;
  alone = turned_at (turn_of Alone h step) hold.alone at;
}

-- a handle of which nothing is kept holds nothing
abbrev pub kept_hold : Option Hold → Hold
kept_hold None = record { handed = Shut; since = None; alone = None }
kept_hold (Some hold) = hold

abbrev pub holds_by : Op × Reply → ℕ → Option ℕ → List (ℕ × Hold) → List (ℕ × Hold)
holds_by step at None holds = holds
holds_by step at (Some h) holds =
    insert_entry nat_cmp (remove_entry (is_at (nat_cmp h)) holds) h (hold_by step h at (kept_hold (lookup (is_at (nat_cmp h)) holds)))

abbrev pub from_of : Way → Hold → Option ℕ
from_of Alone hold = hold.alone
from_of ByOpening hold = hold.since

-- a lock that is held since these steps is so since so many were made; none where it isn't held
abbrev pub HeldAt : Option Steps → Steps → Option ℕ → Type 0
HeldAt held steps None = held ≡ None
HeldAt held steps (Some from) = (after : Steps) × (before : Steps) × (held ≡ Some after) × (steps ≡ after ++ before) × (length before ≡ from)

-- this is what the handle holds
pub record IsHold (h : ℕ) (steps : Steps) (hold : Hold) : Type 0 where
  pub opened : opening_of hold.handed ≡ opening h steps
  pub held_at : (way : Way) → HeldAt (held way h steps) steps (from_of way hold)

abbrev pub AreHolds : Steps → List (ℕ × Hold) → Type 0
AreHolds steps holds = (h : ℕ) → IsHold h steps (kept_hold (lookup (is_at (nat_cmp h)) holds))

-- ---- The handles that were given on a lock file, whether they are still open or not.

abbrev pub handles_of : Option (List ℕ) → List ℕ
handles_of found = unwrap_or found []

abbrev pub put_given : Path → ℕ → List (Path × List ℕ) → List (Path × List ℕ)
put_given path h given =
    insert_entry path_cmp (remove_entry (is_at (path_cmp path)) given) path (handles_of (lookup (is_at (path_cmp path)) given) ++ h ∷ [])

abbrev pub given_by : Op × Reply → List (Path × List ℕ) → List (Path × List ℕ)
given_by (MakeLock krate entry, Handle handle) given = put_given (krate, entry) handle given
given_by (OpenLock krate entry, Handle handle) given = put_given (krate, entry) handle given
given_by step given = given

abbrev pub AreGiven : Steps → List (Path × List ℕ) → Type 0
AreGiven steps given =
    (path : Path) (h : ℕ) → HasAny (IsGiven path.0 path.1 h) steps → IsIn (handles_of (lookup (is_at (path_cmp path)) given)) h

-- ---- The step at which a thing was said last.

-- it was said at this place, and so many steps were made before that
abbrev pub IsSince : Option ℕ → ℕ → Type 0
IsSince None from = ⊥
IsSince (Some at) from = from ≤ at

-- the latest steps say this exactly where the place isn't before them
abbrev pub Tells : (Steps → Type 0) → Steps → Option ℕ → Type 0
Tells Says steps at = (after before : Steps) → steps ≡ after ++ before → (Says after ↔ IsSince at (length before))

-- each of these names is put at this place
abbrev pub put_all : {K : Type 0} → (K → K → Ordering) → (Text → K) → ℕ → List Text → List (K × ℕ) → List (K × ℕ)
put_all R key at [] places = places
put_all R key at (name ∷ names) places = put_all R key at names (insert_entry R places (key name) at)

-- a directory's path and a file of it, in their order
abbrev pub file_cmp : Path × Text → Path × Text → Ordering
file_cmp x y = ordering_then (path_cmp x.0 y.0) (text_cmp x.1 y.1)

abbrev pub listed_by : Op × Reply → ℕ → List ((Path × Text) × ℕ) → List ((Path × Text) × ℕ)
listed_by (ListDir krate entry, Names names) at places = put_all file_cmp (λ file. ((krate, entry), file)) at names places
listed_by step at places = places

abbrev pub AreListed : Steps → List ((Path × Text) × ℕ) → Type 0
AreListed steps places = (q : Path × Text) → Tells (HasAny (IsListing q.0.0 q.0.1 q.1)) steps (lookup (is_at (file_cmp q)) places)

abbrev pub looked_by : Op × Reply → ℕ → List (Path × ℕ) → List (Path × ℕ)
looked_by (Look krate, Names names) at places = put_all path_cmp (λ name. (krate, name)) at names places
looked_by step at places = places

abbrev pub AreLooked : Steps → List (Path × ℕ) → Type 0
AreLooked steps places = (q : Path) → Tells (HasAny (IsLook q.0 q.1)) steps (lookup (is_at (path_cmp q)) places)

-- ---- What it asked for, or did, last.

-- it asked for this lock file
abbrev pub asked_by : Op × Reply → ℕ → List (Path × ℕ) → List (Path × ℕ)
asked_by (MakeLock krate entry, reply) at places = insert_entry path_cmp places (krate, entry) at
asked_by step at places = places

abbrev pub AreAsked : Steps → List (Path × ℕ) → Type 0
AreAsked steps places = (q : Path) → Tells (HasTried (MakeLock q.0 q.1)) steps (lookup (is_at (path_cmp q)) places)

-- it asked for a directory
abbrev pub made_by : Op × Reply → ℕ → Option ℕ → Option ℕ
made_by (MakeDir krate entry, reply) at place = Some at
made_by step at place = place

-- it took this lock file's name away
abbrev pub unlinked_by : Op × Reply → ℕ → List (Path × ℕ) → List (Path × ℕ)
unlinked_by (UnlinkLock krate entry, Done) at places = insert_entry path_cmp places (krate, entry) at
unlinked_by step at places = places

abbrev pub AreUnlinked : Steps → List (Path × ℕ) → Type 0
AreUnlinked steps places = (q : Path) → Tells (HasDone (UnlinkLock q.0 q.1)) steps (lookup (is_at (path_cmp q)) places)

-- it renamed a finalised directory of n to this name
abbrev pub IsBack : Text → Text → SessionName → Op × Reply → Type 0
IsBack krate entry n step = (hash : ℕ) × IsHash hash × IsDone (Rename krate (final_text n hash) entry) step

-- kept under the path of the new name and n's lock file
abbrev pub AreBack : Steps → List ((Path × Text) × ℕ) → Type 0
AreBack steps places =
    (krate entry : Text) (n : SessionName) → IsSessionName n
    → Tells (HasAny (IsBack krate entry n)) steps (lookup (is_at (file_cmp ((krate, entry), lock_text n))) places)

-- these are the places once a directory was renamed so
abbrev pub IsBackWith : Text → Text → Text → ℕ → List ((Path × Text) × ℕ) → List ((Path × Text) × ℕ) → Type 0
IsBackWith krate from to at old new =
    ((n : SessionName) × (hash : ℕ) × IsSessionName n × IsHash hash × (from ≡ final_text n hash) × (new ≡ insert_entry file_cmp old ((krate, to), lock_text n) at))
    ⊎ (((n : SessionName) (hash : ℕ) → IsSessionName n → IsHash hash → from ≢ final_text n hash) × (new ≡ old))

abbrev pub IsBackBy : Op × Reply → ℕ → List ((Path × Text) × ℕ) → List ((Path × Text) × ℕ) → Type 0
IsBackBy (Rename krate from to, Done) at old new = IsBackWith krate from to at old new
IsBackBy step at old new = new ≡ old

-- ---- The newest finalised directory that was listed in a crate directory.

-- this is a newer one than n's
abbrev pub IsNewerOf : Option SessionName → SessionName → Type 0
IsNewerOf None n = ⊥
IsNewerOf (Some m) n = IsNewer m n

-- one of these names is that of a finalised directory newer than n's
abbrev pub ListsNewer : List Text → SessionName → Type 0
ListsNewer names n = (m : SessionName) × (hash : ℕ) × IsSessionName m × IsHash hash × IsIn names (final_text m hash) × IsNewer m n

-- some `Look` listed a newer one than n's exactly where the newest one is
abbrev pub AreNewest : Steps → List (Text × SessionName) → Type 0
AreNewest steps newest = (krate : Text) (n : SessionName) → HasNewer krate n steps ↔ IsNewerOf (lookup (is_at (text_cmp krate)) newest) n

-- these are the newest once these names were listed in this crate directory
abbrev pub IsNewestWith : Text → List Text → List (Text × SessionName) → List (Text × SessionName) → Type 0
IsNewestWith krate names old new =
    (k : Text) (n : SessionName) → IsNewerOf (lookup (is_at (text_cmp k)) new) n
    ↔ (IsNewerOf (lookup (is_at (text_cmp k)) old) n ⊎ ((krate ≡ k) × ListsNewer names n))

abbrev pub IsNewestBy : Op × Reply → List (Text × SessionName) → List (Text × SessionName) → Type 0
IsNewestBy (Look krate, Names names) old new = IsNewestWith krate names old new
IsNewestBy step old new = new ≡ old

-- ---- All of it.

-- What the index has is what the steps say.
pub record Indexes (steps : Steps) (index : Index) : Type 0 where
  pub holds : AreHolds steps index.holds
  pub given : AreGiven steps index.given
  pub listed : AreListed steps index.listed
  pub looked : AreLooked steps index.looked
  pub asked : AreAsked steps index.asked
  pub made : Tells HasTriedDir steps index.made
  pub unlinked : AreUnlinked steps index.unlinked
  pub back : AreBack steps index.back
  pub newest : AreNewest steps index.newest
  pub left : AreLeft steps index.left

-- ---- What is asked of it.

abbrev pub HeldBy : Option ℕ → Option ℕ → Type 0
HeldBy None at = ⊥
HeldBy (Some from) at = IsSince at from

-- a handle is open on the lock file at this path, and has held it in this way when this was said last
abbrev pub IsHeldSince : Way → Path → Option ℕ → Hold → Type 0
IsHeldSince way path at hold = IsOnBy way path.0 path.1 (opening_of hold.handed) × HeldBy (from_of way hold) at

-- one of these handles has
abbrev pub IsAnyHeld : Way → Path → Option ℕ → List (ℕ × Hold) → List ℕ → Type 0
IsAnyHeld way path at holds handles =
    (h : ℕ) × IsIn handles h × IsHeldSince way path at (kept_hold (lookup (is_at (nat_cmp h)) holds))

-- this is when something was said last, or when it was surely said
abbrev pub IsTold : (Steps → Type 0) → Steps → Told → Type 0
IsTold Says steps (At at) = Tells Says steps at
IsTold Says steps (Surely at) = (after before : Steps) → steps ≡ after ++ before → IsSince at (length before) → Says after

-- when one of two things was said last, by when each of them was
abbrev pub IsLater : Option ℕ → Option ℕ → Option ℕ → Type 0
IsLater x y at = (from : ℕ) → IsSince at from ↔ (IsSince x from ⊎ IsSince y from)

-- when both were said in one step last, by when each of them was; it isn't told where those are two steps
abbrev pub IsBoth : Option ℕ → Option ℕ → Told → Type 0
IsBoth None y told = told ≡ At None
IsBoth (Some x) None told = told ≡ At None
IsBoth (Some x) (Some y) told = ((x ≡ y) × (told ≡ At (Some x))) ⊎ (told ≡ Surely None)

-- when something was said last that wasn't taken back since, by when it was said and when it was taken back
abbrev pub IsStill : Option ℕ → Option ℕ → Option ℕ → Type 0
IsStill None taken at = at ≡ None
IsStill (Some said) None at = at ≡ Some said
IsStill (Some said) (Some taken) at = ((taken < said) × (at ≡ Some said)) ⊎ ((said ≤ taken) × (at ≡ None))
