-- How whole loads are found: a step's place is the number of steps before it. Once from the newest step on, it is told at
-- which place what comes first closes a handle or links a file; then, from the first step on, what is held, and until when.
use Rattle.std.specs.Prelude.{◌≡◌, ◌≢◌, ◌⊎◌, ◌↔◌, ℕ, ◌+◌, ◌<◌, ◌≤◌, ◌==◌, ◌&&◌, Bool, false, if◌then◌else◌, List, [], ◌∷◌, Option, Some, None, unwrap_or}
use Rattle.std.specs.Ordering.{nat_cmp}
use Rattle.std.specs.Map.{lookup}
use Rattle.std.specs.BTreeMap.{insert_entry, is_at}
use Rattle.inc_fs.specs.Lists.{IsIn, remove_entry}
use Rattle.inc_fs.specs.Paths.{Text, Path, text_cmp, path_cmp}
use Rattle.inc_fs.specs.declared.op.Op.{Op}
use Rattle.inc_fs.specs.declared.op.Op.TheVariants.{MakeLock, OpenLock, TryLock, ListDir, Link, Close}
use Rattle.inc_fs.specs.declared.op.Reply.{Reply}
use Rattle.inc_fs.specs.declared.op.Reply.TheVariants.{Handle, Names, Got, Done}
use Rattle.inc_names.specs.declared.session.SessionName.{SessionName}
use Rattle.inc_names.specs.Entries.{lock_text, final_text, IsSessionName}
use Rattle.inc_proto.specs.Events.{Steps}
use Rattle.inc_proto.specs.Permits.{IsHash}
use Rattle.inc_proto.specs.Views.{Opening, opening, since, same_text}
use Rattle.inc_proto.specs.Views.Opening.{Made, Opened}
use Rattle.inc_laws.specs.Loads.{IsLatestLoad}

-- ---- What comes.

-- whether a step closes the handle
abbrev pub is_close : ℕ → Op × Reply → Bool
is_close h (Close handle, Done) = handle == h
is_close h step = false

-- whether it links a file out of a directory of the crate: the path is of both
abbrev pub is_link : Text → Path → Op × Reply → Bool
is_link krate path (Link k from to file, Done) = same_text k krate && (same_text from path.0 && same_text file path.1)
is_link krate path step = false

-- the place of the first of the coming steps, whose first is at this place, that is such a one; past their end where none is
abbrev pub first : (Op × Reply → Bool) → Steps → ℕ → ℕ
first is_such [] at = at
first is_such (step ∷ coming) at = if is_such step then at else first is_such coming (at + 1)

abbrev pub closings_by : Op × Reply → ℕ → List (ℕ × ℕ) → List (ℕ × ℕ)
closings_by (Close handle, Done) at closings = insert_entry nat_cmp closings handle at
closings_by step at closings = closings

abbrev pub linkings_by : Text → Op × Reply → ℕ → List (Path × ℕ) → List (Path × ℕ)
linkings_by krate (Link k from to file, Done) at linkings = if same_text k krate then insert_entry path_cmp linkings (from, file) at else linkings
linkings_by krate step at linkings = linkings

abbrev pub closed_in : List (ℕ × ℕ) → ℕ → ℕ → ℕ
closed_in closings end h = unwrap_or (lookup (is_at (nat_cmp h)) closings) end

abbrev pub linked_in : List (Path × ℕ) → ℕ → Path → ℕ
linked_in linkings end path = unwrap_or (lookup (is_at (path_cmp path)) linkings) end

-- the tables tell where handles are closed and files linked first
pub record TellsAhead (krate : Text) (coming : Steps) (at end : ℕ) (closings : List (ℕ × ℕ)) (linkings : List (Path × ℕ)) : Type 0 where
  pub closed : (h : ℕ) → closed_in closings end h ≡ first (is_close h) coming at
  pub linked : (path : Path) → linked_in linkings end path ≡ first (is_link krate path) coming at

abbrev pub AreBefore : (Text → ℕ) → ℕ → List Text → Type 0
AreBefore place bound names = (file : Text) → IsIn names file → place file < bound

-- What is told of a step ahead: of a lock that is got, where its handle is closed; of a listing, where all that it lists is
-- linked, which is before the end only where it lists something, in this crate.
abbrev pub IsFar : Text → (ℕ → ℕ) → (Path → ℕ) → ℕ → Op × Reply → ℕ → Type 0
IsFar krate closed linked end (TryLock handle exclusive, Got) far = far ≡ closed handle
IsFar krate closed linked end (ListDir k entry, Names names) far =
    (bound : ℕ) → 0 < bound → bound ≤ end → (far < bound ↔ ((k ≡ krate) × (names ≢ []) × AreBefore (λ file. linked (entry, file)) bound names))
IsFar krate closed linked end step far = Unit {0}

-- the same of each of the coming steps
abbrev pub AreFar : Text → ℕ → Steps → ℕ → List ℕ → Type 0
AreFar krate end [] at fars = fars ≡ []
AreFar krate end (step ∷ coming) at [] = ⊥
AreFar krate end (step ∷ coming) at (far ∷ fars) =
    IsFar krate (λ h. first (is_close h) coming (at + 1)) (λ path. first (is_link krate path) coming (at + 1)) end step far × AreFar krate end coming (at + 1) fars

-- ---- What is held.

-- the lock file of the crate on which a handle was opened
abbrev pub opened_on : Text → Option Opening → Option Text
opened_on krate None = None
opened_on krate (Some (Made k e)) = None
opened_on krate (Some (Opened k e)) = if same_text k krate then Some e else None

abbrev pub opened_by : Text → Op × Reply → List (ℕ × Text) → List (ℕ × Text)
opened_by krate (MakeLock k e, Handle handle) opened = remove_entry (is_at (nat_cmp handle)) opened
opened_by krate (OpenLock k e, Handle handle) opened = if same_text k krate then insert_entry nat_cmp opened handle e else remove_entry (is_at (nat_cmp handle)) opened
opened_by krate (Close handle, Done) opened = remove_entry (is_at (nat_cmp handle)) opened
opened_by krate step opened = opened

abbrev pub AreOpened : Text → Steps → List (ℕ × Text) → Type 0
AreOpened krate steps opened = (h : ℕ) → lookup (is_at (nat_cmp h)) opened ≡ opened_on krate (opening h steps)

-- until where a lock file's name is held at most
abbrev pub until_in : List (Text × ℕ) → Text → ℕ
until_in until entry = unwrap_or (lookup (is_at (text_cmp entry)) until) 0

-- the handle was opened on this lock file and holds it, and still does past this place
abbrev pub IsHeldPast : Text → Text → Steps → Steps → ℕ → ℕ → ℕ → Type 0
IsHeldPast krate entry before coming at place h =
    (after : Steps) × (opening h before ≡ Some (Opened krate entry)) × (since h before ≡ Some after) × (place < first (is_close h) coming at)

abbrev pub HeldPast : Text → Text → Steps → Steps → ℕ → ℕ → Type 0
HeldPast krate entry before coming at place = (h : ℕ) × IsHeldPast krate entry before coming at place h

abbrev pub AreUntil : Text → Steps → Steps → ℕ → List (Text × ℕ) → Type 0
AreUntil krate before coming at until = (entry : Text) (place : ℕ) → at ≤ place → (place < until_in until entry ↔ HeldPast krate entry before coming at place)

-- one more handle holds that lock file up to here
abbrev pub IsUntil : Text → ℕ → List (Text × ℕ) → List (Text × ℕ) → Type 0
IsUntil entry far before after =
    ((place : ℕ) → place < until_in after entry ↔ ((place < far) ⊎ (place < until_in before entry)))
    × ((other : Text) → other ≢ entry → until_in after other ≡ until_in before other)

abbrev pub IsUntilOf : Option Text → ℕ → List (Text × ℕ) → List (Text × ℕ) → Type 0
IsUntilOf None far before after = after ≡ before
IsUntilOf (Some entry) far before after = IsUntil entry far before after

abbrev pub IsUntilBy : Op × Reply → List (ℕ × Text) → ℕ → List (Text × ℕ) → List (Text × ℕ) → Type 0
IsUntilBy (TryLock handle exclusive, Got) opened far before after = IsUntilOf (lookup (is_at (nat_cmp handle)) opened) far before after
IsUntilBy step opened far before after = after ≡ before

-- ---- Which load begins.

-- the listing of n's finalised directory comes while n is held until all that is listed is linked
abbrev pub IsBegun : List (Text × ℕ) → ℕ → Op × Reply → Option (SessionName × ℕ) → Type 0
IsBegun until far (ListDir k entry, Names names) (Some it) =
    IsSessionName it.0 × IsHash it.1 × (entry ≡ final_text it.0 it.1) × (far < until_in until (lock_text it.0))
IsBegun until far (ListDir k entry, Names names) None =
    (n : SessionName) (hash : ℕ) → IsSessionName n → IsHash hash → entry ≡ final_text n hash → ¬ (far < until_in until (lock_text n))
IsBegun until far step found = found ≡ None

-- what begins now, or else what began before
abbrev pub later_found : Option (SessionName × ℕ) → Option (SessionName × ℕ) → Option (SessionName × ℕ)
later_found None before = before
later_found (Some it) before = Some it

-- the handles that steps gave didn't hold anything before
abbrev pub IsFresh : Op × Reply → Steps → Type 0
IsFresh (MakeLock k e, Handle handle) before = since handle before ≡ None
IsFresh (OpenLock k e, Handle handle) before = since handle before ≡ None
IsFresh step before = Unit {0}

abbrev pub AreFresh : Steps → Type 0
AreFresh [] = Unit {0}
AreFresh (step ∷ steps) = AreFresh steps × IsFresh step steps

-- what is known of the steps so far, with those that come
pub record IsSought (krate : Text) (before coming : Steps) (at : ℕ) (opened : List (ℕ × Text)) (until : List (Text × ℕ)) (found : Option (SessionName × ℕ)) : Type 0 where
  pub opened_is : AreOpened krate before opened
  pub until_is : AreUntil krate before coming at until
  pub found_is : IsLatestLoad krate before coming found
