-- Which directories of a session are left, by the latest `Look` that lists its lock file, as the own steps since have
-- changed it: kept under the path of the lock file, at least those that are left.
use Rattle.std.specs.Prelude.{◌≡◌, ◌⊎◌, ◌++◌, ℕ, List, [], ◌∷◌, length, IfSome, Some}
use Rattle.std.specs.Map.{lookup}
use Rattle.std.specs.BTreeMap.{is_at}
use Rattle.inc_fs.specs.Lists.{IsIn}
use Rattle.inc_fs.specs.Paths.{Text, Path, path_cmp}
use Rattle.inc_fs.specs.declared.op.Op.{Op}
use Rattle.inc_fs.specs.declared.op.Op.TheVariants.{Look, MakeDir, RemoveDir, Rename}
use Rattle.inc_fs.specs.declared.op.Reply.{Reply}
use Rattle.inc_fs.specs.declared.op.Reply.TheVariants.{Names, Done}
use Rattle.inc_names.specs.declared.session.SessionName.{SessionName}
use Rattle.inc_names.specs.Entries.{lock_text, working_text, final_text, IsSessionName}
use Rattle.inc_proto.specs.declared.index.Left.{Left}
use Rattle.inc_proto.specs.Events.{Steps}
use Rattle.inc_proto.specs.Permits.{IsHash}
use Rattle.inc_proto.specs.Views.{left_after}

-- a directory of n, working or finalised
abbrev pub IsDirOf : SessionName → Text → Type 0
IsDirOf n entry = (entry ≡ working_text n) ⊎ ((hash : ℕ) × IsHash hash × (entry ≡ final_text n hash))

-- a `Look` at this place lists n's lock file, and each directory of n that is left of what it lists is one of these
pub record IsLeft (krate : Text) (n : SessionName) (steps : Steps) (left : Left) : Type 0 where
  pub later : Steps
  pub earlier : Steps
  pub names : List Text
  pub whole : steps ≡ later ++ (Look krate, Names names) ∷ earlier
  pub place : length earlier ≡ left.at
  pub lock : IsIn names (lock_text n)
  pub among : (d : Text) → IsDirOf n d → IsIn (left_after krate later names) d → IsIn left.dirs d

-- what is kept of n
abbrev pub Kept : Text → SessionName → List (Path × Left) → (Left → Type 0) → Type 0
Kept krate n lefts P = IfSome (lookup (is_at (path_cmp (krate, lock_text n))) lefts) P

abbrev pub AreLeft : Steps → List (Path × Left) → Type 0
AreLeft steps lefts = (krate : Text) (n : SessionName) → IsSessionName n → Kept krate n lefts (IsLeft krate n steps)

-- ---- What a step changes: what is kept of n afterwards, and from where.

-- it was kept before, at the same place
abbrev pub Was : Text → SessionName → List (Path × Left) → Left → Left → Type 0
Was krate n old was left = (lookup (is_at (path_cmp (krate, lock_text n))) old ≡ Some was) × (left.at ≡ was.at)

-- the lock file is among these names of the crate directory k, listed at this place, or was kept
abbrev pub IsLocked : Text → List Text → ℕ → List (Path × Left) → List (Path × Left) → Type 0
IsLocked k names at old new =
    (krate : Text) (n : SessionName) → IsSessionName n
    → Kept krate n new (λ left. ((krate ≡ k) × IsIn names (lock_text n) × (left.at ≡ at)) ⊎ (lookup (is_at (path_cmp (krate, lock_text n))) old ≡ Some left))

-- and so are the directories of n among these names
abbrev pub IsWith : Text → List Text → List (Path × Left) → List (Path × Left) → Type 0
IsWith k names old new =
    (krate : Text) (n : SessionName) → IsSessionName n
    → Kept krate n new (λ left. (was : Left) × Was krate n old was left × ((d : Text) → IsIn was.dirs d ⊎ ((krate ≡ k) × IsDirOf n d × IsIn names d) → IsIn left.dirs d))

-- all but this one are as before
abbrev pub IsWithout : Text → Text → List (Path × Left) → List (Path × Left) → Type 0
IsWithout k entry old new =
    (krate : Text) (n : SessionName) → IsSessionName n
    → Kept krate n new (λ left. (was : Left) × Was krate n old was left × ((d : Text) → IsIn was.dirs d → ((krate ≡ k) × (d ≡ entry)) ⊎ IsIn left.dirs d))

-- these names are listed in the crate directory k
abbrev pub IsListed : Text → List Text → ℕ → List (Path × Left) → List (Path × Left) → Type 0
IsListed k names at old new = (mid : List (Path × Left)) × IsLocked k names at old mid × IsWith k names mid new

abbrev pub IsMoved : Text → Text → Text → List (Path × Left) → List (Path × Left) → Type 0
IsMoved k from to old new = (mid : List (Path × Left)) × IsWithout k from old mid × IsWith k (to ∷ []) mid new

abbrev pub IsLeftBy : Op × Reply → ℕ → List (Path × Left) → List (Path × Left) → Type 0
IsLeftBy (Look k, Names names) at old new = IsListed k names at old new
IsLeftBy (MakeDir k entry, Done) at old new = IsWith k (entry ∷ []) old new
IsLeftBy (RemoveDir k entry, Done) at old new = IsWithout k entry old new
IsLeftBy (Rename k from to, Done) at old new = IsMoved k from to old new
IsLeftBy step at old new = new ≡ old
