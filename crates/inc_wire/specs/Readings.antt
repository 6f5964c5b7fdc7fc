-- What readers answer: the value whose form the bytes are, or that no value's form they are.
use Rattle.std.specs.Prelude.{◌≡◌, ◌≢◌, ℕ, List, ◌++◌, Option, Some, None}

-- a value and what follows it are the others
pub record IsSeen {X : Type 0} (x y : X) (r s : List ℕ) : Type 0 where
  pub value : x ≡ y
  pub rest : r ≡ s

-- the bytes begin with the form of a value that fits, `after` follows it, and no other value's form begins them
pub record IsTaken {X : Type 0} (P : X → Type 0) (form : X → List ℕ) (before after : List ℕ) (x : X) : Type 0 where
  pub fits : P x
  pub front : before ≡ form x ++ after
  pub only : (y : X) (rest : List ℕ) → P y → before ≡ form y ++ rest → IsSeen y x rest after

-- the bytes don't begin with the form of any value that fits
pub record BeginsWithNone {X : Type 0} (P : X → Type 0) (form : X → List ℕ) (before : List ℕ) : Type 0 where
  pub none : (x : X) (after : List ℕ) → P x → before ≢ form x ++ after

-- what is taken off the front of bytes: a value that fits, or None where no such value's form begins them
abbrev pub Takes : {X : Type 0} → (X → Type 0) → (X → List ℕ) → List ℕ → List ℕ → Option X → Type 0
Takes P form before after None = BeginsWithNone P form before
Takes P form before after (Some x) = IsTaken P form before after x

-- the bytes are the form of this value, which fits, and of no other
pub record IsFormOf {X : Type 0} (P : X → Type 0) (form : X → List ℕ) (bytes : List ℕ) (x : X) : Type 0 where
  pub fits : P x
  pub whole : bytes ≡ form x
  pub only : (y : X) → P y → bytes ≡ form y → y ≡ x

-- the bytes are no value's form
pub record IsNoForm {X : Type 0} (P : X → Type 0) (form : X → List ℕ) (bytes : List ℕ) : Type 0 where
  pub none : (x : X) → P x → bytes ≢ form x

-- what bytes are read as: the value that fits and whose form they are, or None where no value that fits has them
abbrev pub IsReadAs : {X : Type 0} → (X → Type 0) → (X → List ℕ) → List ℕ → Option X → Type 0
IsReadAs P form bytes None = IsNoForm P form bytes
IsReadAs P form bytes (Some x) = IsFormOf P form bytes x
