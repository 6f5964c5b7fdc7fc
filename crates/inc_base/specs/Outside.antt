-- What sources and sinks tell, and the counts of their faults.
use Rattle.std.specs.Prelude.{◌≡◌, ℕ, ◌≤◌, ◌==◌, ◌++◌, Bool, List, [], Option, Some, None, Result, OnErr, MatchResult, is_some}
use Rattle.std.specs.List.{list_any}
use Rattle.std.specs.Io.KnownBytes.{Appends}
use Rattle.inc_base.specs.Meters.{ticked}

-- the count rose, or stands at its end
abbrev pub Rose : ℕ → ℕ → Type 0
Rose before now = ticked before ≤ now

-- the count never falls, and an `Err` comes only where it rose
pub record HasCause {T E : Type 0} (before now : ℕ) (result : Result T E) : Type 0 where
  pub later : before ≤ now
  pub failed : OnErr result (Rose before now)

-- what tells goes on telling, and what doesn't never begins to
abbrev pub KeepsTelling : {T : Type 0} → Option T → Option T → Type 0
KeepsTelling old new = is_some new ≡ is_some old

-- nothing is left: what told that it has bytes is told to have none, and what told nothing tells nothing still
abbrev pub IsReadOut : Option (List ℕ) → Option (List ℕ) → Type 0
IsReadOut None new = new ≡ None
IsReadOut (Some left) new = new ≡ Some []

-- A count of faults after a call: it rose by one where the call failed, and stays where it didn't, up to the end of `u64`.
abbrev pub CountsFault : {T E : Type 0} → ℕ → ℕ → Result T E → Type 0
CountsFault before now result = MatchResult result (λ _. now ≡ before) (λ _. now ≡ ticked before)

-- a front of these bytes was appended
pub record AppendsFront (old new : Option (List ℕ)) (bytes : List ℕ) : Type 0 where
  pub taken : List ℕ
  pub rest : List ℕ
  pub front : bytes ≡ taken ++ rest
  pub appends : Appends old new taken

-- A source or a sink in memory: what it has left or holds, the numbers of the calls that fail, and how
-- many calls it has had with a slice or piece that isn't empty, and how many faults.
pub record InMemory : Type 0 where
  pub bytes : List ℕ
  pub failing : List ℕ
  pub calls : ℕ
  pub faults : ℕ

abbrev pub is_listed : List ℕ → ℕ → Bool
is_listed numbers number = list_any (λ n. n == number) numbers

-- the call that comes next is one that fails
abbrev pub is_failing : InMemory → Bool
is_failing s = is_listed s.failing s.calls

-- after a call that failed
abbrev pub failed_call : InMemory → InMemory
failed_call s = record s { calls = ticked s.calls; faults = ticked s.faults }

-- after a call that left these bytes
abbrev pub served_call : InMemory → List ℕ → InMemory
served_call s bytes = record s { bytes = bytes; calls = ticked s.calls }
