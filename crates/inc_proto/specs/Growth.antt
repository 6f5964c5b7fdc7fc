-- How a history grows in the calls of a session that isn't alone. `could` says of a history that it could have happened.
use Rattle.std.specs.Prelude.{◌≡◌, ◌≢◌, ℕ, ◌++◌, List, [], ◌∷◌, Option, Some, None, IsSomeAnd}
use Rattle.std.specs.List.{AllByRecursion}
use Rattle.inc_fs.specs.State.{IsIn}
use Rattle.inc_proto.specs.declared.event.Event.{Event}
use Rattle.inc_proto.specs.declared.event.Event.TheVariants.{Begin}
use Rattle.inc_proto.specs.Events.{begins, latest, number_of}

-- an event of another session than this one
abbrev pub IsOfOther : ℕ → Event → Type 0
IsOfOther who event = number_of event ≢ who

-- an event of another session than all of these
abbrev pub IsOfOthers : List ℕ → Event → Type 0
IsOfOthers own event = ¬ IsIn own (number_of event)

-- a beginning has the next number
abbrev pub IsNumbered : List Event → List Event → Type 0
IsNumbered events [] = Unit {0}
IsNumbered events (Begin number job ∷ last) = number ≡ begins events
IsNumbered events (event ∷ last) = Unit {0}

-- A history grows by others' events, which are of none of the own numbers, and then by these of its own. What could have
-- happened leads on to what could have.
pub record Grows (could : List Event → Type 0) (own : List ℕ) (old new last : List Event) : Type 0 where
  pub others : List Event
  pub is : new ≡ last ++ (others ++ old)
  pub by_others : AllByRecursion (IsOfOthers own) others
  pub numbered : IsNumbered (others ++ old) last
  pub possible : could old → could new

-- the same where the history is told; it stays told, and what isn't told stays so
abbrev pub TellsOn : (List Event → Type 0) → List ℕ → Option (List Event) → Option (List Event) → List Event → Type 0
TellsOn could own None new last = new ≡ None
TellsOn could own (Some old) new last = IsSomeAnd new (λ new. Grows could own old new last)

-- a history grows by these events of its own, the newest first, with others' events before each
abbrev pub GrowsBy : (List Event → Type 0) → List ℕ → List Event → List Event → List Event → Type 0
GrowsBy could own old new [] = new ≡ old
GrowsBy could own old new (event ∷ events) = (mid : List Event) × GrowsBy could own old mid events × Grows could own mid new (event ∷ [])

-- the same where the history is told
abbrev pub TellsBy : (List Event → Type 0) → List ℕ → Option (List Event) → Option (List Event) → List Event → Type 0
TellsBy could own None new events = new ≡ None
TellsBy could own (Some old) new events = IsSomeAnd new (λ new. GrowsBy could own old new events)

-- where a history is told, one number was put before the own ones; else they are as before
abbrev pub AddsOne : Option (List Event) → List ℕ → List ℕ → Type 0
AddsOne None old new = new ≡ old
AddsOne (Some history) old new = new ≡ latest new ∷ old
