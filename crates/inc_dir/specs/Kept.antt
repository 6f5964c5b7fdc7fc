-- What a directory in memory keeps.
use Rattle.std.specs.Prelude.{◌≡◌, ℕ, Bool, true, List, IsSome}
use Rattle.inc_fs.specs.State.{IsIn}
use Rattle.inc_proto.specs.Events.{latest}
use Rattle.inc_proto.specs.Legal.{World, view_of}

-- The number is that of the latest own session, and where one runs, it does so by the history.
pub record IsKept (world : World) (own : List ℕ) (number : ℕ) (runs : Bool) : Type 0 where
  pub number_is : number ≡ latest own
  pub among : runs ≡ true → IsIn own number
  pub running : runs ≡ true → IsSome (view_of number world.history)
