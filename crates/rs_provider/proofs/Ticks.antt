-- A count that doesn't tick, and one that ticks once.
use Rattle.std.proofs.Common.{◌≡◌, ℕ, ◌≤◌}
use Rattle.inc_query.specs.Ticks.{rise}
use Rattle.inc_query.specs.TickLaws.{rise-none, rise-least}

pub rise_none : (count : ℕ) → rise count 0 ≡ count
rise_none count = rise-none count

pub rise_least : (count : ℕ) → count ≤ rise count 1
rise_least count = rise-least count 1
