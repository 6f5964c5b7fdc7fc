use Rattle.std.proofs.Common.{take, reverse}
use Rattle.inc_laws.specs.Newest.{IsNewestFound}
use Rattle.inc_laws.proofs.stands.newest_found.Given as goal

abbrev pub invariant-loop-event : goal.invariant-loop-event
invariant-loop-event l = IsNewestFound l.krate (reverse (take l.event-index l.events)) l.newest
