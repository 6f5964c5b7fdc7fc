use Rattle.std.proofs.Common.{◌≡◌, take, count_by}
use Rattle.inc_laws.specs.Drawn.{is_drawing}
use Rattle.inc_laws.proofs.counts.draws_among.Given as goal

abbrev pub invariant-loop-event : goal.invariant-loop-event
invariant-loop-event l = l.count ≡ count_by is_drawing (take l.event-index l.events)
