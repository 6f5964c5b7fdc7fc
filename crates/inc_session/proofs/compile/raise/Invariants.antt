use Rattle.std.proofs.Common.{◌≡◌}
use Rattle.inc_base.specs.Meters.{raised}
use Rattle.inc_session.proofs.compile.raise.Given as goal

abbrev pub invariant-loop : goal.invariant-loop
invariant-loop l = l.meter ≡ raised l.initial.meter l.counter
