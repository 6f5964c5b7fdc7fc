use Rattle.std.proofs.Common.{◌≡◌, true}
use Rattle.inc_session.specs.Made.{left_of}
use Rattle.inc_cli.proofs.Driving.{Driving}
use Rattle.inc_cli.proofs.visit.drive.Given as goal

abbrev pub invariant-steps : goal.invariant-steps
invariant-steps g l = record {
  runs : g.D.Dir.runs l.dir ≡ true;
  own : g.D.Dir.own l.dir ≡ g.D.Dir.own l.initial.dir;
  driving : Driving (g.D.Dir.own l.initial.dir) l.initial.session l.session (g.D.Dir.told l.initial.dir) (g.D.Dir.told l.dir)
      (g.D.Dir.faults l.initial.dir) (g.D.Dir.faults l.dir) l.initial.meter l.meter;
}

abbrev pub decreases-steps : goal.decreases-steps
decreases-steps g l = left_of l.session
