use Rattle.std.proofs.Common.{◌≡◌}
use Rattle.inc_fs.specs.Drawn.{AreDrawnUpTo}
use Rattle.inc_fs.proofs.drawn.DrawnPairs.first_new.Given as goal

abbrev pub invariant-loop : goal.invariant-loop
invariant-loop l = record {
  way : AreDrawnUpTo l.initial.self l.moment l.random l.at;
  kept : l.self ≡ l.initial.self;
}
