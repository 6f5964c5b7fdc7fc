use Rattle.std.proofs.Common.{drop}
use Rattle.inc_proto.specs.Asked.{AreWanted}
use Rattle.inc_proto.proofs.published.are_wanted.Given as goal

abbrev pub invariant-loop-one : goal.invariant-loop-one
invariant-loop-one l = record {
  left : AreWanted l.files l.names l.wanted → AreWanted l.files l.rest (drop l.one-index l.wanted);
  back : AreWanted l.files l.rest (drop l.one-index l.wanted) → AreWanted l.files l.names l.wanted;
}
