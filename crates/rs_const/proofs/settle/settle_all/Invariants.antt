use Rattle.std.proofs.Common.{◌≡◌, length}
use Rattle.rs_const.specs.State.{AreSettled, done}
use Rattle.rs_const.proofs.settle.settle_all.Given as goal

abbrev pub invariant-settling : goal.invariant-settling
invariant-settling l = record {
  counted : done l.values.items ≡ l.counter;
  long : length l.values.items ≡ length l.known;
  settled : AreSettled l.known l.its l.values.items;
}
