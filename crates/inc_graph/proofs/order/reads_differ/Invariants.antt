use Rattle.std.proofs.Common.{◌≡◌, ℕ, ◌≤◌, nat_eq, [], take, drop}
use Rattle.std.specs.Prelude.{slice_index}
use Rattle.std.specs.List.{list_any}
use Rattle.inc_graph.specs.Order.{differ_from}
use Rattle.inc_graph.proofs.order.reads_differ.Given as goal

abbrev pub invariant-loop-read : goal.invariant-loop-read
invariant-loop-read l = record {
  rest : differ_from (take l.read-index l.reads) (drop l.read-index l.reads) ≡ differ_from [] l.reads;
  seen : (q : ℕ) → nat_eq (slice_index l.stamps q) l.stamp ≡ list_any (nat_eq q) (take l.read-index l.reads);
  older : (q : ℕ) → slice_index l.stamps q ≤ l.stamp;
}
