use Rattle.std.proofs.Common.{◌≡◌, map, take}
use Rattle.rs_queries.specs.Known.{sig_of}
use Rattle.rs_queries.proofs.known.sigs_of.Given as goal

abbrev pub invariant-loop-one : goal.invariant-loop-one
invariant-loop-one l = l.sigs ≡ map (sig_of l.names) (take l.one-index l.placed)
