use Rattle.std.proofs.Common.{◌≡◌, take}
use Rattle.std.specs.List.{filter_map}
use Rattle.rs_queries.specs.Known.{entry_of}
use Rattle.rs_queries.proofs.known.constants_of.Given as goal

abbrev pub invariant-loop-one : goal.invariant-loop-one
invariant-loop-one l = l.constants ≡ filter_map entry_of (take l.one-index l.answered)
