use Rattle.std.proofs.Common.{◌≡◌, map, take}
use Rattle.std.specs.Prelude.{slice_index_or}
use Rattle.inc_engine.proofs.finish.placed.Given as goal

abbrev pub invariant-loop-read : goal.invariant-loop-read
invariant-loop-read l = l.places ≡ map (λ i. slice_index_or l.ranks i 0) (take l.read-index l.reads)
