use Rattle.std.proofs.Common.{take, ℕ, ◌<◌, ◌↔◌}
use Rattle.inc_laws.specs.Places.{linked_in, AreBefore}
use Rattle.inc_laws.proofs.ahead.all_linked.Given as goal

abbrev pub invariant-loop-file : goal.invariant-loop-file
invariant-loop-file l = (bound : ℕ) → 0 < bound → (l.last < bound ↔ AreBefore (λ file. linked_in l.linkings l.end (l.from, file)) bound (take l.file-index l.names))
