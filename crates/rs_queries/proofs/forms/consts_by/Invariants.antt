use Rattle.std.proofs.Common.{◌≡◌, map, take}
use Rattle.rs_queries.specs.Built.{const_by}
use Rattle.rs_queries.proofs.forms.consts_by.Given as goal

abbrev pub invariant-loop-entry : goal.invariant-loop-entry
invariant-loop-entry l = l.consts ≡ map (const_by l.places l.values) (take l.entry-index l.constants)
