use Rattle.std.proofs.Common.{◌≡◌, drop}
use Rattle.rs_check.specs.Items.{unused}
use Rattle.rs_check.specs.State.{said}
use Rattle.rs_check.proofs.body.Checker.unused.Given as goal

abbrev pub invariant-loop-number : goal.invariant-loop-number
invariant-loop-number l =
    (said (unused l.number l.fn.self.typer.reads (drop l.number l.fn.self.declared)) l.self ≡ said (unused 0 l.fn.self.typer.reads l.fn.self.declared) l.fn.self) ×
    (l.self.declared ≡ l.fn.self.declared)
