use Rattle.std.proofs.Common.{◌≡◌, ℕ, ◌<◌, take, length, get_or, false}
use Rattle.std.specs.Prelude.{nat_eq}
use Rattle.std.specs.List.{list_any}
use Rattle.rs_check.proofs.body.Checker.read_marks.Given as goal

abbrev pub invariant-loop-number : goal.invariant-loop-number
invariant-loop-number l =
    (length l.marks.items ≡ length l.self.declared) ×
    ((i : ℕ) → i < length l.self.declared → get_or l.marks.items i false ≡ list_any (nat_eq i) (take l.number-index l.self.typer.reads))
