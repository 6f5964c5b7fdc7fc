use Rattle.std.proofs.Common.{◌≡◌, ◌==◌, take, filter, not}
use Rattle.inc_fs.proofs.state.without.Given as goal

abbrev pub invariant-loop-other : goal.invariant-loop-other
invariant-loop-other l = l.others ≡ filter (λ other. not (other == l.handle)) (take l.other-index l.holders)
