use Rattle.std.proofs.Common.{◌≡◌, drop}
use Rattle.inc_dir.proofs.Grown.{used_up}
use Rattle.inc_dir.proofs.replay.ReplayDir.answer.Goals as goal

pub returns-clause-ok : goal.returns-clause-ok
returns-clause-ok c =
    let left : drop c.place_after-self-inside.result c.self.inside.replies ≡ drop 1 (drop c.self.inside.at c.self.inside.replies) =
    used_up c.self.inside.replies c.self.inside.at c.place_after-self-inside.result (rw c.len.ensures.value at c.place_after-self-inside.ensures) in
    rw (left, c.faults_after-self-inside.ensures.value, ← c.self.view_is)
