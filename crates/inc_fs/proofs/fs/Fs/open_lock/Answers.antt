use Rattle.std.proofs.Common.{rules}
use Rattle.inc_fs.proofs.Numbers.{below-given, below_free}
use Rattle.inc_fs.proofs.fs.Fs.open_lock.Goals as goal

pub returns-clause-opens : goal.returns-clause-opens
returns-clause-opens c =
    let next = c.in_ok-handle.ensures.next in (
      c.in-Some.file,
      search rules,
      rw (← c.self.view_is) (below_free c.self.inside.given c.in_ok-handle.handle next),
      rw (← c.self.view_is) (λ i. record { files = c.self.inside.files.items; entries = c.self.inside.entries; handles = c.in_ok-handle.ensures.opened i; given = below-given c.self.inside.given c.give.new.given c.in_ok-handle.handle next c.in_ok-handle.ensures.given i; drawn = c.self.inside.drawn }),
      c.in_ok-handle.ensures.few,
    )
