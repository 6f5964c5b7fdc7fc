use Rattle.std.specs.List.{Contains}
use Rattle.inc_engine.specs.declared.done.Done.{Done}
use Rattle.inc_engine.proofs.Lists.{all-at}
use Rattle.inc_engine.proofs.finish.ranks_of.Goals as goal

pub place_of-rank-requires-clause-there : goal.place_of-rank-requires-clause-there
place_of-rank-requires-clause-there c = all-at (λ (d : Done). Contains c.args.order.now d.query) c.args.memo.now c.loop-done.done-index c.done-item.result c.requires.there c.loop-done-test.true c.done-item.is
