use Rattle.std.proofs.Common.{rules}
use Rattle.inc_fs.proofs.fs.Fs.try_lock.Goals as goal

pub returns-clause-tries : goal.returns-clause-tries
returns-clause-tries c =
    let own = c.in-Some.ensures.found c.index_mut.result.now in
    ((c.in-Some.number, c.index_mut.result.now), search (rules, own), search rules, search rules)
