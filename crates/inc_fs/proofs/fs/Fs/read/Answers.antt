use Rattle.std.proofs.Common.{rules, refl}
use Rattle.inc_fs.proofs.fs.Fs.read.Goals as goal

pub returns-clause-reads : goal.returns-clause-reads
returns-clause-reads c =
    let found = c.in-Some.ensures.found c.index.result.now in
    ((c.in-Some.number, c.index.result.now), search (rules, found), search rules, refl)
