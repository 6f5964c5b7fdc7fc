use Rattle.rs_grammar.specs.Grammar.{Member}
use Rattle.rs_grammar.specs.Parses.{r-nt, r-no_nt, r-seq, r-first, r-second}
use Rattle.rs_reader.proofs.Exits.{passes, read_as}
use Rattle.rs_reader.proofs.paths.member.Goals as goal

pub returns-in_err-expect : goal.returns-in_err-expect
returns-in_err-expect c = passes c.from_residual.result c.from_residual.ensures.1 c.in_err-expect.ensures (λ r. r-no_nt {n = Member} (r-first r))

pub returns-in_err-name : goal.returns-in_err-name
returns-in_err-name c = passes c.from_residual-in_err-name.result c.from_residual-in_err-name.ensures.1 c.in_err-name.ensures (λ r. r-no_nt {n = Member} (r-second c.in_ok-expect.ensures.is r))

pub returns : goal.returns
returns c = read_as c.in_ok-text.ensures (r-nt {n = Member} {x = (c.in_ok-expect.field-0, c.in_ok-name.name)} (r-seq c.in_ok-expect.ensures.is c.in_ok-name.ensures.is))
