use Rattle.rs_grammar.specs.Grammar.{Braced}
use Rattle.rs_grammar.specs.Parses.{r-nt, r-no_nt, r-seq, r-first, r-second}
use Rattle.rs_reader.proofs.Exits.{passes, read}
use Rattle.rs_parse.proofs.body.braced.Goals as goal

pub returns-in_err-expect : goal.returns-in_err-expect
returns-in_err-expect c = passes c.from_residual.result c.from_residual.ensures.1 c.in_err-expect.ensures (λ r. r-no_nt {n = Braced} (r-first r))

pub returns-in_err-found : goal.returns-in_err-found
returns-in_err-found c = passes c.from_residual-in_err-found.result c.from_residual-in_err-found.ensures.1 c.in_err-found.ensures (λ r. r-no_nt {n = Braced} (r-second c.in_ok-expect.ensures.is (r-first r)))

pub returns-in_err-expect-2 : goal.returns-in_err-expect-2
returns-in_err-expect-2 c = passes c.from_residual-in_err-expect-2.result c.from_residual-in_err-expect-2.ensures.1 c.in_err-expect-2.ensures (λ r. r-no_nt {n = Braced} (r-second c.in_ok-expect.ensures.is (r-second c.in_ok-found.ensures.is r)))

pub returns : goal.returns
returns c = read (r-nt {n = Braced} {x = (c.in_ok-expect.field-0, (c.in_ok-found.found, c.in_ok-expect-2.field-0))} (r-seq c.in_ok-expect.ensures.is (r-seq c.in_ok-found.ensures.is c.in_ok-expect-2.ensures.is)))
