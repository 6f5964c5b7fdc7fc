use Rattle.rs_grammar.specs.Grammar.{Params}
use Rattle.rs_grammar.specs.Parses.{r-nt, r-no_nt, r-seq, r-first, r-second}
use Rattle.rs_reader.proofs.Exits.{passes, read_as}
use Rattle.rs_reader.proofs.Makes.{passes_made}
use Rattle.rs_reader.proofs.params.params.Goals as goal

pub returns-in_err-first : goal.returns-in_err-first
returns-in_err-first c = passes c.from_residual.result c.from_residual.ensures.1 c.in_err-first.ensures (λ r. r-no_nt {n = Params} (r-first r))

pub returns-in_err-found : goal.returns-in_err-found
returns-in_err-found c = passes_made c.from_residual-in_err-found.result c.from_residual-in_err-found.ensures.1 c.in_err-found.ensures (λ r. r-no_nt {n = Params} (r-second c.in_ok-first.ensures.is r))

pub returns : goal.returns
returns c = read_as c.in_ok-found.ensures.is.1 (r-nt {n = Params} {x = (c.in_ok-first.first, c.in_ok-found.ensures.is.0)} (r-seq c.in_ok-first.ensures.is c.in_ok-found.ensures.is.2))
