use Rattle.rs_grammar.specs.Grammar as grammar
use Rattle.rs_grammar.specs.Parses.{r-nt, r-no_nt, r-seq, r-first, r-second}
use Rattle.rs_reader.proofs.Exits.{passes, read_as}
use Rattle.rs_reader.proofs.params.param.Goals as goal

pub returns-in_err-name : goal.returns-in_err-name
returns-in_err-name c = passes c.from_residual.result c.from_residual.ensures.1 c.in_err-name.ensures (λ r. r-no_nt {n = grammar.Param} (r-first r))

pub returns-in_err-expect : goal.returns-in_err-expect
returns-in_err-expect c = passes c.from_residual-in_err-expect.result c.from_residual-in_err-expect.ensures.1 c.in_err-expect.ensures (λ r. r-no_nt {n = grammar.Param} (r-second c.in_ok-name.ensures.is (r-first r)))

pub returns-in_err-typ : goal.returns-in_err-typ
returns-in_err-typ c = passes c.from_residual-in_err-typ.result c.from_residual-in_err-typ.ensures.1 c.in_err-typ.ensures (λ r. r-no_nt {n = grammar.Param} (r-second c.in_ok-name.ensures.is (r-second c.in_ok-expect.ensures.is r)))

pub returns : goal.returns
returns c = read_as (c.in_ok-named.ensures c.in_ok-expect.field-0) (r-nt {n = grammar.Param} {x = (c.in_ok-name.name, (c.in_ok-expect.field-0, c.in_ok-typ.typ))} (r-seq c.in_ok-name.ensures.is (r-seq c.in_ok-expect.ensures.is c.in_ok-typ.ensures.is)))
