use Rattle.rs_grammar.specs.Parses.{r-seq, r-first, r-second}
use Rattle.rs_reader.proofs.Makes.{makes, passes_as}
use Rattle.rs_parse.specs.Blocks.{assignment, assigned}
use Rattle.rs_parse.proofs.statement.assignment.Goals as goal

pub returns-in_err-name : goal.returns-in_err-name
returns-in_err-name c = passes_as c.from_residual.result c.from_residual.ensures.1 c.in_err-name.ensures (λ r. r-first r)

pub returns-in_err-expect : goal.returns-in_err-expect
returns-in_err-expect c = passes_as c.from_residual-in_err-expect.result c.from_residual-in_err-expect.ensures.1 c.in_err-expect.ensures (λ r. r-second c.in_ok-name.ensures.is (r-first r))

pub returns-in_err-value : goal.returns-in_err-value
returns-in_err-value c = passes_as c.from_residual-in_err-value.result c.from_residual-in_err-value.ensures.1 c.in_err-value.ensures (λ r. r-second c.in_ok-name.ensures.is (r-second c.in_ok-expect.ensures.is (r-first r)))

pub returns-in_err-expect-2 : goal.returns-in_err-expect-2
returns-in_err-expect-2 c = passes_as c.from_residual-in_err-expect-2.result c.from_residual-in_err-expect-2.ensures.1 c.in_err-expect-2.ensures (λ r. r-second c.in_ok-name.ensures.is (r-second c.in_ok-expect.ensures.is (r-second c.in_ok-value.ensures.is r)))

pub returns : goal.returns
returns c = makes {g = assignment} {f = assigned} (c.in_ok-name.name, (c.in_ok-expect.field-0, (c.in_ok-value.value, c.in_ok-expect-2.field-0))) (c.in_ok-stored.ensures c.in_ok-expect.field-0 c.in_ok-expect-2.field-0) (r-seq c.in_ok-name.ensures.is (r-seq c.in_ok-expect.ensures.is (r-seq c.in_ok-value.ensures.is c.in_ok-expect-2.ensures.is)))
