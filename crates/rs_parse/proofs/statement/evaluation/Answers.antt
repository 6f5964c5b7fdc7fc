use Rattle.rs_grammar.specs.Parses.{r-first}
use Rattle.rs_reader.proofs.Makes.{passes_as}
use Rattle.rs_parse.proofs.Blocks.{effect_of}
use Rattle.rs_parse.proofs.statement.evaluation.Goals as goal

pub returns-in_err-unused : goal.returns-in_err-unused
returns-in_err-unused c = passes_as c.from_residual.result c.from_residual.ensures.1 c.in_err-unused.ensures (λ r. r-first r)

pub returns : goal.returns
returns c = effect_of c.effect.result c.in_ok-unused.ensures c.effect.ensures
