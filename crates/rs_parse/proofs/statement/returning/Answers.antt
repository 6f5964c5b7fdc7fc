use Rattle.std.proofs.Common.{ap}
use Rattle.rs_grammar.specs.Grammar.{Returning}
use Rattle.rs_grammar.specs.Parses.{r-nt, r-no_nt, r-seq, r-first, r-second}
use Rattle.rs_reader.proofs.Exits.{passes, read_as}
use Rattle.rs_tree.specs.declared.tree.Stmt.TheVariants as stmt
use Rattle.rs_parse.proofs.statement.returning.Goals as goal

pub returns-in_err-word : goal.returns-in_err-word
returns-in_err-word c = passes c.from_residual.result c.from_residual.ensures.1 c.in_err-word.ensures (λ r. r-no_nt {n = Returning} (r-first r))

pub returns-in_err-value : goal.returns-in_err-value
returns-in_err-value c = passes c.from_residual-in_err-value.result c.from_residual-in_err-value.ensures.1 c.in_err-value.ensures (λ r. r-no_nt {n = Returning} (r-second c.in_ok-word.ensures.is (r-first r)))

pub returns-in_err-expect : goal.returns-in_err-expect
returns-in_err-expect c = passes c.from_residual-in_err-expect.result c.from_residual-in_err-expect.ensures.1 c.in_err-expect.ensures (λ r. r-no_nt {n = Returning} (r-second c.in_ok-word.ensures.is (r-second c.in_ok-value.ensures.is r)))

pub returns : goal.returns
returns c = read_as (ap (λ a. stmt.Return a c.in_ok-value.value) c.at.ensures) (r-nt {n = Returning} {x = (c.in_ok-word.word, (c.in_ok-value.value, c.in_ok-expect.field-0))} (r-seq c.in_ok-word.ensures.is (r-seq c.in_ok-value.ensures.is c.in_ok-expect.ensures.is)))
