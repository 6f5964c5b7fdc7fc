use Rattle.std.proofs.Common.{sym}
use Rattle.rs_grammar.specs.Grammar.{Body}
use Rattle.rs_grammar.specs.Parses.{r-no_nt, r-held}
use Rattle.rs_reader.proofs.Exits.{read}
use Rattle.rs_parse.proofs.Blocks.{body_more, body_last, body_stops, passes_body}
use Rattle.rs_parse.proofs.body.body.Goals as goal

pub returns : goal.returns
returns c = read (body_stops c.turns.invariant (sym c.turns-test.ensures))

pub turns-preserved : goal.turns-preserved
turns-preserved c = let h = rw c.in-Whole.is at c.in_ok-stmt.ensures in rw c.in_ok-push-in-Whole.ensures.ok (body_more c.turns.invariant (sym c.turns-test.ensures) h)

pub returns-in_err-stmt : goal.returns-in_err-stmt
returns-in_err-stmt c = passes_body c.turns.tokens c.one_more.new.tokens c.in_err-stmt.field-0.0 c.from_residual.result c.from_residual.ensures.1 c.in_err-stmt.ensures
    (λ r. c.turns.invariant.fails _ (r-no_nt {n = Body} (r-held (sym c.turns-test.ensures) r)))

pub returns-in-Last : goal.returns-in-Last
returns-in-Last c = let h = rw c.in-Last.is at c.in_ok-stmt.ensures in read (body_last c.turns.invariant (sym c.turns-test.ensures) h)
