use Rattle.std.proofs.Common.{inl}
use Rattle.rs_grammar.specs.Grammar.{Definition}
use Rattle.rs_grammar.specs.Parses.{r-seq, r-first, r-second}
use Rattle.rs_reader.proofs.Makes.{makes, passes_as}
use Rattle.rs_parse.specs.Blocks.{public_constant}
use Rattle.rs_grammar.specs.Grammar.{made}
use Rattle.rs_parse.proofs.item.public_constant.Goals as goal

pub returns-in_err-expect : goal.returns-in_err-expect
returns-in_err-expect c = passes_as c.from_residual.result c.from_residual.ensures.1 c.in_err-expect.ensures (λ r. r-first r)

pub returns-in_err-expect-2 : goal.returns-in_err-expect-2
returns-in_err-expect-2 c = passes_as c.from_residual-in_err-expect-2.result c.from_residual-in_err-expect-2.ensures.1 c.in_err-expect-2.ensures (λ r. r-second c.in_ok-expect.ensures.is (r-first r))

pub returns-in_err-item : goal.returns-in_err-item
returns-in_err-item c = passes_as c.from_residual-in_err-item.result c.from_residual-in_err-item.ensures.1 c.in_err-item.ensures (λ r. r-second c.in_ok-expect.ensures.is (r-second c.in_ok-expect-2.ensures.is r))

pub returns : goal.returns
returns c = makes {g = public_constant} {f = λ v. made Definition (inl v)} (c.in_ok-expect.field-0, (c.in_ok-expect-2.field-0, c.in_ok-item.item)) c.published.ensures (r-seq c.in_ok-expect.ensures.is (r-seq c.in_ok-expect-2.ensures.is c.in_ok-item.ensures.is))
