use Rattle.std.proofs.Common.{inl, inr, sym}
use Rattle.rs_grammar.specs.Grammar.{SumSign}
use Rattle.rs_grammar.specs.Parses.{r-nt, r-no_nt, r-left, r-right, r-no_right}
use Rattle.rs_reader.proofs.Exits.{passes, read}
use Rattle.rs_reader.proofs.signs.sum_sign.Goals as goal

pub returns-then-sees : goal.returns-then-sees
returns-then-sees c = read (r-nt {n = SumSign} {x = (inl c.take.result)} (r-left (sym c.if-sees.ensures) c.take.ensures.is))

pub returns-in_err-expect : goal.returns-in_err-expect
returns-in_err-expect c = passes c.from_residual.result c.from_residual.ensures.1 c.in_err-expect.ensures (λ r. r-no_nt {n = SumSign} (r-no_right (sym c.if-sees.ensures) r))

pub returns : goal.returns
returns c = read (r-nt {n = SumSign} {x = (inr (c.in_ok-expect.field-0))} (r-right (sym c.if-sees.ensures) c.in_ok-expect.ensures.is))
