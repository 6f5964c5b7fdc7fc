use Rattle.std.proofs.Common.{inl, inr, sym}
use Rattle.rs_grammar.specs.Grammar.{ProductSign}
use Rattle.rs_grammar.specs.Parses.{r-nt, r-no_nt, r-left, r-right, r-no_right}
use Rattle.rs_reader.proofs.Exits.{passes, read}
use Rattle.rs_reader.proofs.signs.product_sign.Goals as goal

pub returns-then-sees : goal.returns-then-sees
returns-then-sees c = read (r-nt {n = ProductSign} {x = (inl c.take.result)} (r-left (sym c.if-sees.ensures) c.take.ensures.is))

pub returns-then-sees-2 : goal.returns-then-sees-2
returns-then-sees-2 c = read (r-nt {n = ProductSign} {x = (inr (inl c.take-then-sees-2.result))} (r-right (sym c.if-sees.ensures) (r-left (sym c.if-sees-2.ensures) c.take-then-sees-2.ensures.is)))

pub returns-in_err-expect : goal.returns-in_err-expect
returns-in_err-expect c = passes c.from_residual.result c.from_residual.ensures.1 c.in_err-expect.ensures (λ r. r-no_nt {n = ProductSign} (r-no_right (sym c.if-sees.ensures) (r-no_right (sym c.if-sees-2.ensures) r)))

pub returns : goal.returns
returns c = read (r-nt {n = ProductSign} {x = (inr (inr (c.in_ok-expect.field-0)))} (r-right (sym c.if-sees.ensures) (r-right (sym c.if-sees-2.ensures) c.in_ok-expect.ensures.is)))
