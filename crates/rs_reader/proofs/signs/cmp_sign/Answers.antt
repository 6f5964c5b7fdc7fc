use Rattle.std.proofs.Common.{inl, inr, sym}
use Rattle.rs_grammar.specs.Grammar.{CmpSign}
use Rattle.rs_grammar.specs.Parses.{r-nt, r-no_nt, r-left, r-right, r-no_right}
use Rattle.rs_reader.proofs.Exits.{passes, read}
use Rattle.rs_reader.proofs.signs.cmp_sign.Goals as goal

pub returns-then-sees : goal.returns-then-sees
returns-then-sees c = read (r-nt {n = CmpSign} {x = (inl c.take.result)} (r-left (sym c.if-sees.ensures) c.take.ensures.is))

pub returns-then-sees-2 : goal.returns-then-sees-2
returns-then-sees-2 c = read (r-nt {n = CmpSign} {x = (inr (inl c.take-then-sees-2.result))} (r-right (sym c.if-sees.ensures) (r-left (sym c.if-sees-2.ensures) c.take-then-sees-2.ensures.is)))

pub returns-then-sees-3 : goal.returns-then-sees-3
returns-then-sees-3 c = read (r-nt {n = CmpSign} {x = (inr (inr (inl c.take-then-sees-3.result)))} (r-right (sym c.if-sees.ensures) (r-right (sym c.if-sees-2.ensures) (r-left (sym c.if-sees-3.ensures) c.take-then-sees-3.ensures.is))))

pub returns-then-sees-4 : goal.returns-then-sees-4
returns-then-sees-4 c = read (r-nt {n = CmpSign} {x = (inr (inr (inr (inl c.take-then-sees-4.result))))} (r-right (sym c.if-sees.ensures) (r-right (sym c.if-sees-2.ensures) (r-right (sym c.if-sees-3.ensures) (r-left (sym c.if-sees-4.ensures) c.take-then-sees-4.ensures.is)))))

pub returns-then-sees-5 : goal.returns-then-sees-5
returns-then-sees-5 c = read (r-nt {n = CmpSign} {x = (inr (inr (inr (inr (inl c.take-then-sees-5.result)))))} (r-right (sym c.if-sees.ensures) (r-right (sym c.if-sees-2.ensures) (r-right (sym c.if-sees-3.ensures) (r-right (sym c.if-sees-4.ensures) (r-left (sym c.if-sees-5.ensures) c.take-then-sees-5.ensures.is))))))

pub returns-in_err-expect : goal.returns-in_err-expect
returns-in_err-expect c = passes c.from_residual.result c.from_residual.ensures.1 c.in_err-expect.ensures (λ r. r-no_nt {n = CmpSign} (r-no_right (sym c.if-sees.ensures) (r-no_right (sym c.if-sees-2.ensures) (r-no_right (sym c.if-sees-3.ensures) (r-no_right (sym c.if-sees-4.ensures) (r-no_right (sym c.if-sees-5.ensures) r))))))

pub returns : goal.returns
returns c = read (r-nt {n = CmpSign} {x = (inr (inr (inr (inr (inr (c.in_ok-expect.field-0))))))} (r-right (sym c.if-sees.ensures) (r-right (sym c.if-sees-2.ensures) (r-right (sym c.if-sees-3.ensures) (r-right (sym c.if-sees-4.ensures) (r-right (sym c.if-sees-5.ensures) c.in_ok-expect.ensures.is))))))
