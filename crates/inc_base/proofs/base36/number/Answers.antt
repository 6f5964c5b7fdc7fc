use Rattle.std.proofs.Common.{◌≡◌, ◌+◌, ◌∙◌, true, sym, arith}
use Rattle.std.proofs.lemmas.List.Elements.{All-more}
use Rattle.inc_base.specs.Base36.{is_digit36}
use Rattle.inc_base.proofs.Base36Lemmas.{number36-take, number36-more}
use Rattle.inc_base.proofs.base36.number.Goals as goal

pub returns-in_err-value-clause-none : goal.returns-in_err-value-clause-none
returns-in_err-value-clause-none c =
    rw c.from_residual-in_err-value.ensures (λ all.
    let text = c.args.text.now in
    let i = c.loop-byte.byte-index in
    let more = number36-more text i c.loop-byte.value c.in_ok-digit_of.field-0 c.loop-byte-test.true c.loop-byte.invariant.1 c.in_ok-digit_of.ensures.some.1 in
    let past = c.in_err-value.ensures in
    omega (arith, past, more, number36-take (i + 1) text))

pub loop-byte-preserved : goal.loop-byte-preserved
loop-byte-preserved c =
    let text = c.args.text.now in
    let digit = c.in_ok-digit_of.ensures.some in
    let i = c.loop-byte.byte-index in
    let sum = c.in_ok-value.ensures in (
      All-more (λ b. is_digit36 b ≡ true) text i 0 c.loop-byte-test.true c.loop-byte.invariant.0 digit.0,
      number36-more text i c.loop-byte.value c.in_ok-digit_of.field-0 c.loop-byte-test.true c.loop-byte.invariant.1 digit.1 ∙ sym sum.1,
      omega (arith, sum.0, sum.1),
    )
