use Rattle.std.proofs.Common.{◌≡◌, ◌+◌, ◌-◌, ◌<◌, ◌++◌, length, drop, ap, sym, ◌∙◌, arith, length-set}
use Rattle.inc_base.specs.Base36.{last_digits36}
use Rattle.inc_base.proofs.Base36Lemmas.{last_digits36_more, last_digits36_all}
use Rattle.inc_base.proofs.base36.last_digits.Goals as goal

pub loop-at-preserved : goal.loop-at-preserved
loop-at-preserved c =
    let k = c.loop-at.at - 1 in
    let digits = c.loop-at.digits in
    let in' : k < length digits = omega (arith, c.loop-at.invariant.0, c.loop-at.invariant.1, c.loop-at-test.true) in
    let next : k + 1 ≡ c.loop-at.at = omega (arith, c.loop-at-test.true) in (
      omega (arith, c.loop-at.invariant.0),
      simp length-set c.loop-at.invariant.1,
      last_digits36_more k c.loop-at.rest digits c.byte_of.result in' c.byte_of.ensures
          ∙ ap (λ n. last_digits36 n c.loop-at.rest ++ drop n digits) next
          ∙ c.loop-at.invariant.2,
    )

pub returns : goal.returns
returns c =
    let done : c.loop-at.at ≡ 0 = omega (arith, c.loop-at-test.false) in
    sym (last_digits36_all c.loop-at.at c.loop-at.rest c.loop-at.digits done) ∙ c.loop-at.invariant.2
