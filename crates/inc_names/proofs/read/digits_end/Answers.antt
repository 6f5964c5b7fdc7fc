use Rattle.std.proofs.Common.{◌≡◌, true, sym, ◌∙◌}
use Rattle.std.proofs.lemmas.List.Elements.{All-more}
use Rattle.inc_base.specs.Base36.{is_digit36}
use Rattle.inc_names.proofs.read.digits_end.Goals as goal

pub loop-end-preserved : goal.loop-end-preserved
loop-end-preserved c =
    All-more (λ b. is_digit36 b ≡ true) c.args.text.now c.loop-end.end 0 c.loop-end-test.true c.loop-end.invariant (sym c.is_digit.ensures ∙ c.if-not-is_digit.false)
