use Rattle.inc_words.proofs.Fronts.{no_level, some_texts}
use Rattle.inc_words.proofs.options.level_of.Goals as goal

pub returns-in_err-value-clause-none : goal.returns-in_err-value-clause-none
returns-in_err-value-clause-none c =
    rw c.from_residual.ensures (λ level is. no_level _ level (some_texts c.args.words.now c.if-is_empty.ensures) c.in_err-value.ensures.none is)
