use Rattle.std.proofs.Common.{subst}
use Rattle.inc_words.specs.Words.{IsLevel}
use Rattle.inc_words.proofs.Fronts.{clean_rest}
use Rattle.inc_words.proofs.words.clean_words.Goals as goal

pub returns-in_err-level-clause-none : goal.returns-in_err-level-clause-none
returns-in_err-level-clause-none c =
    rw c.from_residual-in_err-level.ensures (λ src image level is.
    c.in_err-level.ensures.none level (subst (λ rest. IsLevel rest level)
    (clean_rest c.in_ok-rest.ensures.some c.in_ok-src.ensures.some.0 c.in_ok-image.ensures.some.0 is.spelled) is.level_is))
