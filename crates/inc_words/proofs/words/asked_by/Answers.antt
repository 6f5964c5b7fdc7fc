use Rattle.inc_words.proofs.Fronts.{neither}
use Rattle.inc_words.proofs.words.asked_by.Goals as goal

pub returns-in-None-build_words-clause-none : goal.returns-in-None-build_words-clause-none
returns-in-None-build_words-clause-none c = neither _ c.in-None-build_words.ensures.none c.in-None.ensures.none
