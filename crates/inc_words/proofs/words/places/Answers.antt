use Rattle.std.proofs.Common.{rules}
use Rattle.inc_words.proofs.words.places.Goals as goal

pub returns-in-Some-clause-some : goal.returns-in-Some-clause-some
returns-in-Some-clause-some c = (c.in-Some.field-0.command, search rules)
