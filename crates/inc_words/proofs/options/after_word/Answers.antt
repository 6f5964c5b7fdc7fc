use Rattle.inc_words.proofs.Fronts.{fronted}
use Rattle.std.proofs.Common.{[], rules}
use Rattle.inc_words.proofs.options.after_word.Goals as goal

pub returns-clause-some : goal.returns-clause-some
returns-clause-some c = fronted c.args.words.now (record { ref_ptr = (0, 0); now = [] }) c.args.first.now c.in-len1-up.len_at_least (search rules)
