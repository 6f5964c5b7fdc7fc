use Rattle.std.proofs.Common.{sym, ◌∙◌}
use Rattle.rs_reader.proofs.Ends.{at_end}
use Rattle.rs_reader.proofs.end.finish.Goals as goal

pub returns-in-None : goal.returns-in-None
returns-in-None c = at_end c.args.rest.now (sym c.at.ensures ∙ c.in-None.is)
