use Rattle.std.proofs.Common.{codes}
use Rattle.std.proofs.lemmas.Bool.Decides.{Decides-eqb}
use Rattle.std.proofs.lemmas.Slice.Eq.{strip_prefix_is}
use Rattle.inc_wire.proofs.take.after_mark.Goals as goal

pub returns : goal.returns
returns c = strip_prefix_is Decides-eqb c.args.b.now (codes "INCC") c.strip_prefix.result c.strip_prefix.ensures.cases
