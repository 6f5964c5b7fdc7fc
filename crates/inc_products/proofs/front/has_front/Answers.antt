use Rattle.std.proofs.lemmas.Bool.Decides.{Decides-eqb}
use Rattle.std.proofs.lemmas.Slice.Eq.{strip_prefix_is}
use Rattle.inc_products.proofs.Fronting.{front_missing, front_there}
use Rattle.inc_products.proofs.front.has_front.Goals as goal

pub returns-in-Some : goal.returns-in-Some
returns-in-Some c =
    front_there c.args.bytes.now c.args.front.now c.strip_prefix.result c.in-Some._rest c.in-Some.is (strip_prefix_is Decides-eqb c.args.bytes.now c.args.front.now c.strip_prefix.result c.strip_prefix.ensures.cases)

pub returns-in-None : goal.returns-in-None
returns-in-None c =
    front_missing c.args.bytes.now c.args.front.now c.strip_prefix.result c.in-None.is (strip_prefix_is Decides-eqb c.args.bytes.now c.args.front.now c.strip_prefix.result c.strip_prefix.ensures.cases)
