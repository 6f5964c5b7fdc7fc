use Rattle.std.proofs.Common.{inl, refl, get_or}
use Rattle.std.proofs.lemmas.List.{get_or_default}
use Rattle.inc_engine.proofs.Works.{red-by}
use Rattle.inc_engine.proofs.work.is_red.Goals as goal

pub returns-in-Some : goal.returns-in-Some
returns-in-Some c =
    let node = get_or c.args.nodes.now c.in-Some.i c.index-nodes-i.result in
    red-by c.args.nodes.now c.args.done.now c.in-Some.i node _ c.in-Some.ensures.found.0 c.in-Some.ensures.found.1 (get_or_default c.args.nodes.now c.in-Some.i c.index-nodes-i.result node c.in-Some.ensures.found.0) c.same_print.ensures

pub returns-in-None : goal.returns-in-None
returns-in-None c = inl (c.in-None.ensures.none, refl)
