use Rattle.rs_plans.specs.Plans.{plan_of}
use Rattle.rs_plans.proofs.Fits.{plans_fit}
use Rattle.rs_provider.specs.Kept.{is_kept}
use Rattle.inc_graph.specs.Graphs.{queries_of}
use Rattle.rs_build.specs.Over.{setup_of}
use Rattle.rs_build.proofs.Reaches.{asked_are}
use Rattle.rs_build.proofs.queried.finished.Goals as goal

pub returns-in-Ok-clause-is : goal.returns-in-Ok-clause-is
returns-in-Ok-clause-is c s roots over asks =
    let e = c.args.engine in
    let d = c.in-Ok.ensures in
    let asked = asked_are (setup_of e) roots e.asked (queries_of c.in-Ok.graph) s over asks d.asked in
    record {
      graph_is = c.one_graph.ensures.graph (plan_of e.setting) is_kept e.input roots c.in-Ok.graph c.in-Ok.cache (plans_fit e.setting) d.graph (d.of s over) asked;
      cache_is = c.one_graph.ensures.cache (plan_of e.setting) is_kept e.input roots c.in-Ok.graph c.in-Ok.cache (plans_fit e.setting) d.graph d.cache (d.of s over) d.kept asked;
    }
