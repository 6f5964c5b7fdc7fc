use Rattle.std.proofs.Common.{◌≢◌, List, sym, ◌∙◌, ap, subst}
use Rattle.std.specs.List.{All, Contains}
use Rattle.std.proofs.lemmas.List.Elements.{All-map, All-push}
use Rattle.inc_query.specs.declared.query.Query.{Query}
use Rattle.inc_graph.specs.declared.node.Node.{Node}
use Rattle.inc_engine.specs.Finish.{IsNodeOf}
use Rattle.inc_engine.specs.Marking.{asked}
use Rattle.inc_engine.specs.declared.done.Done.{Done}
use Rattle.inc_engine.proofs.Lists.{all-at}
use Rattle.inc_engine.proofs.Finishes.{node-made, queries-more}
use Rattle.inc_engine.proofs.finish.nodes_of.Goals as goal

pub unreachable-requires : goal.unreachable-requires
unreachable-requires c =
    let h = all-at (Contains (asked c.args.memo.now)) c.args.order.now c.loop-q.q-index c.q-item.result c.requires.asked c.loop-q-test.true c.q-item.is in
    All-map (λ (r : Query). r ≢ c.q-item.result) (λ (d : Done). d.query) c.args.memo.now c.in-None.ensures.none h.0 c.q-item.result h.1 h.2

pub loop-q-preserved : goal.loop-q-preserved
loop-q-preserved c =
    let n = c.in_ok-node-in-Some.node in
    let ok = c.in_ok-node-in-Some.ensures in
    let push = c.in_ok-push-in-Some.ensures.ok in
    let query = ok.query ∙ ap (λ (d : Done). d.query) c.entry.ensures ∙ c.in-Some.ensures.found.1 c.entry.result.now ∙ c.q-item.is in
    let made = node-made c.args.order.now c.args.memo.now c.args.ranks.now c.in-Some.place c.entry.result.now n c.in-Some.ensures.found.0 c.entry.ensures c.requires.are c.requires.ranks c.requires.reads ok.query ok.print ok.reads in
    record {
      queries_are = queries-more c.args.order.now c.loop-q.q-index c.q-item.result c.loop-q.nodes c.push.new.self n c.loop-q-test.true c.loop-q.invariant.queries_are push query;
      nodes_are = subst (λ (ns : List Node). All (IsNodeOf c.args.order.now c.args.memo.now) ns) (sym push) (All-push (IsNodeOf c.args.order.now c.args.memo.now) c.loop-q.nodes n c.loop-q.invariant.nodes_are made);
    }
