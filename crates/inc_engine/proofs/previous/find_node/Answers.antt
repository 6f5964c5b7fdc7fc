use Rattle.std.proofs.Common.{rules}
use Rattle.std.proofs.lemmas.Fn.{always_returns_same}
use Rattle.inc_query.specs.Queries.{query_cmp}
use Rattle.inc_query.specs.QueryLaws.{queries_total}
use Rattle.inc_graph.specs.declared.node.Node.{Node}
use Rattle.inc_engine.proofs.Searches.{sorted_keys, none-found, found-node}
use Rattle.inc_engine.proofs.previous.find_node.Goals as goal

pub returns-in-Ok-clause-found : goal.returns-in-Ok-clause-found
returns-in-Ok-clause-found c = (
  c.in-Ok.ensures.bound,
  found-node c.args.nodes.now c.args.q.now c.in-Ok.i c.in-Ok.ensures.bound (c.in-Ok.ensures.position (λ n. query_cmp n.query c.args.q.now) (always_returns_same _ _ _ (λ a r f called. search rules))),
)

pub returns-in-Err-clause-none : goal.returns-in-Err-clause-none
returns-in-Err-clause-none c =
    none-found queries_total (λ (n : Node). n.query) c.args.nodes.now c.args.q.now c.in-Err.field-0 (sorted_keys queries_total (λ (n : Node). n.query) c.args.nodes.now c.requires.ascend) (c.in-Err.ensures.position (λ n. query_cmp n.query c.args.q.now) (always_returns_same _ _ _ (λ a r f called. search rules)))
