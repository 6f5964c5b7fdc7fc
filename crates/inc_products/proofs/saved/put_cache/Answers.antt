use Rattle.std.proofs.Common.{sym, subst}
use Rattle.inc_graph.specs.Graphs.{HasOrder}
use Rattle.inc_products.proofs.Labels.{kept_ordered}
use Rattle.inc_products.proofs.saved.put_cache.Goals as goal

pub encode_cache-requires-clause-order : goal.encode_cache-requires-clause-order
encode_cache-requires-clause-order c = subst HasOrder (sym c.in_ok-kept.ensures) (kept_ordered c.args.g.now c.args.c.now c.requires.order)
