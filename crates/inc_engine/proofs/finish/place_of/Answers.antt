use Rattle.inc_query.specs.QueryLaws.{queries_total, exact_queries}
use Rattle.inc_query.specs.declared.query.Query.{Query}
use Rattle.inc_engine.proofs.Searches.{none-found}
use Rattle.inc_engine.proofs.finish.place_of.Goals as goal

pub unreachable-requires : goal.unreachable-requires
unreachable-requires c = (let there = c.requires.there in none-found queries_total (λ (q : Query). q) c.args.order.now c.args.q.now c.in-Err.field-0 c.requires.sorted c.in-Err.ensures.position there.0 c.args.q.now there.1 there.2)

pub returns-clause-is : goal.returns-clause-is
returns-clause-is c = exact_queries _ _ (c.in-Ok.ensures.ok _)
