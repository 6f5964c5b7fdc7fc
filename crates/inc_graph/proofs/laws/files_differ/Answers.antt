use Rattle.inc_wire.specs.Fronts.{injective_of}
use Rattle.inc_graph.proofs.GraphFronts.{cache_file_fronts, graph_file_fronts}
use Rattle.inc_graph.proofs.laws.files_differ.Goals as goal

pub returns-clause-graph : goal.returns-clause-graph
returns-clause-graph c = injective_of graph_file_fronts

pub returns-clause-cache : goal.returns-clause-cache
returns-clause-cache c = injective_of cache_file_fronts
