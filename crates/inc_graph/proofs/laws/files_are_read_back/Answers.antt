use Rattle.inc_wire.specs.Narrow.{read_back}
use Rattle.inc_graph.specs.Forms.{FitsCache, FitsFile, FitsGraph, cache_form, file_form, graph_form}
use Rattle.inc_graph.proofs.laws.files_are_read_back.Goals as goal

pub returns-clause-graph : goal.returns-clause-graph
returns-clause-graph c = read_back (FitsFile FitsGraph) (file_form graph_form)

pub returns-clause-cache : goal.returns-clause-cache
returns-clause-cache c = read_back (FitsFile FitsCache) (file_form cache_form)
