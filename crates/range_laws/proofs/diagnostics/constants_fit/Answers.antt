use Rattle.rs_queries.specs.Known.{constants_of, items_of}
use Rattle.range_laws.proofs.Consts.{entries_bounded, values_fit}
use Rattle.range_laws.proofs.diagnostics.constants_fit.Goals as goal

pub returns : goal.returns
returns c krate values bounded are = values_fit (constants_of krate) values (entries_bounded (items_of krate) krate.items bounded.items) are
