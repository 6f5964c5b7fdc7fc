use Rattle.inc_wire.specs.Fits.{FitsList}
use Rattle.inc_wire.specs.Narrow.{narrow_none, took_none, took_some}
use Rattle.inc_graph.specs.Forms.{FitsEntry, cache_form}
use Rattle.inc_graph.specs.Graphs.{HasOrder}
use Rattle.inc_graph.proofs.Keeping.{takes_kept}
use Rattle.inc_graph.proofs.values.CacheFormRead.take.Goals as goal

pub returns : goal.returns
returns c =
    takes_kept (FitsList FitsEntry) HasOrder cache_form c.args.from.now c.take_list.new.from c.in-Some.values c.keep_ordered.result
    (took_some (FitsList FitsEntry) cache_form c.args.from.now c.take_list.new.from c.in_ok-values.field-0 c.in-Some.values c.in-Some.is c.in_ok-values.ensures) c.keep_ordered.ensures

pub returns-in_default : goal.returns-in_default
returns-in_default c =
    narrow_none (FitsList FitsEntry) HasOrder cache_form c.args.from.now
    (took_none (FitsList FitsEntry) cache_form c.args.from.now c.take_list.new.from c.in_ok-values.field-0 c.in_default.is c.in_ok-values.ensures)
