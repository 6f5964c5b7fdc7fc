use Rattle.std.proofs.Common.{arith, sym}
use Rattle.inc_query.specs.TickLaws.{rise-one}
use Rattle.inc_query.proofs.laws.tick_raises.Goals as goal

pub returns : goal.returns
returns c = sym (rise-one c.args.meter.now (omega (arith, c.count-count.ensures)))
