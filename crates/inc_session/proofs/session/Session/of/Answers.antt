use Rattle.inc_session.proofs.Asks.{begins_named}
use Rattle.inc_session.proofs.session.Session.of.Goals as goal

pub returns-in-Ok-op-clause-made : goal.returns-in-Ok-op-clause-made
returns-in-Ok-op-clause-made c =
    begins_named (record { task = c.in-Ok.task; part = c.in-Ok-naming.part; op = c.in-Ok-op.op }) c.again.result c.in-Ok-naming.ensures.rest c.again.ensures.rest c.in-Ok-op.ensures
