use Rattle.std.proofs.Common.{sym}
use Rattle.inc_session.proofs.part.Part.op.Goals as goal

pub returns-in_ok-op-in-Saving : goal.returns-in_ok-op-in-Saving
returns-in_ok-op-in-Saving c = rw c.in-Saving.is (sym (c.in_ok-op-in-Saving.ensures c.args.task.now))
