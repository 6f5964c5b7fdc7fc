use Rattle.std.proofs.Common.{arith}
use Rattle.inc_names.specs.Entries.{working_text}
use Rattle.inc_session.proofs.Pieces.{saving_next}
use Rattle.inc_session.proofs.ops.put_files.Goals as goal

pub loop-file-preserved : goal.loop-file-preserved
loop-file-preserved c =
    saving_next c.args.task.now.krate (working_text c.args.its) c.args.ops.now c.loop-file.ops c.put_file.new.ops c.args.files.now c.loop-file.file-index c.file-item.result (omega arith) c.file-item.is c.loop-file.invariant c.in_ok-put_file.ensures
