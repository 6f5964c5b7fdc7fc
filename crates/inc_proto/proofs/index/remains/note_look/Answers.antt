use Rattle.inc_fs.proofs.Results.{on_ok}
use Rattle.inc_proto.proofs.index.remains.note_look.Goals as goal

pub returns : goal.returns
returns c = on_ok c.add_dirs.result (λ dirs. (c.put_locks.new.left, c.in_ok-put_locks.ensures, dirs)) c.add_dirs.ensures
