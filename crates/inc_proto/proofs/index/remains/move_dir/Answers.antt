use Rattle.inc_fs.proofs.Results.{on_ok}
use Rattle.inc_proto.proofs.index.remains.move_dir.Goals as goal

pub returns : goal.returns
returns c = on_ok c.add_dir.result (λ dirs. (c.take_dir.new.left, c.in_ok-take_dir.ensures, dirs)) c.add_dir.ensures
