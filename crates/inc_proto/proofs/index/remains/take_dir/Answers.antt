use Rattle.inc_proto.proofs.Remaining.{without_same}
use Rattle.inc_proto.proofs.index.remains.take_dir.Goals as goal

pub returns-in-None : goal.returns-in-None
returns-in-None c = without_same c.args.krate.now c.args.dir.now c.args.left.now
