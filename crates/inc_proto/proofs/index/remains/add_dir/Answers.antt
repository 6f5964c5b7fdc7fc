use Rattle.inc_fs.proofs.Results.{on_ok}
use Rattle.inc_proto.proofs.Remaining.{with_same}
use Rattle.inc_proto.proofs.index.remains.add_dir.Goals as goal

pub returns-in-Some : goal.returns-in-Some
returns-in-Some c = on_ok c.add_dir_of.result (λ f. f c.in-Some.ensures.some) c.add_dir_of.ensures

pub returns-in-None : goal.returns-in-None
returns-in-None c = with_same c.args.krate.now c.args.dir.now c.args.left.now c.in-None.ensures.none
