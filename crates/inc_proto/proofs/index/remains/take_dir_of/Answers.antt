use Rattle.std.proofs.Common.{sym, ◌∙◌}
use Rattle.inc_fs.proofs.Results.{on_ok}
use Rattle.inc_proto.proofs.Remaining.{without_put, without_gone}
use Rattle.inc_proto.proofs.index.remains.take_dir_of.Goals as goal

pub returns-in-Some : goal.returns-in-Some
returns-in-Some c =
    on_ok c.insert.result
    (λ done. without_put c.args.krate.now c.args.dir.now c.args.n c.in-Some.its c.without_dir.result c.in_ok-path.path c.args.left.now c.remove.new.self c.insert.new.self c.in_ok-path.ensures
    (sym c.in-Some.is ∙ c.remove.ensures.value) c.remove.ensures.rest c.without_dir.ensures done)
    c.insert.ensures.ok

pub returns-in-None : goal.returns-in-None
returns-in-None c = without_gone c.args.krate.now c.args.dir.now c.in_ok-path.path c.args.left.now c.remove.new.self c.remove.ensures.rest
