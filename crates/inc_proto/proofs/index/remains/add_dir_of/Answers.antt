use Rattle.std.proofs.Common.{sym, ◌∙◌}
use Rattle.inc_fs.proofs.Results.{on_ok}
use Rattle.inc_proto.proofs.Remaining.{with_put, with_gone}
use Rattle.inc_proto.proofs.index.remains.add_dir_of.Goals as goal

pub returns-in-Ok : goal.returns-in-Ok
returns-in-Ok c =
    let next = c.in-Ok.ensures in
    on_ok c.insert.result
    (λ done is. with_put c.args.krate.now c.args.dir.now c.args.n c.in-Some.its c.in-Ok.next c.in_ok-path.path c.args.left.now c.remove.new.self c.insert.new.self c.in_ok-path.ensures
    (sym c.in-Some.is ∙ c.remove.ensures.value) c.remove.ensures.rest next.0 next.1 done is)
    c.insert.ensures.ok

pub returns-in-None : goal.returns-in-None
returns-in-None c =
    λ is. with_gone c.args.krate.now c.args.dir.now c.args.n c.in_ok-path.path c.args.left.now c.remove.new.self c.in_ok-path.ensures c.remove.ensures.rest is
