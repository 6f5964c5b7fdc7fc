use Rattle.std.proofs.Common.{◌∙◌}
use Rattle.inc_fs.proofs.Results.{on_ok}
use Rattle.inc_proto.proofs.Lasts.{newest_put}
use Rattle.inc_proto.proofs.index.lasts.put_newest.Goals as goal

pub returns-in_ok-krate-in-Some : goal.returns-in_ok-krate-in-Some
returns-in_ok-krate-in-Some c =
    on_ok c.insert.result
    (newest_put c.args.krate.now c.in_ok-krate-in-Some.krate c.args.names.now c.copied-before.result c.in-Some.m c.args.newest.now c.insert.new.self c.in-Some.ensures
    (c.copied-before.ensures ∙ c.get.ensures) c.in_ok-krate-in-Some.ensures)
    c.insert.ensures.ok
