use Rattle.std.proofs.Common.{refl, ◌∷◌, []}
use Rattle.inc_fs.proofs.Results.{on_ok}
use Rattle.inc_proto.proofs.Remaining.{locked_put, locked_same}
use Rattle.inc_proto.proofs.index.remains.put_lock.Goals as goal

pub returns-in_ok-path-in-Some : goal.returns-in_ok-path-in-Some
returns-in_ok-path-in-Some c =
    on_ok c.insert.result (locked_put c.args.krate.now c.args.name.now c.args.at _ c.in_ok-path-in-Some.path c.args.left.now c.insert.new.self c.in_ok-path-in-Some.ensures refl) c.insert.ensures.ok

pub returns-in-None : goal.returns-in-None
returns-in-None c = locked_same c.args.krate.now (c.args.name.now ∷ []) c.args.at c.args.left.now c.args.left.now refl
