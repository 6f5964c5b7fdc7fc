use Rattle.std.proofs.Common.{◌≡◌, ◌∙◌, ap, sym, arith, drop, []}
use Rattle.std.proofs.lemmas.List.{drop_all}
use Rattle.inc_fs.specs.Paths.{path_cmp}
use Rattle.inc_proto.specs.Indexes.{put_all}
use Rattle.inc_proto.proofs.Indexed.{put_next}
use Rattle.inc_proto.proofs.index.put_names.Goals as goal

pub loop-name-preserved : goal.loop-name-preserved
loop-name-preserved c =
    put_next path_cmp (λ name. (c.args.krate.now, name)) c.args.at c.args.names.now c.loop-name.name-index c.name-item.result c.in_ok-path.path
    c.loop-name.looked c.insert.new.self (omega arith) c.name-item.is c.in_ok-path.ensures c.in_ok-insert.ensures.ok
    ∙ c.loop-name.invariant

pub returns : goal.returns
returns c =
    let none : drop c.loop-name.name-index c.args.names.now ≡ [] = drop_all c.loop-name.name-index c.args.names.now (omega arith) in
    sym (ap (λ ns. put_all path_cmp (λ name. (c.args.krate.now, name)) c.args.at ns c.loop-name.looked) none) ∙ c.loop-name.invariant
