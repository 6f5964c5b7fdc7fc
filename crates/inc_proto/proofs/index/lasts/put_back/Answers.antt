use Rattle.std.proofs.Common.{◌∙◌, ap}
use Rattle.std.specs.BTreeMap.{insert_entry}
use Rattle.inc_fs.proofs.Results.{on_ok}
use Rattle.inc_proto.specs.Indexes.{file_cmp}
use Rattle.inc_proto.proofs.index.lasts.put_back.Goals as goal

pub returns : goal.returns
returns c =
    let path = c.in_ok-path.ensures ∙ ap (λ t. ((c.args.krate.now, c.args.to.now), t)) c.in_ok-lock.ensures in
    on_ok c.insert.result (λ done. done ∙ ap (λ p. insert_entry file_cmp c.args.back.now p c.args.at) path) c.insert.ensures.ok
