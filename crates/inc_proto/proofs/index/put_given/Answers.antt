use Rattle.std.proofs.Common.{◌∙◌, ◌++◌, ◌∷◌, [], ap}
use Rattle.std.specs.BTreeMap.{insert_entry, is_at}
use Rattle.inc_fs.specs.Lists.{remove_entry}
use Rattle.inc_fs.specs.Paths.{path_cmp}
use Rattle.inc_fs.proofs.Results.{on_ok}
use Rattle.inc_proto.specs.Indexes.{handles_of, put_given}
use Rattle.inc_proto.proofs.index.put_given.Goals as goal

pub returns : goal.returns
returns c =
    let given = c.args.given.now in
    let path = c.in_ok-path.path in
    let h = c.args.h in
    let handles = c.in_ok-push.ensures.ok ∙ ap (λ hs. hs ++ h ∷ []) (c.handles_of-handles.ensures ∙ ap handles_of c.remove.ensures.value) in
    on_ok c.insert.result
    (λ done. done ∙ ap (λ g. insert_entry path_cmp g path c.push.new.self) c.remove.ensures.rest
    ∙ ap (λ hs. insert_entry path_cmp (remove_entry (is_at (path_cmp path)) given) path hs) handles ∙ ap (λ p. put_given p h given) c.in_ok-path.ensures)
    c.insert.ensures.ok
