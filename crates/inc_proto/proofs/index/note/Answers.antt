use Rattle.inc_fs.proofs.Results.{on_ok}
use Rattle.inc_proto.proofs.Indexed.{indexed_as}
use Rattle.inc_proto.proofs.index.note.Goals as goal

pub returns : goal.returns
returns c =
    on_ok c.note_left.result
    (λ left steps count was. indexed_as c.args.step.now steps c.args.at c.args.index.now _ c.in_ok-note_hold.ensures c.in_ok-note_given.ensures c.in_ok-note_listed.ensures
    c.in_ok-note_looked.ensures c.in_ok-note_asked.ensures c.made_by-index.ensures c.in_ok-note_unlinked.ensures c.in_ok-note_back.ensures c.in_ok-note_newest.ensures left count was)
    c.note_left.ensures
