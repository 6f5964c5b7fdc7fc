use Rattle.rs_units.proofs.Own.{noted}
use Rattle.rs_units.proofs.owners.note.Goals as goal

pub returns : goal.returns
returns c = noted _ c.args.owners.now c.insert.new.self c.args.item.now c.as_slice.result.now c.if-item-ne-OWN.false c.as_slice.ensures.value c.in_ok-insert.ensures.updates
