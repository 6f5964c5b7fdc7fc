use Rattle.inc_proto.proofs.index.next_index.Goals as goal

pub returns-in-Ok : goal.returns-in-Ok
returns-in-Ok c = λ steps count was. c.in-Ok.ensures steps count was
