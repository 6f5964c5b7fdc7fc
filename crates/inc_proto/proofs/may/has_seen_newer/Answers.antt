use Rattle.std.proofs.Common.{reverse}
use Rattle.inc_proto.proofs.Mays.{newer_out, newer_in}
use Rattle.inc_proto.proofs.may.has_seen_newer.Goals as goal

pub returns : goal.returns
returns c =
    let krate = c.args.krate.now in
    let steps = reverse c.args.steps.now in (
      λ t. newer_out krate c.args.n steps (c.has.ensures.0 t),
      λ w. c.has.ensures.1 (newer_in krate c.args.n steps w.0 w.1 w.2 w.3 w.4 w.5),
    )
