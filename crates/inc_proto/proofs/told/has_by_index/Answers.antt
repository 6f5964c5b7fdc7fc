use Rattle.std.proofs.Common.{reverse}
use Rattle.inc_proto.specs.Sought.{IsSought}
use Rattle.inc_proto.specs.Views.{HasAny}
use Rattle.inc_proto.proofs.Holding.{some_told}
use Rattle.inc_proto.proofs.told.has_by_index.Goals as goal

pub returns-in-Some : goal.returns-in-Some
returns-in-Some c =
    let steps = reverse c.args.steps.now in
    some_told c.in_ok-yes.field-0 c.in-Some.yes (HasAny (IsSought c.args.sought) steps) c.in-Some.is (c.in_ok-yes.ensures steps c.requires)
