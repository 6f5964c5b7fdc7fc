use Rattle.std.proofs.Common.{reverse}
use Rattle.inc_proto.proofs.Given.{yes_given, no_given}
use Rattle.inc_proto.proofs.holds.gives_hold.Goals as goal

pub returns-in-Some : goal.returns-in-Some
returns-in-Some c =
    let krate = c.args.krate.now in
    let steps = reverse c.args.steps.now in
    let r = c.holds_by.result in
    record {
      yes = yes_given c.args.way krate c.args.n steps c.in-Some.h c.args.question r c.holds_by.ensures;
      no = no_given c.args.way krate c.args.n steps c.in-Some.h c.args.question c.args.step.now c.in-Some.ensures r c.holds_by.ensures;
    }
