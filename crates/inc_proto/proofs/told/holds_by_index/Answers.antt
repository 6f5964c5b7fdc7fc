use Rattle.std.proofs.Common.{reverse, ℕ}
use Rattle.inc_proto.specs.Events.{Steps}
use Rattle.inc_proto.specs.Sought.{Holds, Answers}
use Rattle.inc_proto.proofs.Holding.{some_told}
use Rattle.inc_proto.proofs.told.holds_by_index.Goals as goal

pub returns-in-Some : goal.returns-in-Some
returns-in-Some c =
    let steps = reverse c.args.steps.now in
    some_told c.in_ok-yes.field-0 c.in-Some.yes ((h : ℕ) × (after : Steps) × Holds c.args.way c.args.krate.now c.args.n steps h after × Answers c.args.question after)
    c.in-Some.is (c.in_ok-yes.ensures steps c.requires)
