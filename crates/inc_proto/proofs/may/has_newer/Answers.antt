use Rattle.std.proofs.Common.{subst, reverse, IfSome}
use Rattle.inc_proto.specs.Indexes.{Indexes}
use Rattle.inc_proto.proofs.may.has_newer.Goals as goal

pub returns-in-Some : goal.returns-in-Some
returns-in-Some c =
    let steps = reverse c.args.steps.now in
    c.has_newer.ensures steps (subst (λ o. IfSome o (λ index. Indexes steps index.now)) c.in-Some.is c.requires)
