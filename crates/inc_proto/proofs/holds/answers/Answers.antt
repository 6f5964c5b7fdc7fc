use Rattle.std.proofs.Common.{sym, subst, reverse, IfOk, IsTrue, ◌↔◌}
use Rattle.inc_proto.specs.Sought.{Answers}
use Rattle.inc_proto.proofs.holds.answers.Goals as goal

pub returns-in-Clear : goal.returns-in-Clear
returns-in-Clear c =
    let xs = reverse c.args.since.now in
    let r = c.has_clear_look.result in
    subst (λ q. IfOk r (λ yes. IsTrue yes ↔ Answers q xs)) (sym c.in-Clear.is) c.has_clear_look.ensures
