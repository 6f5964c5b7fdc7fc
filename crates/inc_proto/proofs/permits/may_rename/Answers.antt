use Rattle.std.proofs.Common.{sym, ◌∙◌, subst, IfOk, IsTrue, ◌↔◌}
use Rattle.std.proofs.lemmas.Bool.{false≢true}
use Rattle.inc_proto.specs.Permits.{MayPublish, MayRetire}
use Rattle.inc_proto.proofs.Mays.{answers_or}
use Rattle.inc_proto.proofs.permits.may_rename.Goals as goal

pub returns : goal.returns
returns g c =
    let krate = c.args.krate.now in
    let from = c.args.from.now in
    let to = c.args.to.now in
    let steps = c.args.view.now.steps in
    let r = c.may_retire.result in
    answers_or (MayPublish g.C.Content.files c.args.view.now.job steps krate from to) (MayRetire steps krate from to) r
    (λ may. false≢true (sym c.if-branch.false ∙ c.in_ok-may_publish.ensures.1 may))
    (subst (λ ss. IfOk r (λ yes. IsTrue yes ↔ MayRetire ss krate from to)) c.steps.ensures c.may_retire.ensures)
