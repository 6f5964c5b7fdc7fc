use Rattle.std.proofs.Common.{sym, ◌∙◌}
use Rattle.std.proofs.lemmas.Bool.{false≢true}
use Rattle.inc_proto.specs.Asked.{HasWanted}
use Rattle.inc_proto.specs.Views.{dir}
use Rattle.inc_proto.proofs.Mays.{answers_as, never, Publishes}
use Rattle.inc_proto.proofs.permits.publishes.Goals as goal

pub returns-then-branch : goal.returns-then-branch
returns-then-branch g c =
    let files = g.C.Content.files in
    let job = c.args.view.now.job in
    let d = dir c.args.view.now.steps in
    let krate = c.args.krate.now in
    let from = c.args.from.now in
    answers_as (HasWanted files job d krate from) (Publishes files c.args.n job d krate from c.args.to.now) c.has_wanted.result
    (λ w. (c.in_ok-is_published_as.ensures.0 c.if-branch.true, w)) (λ w. w.1) c.has_wanted.ensures

pub returns-else-branch : goal.returns-else-branch
returns-else-branch g c = never (λ w. false≢true (sym c.if-branch.false ∙ c.in_ok-is_published_as.ensures.1 w.0))
