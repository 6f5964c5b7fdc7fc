use Rattle.std.proofs.Common.{refl, sym, ◌∙◌}
use Rattle.std.proofs.lemmas.Bool.{false≢true}
use Rattle.inc_proto.specs.Permits.{MayPublish}
use Rattle.inc_proto.specs.Views.{name, dir}
use Rattle.inc_proto.proofs.Mays.{answers_as, never, unnamed, Publishes, may_publish, publishes, publishes_own}
use Rattle.inc_proto.proofs.permits.may_publish.Goals as goal

pub returns-then-may_clear_own : goal.returns-then-may_clear_own
returns-then-may_clear_own g c =
    let files = g.C.Content.files in
    let job = c.args.view.now.job in
    let steps = c.args.view.now.steps in
    let krate = c.args.krate.now in
    let from = c.args.from.now in
    let to = c.args.to.now in
    let n = c.in-Some.n in
    let named = sym c.name.ensures ∙ c.in-Some.is in
    let own = (c.may_clear_own.ensures steps c.requires c.own_lock.ensures).0 c.if-may_clear_own.true in
    answers_as (Publishes files n job (dir steps) krate from to) (MayPublish files job steps krate from to) c.publishes.result
    (may_publish files n job (dir steps) steps krate from to named refl own) (publishes files n job (dir steps) steps krate from to named refl) c.publishes.ensures

pub returns-else-may_clear_own : goal.returns-else-may_clear_own
returns-else-may_clear_own g c =
    let steps = c.args.view.now.steps in
    never (λ w. false≢true (sym c.if-may_clear_own.false
    ∙ (c.may_clear_own.ensures steps c.requires c.own_lock.ensures).1
    (publishes_own g.C.Content.files c.args.view.now.job steps c.args.krate.now c.args.from.now c.args.to.now w)))

pub returns-in-None : goal.returns-in-None
returns-in-None g c = never (λ w. unnamed c.name.result (name c.args.view.now.steps) c.in-None.is c.name.ensures w.5)
