use Rattle.std.proofs.Common.{◌-◌, ◌++◌, ◌∷◌, [], ap, sym, ◌∙◌, subst, reverse, rules, ◌<◌, length}
use Rattle.inc_proto.specs.Legal.{MayDo}
use Rattle.inc_proto.specs.declared.event.Event.TheVariants.{Did}
use Rattle.inc_proto.proofs.Kept.{did_as, may_runs, enrolled, enrolled_within}
use Rattle.inc_proto.proofs.ground.Ground.act.Goals as goal

pub index_mut-one-requires : goal.index_mut-one-requires
index_mut-one-requires g c =
    let may = subst (λ v. MayDo g.C.Content.files v.history c.args.who c.args.op) (sym c.self.view_is) c.requires in
    let within : c.args.who < length c.self.inside.sessions.items =
    enrolled_within (enrolled c.args.who c.self.invariant (may_runs g.C.Content.files (reverse c.self.inside.history.0) c.args.who c.args.op may)) in
    search rules

pub invariant_of-self-in-Ok-step : goal.invariant_of-self-in-Ok-step
invariant_of-self-in-Ok-step g c =
    let may = subst (λ v. MayDo g.C.Content.files v.history c.args.who c.args.op) (sym c.self.view_is) c.requires in
    let event = Did c.args.who c.args.op c.in-Ok-step.told in
    did_as g.C.Content.files c.self.inside.history.0 c.push_kept.new.self.0 c.self.inside.history.1 c.push_kept.new.self.1 c.self.inside.fs c.step.new.fs
    c.self.inside.sessions.items c.self.inside.running c.args.who c.args.op c.in-Ok.copy c.in-Ok-step.reply c.in-Ok-step.seen c.in-Ok-step.told
    c.index_mut-one.result.now c.prepare.new.view c.fill_place.new.self
    c.index_mut-one.ensures.value c.in-Ok.ensures.place c.fill_place.ensures c.in-Ok.ensures.copy c.in-Ok-step.ensures.second c.in-Ok-step.ensures.third
    (ap (λ r. r.0) c.push_kept.ensures ∙ ap (λ r. r.0 ++ event ∷ []) c.in-Ok.ensures.room)
    (ap (λ r. r.1) c.push_kept.ensures ∙ ap (λ r. r.1 - 1) c.in-Ok.ensures.room)
    c.self.invariant may c.in-Ok-step.ensures.step.step

pub give_up_place-requires : goal.give_up_place-requires
give_up_place-requires g c = (c.index_mut-one.result.now.view.steps, ap (λ v. v.steps) c.in-Ok.ensures.place)

pub fill_place-requires : goal.fill_place-requires
fill_place-requires g c = (c.index_mut-one.result.now.view.steps, ap (λ v. v.steps) c.in-Ok.ensures.place)
