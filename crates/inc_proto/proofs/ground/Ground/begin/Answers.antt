use Rattle.std.proofs.Common.{◌+◌, ◌-◌, ◌++◌, ◌∷◌, [], ap, ◌∙◌, rules, arith, ◌<◌, ◌^◌, length, ◌≡◌}
use Rattle.inc_proto.specs.declared.event.Event.TheVariants.{Begin}
use Rattle.inc_proto.proofs.Kept.{began_as}
use Rattle.inc_proto.proofs.ground.Ground.begin.Goals as goal

pub invariant_of-self-in-Ok : goal.invariant_of-self-in-Ok
invariant_of-self-in-Ok g c =
    let number = c.len-number.result in
    let event = Begin number c.args.job in
    let number_is : number ≡ length c.self.inside.sessions.items = search rules in
    let small : number + 1 < 2 ^ 32 = omega arith in
    began_as g.C.Content.files c.self.inside.history.0 c.push_kept.new.self.0 c.self.inside.history.1 c.push_kept.new.self.1 c.self.inside.fs
    c.self.inside.sessions.items c.enrol.new.sessions.items c.self.inside.running number c.args.job number_is small
    (ap (λ r. r.0) c.push_kept.ensures ∙ ap (λ r. r.0 ++ event ∷ []) c.in-Ok.ensures.room)
    (ap (λ r. r.1) c.push_kept.ensures ∙ ap (λ r. r.1 - 1) c.in-Ok.ensures.room)
    c.in-Ok.ensures.session c.self.invariant
