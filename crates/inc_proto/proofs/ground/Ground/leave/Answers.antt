use Rattle.std.proofs.Common.{ap, sym, subst, reverse, rules, ◌<◌, length}
use Rattle.inc_proto.specs.Legal.{MayLeave}
use Rattle.inc_proto.proofs.Kept.{left_as, kept_room, may_leave_runs, enrolled, enrolled_within}
use Rattle.inc_proto.proofs.ground.Ground.leave.Goals as goal

pub push_kept-requires : goal.push_kept-requires
push_kept-requires g c =
    let may = subst (λ v. MayLeave g.C.Content.files v.history c.args.who c.args.during) (sym c.self.view_is) c.requires in
    (kept_room c.self.invariant (enrolled c.args.who c.self.invariant (may_leave_runs g.C.Content.files (reverse c.self.inside.history.0) c.args.who c.args.during may))).0

pub index_mut-one-requires : goal.index_mut-one-requires
index_mut-one-requires g c =
    let may = subst (λ v. MayLeave g.C.Content.files v.history c.args.who c.args.during) (sym c.self.view_is) c.requires in
    let within : c.args.who < length c.self.inside.sessions.items =
    enrolled_within (enrolled c.args.who c.self.invariant (may_leave_runs g.C.Content.files (reverse c.self.inside.history.0) c.args.who c.args.during may)) in
    search rules

pub overflow_sub-self : goal.overflow_sub-self
overflow_sub-self g c =
    let may = subst (λ v. MayLeave g.C.Content.files v.history c.args.who c.args.during) (sym c.self.view_is) c.requires in
    (kept_room c.self.invariant (enrolled c.args.who c.self.invariant (may_leave_runs g.C.Content.files (reverse c.self.inside.history.0) c.args.who c.args.during may))).1

pub invariant_of-self-in-Ok : goal.invariant_of-self-in-Ok
invariant_of-self-in-Ok g c =
    let may = subst (λ v. MayLeave g.C.Content.files v.history c.args.who c.args.during) (sym c.self.view_is) c.requires in
    left_as g.C.Content.files c.self.inside.history.0 c.push_kept.new.self.0 c.self.inside.history.1 c.push_kept.new.self.1 c.self.inside.fs c.stop.new.fs c.end.new.self
    c.self.inside.sessions.items c.self.inside.running c.args.who c.args.during c.args.cut c.index_mut-one.result.now
    c.index_mut-one.ensures.value (ap (λ r. r.0) c.push_kept.ensures) (ap (λ r. r.1) c.push_kept.ensures) c.in-Ok.ensures.ok c.end.ensures
    c.self.invariant may
