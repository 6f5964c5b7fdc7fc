use Rattle.std.proofs.Common.{◌≤◌, ◌∙◌, subst, rules, reverse, length}
use Rattle.std.specs.Prelude.{Some}
use Rattle.inc_proto.specs.Grounds.{Fits}
use Rattle.inc_proto.specs.Legal.{MayDo}
use Rattle.inc_proto.specs.Permits.{IsPermitted}
use Rattle.inc_proto.proofs.Kept.{past_rests}
use Rattle.inc_proto.proofs.Mays.{answers_as, never}
use Rattle.inc_proto.proofs.Runs.{view_may, may_view, rests_may_not, found_at}
use Rattle.inc_proto.proofs.ground.Ground.permits.Goals as goal

pub returns-then-one : goal.returns-then-one
returns-then-one g c =
    let files = g.C.Content.files in
    let h = reverse c.self.inside.history.0 in
    let who = c.args.who in
    let op = c.args.op.now in
    let one = c.in-Some.one.now in
    let at = found_at c.deref.result.now c.self.inside.sessions.items who one c.deref.ensures.value c.in-Some.ensures.lookup.0 c.in-Some.ensures.lookup.1 in
    let fits : Fits h who (Some one) = subst (λ o. Fits h who o) at (c.self.invariant.fits who) in
    rw (← c.self.view_is)
    (answers_as (IsPermitted files one.view.job one.view.steps op) (MayDo files h who op) c.permits.result
    (view_may files h who one op fits c.if-one.true) (may_view files h who one op fits) c.permits.ensures)

pub returns-else-one : goal.returns-else-one
returns-else-one g c =
    let files = g.C.Content.files in
    let h = reverse c.self.inside.history.0 in
    let who = c.args.who in
    let one = c.in-Some.one.now in
    let at = found_at c.deref.result.now c.self.inside.sessions.items who one c.deref.ensures.value c.in-Some.ensures.lookup.0 c.in-Some.ensures.lookup.1 in
    let fits : Fits h who (Some one) = subst (λ o. Fits h who o) at (c.self.invariant.fits who) in
    rw (← c.self.view_is) (never (rests_may_not files h who c.args.op.now (fits.2 ∙ c.if-one.false)))

pub returns-in-None : goal.returns-in-None
returns-in-None g c =
    let past : length c.self.inside.sessions.items ≤ c.args.who = search rules in
    rw (← c.self.view_is)
    (never (rests_may_not g.C.Content.files (reverse c.self.inside.history.0) c.args.who c.args.op.now (past_rests c.args.who c.self.invariant past)))
