use Rattle.std.proofs.Common.{◌≡◌, ℕ, List, subst}
use Rattle.inc_query.specs.Plans.{denote}
use Rattle.inc_engine.specs.Builds.{Build, setup, Before, Asks}
use Rattle.inc_engine.specs.Marking.{asked}
use Rattle.inc_engine.proofs.Builds.{asks-grew}
use Rattle.inc_engine.proofs.Steps.{asked-at}
use Rattle.inc_engine.proofs.build.Engine.get.Goals as goal

pub returns-in-Ok-clause-value : goal.returns-in-Ok-clause-value
returns-in-Ok-clause-value g c =
    let P = g.P.Providers in
    let Is : Build → Type 0 = λ e. (s : List ℕ) → Before (setup (P.plan e.setting) P.kept P.ticking P.height e.input e.nodes e.cache) s → c.in-Ok.value ≡ denote (P.plan e.setting) e.input c.args.q.now in
    subst Is c.self.view_is c.in-Ok.ensures.value.is

pub returns-in-Ok-clause-asks : goal.returns-in-Ok-clause-asks
returns-in-Ok-clause-asks g c =
    let P = g.P.Providers in
    let Is : Build → Type 0 = λ e. Asks (setup (P.plan e.setting) P.kept P.ticking P.height e.input e.nodes e.cache) c.args.q.now e.asked (asked c.value_of.new.memo) in
    subst Is c.self.view_is (asks-grew c.in-Ok.ensures.grew c.in-Ok.ensures.sound (asked-at c.value_of.new.memo _ c.args.q.now c.in-Ok.ensures.place))
