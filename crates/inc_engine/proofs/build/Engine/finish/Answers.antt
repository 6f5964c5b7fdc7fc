use Rattle.std.proofs.Common.{◌≡◌, ℕ, List, subst}
use Rattle.std.specs.Prelude.{IfOk}
use Rattle.std.specs.List.{count_by}
use Rattle.inc_engine.specs.Builds.{Build, setup, Before, IsBuildOf, is_red}
use Rattle.inc_engine.proofs.build.Engine.finish.Goals as goal

pub returns-clause-of : goal.returns-clause-of
returns-clause-of g c =
    let P = g.P.Providers in
    let Is : Build → Type 0 = λ e. IfOk c.graph_of.result (λ r. (s : List ℕ) → Before (setup (P.plan e.setting) P.kept P.ticking P.height e.input e.nodes e.cache) s → IsBuildOf (P.plan e.setting) P.kept e.input r.0 r.1) in
    subst Is c.self.view_is c.graph_of.ensures.of

pub returns-clause-red : goal.returns-clause-red
returns-clause-red g c =
    let P = g.P.Providers in
    let Is : Build → Type 0 = λ e. IfOk c.graph_of.result (λ r. (s : List ℕ) → Before (setup (P.plan e.setting) P.kept P.ticking P.height e.input e.nodes e.cache) s → r.2.red ≡ count_by (is_red (setup (P.plan e.setting) P.kept P.ticking P.height e.input e.nodes e.cache) s) e.asked) in
    subst Is c.self.view_is c.graph_of.ensures.red
