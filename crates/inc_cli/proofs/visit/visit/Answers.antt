use Rattle.std.proofs.Common.{inr, subst, sym}
use Rattle.std.proofs.lemmas.Result.{on_ok_weaker, on_err_weaker}
use Rattle.inc_cli.specs.Visits.{Sees}
use Rattle.inc_cli.proofs.Seeing.{sees_begun}
use Rattle.inc_cli.proofs.Visiting.{has_visited, has_left}
use Rattle.inc_cli.proofs.visit.visit.Goals as goal

pub drive-driven-requires-clause-sees : goal.drive-driven-requires-clause-sees
drive-driven-requires-clause-sees g c =
    subst (λ job. Sees (g.D.Dir.own c.begin.new.self) job _ (g.D.Dir.told c.begin.new.self)) (sym c.requires.its_job)
    (sees_begun (g.D.Dir.own c.begin.new.self) c.args.job (g.D.Dir.own c.args.dir.now) (g.D.Dir.told c.args.dir.now) (g.D.Dir.told c.begin.new.self) c.in_ok-begin.ensures.one c.in_ok-begin.ensures.ok)

pub returns-clause-ok : goal.returns-clause-ok
returns-clause-ok g c =
    let left = rw c.drive-driven.ensures.own at c.leave.ensures.told in
    rw (c.leave.ensures.own, c.drive-driven.ensures.own)
    (on_ok_weaker c.drive-driven.result (has_visited _ _ _ _ _ _ _ c.in_ok-begin.ensures.one c.in_ok-begin.ensures.ok left c.drive-driven.new.session _ _ _ _ _ _ c.in_ok-begin.ensures.faults c.leave.ensures.faults) c.drive-driven.ensures.ok)

pub returns-clause-err : goal.returns-clause-err
returns-clause-err g c =
    let left = rw c.drive-driven.ensures.own at c.leave.ensures.told in
    rw (c.leave.ensures.own, c.drive-driven.ensures.own)
    (on_err_weaker c.drive-driven.result (λ gone. inr (has_left _ _ _ _ _ _ _ c.in_ok-begin.ensures.one c.in_ok-begin.ensures.ok left gone)) (rw c.requires.its_job at c.drive-driven.ensures.err))
