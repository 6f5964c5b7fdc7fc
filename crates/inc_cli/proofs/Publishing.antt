-- What a session that ended came to, or why it came to nothing.
use Rattle.std.proofs.Common.{◌≡◌, ℕ, Some, None, ap, ◌∙◌, sym, subst, inr, refl}
use Rattle.std.specs.Prelude.{Option}
use Rattle.inc_base.specs.Meters.{raised}
use Rattle.inc_base.specs.Outside.{Rose}
use Rattle.inc_base.specs.declared.job.Job.{Job}
use Rattle.inc_plan.specs.Plan.{Follows}
use Rattle.inc_proto.specs.Events.{Steps}
use Rattle.inc_session.specs.Compiling.{units_of}
use Rattle.inc_session.specs.Ends.{IsEndOf}
use Rattle.inc_session.specs.Made.{HasMade, outcome_of}
use Rattle.inc_session.specs.Order.{plan_of}
use Rattle.inc_session.specs.Reading.{metered}
use Rattle.inc_session.specs.declared.outcome.Outcome.{Outcome}
use Rattle.inc_session.specs.declared.outcome.Outcome.TheVariants.{Built as Published, Errors as WithErrors, DiskFault, Lost as AllLost, Disturbed as DisturbedBy}
use Rattle.inc_session.specs.declared.session.Session.{Session}
use Rattle.inc_cli.specs.declared.answer.Answer.{Answer}
use Rattle.inc_cli.specs.declared.answer.Answer.TheVariants.{Built, Failed, Cleaned}
use Rattle.inc_cli.specs.declared.status.Status.{Status}
use Rattle.inc_cli.specs.declared.status.Status.TheVariants.{DirectoryFault, OutOfMemory, Lost, Disturbed}
use Rattle.inc_cli.specs.Run.{Telling, HasVisited}
use Rattle.inc_cli.specs.Visits.{HasEnded}
use Rattle.inc_cli.specs.Parts.{HasOutcome, HasSession, FailsOutcome, FailsSession}

module _ (causes : (s : Session) (steps : Steps) (outcome : Outcome) → HasMade s steps → outcome_of s ≡ Some outcome → IsEndOf s.task outcome steps)
    (job : Job) (old new : Telling) (faults now started meter : ℕ) (g : Session) (task : g.task ≡ job)
    (come : (steps : Steps) × HasVisited job steps old new × HasEnded g steps faults now started meter) where
  abbrev steps : Steps
  steps = come.0

  ends : (outcome : Outcome) → outcome_of g ≡ Some outcome → IsEndOf job outcome steps
  ends outcome is = subst (λ job. IsEndOf job outcome steps) task (causes g steps outcome come.2.made is)

  meter_is : meter ≡ metered (units_of job) steps started
  meter_is = come.2.metered ∙ ap (λ job. metered (units_of job) steps started) task

  -- an answer's outcome is that of a session that came to it
  pub has_session : (answer : Answer) → HasOutcome (outcome_of g) answer → HasSession job answer old new started meter
  has_session (Built diags image used note) is =
      let end = ends (Published diags image used note) is in
      record {
        visit = record { steps = steps; visited = come.1; ends = end };
        meter = meter_is ∙ end.cause.rose started ∙ ap (raised started) (sym end.cause.units_are);
      }
  has_session (Failed diags note) is =
      let end = ends (WithErrors diags note) is in
      record { visit = record { steps = steps; visited = come.1; ends = end }; meter = meter_is ∙ end.cause.rose started }
  has_session (Cleaned build) is = absurd is

  rose_by : IsEndOf job DiskFault steps → Rose faults now
  rose_by end = come.2.faulted end.cause.asked end.cause.before end.cause.made

  fails_by : (outcome : Option Outcome) (status : Status) → outcome_of g ≡ outcome → FailsOutcome outcome status
      → FailsSession status job old new (record { faults = faults; meter = started }) (record { faults = now; meter = meter })
  fails_by (Some DiskFault) DirectoryFault is cause = let end = ends DiskFault is in (record { steps = steps; visited = come.1; ends = end }, rose_by end)
  fails_by (Some (AllLost names)) Lost is cause =
      let end = ends (AllLost names) is in
      record { visit = record { steps = steps; visited = come.1; ends = (names, end) }; meter = meter_is ∙ end.cause.1.still started }
  fails_by (Some (DisturbedBy asked reply)) Disturbed is cause = record { steps = steps; visited = come.1; ends = (asked, reply, ends (DisturbedBy asked reply) is) }
  fails_by None OutOfMemory is cause =
      inr (record { steps = steps; visited = come.1; ends = subst (λ job. Follows (plan_of job) steps) task come.2.made.follows })
  fails_by outcome status is cause = absurd cause

  -- and another is the status's cause
  pub fails_session : (status : Status) → FailsOutcome (outcome_of g) status
      → FailsSession status job old new (record { faults = faults; meter = started }) (record { faults = now; meter = meter })
  fails_session status cause = fails_by (outcome_of g) status refl cause
