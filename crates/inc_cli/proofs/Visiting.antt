-- A session that begins, makes its steps and leaves.
use Rattle.std.proofs.Common.{◌≤◌, ℕ, [], ◌∷◌, ◌++◌, None, arith}
use Rattle.std.specs.Prelude.{Option, List}
use Rattle.inc_base.specs.Outside.{Rose}
use Rattle.inc_base.specs.declared.job.Job.{Job}
use Rattle.inc_proto.specs.declared.event.Event.{Event}
use Rattle.inc_proto.specs.declared.event.Event.TheVariants.{Begin, Left}
use Rattle.inc_proto.specs.Events.{Steps, did, latest}
use Rattle.inc_proto.specs.Growth.{TellsBy, TellsOn, AddsOne}
use Rattle.inc_proto.specs.GrowthLaws.{tells_nothing, tells_then, tells_both, tells_later}
use Rattle.inc_session.specs.Saves.{IsLegalHere}
use Rattle.inc_session.specs.declared.session.Session.{Session}
use Rattle.inc_cli.specs.Visits.{HasGrown, HasGone, HasEnded}
use Rattle.inc_cli.specs.Run.{HasVisited, IsSoFar}

widened : (first faults now last : ℕ) → first ≤ faults → now ≤ last → Rose faults now → Rose first last
widened first faults now last sooner later rose = omega (arith, rose, sooner, later)

module _ (before own : List ℕ) (job : Job) (old entered there new : Option (List Event)) (one : AddsOne old before own)
    (begun : TellsOn IsLegalHere own old entered (Begin (latest own) job ∷ [])) (left : TellsOn IsLegalHere own there new (Left (latest own) None 0 ∷ [])) where
  entering : TellsBy IsLegalHere own old entered (Begin (latest own) job ∷ [])
  entering = tells_then IsLegalHere own old old entered (Begin (latest own) job) [] (tells_nothing IsLegalHere own old) begun

  visits : (steps : Steps) → HasGrown own steps entered there → HasVisited job steps (record { told = old; own = before }) (record { told = new; own = own })
  visits steps grown = record {
    one = one;
    told_steps = grown.told_steps;
    are_told = grown.are_told;
    told = tells_then IsLegalHere own old grown.mid new (Left (latest own) None 0) (did (latest own) grown.told_steps ++ Begin (latest own) job ∷ [])
        (tells_both IsLegalHere own old entered grown.mid (Begin (latest own) job ∷ []) (did (latest own) grown.told_steps) entering grown.told)
        (tells_later IsLegalHere own grown.mid there new (Left (latest own) None 0 ∷ []) grown.rest left);
  }

  -- it ended
  pub has_visited : (session : Session) (first faults now last started meter : ℕ) → first ≤ faults → now ≤ last → (steps : Steps) × HasGrown own steps entered there × HasEnded session steps faults now started meter
      → (steps : Steps) × HasVisited job steps (record { told = old; own = before }) (record { told = new; own = own }) × HasEnded session steps first last started meter
  has_visited session first faults now last started meter sooner later come = (
    come.0,
    visits come.0 come.1,
    record {
      made = come.2.made;
      ended = come.2.ended;
      faulted = λ asked earlier same. widened first faults now last sooner later (come.2.faulted asked earlier same);
      metered = come.2.metered;
    },
  )

  -- it stopped on its way
  pub has_left : (steps : Steps) × HasGone own job steps entered there
      → (steps : Steps) × HasVisited job steps (record { told = old; own = before }) (record { told = new; own = own }) × IsSoFar job steps
  has_left gone = (gone.0, visits gone.0 gone.1.grown, gone.1.far)
