-- What a session sees of itself on its way.
use Rattle.std.proofs.Common.{◌≡◌, ℕ, ◌==◌, ◌++◌, Bool, true, false, cond, List, [], ◌∷◌, Option, Some, None, refl, ap, ◌∙◌, sym, subst, eq-eqb, option_map, inl, inr}
use Rattle.inc_base.specs.declared.job.Job.{Job}
use Rattle.inc_fs.specs.declared.op.Op.{Op}
use Rattle.inc_fs.specs.declared.op.Reply.{Reply}
use Rattle.inc_laws.specs.Fair.{CanBe}
use Rattle.inc_proto.specs.declared.event.Event.{Event}
use Rattle.inc_proto.specs.declared.event.Event.TheVariants.{Begin, Did}
use Rattle.inc_proto.specs.Events.{Steps, is_running, job_of, own_steps, latest}
use Rattle.inc_proto.specs.Growth.{TellsOn, AddsOne}
use Rattle.inc_proto.specs.GrowthLaws.{of_other, latest_own}
use Rattle.inc_proto.specs.Legal.{Sight, MaySee, sighted, view_of}
use Rattle.inc_proto.specs.LegalLaws.{others_keep_view}
use Rattle.inc_proto.specs.Permits.{IsPermitted}
use Rattle.inc_dir.specs.Promises.{IsOwed, IsRefusal, TellsStep}
use Rattle.inc_session.specs.Saves.{IsLegalHere, saved_files}
use Rattle.inc_cli.specs.Visits.{Sees}

abbrev more_sight : Op × Reply → Sight → Sight
more_sight step sight = record sight { steps = step ∷ sight.steps }

sights : (runs : Bool) (job : Option Job) (steps : Steps) (own : Bool) (step : Op × Reply) → own ≡ true
    → cond runs (sighted job (cond own (step ∷ steps) steps)) None ≡ option_map (more_sight step) (cond runs (sighted job steps) None)
sights true None steps own step is = refl
sights true (Some job) steps own step is = ap (λ b. Some (record { job = job; steps = cond b (step ∷ steps) steps })) is
sights false job steps own step is = refl

-- its own step is the next that it sees,
seen_did : (who : ℕ) (op : Op) (reply : Reply) (history : List Event) (job : Job) (steps : Steps) → view_of who history ≡ Some (record { job = job; steps = steps })
    → view_of who (Did who op reply ∷ history) ≡ Some (record { job = job; steps = (op, reply) ∷ steps })
seen_did who op reply history job steps is =
    sights (is_running who history) (job_of who history) (own_steps who history) (who == who) (op, reply) (eq-eqb who who refl) ∙ ap (option_map (more_sight (op, reply))) is

-- and it begins with none
seen_begun : (who : ℕ) (job : Job) (history : List Event) → view_of who (Begin who job ∷ history) ≡ Some (record { job = job; steps = [] })
seen_begun who job history =
    ap (λ b. cond (cond b true (is_running who history)) (sighted (cond b (Some job) (job_of who history)) (cond b [] (own_steps who history))) None) (eq-eqb who who refl)

-- what a session that sees this is in a history
viewed : (runs : Bool) (its : Option Job) (own : Steps) (job : Job) (steps : Steps) → cond runs (sighted its own) None ≡ Some (record { job = job; steps = steps }) → (cond runs its None ≡ Some job) × (own ≡ steps)
viewed true None own job steps is = absurd (cc)
viewed true (Some its) own job steps is =
    let same : ◌≡◌ {A = Sight} (record { job = its; steps = own }) (record { job = job; steps = steps }) = cc in
    (ap (λ (sight : Sight). Some sight.job) same, ap (λ (sight : Sight). sight.steps) same)
viewed false its own job steps is = absurd (cc)

module _ (own : List ℕ) (job : Job) where
  told_more : (steps : Steps) (there new : Option (List Event)) (asked : Op) (reply : Reply) → Sees own job steps there
      → TellsOn IsLegalHere own there new (Did (latest own) asked reply ∷ []) → Sees own job ((asked, reply) ∷ steps) new
  told_more steps None new asked reply sees told = subst (Sees own job ((asked, reply) ∷ steps)) (sym told) tt
  told_more steps (Some there) None asked reply sees told = absurd told
  told_more steps (Some there) (Some new) asked reply sees told = (
    sees.0,
    subst (λ h. view_of (latest own) h ≡ Some (record { job = job; steps = (asked, reply) ∷ steps })) (sym told.is)
        (seen_did (latest own) asked reply (told.others ++ there) job steps
        (others_keep_view (latest own) told.others there (of_other own (latest own) sees.0 told.others told.by_others) ∙ sees.1)),
  )

  -- after a step that was not refused
  pub sees_more : (steps : Steps) (there new : Option (List Event)) (asked : Op) (reply : Reply) → ¬ IsRefusal asked reply → Sees own job steps there
      → TellsStep saved_files own there new asked reply → Sees own job ((asked, reply) ∷ steps) new
  sees_more steps there new asked reply goes sees (inl told) = told_more steps there new asked reply sees told
  sees_more steps there new asked reply goes sees (inr refused) = absurd (goes refused.refusal)

  -- once it began
  pub sees_begun : (before : List ℕ) (old new : Option (List Event)) → AddsOne old before own → TellsOn IsLegalHere own old new (Begin (latest own) job ∷ []) → Sees own job [] new
  sees_begun before None new one told = subst (Sees own job []) (sym told) tt
  sees_begun before (Some old) None one told = absurd told
  sees_begun before (Some old) (Some new) one told = (
    latest_own before own one,
    subst (λ h. view_of (latest own) h ≡ Some (record { job = job; steps = [] })) (sym told.is) (seen_begun (latest own) job (told.others ++ old)),
  )

  -- so where the history is legal, they are own steps that can be
  can_be : (steps : Steps) (history : List Event) → view_of (latest own) history ≡ Some (record { job = job; steps = steps }) → IsLegalHere history → CanBe saved_files job steps
  can_be steps history sees legal =
      let v = viewed (is_running (latest own) history) (job_of (latest own) history) (own_steps (latest own) history) job steps sees in
      record { events = history; legal = legal; who = latest own; runs = v.0; is = v.1 }

  -- and what its own steps permit then is what the directory asks
  pub owed : (clear : List Job → Type 0) (steps : Steps) (told : Option (List Event)) (asked : Op) → Sees own job steps told → (CanBe saved_files job steps → IsPermitted saved_files job steps asked)
      → IsOwed saved_files clear told own asked
  owed clear steps None asked sees permitted = tt
  owed clear steps (Some history) asked sees permitted = λ legal clear. subst (λ sight. MaySee saved_files sight asked) (sym sees.1) (permitted (can_be steps history sees.1 legal))
