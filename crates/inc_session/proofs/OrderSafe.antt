-- The order is safe, since each of its parts is.
use Rattle.std.proofs.Common.{◌≡◌, ℕ, [], ◌∷◌, refl, arith}
use Rattle.std.specs.Prelude.{Option, Some, None}
use Rattle.inc_base.specs.declared.job.Job.{Job}
use Rattle.inc_names.specs.declared.session.SessionName.{SessionName}
use Rattle.inc_plan.specs.Plan.{Safe}
use Rattle.inc_plan.specs.PlanLaws.{safe_then}
use Rattle.inc_proto.specs.Events.{Steps}
use Rattle.inc_session.specs.Compiling.{compiled_of, AreInOrder}
use Rattle.inc_session.specs.Ends.{judge, making, IsUnnamed, IsWorking, IsCauseOf, NamingFits, SaveFits}
use Rattle.inc_session.specs.Naming.{naming}
use Rattle.inc_session.specs.Order.{most_names, after_saving, after_compiling, after_naming, plan_of}
use Rattle.inc_session.specs.Saving.{all_ops, each}
use Rattle.inc_session.specs.declared.compile.Made.{Made}
use Rattle.inc_session.specs.declared.naming.NamingEnd.{NamingEnd}
use Rattle.inc_session.specs.declared.naming.NamingEnd.TheVariants as naming
use Rattle.inc_session.proofs.Compiled.{compiled_in_order}
use Rattle.inc_session.proofs.EndingSafe.{saved_safe, fails_safe}
use Rattle.inc_session.proofs.Fair.{IsFair}
use Rattle.inc_session.proofs.NamingSafe.{naming_safe}
use Rattle.inc_session.proofs.SavingSafe.{saves_safe}

module _ (job : Job) (fair : IsFair job) where
  compiled_safe : (its : SessionName) (h : ℕ) (before steps : Steps) (made : Option Made) → (compiled_of job).made ≡ made → IsWorking job its h [] steps → steps ≡ making job its ∷ before
      → Safe (judge job) (IsCauseOf job) (after_compiling job its h (compiled_of job).diags made) steps
  compiled_safe its h before steps (Some made) is w from =
      let order : AreInOrder made.files = compiled_in_order job made is in
      safe_then (judge job) (SaveFits job its h) (IsCauseOf job) (each (all_ops job its made.files)) (after_saving (compiled_of job).diags made.image made.units h) steps
      (saves_safe job its h made is made.files [] [] steps order.new order.same w refl) (λ end later fits. saved_safe job its h made is end later fits)
  compiled_safe its h before steps None is w from = fails_safe job its h fair is before steps from w

  named_safe : (end : NamingEnd) (steps : Steps) → NamingFits job most_names end steps → Safe (judge job) (IsCauseOf job) (after_naming job end) steps
  named_safe (naming.Named its h) steps fits = compiled_safe its h fits.1.0 steps (compiled_of job).made refl fits.0 fits.1.1
  named_safe naming.Lost steps lost = (refl, lost)
  named_safe naming.DiskFault steps cut = cut
  named_safe (naming.Disturbed op reply) steps off = off

  -- a session that has made no step
  nothing : IsUnnamed job 0 []
  nothing = record { no_dir = refl; untried = λ none. none; drawn = λ n none. absurd none; lost_is = refl; still = λ start. refl }

  pub plan_safe : Safe (judge job) (IsCauseOf job) (plan_of job) []
  unfolding plan_of
  plan_safe =
      safe_then (judge job) (NamingFits job most_names) (IsCauseOf job) (naming job.krate most_names) (after_naming job) []
      (naming_safe job fair most_names most_names 0 [] (omega arith) nothing) (λ end later fits. named_safe end later fits)
