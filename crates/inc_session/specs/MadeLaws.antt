-- A session whose renaming is answered by a fault has ended: a law of `Made`.
use Rattle.std.specs.Prelude.{◌≡◌, ℕ, Bool, List, [], ◌∷◌, Some, None, refl}
use Rattle.std.proofs.Common.{ap, ◌∙◌, sym}
use Rattle.inc_base.specs.declared.job.Job.{Job}
use Rattle.inc_fs.specs.Paths.{Text}
use Rattle.inc_fs.specs.declared.op.Op.{Op}
use Rattle.inc_fs.specs.declared.op.Op.TheVariants.{Rename}
use Rattle.inc_fs.specs.declared.op.Reply.TheVariants.{Fault}
use Rattle.inc_plan.specs.Plan.{Plan, then, asks, fed, after}
use Rattle.inc_proto.specs.Events.{Steps}
use Rattle.inc_session.specs.Ending.{failing_at}
use Rattle.inc_session.specs.Made.{HasMade, rest_of}
use Rattle.inc_session.specs.Naming.{naming_at}
use Rattle.inc_session.specs.Order.{after_saving, part_rest, plan_of}
use Rattle.inc_session.specs.Saving.{each}
use Rattle.inc_session.specs.declared.failing.FailingAt.{FailingAt}
use Rattle.inc_session.specs.declared.failing.FailingAt.TheVariants as failing
use Rattle.inc_session.specs.declared.naming.NamingAt.{NamingAt}
use Rattle.inc_session.specs.declared.naming.NamingAt.TheVariants as naming
use Rattle.inc_session.specs.declared.naming.NamingEnd.{NamingEnd}
use Rattle.inc_session.specs.declared.outcome.Outcome.{Outcome}
use Rattle.inc_session.specs.declared.part.Part.{Part}
use Rattle.inc_session.specs.declared.part.Part.TheVariants as part
use Rattle.inc_session.specs.declared.session.Session.{Session}

module _ (krate from to : Text) where
  -- naming asks for no renaming, nor does an ending
  naming_keeps : (its : Text) (again : Plan NamingEnd) (at : NamingAt) (next : NamingEnd → Plan Outcome) → asks (then (naming_at its again at) next) ≡ Some (Rename krate from to) → ⊥
  naming_keeps its again naming.Draw next is = cc
  naming_keeps its again (naming.MakeLock name) next is = cc
  naming_keeps its again (naming.TryLock name handle) next is = cc
  naming_keeps its again (naming.Look name handle) next is = cc
  naming_keeps its again (naming.Close handle) next is = cc
  naming_keeps its again (naming.MakeDir name handle) next is = cc

  failing_keeps : (its : Text) (handle : ℕ) (at : FailingAt) (next : Bool → Plan Outcome) → asks (then (failing_at its handle at) next) ≡ Some (Rename krate from to) → ⊥
  failing_keeps its handle (failing.RemoveDir name) next is = cc
  failing_keeps its handle (failing.UnlinkLock name) next is = cc
  failing_keeps its handle (failing.Close noted) next is = cc

  saving_ends : (ops : List Op) (diags image : Text) (units handle : ℕ) → asks (then (each ops) (after_saving diags image units handle)) ≡ Some (Rename krate from to)
      → asks (fed (then (each ops) (after_saving diags image units handle)) Fault) ≡ None
  saving_ends [] diags image units handle is = absurd (cc)
  saving_ends (op ∷ ops) diags image units handle is = refl

  rename_ends : (job : Job) (its : Part) → asks (part_rest job its) ≡ Some (Rename krate from to) → asks (fed (part_rest job its) Fault) ≡ None
  rename_ends job (part.Naming n) is = absurd (naming_keeps job.krate _ n.at _ is)
  rename_ends job (part.Saving s) is = saving_ends s.ops s.diags s.image s.units s.handle is
  rename_ends job (part.Failing f) is = absurd (failing_keeps job.krate f.handle f.at _ is)
  rename_ends job (part.Ended outcome) is = absurd (cc)
  rename_ends job part.GaveUp is = absurd (cc)

  pub refused_ends : (g new : Session) (steps : Steps) → new.task ≡ g.task → HasMade g steps → g.op ≡ Some (Rename krate from to) → HasMade new ((Rename krate from to, Fault) ∷ steps) → new.op ≡ None
  unfolding rest_of
  refused_ends g new steps same made asked then_made =
      then_made.asked ∙ ap asks (sym then_made.left) ∙ ap (λ job. asks (fed (after (plan_of job) steps) Fault)) same ∙ ap (λ plan. asks (fed plan Fault)) made.left
      ∙ rename_ends g.task g.part (sym made.asked ∙ asked)
