-- A part and what follows it take a reply as the part does, and the meter rises as the step says.
use Rattle.std.proofs.Common.{◌≡◌, ℕ, zero, suc, Bool, true, false, cond, List, [], ◌∷◌, refl, ap, ◌∙◌}
use Rattle.inc_fs.specs.Paths.{Text}
use Rattle.inc_fs.specs.declared.op.Op.{Op}
use Rattle.inc_fs.specs.declared.op.Op.TheVariants.{MakeDir}
use Rattle.inc_fs.specs.declared.op.Reply.{Reply}
use Rattle.inc_fs.specs.declared.op.Reply.TheVariants.{Drawn, Handle, Names, Done, Got, Exists, Fault}
use Rattle.inc_names.specs.declared.session.SessionName.{SessionName}
use Rattle.inc_names.specs.Entries.{lock_text, working_text}
use Rattle.inc_plan.specs.Plan.{Plan, then, asks, fed}
use Rattle.inc_plan.specs.Plan.Plan.{Give, Ask}
use Rattle.inc_session.specs.Naming.{lists, naming, naming_at, naming_rest, naming_plan, made_dir, lost}
use Rattle.inc_session.specs.Order.{after_saving}
use Rattle.inc_session.specs.Reading.{metered_end, metered_fed, metered_for, metered_step}
use Rattle.inc_session.specs.Saving.{each, is_write, are_writes}
use Rattle.inc_session.proofs.Pieces.{both_true}
use Rattle.inc_session.specs.declared.naming.Naming.{Naming}
use Rattle.inc_session.specs.declared.naming.NamingAt.{NamingAt}
use Rattle.inc_session.specs.declared.naming.NamingAt.TheVariants as at
use Rattle.inc_session.specs.declared.naming.NamingEnd.{NamingEnd}
use Rattle.inc_session.specs.declared.naming.NamingFed.{NamingFed}
use Rattle.inc_session.specs.declared.naming.NamingFed.TheVariants.{On, End}

module _ {W : Type 0} where
  pub naming_fed : (krate : Text) (again : Plan NamingEnd) (its : NamingAt) (next : NamingEnd → Plan W) (reply : Reply) → then (fed (naming_at krate again its) reply) next ≡ fed (then (naming_at krate again its) next) reply
  naming_fed krate again at.Draw next reply = refl
  naming_fed krate again (at.MakeLock name) next reply = refl
  naming_fed krate again (at.TryLock name handle) next reply = refl
  naming_fed krate again (at.Look name handle) next reply = refl
  naming_fed krate again (at.Close handle) next reply = refl
  naming_fed krate again (at.MakeDir name handle) next reply = refl

  naming_asks : (krate : Text) (again : Plan NamingEnd) (its : NamingAt) (next : NamingEnd → Plan W) → asks (naming_at krate again its) ≡ asks (then (naming_at krate again its) next)
  naming_asks krate again at.Draw next = refl
  naming_asks krate again (at.MakeLock name) next = refl
  naming_asks krate again (at.TryLock name handle) next = refl
  naming_asks krate again (at.Look name handle) next = refl
  naming_asks krate again (at.Close handle) next = refl
  naming_asks krate again (at.MakeDir name handle) next = refl

-- ---- The meter.

abbrev metered_given : ℕ → Plan NamingEnd → ℕ → ℕ
metered_given units (Give end) count = metered_end units end count
metered_given units (Ask op by) count = count

module _ (units count : ℕ) (krate : Text) where
  at_still : (again : Plan NamingEnd) (its : NamingAt) → count ≡ metered_given units (naming_at krate again its) count
  at_still again at.Draw = refl
  at_still again (at.MakeLock name) = refl
  at_still again (at.TryLock name handle) = refl
  at_still again (at.Look name handle) = refl
  at_still again (at.Close handle) = refl
  at_still again (at.MakeDir name handle) = refl

  to_given : (to : NamingFed) → metered_fed units to count ≡ metered_given units (naming_plan krate to) count
  to_given (On n) = at_still (naming krate n.left) n.at
  to_given (End end) = refl

  again_still : (left : ℕ) → metered_given units (naming krate left) count ≡ count
  again_still zero = refl
  again_still (suc left) = refl

  looked_still : (again : Plan NamingEnd) (name : SessionName) (handle : ℕ) (is_seen : Bool)
      → metered_given units (cond is_seen (Ask (MakeDir krate (working_text name)) (made_dir krate again name handle)) (lost krate again handle)) count ≡ count
  looked_still again name handle true = refl
  looked_still again name handle false = refl

  at_given : (left : ℕ) (its : NamingAt) (reply : Reply) → metered_given units (fed (naming_at krate (naming krate left) its) reply) count ≡ metered_for units (asks (naming_at krate (naming krate left) its)) reply count
  at_given left at.Draw (Drawn moment random) = refl
  at_given left at.Draw reply = refl
  at_given left (at.MakeLock name) (Handle handle) = refl
  at_given left (at.MakeLock name) Exists = again_still left
  at_given left (at.MakeLock name) reply = refl
  at_given left (at.TryLock name handle) Got = refl
  at_given left (at.TryLock name handle) Fault = refl
  at_given left (at.TryLock name handle) reply = refl
  at_given left (at.Look name handle) (Names names) = looked_still (naming krate left) name handle (lists names (lock_text name))
  at_given left (at.Look name handle) reply = refl
  at_given left (at.Close handle) Fault = refl
  at_given left (at.Close handle) reply = again_still left
  at_given left (at.MakeDir name handle) Done = refl
  at_given left (at.MakeDir name handle) Exists = refl
  at_given left (at.MakeDir name handle) reply = refl

-- where naming goes on so, the meter rises as its step says
pub fed_metered : {W : Type 0} (units count : ℕ) (krate : Text) (n : Naming) (to : NamingFed) (reply : Reply) (next : NamingEnd → Plan W) → naming_plan krate to ≡ fed (naming_rest krate n) reply
    → metered_fed units to count ≡ metered_for units (asks (then (naming_rest krate n) next)) reply count
fed_metered units count krate n to reply next is =
    to_given units count krate to ∙ ap (λ plan. metered_given units plan count) is ∙ at_given units count krate n.left n.at reply
    ∙ ap (λ op. metered_for units op reply count) (naming_asks krate (naming krate n.left) n.at next)

-- a step that makes no directory emits nothing
step_still : (units : ℕ) (op : Op) (reply : Reply) (count : ℕ) → is_write op ≡ true → count ≡ metered_step units op reply count
step_still units (MakeDir krate entry) reply count w = absurd (cc)
step_still units op reply count w = refl

pub saving_still : (units : ℕ) (ops : List Op) (diags image : Text) (its handle : ℕ) (reply : Reply) (count : ℕ) → are_writes ops ≡ true
    → count ≡ metered_for units (asks (then (each ops) (after_saving diags image its handle))) reply count
saving_still units [] diags image its handle reply count w = refl
saving_still units (op ∷ ops) diags image its handle reply count w = step_still units op reply count (both_true (is_write op) (are_writes ops) w).0
