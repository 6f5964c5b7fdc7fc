-- Where a session stands by its own steps.
use Rattle.std.specs.Prelude.{◌≡◌, ◌+◌, ◌*◌, ◌^◌, ℕ, ◌∷◌, length, Option, Some, None}
use Rattle.inc_fs.specs.Kinds.{IsKindOf}
use Rattle.inc_fs.specs.declared.op.Op.{Op}
use Rattle.inc_fs.specs.declared.op.Reply.{Reply}
use Rattle.inc_laws.specs.Fair.{CanBe}
use Rattle.inc_plan.specs.Plan.{Plan, asks, after, Follows}
use Rattle.inc_proto.specs.Events.{Steps}
use Rattle.inc_proto.specs.Permits.{IsPermitted}
use Rattle.inc_session.specs.Order.{plan_of, part_rest}
use Rattle.inc_session.specs.Reading.{AreAnswered}
use Rattle.inc_session.specs.Saves.{saved_files}
use Rattle.inc_session.specs.declared.failing.FailingAt.{FailingAt}
use Rattle.inc_session.specs.declared.failing.FailingAt.TheVariants as failing
use Rattle.inc_session.specs.declared.naming.NamingAt.{NamingAt}
use Rattle.inc_session.specs.declared.naming.NamingAt.TheVariants as naming
use Rattle.inc_session.specs.declared.naming.Naming.{Naming}
use Rattle.inc_session.specs.declared.naming.NamingFed.{NamingFed}
use Rattle.inc_session.specs.declared.naming.NamingFed.TheVariants.{On, End}
use Rattle.inc_session.specs.declared.outcome.Outcome.{Outcome}
use Rattle.inc_session.specs.declared.part.Part.{Part}
use Rattle.inc_session.specs.declared.part.Part.TheVariants as part
use Rattle.inc_session.specs.declared.session.Session.{Session}

-- what is left of its order
unfoldable pub rest_of : Session → Plan Outcome
rest_of s = part_rest s.task s.part

-- A session stands where these steps lead it by its order, and asks for the step that comes next there.
pub record HasMade (s : Session) (steps : Steps) : Type 0 where
  pub follows : Follows (plan_of s.task) steps
  pub left : after (plan_of s.task) steps ≡ rest_of s
  pub asked : s.op ≡ asks (rest_of s)
  pub answered : AreAnswered steps

-- how it ended, if it has
abbrev pub outcome_in : Part → Option Outcome
outcome_in (part.Ended outcome) = Some outcome
outcome_in its = None

unfoldable pub outcome_of : Session → Option Outcome
outcome_of s = outcome_in s.part

-- Wherever its own steps stand in a legal history, what it asks for is permitted.
unfoldable pub AsksPermitted : Session → Type 0
AsksPermitted s = (steps : Steps) (op : Op) → HasMade s steps → CanBe saved_files s.task steps → s.op ≡ Some op → IsPermitted saved_files s.task steps op

-- It is of the same job, and goes on by this reply to the step that it asked for.
unfoldable pub GoesOn : Session → Reply → Session → Type 0
GoesOn old reply new = (new.task ≡ old.task) × ((steps : Steps) (op : Op) → old.op ≡ Some op → IsKindOf op reply → HasMade old steps → HasMade new ((op, reply) ∷ steps))

-- ---- That it ends.

-- how many steps are left of a try for a name, at most
abbrev pub left_of_name : NamingAt → ℕ
left_of_name naming.Draw = 6
left_of_name (naming.MakeLock name) = 5
left_of_name (naming.TryLock name handle) = 4
left_of_name (naming.Look name handle) = 3
left_of_name (naming.Close handle) = 1
left_of_name (naming.MakeDir name handle) = 1

abbrev pub left_of_naming : Naming → ℕ
left_of_naming n = n.left * 6 + left_of_name n.at

abbrev pub left_of_failing : FailingAt → ℕ
left_of_failing (failing.RemoveDir its) = 3
left_of_failing (failing.UnlinkLock its) = 2
left_of_failing (failing.Close noted) = 1

abbrev pub left_of_fed : NamingFed → ℕ
left_of_fed (On n) = left_of_naming n
left_of_fed (End e) = 0

-- A number that each reply makes less. What comes after naming has fewer than 2^64 steps, since a list does.
abbrev pub left_in : Part → ℕ
left_in (part.Naming n) = 2 ^ 65 + left_of_naming n
left_in (part.Saving s) = length s.ops + 1
left_in (part.Failing f) = left_of_failing f.at
left_in its = 0

unfoldable pub left_of : Session → ℕ
left_of s = left_in s.part
