-- What a session asks for, where it stands after a reply, and how it ends.
use Rattle.std.proofs.Common.{ℕ, ◌<◌, None, ◌≡◌, [], ap, sym, ◌∙◌, subst, refl}
use Rattle.std.specs.Prelude.{Option, Some, IsSome}
use Rattle.inc_base.specs.declared.job.Job.{Job}
use Rattle.inc_fs.specs.declared.op.Op.{Op}
use Rattle.inc_fs.specs.declared.op.Reply.{Reply}
use Rattle.inc_plan.specs.Plan.{Safe, Ends, IsClosed, after, asks, fed, then}
use Rattle.inc_plan.specs.Plan.Plan.{Give}
use Rattle.inc_plan.specs.PlanLaws.{safe_after, permitted}
use Rattle.inc_proto.specs.Events.{Steps}
use Rattle.inc_session.specs.Ends.{judge, IsCauseOf}
use Rattle.inc_session.specs.Made.{HasMade, AsksPermitted, GoesOn, left_in, left_of, rest_of, outcome_in, outcome_of}
use Rattle.inc_session.specs.Naming.{naming_plan, IsAgain}
use Rattle.inc_session.specs.Order.{after_naming, most_names, plan_of, part_rest}
use Rattle.inc_session.specs.Reading.{metered_for}
use Rattle.inc_session.specs.declared.naming.NamingFed.{NamingFed}
use Rattle.inc_session.specs.declared.outcome.Outcome.{Outcome}
use Rattle.inc_session.specs.declared.part.Part.{Part}
use Rattle.inc_session.specs.declared.part.Part.TheVariants as part
use Rattle.inc_session.specs.declared.session.Session.{Session}
use Rattle.inc_session.proofs.Fair.{IsFair}
use Rattle.inc_session.proofs.OrderSafe.{plan_safe}

closed : (job : Job) → IsClosed (judge job)
closed job = λ step steps can. can.1

-- its order is safe after its steps
made_safe : (s : Session) (steps : Steps) → IsFair s.task → HasMade s steps → Safe (judge s.task) (IsCauseOf s.task) (after (plan_of s.task) steps) steps
made_safe s steps fair made = safe_after (judge s.task) (closed s.task) (IsCauseOf s.task) (plan_of s.task) steps (plan_safe s.task fair) made.follows made.answered

-- what a session asks for is permitted
pub asks_permitted : (s : Session) → IsFair s.task → AsksPermitted s
unfolding AsksPermitted
asks_permitted s fair = λ steps op made can asked.
    permitted (judge s.task) (IsCauseOf s.task) (after (plan_of s.task) steps) steps op (made_safe s steps fair made) (ap asks made.left ∙ sym made.asked ∙ asked) can

-- with another part, and what it asks for
pub goes_on : (s : Session) (its : Part) (op : Option Op) (reply : Reply) → part_rest s.task its ≡ fed (part_rest s.task s.part) reply → op ≡ asks (part_rest s.task its)
    → GoesOn s reply (record s { part = its; op = op })
unfolding GoesOn rest_of
goes_on s its op reply rest asks_is = (
  refl,
  λ steps asked is kind made. record {
    follows = (made.follows, ap asks made.left ∙ sym made.asked ∙ is);
    left = ap (λ plan. fed plan reply) made.left ∙ sym rest;
    asked = asks_is;
    answered = (kind, made.answered);
  },
)

-- a session that has made no step
pub begins : (s : Session) → part_rest s.task s.part ≡ plan_of s.task → s.op ≡ asks (part_rest s.task s.part) → HasMade s []
unfolding rest_of
begins s rest asks_is = record { follows = tt; left = sym rest; asked = asks_is; answered = tt }

ended_rest : (job : Job) (its : Part) (outcome : Outcome) → outcome_in its ≡ Some outcome → part_rest job its ≡ Give outcome
ended_rest job (part.Ended o) outcome is = let same : o ≡ outcome = cc in ap Give same
ended_rest job its outcome is = absurd (cc)

-- a session that has ended has made its whole order,
pub ends_so : (s : Session) (steps : Steps) (outcome : Outcome) → HasMade s steps → outcome_of s ≡ Some outcome → Ends (plan_of s.task) steps outcome
unfolding rest_of outcome_of
ends_so s steps outcome made is = record { follows = made.follows; ended = made.left ∙ ended_rest s.task s.part outcome is }

-- and its steps are the cause of its outcome
pub cause_of : (s : Session) (steps : Steps) (outcome : Outcome) → IsFair s.task → HasMade s steps → outcome_of s ≡ Some outcome → IsCauseOf s.task outcome steps
cause_of s steps outcome fair made is =
    subst (λ plan. Safe (judge s.task) (IsCauseOf s.task) plan steps) (ends_so s steps outcome made is).ended (made_safe s steps fair made)

-- how it ended is read off its part
pub outcome_is : (s : Session) (found : Option Outcome) → found ≡ outcome_in s.part → found ≡ outcome_of s
unfolding outcome_of
outcome_is s found is = is

-- a session whose naming begins so has made no step
pub begins_named : (s : Session) (to : NamingFed) → part_rest s.task s.part ≡ then (naming_plan s.task.krate to) (after_naming s.task) → IsAgain to most_names → s.op ≡ asks (part_rest s.task s.part) → HasMade s []
unfolding plan_of
begins_named s to rest again asks_is = begins s (rest ∙ ap (λ plan. then plan (after_naming s.task)) (again s.task.krate)) asks_is

-- what it asks for is what its part does
pub part_asks : (s : Session) (its : Part) → its ≡ s.part → s.op ≡ asks (rest_of s) → IsSome s.op → IsSome (asks (part_rest s.task its))
unfolding rest_of
part_asks s its same is some = subst IsSome (is ∙ ap (λ p. asks (part_rest s.task p)) (sym same)) some

pub part_metered : (s : Session) (its : Part) (units : ℕ) (reply : Reply) (count : ℕ) → its ≡ s.part → s.op ≡ asks (rest_of s)
    → metered_for units (asks (part_rest s.task its)) reply count ≡ metered_for units s.op reply count
unfolding rest_of
part_metered s its units reply count same is = ap (λ p. metered_for units (asks (part_rest s.task p)) reply count) same ∙ ap (λ op. metered_for units op reply count) (sym is)

pub fewer_left : (s now : Session) → left_in now.part < left_in s.part → left_of now < left_of s
unfolding left_of
fewer_left s now fewer = fewer

pub gives_up : (s : Session) → s.part ≡ part.GaveUp → outcome_of s ≡ None
unfolding outcome_of
gives_up s is = ap outcome_in is
