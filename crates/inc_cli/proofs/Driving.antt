-- A session on its way through a directory.
use Rattle.std.proofs.Common.{◌≡◌, ℕ, ◌≤◌, List, [], ◌∷◌, Some, None, refl, ap, ◌∙◌, sym, subst, inl, inr, arith}
use Rattle.std.specs.Prelude.{Option}
use Rattle.inc_base.specs.Outside.{Rose}
use Rattle.inc_fs.specs.Kinds.{IsKindOf}
use Rattle.inc_fs.specs.declared.op.Op.{Op}
use Rattle.inc_fs.specs.declared.op.Op.TheVariants.{Rename}
use Rattle.inc_fs.specs.declared.op.Reply.{Reply}
use Rattle.inc_fs.specs.declared.op.Reply.TheVariants.{Fault}
use Rattle.inc_laws.specs.Fair.{CanBe}
use Rattle.inc_plan.specs.Plan.{Follows, asks}
use Rattle.inc_proto.specs.declared.event.Event.{Event}
use Rattle.inc_proto.specs.declared.event.Event.TheVariants.{Did}
use Rattle.inc_proto.specs.Events.{Steps, did, latest}
use Rattle.inc_proto.specs.Growth.{TellsOn}
use Rattle.inc_proto.specs.Permits.{IsPermitted}
use Rattle.inc_proto.specs.GrowthLaws.{tells_nothing, tells_then, tells_later, tells_same}
use Rattle.inc_dir.specs.Promises.{IsRefusal, TellsStep}
use Rattle.inc_session.specs.Compiling.{units_of}
use Rattle.inc_session.specs.Made.{HasMade, AsksPermitted, GoesOn}
use Rattle.inc_session.specs.MadeLaws.{refused_ends}
use Rattle.inc_session.specs.Order.{plan_of}
use Rattle.inc_session.specs.Reading.{metered, metered_for}
use Rattle.inc_session.specs.Saves.{IsLegalHere, saved_files}
use Rattle.inc_session.specs.declared.session.Session.{Session}
use Rattle.inc_cli.specs.Visits.{HasGrown, HasGone, HasEnded, IsFaultOf, Sees}
use Rattle.inc_cli.proofs.Seeing.{sees_more}

-- ---- One more step.

-- where all steps so far were told, what a directory tells of the next one is all that was added
grown_step : (own : List ℕ) (old there new : Option (List Event)) (asked : Op) (reply : Reply) (steps : Steps) (g : HasGrown own steps old there) → g.told_steps ≡ steps
    → TellsStep saved_files own there new asked reply → HasGrown own ((asked, reply) ∷ steps) old new
grown_step own old there new asked reply steps g all (inl told) = record {
  told_steps = (asked, reply) ∷ g.told_steps;
  are_told = inl (ap (λ before. (asked, reply) ∷ before) all);
  mid = new;
  told = tells_then IsLegalHere own old g.mid new (Did (latest own) asked reply) (did (latest own) g.told_steps) g.told (tells_later IsLegalHere own g.mid there new (Did (latest own) asked reply ∷ []) g.rest told);
  rest = tells_same IsLegalHere own new;
}
grown_step own old there new asked reply steps g all (inr refused) = record {
  told_steps = g.told_steps;
  are_told = inr (asked, reply, refused.refusal, ap (λ before. (asked, reply) ∷ before) (sym all));
  mid = g.mid;
  told = g.told;
  rest = tells_later IsLegalHere own g.mid there new [] g.rest refused.others;
}

-- and unless it was refused, it is told too
all_told : (own : List ℕ) (old there new : Option (List Event)) (asked : Op) (reply : Reply) (steps : Steps) (g : HasGrown own steps old there) (all : g.told_steps ≡ steps)
    (answer : TellsStep saved_files own there new asked reply) → ¬ IsRefusal asked reply → (grown_step own old there new asked reply steps g all answer).told_steps ≡ (asked, reply) ∷ steps
unfolding grown_step
all_told own old there new asked reply steps g all (inl told) goes = ap (λ before. (asked, reply) ∷ before) all
all_told own old there new asked reply steps g all (inr refused) goes = absurd (goes refused.refusal)

-- where others' events follow
grown_later : (own : List ℕ) (old there new : Option (List Event)) (steps : Steps) → HasGrown own steps old there → TellsOn IsLegalHere own there new [] → HasGrown own steps old new
grown_later own old there new steps g rest = record {
  told_steps = g.told_steps;
  are_told = g.are_told;
  mid = g.mid;
  told = g.told;
  rest = tells_later IsLegalHere own g.mid there new [] g.rest rest;
}

-- a session that asks on was not refused
asks_on : (g new : Session) (asked next : Op) (reply : Reply) (steps : Steps) → new.task ≡ g.task → HasMade g steps → g.op ≡ Some asked → HasMade new ((asked, reply) ∷ steps) → new.op ≡ Some next → ¬ IsRefusal asked reply
asks_on g new (Rename krate from to) next reply steps same made is then_made asks = λ refusal.
    let ended : new.op ≡ None = refused_ends krate from to g new steps same made is (subst (λ reply. HasMade new ((Rename krate from to, reply) ∷ steps)) refusal.1 then_made) in
    cc
asks_on g new asked next reply steps same made is then_made asks = λ refusal. absurd refusal.0

-- ---- The way so far.

pub record Driving (own : List ℕ) (first now : Session) (old new : Option (List Event)) (before after : ℕ) (started meter : ℕ) : Type 0 where
  pub steps : Steps
  pub grown : HasGrown own steps old new
  pub all : (next : Op) → now.op ≡ Some next → grown.told_steps ≡ steps
  pub made : HasMade now steps
  pub sees : Sees own first.task [] old → (next : Op) → now.op ≡ Some next → Sees own first.task steps new
  pub task : now.task ≡ first.task
  pub later : before ≤ after
  pub faulted : IsFaultOf steps before after
  pub metered : meter ≡ metered (units_of first.task) steps started

-- it has made no step
pub drives_first : (own : List ℕ) (first : Session) (told : Option (List Event)) (faults meter : ℕ) → HasMade first [] → Driving own first first told told faults faults meter meter
drives_first own first told faults meter made = record {
  steps = [];
  grown = record { told_steps = []; are_told = inl refl; mid = told; told = tells_nothing IsLegalHere own told; rest = tells_same IsLegalHere own told };
  all = λ next is. refl;
  made = made;
  sees = λ seen next is. seen;
  task = refl;
  later = omega arith;
  faulted = λ asked earlier is. absurd (cc);
  metered = refl;
}

first_reply : (asked other : Op) (reply : Reply) (steps earlier : Steps) → (asked, reply) ∷ steps ≡ (other, Fault) ∷ earlier → reply ≡ Fault
first_reply asked other reply steps earlier is =
    let step : ◌≡◌ {A = Op × Reply} (asked, reply) (other, Fault) = cc in
    ap (λ (step : Op × Reply). step.1) step

risen : (before between after : ℕ) → before ≤ between → Rose between after → Rose before after
risen before between after later rose = omega (arith, rose, later)

-- it makes one more
pub drives_on : (own : List ℕ) (first g now : Session) (asked : Op) (reply : Reply) (old mid new : Option (List Event)) (before between after started meter risen_to : ℕ)
    → Driving own first g old mid before between started meter → g.op ≡ Some asked → TellsStep saved_files own mid new asked reply → GoesOn g reply now → IsKindOf asked reply
    → between ≤ after → (reply ≡ Fault → Rose between after) → risen_to ≡ metered_for (units_of g.task) g.op reply meter
    → Driving own first now old new before after started risen_to
unfolding GoesOn
drives_on own first g now asked reply old mid new before between after started meter risen_to d is answer goes kind later cause metered_is =
    let made : HasMade now ((asked, reply) ∷ d.steps) = goes.1 d.steps asked is kind d.made in
    record {
      steps = (asked, reply) ∷ d.steps;
      grown = grown_step own old mid new asked reply d.steps d.grown (d.all asked is) answer;
      all = λ next asks. all_told own old mid new asked reply d.steps d.grown (d.all asked is) answer (asks_on g now asked next reply d.steps goes.0 d.made is made asks);
      made = made;
      sees = λ seen next asks. sees_more own first.task d.steps mid new asked reply (asks_on g now asked next reply d.steps goes.0 d.made is made asks) (d.sees seen asked is) answer;
      task = goes.0 ∙ d.task;
      later = omega (arith, d.later, later);
      faulted = λ other earlier same. risen before between after d.later (cause (first_reply asked other reply d.steps earlier same));
      metered = metered_is ∙ ap (λ op. metered_for (units_of g.task) op reply meter) is ∙ ap (λ job. metered_for (units_of job) (Some asked) reply meter) d.task
          ∙ ap (λ count. metered_for (units_of first.task) (Some asked) reply count) d.metered;
    }

-- it stops where it asks
pub goes_no_further : (own : List ℕ) (first g : Session) (asked : Op) (old mid new : Option (List Event)) (before between started meter : ℕ)
    → Driving own first g old mid before between started meter → TellsOn IsLegalHere own mid new []
    → (steps : Steps) × HasGone own first.task steps old new
goes_no_further own first g asked old mid new before between started meter d rest = (
  d.steps,
  record {
    grown = grown_later own old mid new d.steps d.grown rest;
    far = subst (λ job. Follows (plan_of job) d.steps) d.task d.made.follows;
  },
)

-- it stops once it was answered
pub goes_so_far : (own : List ℕ) (first g : Session) (asked : Op) (reply : Reply) (old mid new : Option (List Event)) (before between started meter : ℕ)
    → Driving own first g old mid before between started meter → g.op ≡ Some asked → TellsStep saved_files own mid new asked reply
    → (steps : Steps) × HasGone own first.task steps old new
goes_so_far own first g asked reply old mid new before between started meter d is answer = (
  (asked, reply) ∷ d.steps,
  record {
    grown = grown_step own old mid new asked reply d.steps d.grown (d.all asked is) answer;
    far = subst (λ job. Follows (plan_of job) ((asked, reply) ∷ d.steps)) d.task (d.made.follows, ap asks d.made.left ∙ sym d.made.asked ∙ is);
  },
)

-- it has ended
pub has_ended : (own : List ℕ) (first g : Session) (old new : Option (List Event)) (before after started meter : ℕ) → Driving own first g old new before after started meter → g.op ≡ None
    → (steps : Steps) × HasGrown own steps old new × HasEnded g steps before after started meter
has_ended own first g old new before after started meter d ended = (
  d.steps,
  d.grown,
  record { made = d.made; ended = ended; faulted = d.faulted; metered = d.metered ∙ ap (λ job. metered (units_of job) d.steps started) (sym d.task) },
)

-- what it asks for is permitted wherever its steps can be
pub may_ask : (first g : Session) (steps : Steps) (asked : Op) → g.task ≡ first.task → HasMade g steps → g.op ≡ Some asked → AsksPermitted g → CanBe saved_files first.task steps → IsPermitted saved_files first.task steps asked
unfolding AsksPermitted
may_ask first g steps asked task made is permitted can =
    subst (λ job. IsPermitted saved_files job steps asked) task (permitted steps asked made (subst (λ job. CanBe saved_files job steps) (sym task) can) is)
