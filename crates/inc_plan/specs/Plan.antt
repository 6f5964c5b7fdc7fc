-- What is asked of a directory, and how it goes on by each reply. Steps stand newest first.
use Rattle.std.specs.Prelude.{◌≡◌, [], ◌∷◌, Option, Some, None}
use Rattle.inc_fs.specs.declared.op.Op.{Op}
use Rattle.inc_fs.specs.declared.op.Reply.{Reply}
use Rattle.inc_proto.specs.Events.{Steps}

-- an end, or a step and what follows by its reply
pub data Plan (V : Type 0) : Type 0 where
  Give : V → Plan V
  Ask : Op → (Reply → Plan V) → Plan V

-- first one plan, and then by what it gives another
abbrev pub then : {V W : Type 0} → Plan V → (V → Plan W) → Plan W
then (Give v) next = next v
then (Ask op by) next = Ask op (λ reply. then (by reply) next)

-- the step that it asks for, unless it has ended
abbrev pub asks : {V : Type 0} → Plan V → Option Op
asks (Give v) = None
asks (Ask op by) = Some op

-- what is left of it after a reply
abbrev pub fed : {V : Type 0} → Plan V → Reply → Plan V
fed (Give v) reply = Give v
fed (Ask op by) reply = by reply

-- what is left of it after these steps
abbrev pub after : {V : Type 0} → Plan V → Steps → Plan V
after plan [] = plan
after plan (step ∷ steps) = fed (after plan steps) step.1

-- each of these steps is the one that it asks for at its place
abbrev pub Follows : {V : Type 0} → Plan V → Steps → Type 0
Follows plan [] = Unit {0}
Follows plan (step ∷ steps) = Follows plan steps × (asks (after plan steps) ≡ Some step.0)

-- by these steps, whole, the plan comes to this end
pub record Ends {V : Type 0} (plan : Plan V) (steps : Steps) (v : V) : Type 0 where
  pub follows : Follows plan steps
  pub ended : after plan steps ≡ Give v

-- The rules by which steps are judged: which lists of own steps with their replies can stand in a history, and which
-- step is permitted after them.
pub record Judge : Type 1 where
  pub CanBe : Steps → Type 0
  pub May : Steps → Op → Type 0

-- Wherever its steps can be, each step that it asks for is permitted, and where it ends its end fits them.
abbrev pub Safe : {V : Type 0} → Judge → (V → Steps → Type 0) → Plan V → Steps → Type 0
Safe judge Fits (Give v) steps = Fits v steps
Safe judge Fits (Ask op by) steps =
    judge.May steps op × ((reply : Reply) → judge.CanBe ((op, reply) ∷ steps) → Safe judge Fits (by reply) ((op, reply) ∷ steps))

-- the steps before these can be too
abbrev pub IsClosed : Judge → Type 0
IsClosed judge = (step : Op × Reply) (steps : Steps) → judge.CanBe (step ∷ steps) → judge.CanBe steps
