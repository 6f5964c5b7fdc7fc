-- The states that a history leads to.
use Rattle.std.specs.Prelude.{◌≡◌, ◌<◌, ◌^◌, ℕ, List, [], ◌∷◌, Option, Some, None}
use Rattle.inc_fs.specs.State.{State, start, end_of}
use Rattle.inc_fs.specs.Step.{Step, cut_short}
use Rattle.inc_fs.specs.declared.op.Op.{Op}
use Rattle.inc_proto.specs.declared.event.Event.{Event}
use Rattle.inc_proto.specs.declared.event.Event.TheVariants.{Begin, Did, Left}
use Rattle.inc_proto.specs.Events.{begins}

-- the state in which a session stops: between two steps, or within an append, which has added some of its first bytes
abbrev pub stopped : State → Option Op → ℕ → State
stopped F None cut = F
stopped F (Some op) cut = cut_short F op cut

-- After these events, an event leads from F to G: a beginning has the next number, which is below 2^32, and changes
-- nothing, a step is one of the table, and a leaving ends its session.
abbrev pub Happens : List Event → State → Event → State → Type 0
Happens events F (Begin number job) G = (number ≡ begins events) × (G ≡ F) × (number < 2 ^ 32)
Happens events F (Did number op reply) G = Step F number op reply G
Happens events F (Left number op cut) G = G ≡ end_of (stopped F op cut) number

-- The events, the newest first, lead to this state: none lead to the empty one, and each leads on.
abbrev pub LeadsTo : List Event → State → Type 0
LeadsTo [] G = G ≡ start
LeadsTo (event ∷ events) G = (F : State) × LeadsTo events F × Happens events F event G

-- a history that can have happened: it leads to a state
pub record IsPossible (events : List Event) : Type 0 where
  pub state : State
  pub leads : LeadsTo events state
