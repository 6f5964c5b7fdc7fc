-- What was drawn in a history.
use Rattle.std.specs.Prelude.{ℕ, Bool, true, false, List, [], ◌∷◌}
use Rattle.inc_fs.specs.declared.op.Op.{Op}
use Rattle.inc_fs.specs.declared.op.Op.TheVariants.{Draw}
use Rattle.inc_fs.specs.declared.op.Reply.{Reply}
use Rattle.inc_fs.specs.declared.op.Reply.TheVariants.{Drawn}
use Rattle.inc_proto.specs.declared.event.Event.{Event}
use Rattle.inc_proto.specs.declared.event.Event.TheVariants.{Begin, Did, Left}

-- the drawn pairs with one more, where this was a draw
abbrev pub drawn_by : Op → Reply → List (ℕ × ℕ) → List (ℕ × ℕ)
drawn_by Draw (Drawn moment random) pairs = (moment, random) ∷ pairs
drawn_by op reply pairs = pairs

-- the pairs that were drawn, whoever drew them, the latest first
abbrev pub drawn_in : List Event → List (ℕ × ℕ)
drawn_in [] = []
drawn_in (Begin number job ∷ events) = drawn_in events
drawn_in (Did number op reply ∷ events) = drawn_by op reply (drawn_in events)
drawn_in (Left number op cut ∷ events) = drawn_in events

-- whether this step is a draw that was answered by a pair
abbrev pub is_draw : Op → Reply → Bool
is_draw Draw (Drawn moment random) = true
is_draw op reply = false

abbrev pub is_drawing : Event → Bool
is_drawing (Begin number job) = false
is_drawing (Did number op reply) = is_draw op reply
is_drawing (Left number op cut) = false
