-- Which values are kept, and which are counted.
use Rattle.std.specs.Prelude.{ℕ, ◌&&◌, ◌||◌, ◌==◌, nat_le, Bool, false}
use Rattle.inc_query.specs.declared.answer.Answer.{Answer}
use Rattle.inc_query.specs.declared.answer.Answer.TheVariants.{Read, Value}

-- those of kinds 4 to 8, and objects
abbrev pub is_kept : ℕ → Bool
is_kept kind = (nat_le 4 kind && nat_le kind 8) || kind == 10

-- an answer is counted where it is a value of the kind that is counted
abbrev pub is_counted : Bool → Answer → Bool
is_counted counted (Read r) = false
is_counted counted (Value v) = counted
