-- How a count rises.
use Rattle.std.specs.Prelude.{ℕ, Bool, if◌then◌else◌}
use Rattle.inc_base.specs.Meters.{raised}
use Rattle.inc_query.specs.declared.answer.Answer.{Answer}
use Rattle.inc_query.specs.declared.answer.Answer.TheVariants.{Read, Value}

-- a count after so many ticks
unfoldable pub rise : ℕ → ℕ → ℕ
rise count more = raised count more

-- an answer ticks where it is a value of the kind that is counted
abbrev pub ticks : Bool → Answer → ℕ
ticks counted (Read r) = 0
ticks counted (Value v) = if counted then 1 else 0
