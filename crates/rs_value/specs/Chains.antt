-- Chains of `&&` and `||`, one part more.
use Rattle.std.specs.Prelude.{ℤ, pos, not, if◌then◌else◌, Ok}
use Rattle.rs_value.specs.Value.{Outcome, and_then, is_zero, number_of}

abbrev pub truth_of : ℤ → Outcome
truth_of v = Ok (number_of (not (is_zero v)))

abbrev pub also : Outcome → Outcome → Outcome
also so_far next = and_then so_far (λ a. if is_zero a then Ok (pos 0) else and_then next truth_of)

abbrev pub either : Outcome → Outcome → Outcome
either so_far next = and_then so_far (λ a. if is_zero a then and_then next truth_of else Ok (pos 1))
