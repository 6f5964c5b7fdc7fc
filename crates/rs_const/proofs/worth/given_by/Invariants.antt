use Rattle.std.proofs.Common.{◌≡◌, take}
use Rattle.rs_const.specs.Constants.{given_by}
use Rattle.rs_const.specs.State.{number_at}
use Rattle.rs_const.proofs.worth.given_by.Given as goal

abbrev pub invariant-loop-answer : goal.invariant-loop-answer
invariant-loop-answer l = l.given.items ≡ given_by (number_at l.values) l.places (take l.answer-index l.found)
