use Rattle.std.proofs.Common.{◌≡◌, take}
use Rattle.rs_const.specs.Constants.{named_by}
use Rattle.rs_const.proofs.known.named_by.Given as goal

abbrev pub invariant-loop-answer : goal.invariant-loop-answer
invariant-loop-answer l = l.its.items ≡ named_by l.places (take l.answer-index l.found)
