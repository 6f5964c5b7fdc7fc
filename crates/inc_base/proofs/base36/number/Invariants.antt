use Rattle.std.proofs.Common.{◌≡◌, ◌^◌, ◌<◌, take}
use Rattle.std.specs.List.{AllPass}
use Rattle.inc_base.specs.Base36.{is_digit36, number36}
use Rattle.inc_base.proofs.base36.number.Given as goal

abbrev pub invariant-loop-byte : goal.invariant-loop-byte
invariant-loop-byte l =
    AllPass is_digit36 (take l.byte-index l.text) × (number36 (take l.byte-index l.text) ≡ l.value) × (l.value < 2 ^ 128)
