use Rattle.std.proofs.Common.{◌≡◌, ◌+◌, ◌-◌, ◌<◌, ◌^◌, length, drop}
use Rattle.rs_lex.specs.Places.{place_after}
use Rattle.rs_lex.proofs.place.place_after.Given as goal

abbrev pub invariant-loop-byte : goal.invariant-loop-byte
invariant-loop-byte l =
    (l.place.line + (length l.bytes - l.byte-index) < 2 ^ 32) × (l.place.column + (length l.bytes - l.byte-index) < 2 ^ 32)
    × (place_after l.place (drop l.byte-index l.bytes) ≡ place_after l.fn.at l.bytes)
