-- How long a handle has held its lock.
use Rattle.std.specs.Prelude.{ℕ, reverse, drop, Option}
use Rattle.std.specs.Option.{option_map}
use Rattle.inc_proto.specs.Events.{Steps}

-- the steps from there on, the newest first
abbrev pub tail_at : Steps → Option ℕ → Option Steps
tail_at xs from = option_map (λ from. reverse (drop from xs)) from
