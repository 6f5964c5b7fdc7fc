-- Directories on the system's files.
use Rattle.std.specs.Prelude.{ℕ, Bool}

-- whether a session runs, and the count of faults
pub record Serving : Type 0 where
  pub runs : Bool
  pub faults : ℕ
