-- How the process ends once the top call has ended.
use Rattle.std.specs.Prelude.{◌≡◌, ◌⊎◌, ℕ}

-- It ends with the status of the call; only in the place of 0 there may be 4, that of a sink that failed.
abbrev pub EndsAs : ℕ → ℕ → Type 0
EndsAs code ended = (ended ≡ code) ⊎ ((code ≡ 0) × (ended ≡ 4))
