-- The files that stand in the place of standard streams.
use Rattle.std.specs.Prelude.{◌≡◌, ◌⊎◌, ◌≤ℤ◌, pos, Option, IfSome, IsSomeAnd}
use Rattle.std.specs.declared.fs.File.{File}
use Rattle.std.specs.Fd.{file_raw_fd}

-- Where there is a file, its number is that of a standard stream.
abbrev pub IsLow : Option File → Type 0
IsLow file = IfSome file (λ it. file_raw_fd it ≤ℤ pos 2)

-- There is a file, and its number is that of the standard output.
abbrev pub IsOne : Option File → Type 0
IsOne file = IsSomeAnd file (λ it. file_raw_fd it ≡ pos 1)

-- One of three is.
abbrev pub IsOutput : Option File → Option File → Option File → Type 0
IsOutput first second third = IsOne first ⊎ IsOne second ⊎ IsOne third
