-- What the sessions of these tests are to publish: a table of three jobs, told apart by how long their texts are.
use Rattle.std.specs.Prelude.{ℕ, ◌==◌, List, [], ◌∷◌, Option, Some, None, if◌then◌else◌, length, codes}
use Rattle.inc_base.specs.declared.job.Job.{Job}
use Rattle.inc_fs.specs.Paths.{Text}

-- what a text of one byte is to publish
abbrev pub one : List (Text × Text)
one = (codes "f", codes "one") ∷ []

-- what a text of two bytes is to publish
abbrev pub two : List (Text × Text)
two = (codes "f", codes "one") ∷ (codes "g", codes "two") ∷ []

-- any other text has an error
abbrev pub by_length : ℕ → Option (List (Text × Text))
by_length n = if n == 2 then Some two else if n == 1 then Some one else None

abbrev pub fixed : Job → Option (List (Text × Text))
fixed job = by_length (length job.text)

-- no digest is taken here
abbrev pub IsClear : List Job → Type 0
IsClear jobs = Unit {0}
