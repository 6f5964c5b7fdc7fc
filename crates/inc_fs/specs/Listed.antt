-- Where the entries of a crate directory begin among all paths.
use Rattle.std.specs.Prelude.{List, [], ◌∷◌}
use Rattle.std.specs.List.{AllByRecursion}
use Rattle.inc_base.specs.Texts.{IsLabel}
use Rattle.inc_fs.specs.Paths.{Text, Path}

-- each entry is named by a label
abbrev pub AreNamed : List Path → Type 0
AreNamed paths = AllByRecursion (λ path. IsLabel path.1) paths

-- `-`, which is before each other label
abbrev pub least_label : Text
least_label = 45 ∷ []

-- the path before which no entry of a crate directory stands
abbrev pub first_path : Text → Path
first_path krate = (krate, least_label)
