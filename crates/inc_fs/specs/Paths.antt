-- Texts and paths, and the order that they stand in.
use Rattle.std.specs.Prelude.{ℕ, nat_eq, if◌then◌else◌, List, [], ◌∷◌}
use Rattle.std.specs.Ordering.{nat_cmp, ordering_then}
use Rattle.std.specs.declared.cmp.Ordering.{Ordering}
use Rattle.std.specs.Cmp.Lexicographic.{pointwise, slice_cmp}

-- the bytes of a label, or of a file
abbrev pub Text : Type 0
Text = List ℕ

-- where an entry stands: the crate directory's name, and its own
abbrev pub Path : Type 0
Path = Text × Text

-- labels are ordered by their bytes
abbrev pub text_cmp : Text → Text → Ordering
text_cmp = slice_cmp nat_cmp

-- paths are ordered by the crate directory, and then by the entry
abbrev pub path_cmp : Path → Path → Ordering
path_cmp x y = ordering_then (text_cmp x.0 y.0) (text_cmp x.1 y.1)

-- of these paths, the entries' names in one crate directory
abbrev pub names_in : Text → List Path → List Text
names_in krate [] = []
names_in krate (path ∷ paths) = if pointwise nat_eq path.0 krate then path.1 ∷ names_in krate paths else names_in krate paths
