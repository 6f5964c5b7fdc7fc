-- Lines that are told of one by one are those lines in order, each once; more lines are told of after them.
use Rattle.std.specs.Prelude.{◌≡◌, ◌||◌, Bool, List, [], ◌∷◌, ◌++◌, fold, true, false, not}
use Rattle.std.proofs.Common.{refl, ◌∙◌}
use Rattle.std.proofs.Math.Bool.{or_assoc}
use Rattle.std.specs.BTreeSet.{insert_key}
use Rattle.rs_lines.specs.Lines.{Told, has_error, in_order, is_warning, line_cmp, note, told}
use Rattle.rs_lines.specs.declared.line.Line.{Line}

lines_after : (t : Told) (ls : List Line) → (fold note t ls).lines ≡ fold (insert_key line_cmp) t.lines ls
lines_after t [] = refl
lines_after t (l ∷ ls) = lines_after (note t l) ls

or_nothing : (b : Bool) → b ≡ (b || false)
or_nothing true = refl
or_nothing false = refl

errors_after : (t : Told) (ls : List Line) → (fold note t ls).errors ≡ (t.errors || has_error ls)
errors_after t [] = or_nothing t.errors
errors_after t (l ∷ ls) = errors_after (note t l) ls ∙ or_assoc t.errors (not (is_warning l.code)) (has_error ls)

more_after : (t : Told) (ls later : List Line) → fold note t (ls ++ later) ≡ fold note (fold note t ls) later
more_after t [] later = refl
more_after t (l ∷ ls) later = more_after (note t l) ls later

none : Told
none = record { lines = []; errors = false }

pub told_lines : (ls : List Line) → (told ls).lines ≡ in_order ls
unfolding none
told_lines ls = lines_after none ls

pub told_errors : (ls : List Line) → (told ls).errors ≡ has_error ls
unfolding none
told_errors ls = errors_after none ls

pub told_more : (ls later : List Line) → told (ls ++ later) ≡ fold note (told ls) later
unfolding none
told_more ls later = more_after none ls later
