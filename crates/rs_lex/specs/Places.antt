-- Where the byte stands that comes after some others.
use Rattle.std.specs.Prelude.{ℕ, ◌+◌, ◌==◌, not, Bool, List, [], ◌∷◌, if◌then◌else◌, count_by}
use Rattle.std.specs.List.{suffix_len}
use Rattle.rs_tree.specs.declared.place.At.{At}

abbrev pub is_line_feed : ℕ → Bool
is_line_feed b = b == 10

-- a line is 1 and the line feeds before, a column 1 and the bytes since the last line feed
abbrev pub place_of : List ℕ → At
place_of before = record {
  line = 1 + count_by is_line_feed before;
  column = 1 + suffix_len (λ b. not (is_line_feed b)) before;
}

-- the place after some bytes that begin at a place
abbrev pub place_after : At → List ℕ → At
place_after at [] = at
place_after at (b ∷ bs) = place_after (if is_line_feed b then record { line = at.line + 1; column = 1 } else record { line = at.line; column = at.column + 1 }) bs
