-- The lines of diagnostics: their order, and how they are printed (docs/LANGUAGE.md, "Diagnostics").
use Rattle.std.specs.Prelude.{ℕ, ◌+◌, ◌==◌, ◌||◌, Bool, false, not, nat_lt, codes, decimal, if◌then◌else◌, List, [], ◌∷◌, ◌++◌, fold}
use Rattle.std.specs.declared.cmp.Ordering.{Ordering}
use Rattle.std.specs.BTreeSet.{insert_key}
use Rattle.std.specs.List.{flat_map, list_any}
use Rattle.std.specs.Ordering.{nat_cmp, on, then_cmp}
use Rattle.rs_tree.specs.declared.answers.Diag.{Diag}
use Rattle.rs_tree.specs.declared.place.At.{At}
use Rattle.rs_tree.specs.Order.{text_cmp}
use Rattle.rs_lines.specs.declared.line.Line.{Line}

-- ---- The order of lines.

-- by line, then by column, then by number, then by text
abbrev pub line_cmp : Line → Line → Ordering
line_cmp = then_cmp (on (λ l. l.line) nat_cmp) (then_cmp (on (λ l. l.column) nat_cmp) (then_cmp (on (λ l. l.code) nat_cmp) (on (λ l. l.text) text_cmp)))

-- in this order, each once
abbrev pub in_order : List Line → List Line
in_order ls = fold (insert_key line_cmp) [] ls

-- ---- Errors and warnings.

-- the numbers from 200 on are those of warnings
abbrev pub is_warning : ℕ → Bool
is_warning code = nat_lt 199 code

abbrev pub has_error : List Line → Bool
has_error ls = list_any (λ (l : Line). not (is_warning l.code)) ls

-- ---- What a line says, printed.

abbrev pub kind_text : ℕ → List ℕ
kind_text code = if is_warning code then codes "warning[W" else codes "error[E"

-- what stands before a number so that it has three digits
abbrev pub padding : ℕ → List ℕ
padding code = if nat_lt code 10 then codes "00" else if nat_lt code 100 then codes "0" else []

-- the kind and the number, the place, the text, and a line feed
abbrev pub printed : Line → List ℕ
printed l = kind_text l.code ++ padding l.code ++ decimal l.code ++ codes "] " ++ decimal l.line ++ codes ":" ++ decimal l.column ++ codes ": " ++ l.text ++ 10 ∷ []

abbrev pub printed_all : List Line → List ℕ
printed_all ls = flat_map printed ls

-- ---- The line of a diagnostic.

-- the column of a place that is relative to an item, which begins at `base`: on the item's first line it counts from
-- there, and on a later line it is the plain column
abbrev pub column_of : At → At → ℕ
column_of base at = if at.line == 0 then base.column + at.column else at.column

-- a diagnostic of an item that begins at `base`
abbrev pub line_of : At → Diag → Line
line_of base d = record {
  line = base.line + d.at.line;
  column = column_of base d.at;
  code = d.code;
  text = d.text;
}

-- ---- Lines that are told of one by one.

-- the lines so far, in order, each once, and whether one of them is an error's
pub record Told : Type 0 where
  pub lines : List Line
  pub errors : Bool

abbrev pub note : Told → Line → Told
note t l = record { lines = insert_key line_cmp t.lines l; errors = t.errors || not (is_warning l.code) }

abbrev pub told : List Line → Told
told ls = fold note (record { lines = []; errors = false }) ls
