-- The bytes of constants' values, of diagnostics and of lists of places.
use Rattle.std.specs.Prelude.{ℕ, List, [], ◌++◌}
use Rattle.std.specs.Int.{cast_unsigned, w64}
use Rattle.inc_wire.specs.Forms.{flag_of, list_form, number_form, text_form}
use Rattle.rs_forms.specs.Forms.{place_form}
use Rattle.rs_tree.specs.declared.answers.Const.{Const}
use Rattle.rs_tree.specs.declared.answers.Const.TheVariants as k
use Rattle.rs_tree.specs.declared.answers.Diag.{Diag}
use Rattle.rs_tree.specs.declared.place.Place.{Place}

-- why a constant has no value; 0 where it has one
abbrev pub why_code : Const → ℕ
why_code (k.Int v) = 0
why_code (k.Bool b) = 0
why_code k.Cycle = 1
why_code k.Overflow = 2
why_code k.DivZero = 3
why_code k.Bad = 4

-- a value: its type in one byte, and itself in eight, a truth value as 1 or 0
abbrev pub value_form : Const → List ℕ
value_form (k.Int v) = number_form 1 1 ++ number_form 8 (cast_unsigned w64 v)
value_form (k.Bool b) = number_form 1 2 ++ number_form 8 (flag_of b)
value_form k.Cycle = []
value_form k.Overflow = []
value_form k.DivZero = []
value_form k.Bad = []

-- a constant: why it has no value, in one byte, and its value where it has one
abbrev pub const_form : Const → List ℕ
const_form c = number_form 1 (why_code c) ++ value_form c

-- a diagnostic: the lines after the item's first and the column, each in four bytes, the number in two, and the text
abbrev pub diag_form : Diag → List ℕ
diag_form d = number_form 4 d.at.line ++ (number_form 4 d.at.column ++ (number_form 2 d.code ++ text_form d.text))

abbrev pub diags_form : List Diag → List ℕ
diags_form ds = list_form diag_form ds

-- places: each its module and its name
abbrev pub places_form : List Place → List ℕ
places_form ps = list_form place_form ps
