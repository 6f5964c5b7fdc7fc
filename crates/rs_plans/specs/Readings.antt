-- What values of queries are read as: functions of their bytes (docs/FORMATS.md, "Queries"). None where they aren't in their form,
-- or, of an item and of an intermediate form, where there is none.
use Rattle.std.specs.Prelude.{ℕ, ◌^◌, ◌-◌, ◌&&◌, ◌||◌, ◌==◌, Bool, true, nat_lt, List, [], ◌∷◌, Option, Some, None, Result, Ok, Err, if◌then◌else◌, option_and_then}
use Rattle.std.specs.Option.{is_some}
use Rattle.std.specs.List.{list_all}
use Rattle.rs_tree.specs.Kinds.{kind_of}
use Rattle.rs_tree.specs.Labels.{count_of_places}
use Rattle.rs_tree.specs.declared.place.At.{At}
use Rattle.rs_tree.specs.declared.place.Place.{Place}
use Rattle.rs_tree.specs.declared.token.Token.{Token}
use Rattle.rs_tree.specs.declared.answers.Const.{Const}
use Rattle.rs_tree.specs.declared.index.Index.{Index}
use Rattle.rs_tree.specs.declared.index.Sig.{Sig}
use Rattle.rs_tree.specs.declared.ir.Ir.{Ir}
use Rattle.rs_tree.specs.declared.ir.Instr.{Instr}
use Rattle.rs_tree.specs.declared.ir.Instr.TheVariants as i
use Rattle.rs_tree.specs.declared.tree.Crate.{Crate}
use Rattle.rs_tree.specs.declared.tree.Item.{Item}
use Rattle.rs_tree.specs.declared.tree.Placed.{Placed}
use Rattle.rs_grammar.specs.Lexed.{first_or}
use Rattle.rs_grammar.specs.declared.fault.SyntaxFault.{SyntaxFault}
use Rattle.rs_text.specs.Text.{parsed}
use Rattle.rs_forms.proofs.Readers.{forms_are_answered}
use Rattle.rs_answers.proofs.Seeks.{answers_are_answered}
use Rattle.rs_plans.specs.Names.{is_index, are_places}

-- where it passes
abbrev pub passed : {X : Type 0} → (X → Bool) → Option X → Option X
passed test None = None
passed test (Some x) = if test x then Some x else None

-- an index, whose names are those of queries
unfoldable pub index_in : List ℕ → Option Index
index_in bytes = passed is_index (forms_are_answered.index bytes).0

-- places of items, each once
unfoldable pub places_in : List ℕ → Option (List Place)
places_in bytes = passed are_places (answers_are_answered.places bytes).0

unfoldable pub sig_in : List ℕ → Option Sig
sig_in bytes = (forms_are_answered.sig bytes).0

unfoldable pub const_in : List ℕ → Option Const
const_in bytes = (answers_are_answered.constant bytes).0

-- ---- An item: tokens that can be a text's, and that are one item.

-- a text's last place
abbrev pub last_place : At
last_place = record { line = 2 ^ 32 - 1; column = 2 ^ 32 - 1 }

abbrev pub is_before : At → At → Bool
is_before a b = nat_lt a.line b.line || (a.line == b.line && nat_lt a.column b.column)

-- the text of each is a token, and each begins before the next, the last one before a text's last place
abbrev pub are_lexed : List Token → Bool
are_lexed [] = true
are_lexed (t ∷ ts) = (is_some (kind_of t.text) && is_before t.at (first_or last_place ts)) && are_lexed ts

-- the one item of a text without modules
abbrev pub one_item : List (List ℕ) → List Placed → Option Item
one_item [] (p ∷ []) = Some p.item
one_item ms ps = None

abbrev pub item_by : Result Crate SyntaxFault → Option Item
item_by (Ok tree) = one_item tree.modules tree.items
item_by (Err fault) = None

abbrev pub item_of : List Token → Option Item
item_of tokens = if are_lexed tokens then item_by (parsed tokens last_place) else None

unfoldable pub item_in : List ℕ → Option Item
item_in bytes = option_and_then item_of (forms_are_answered.tokens bytes).0

-- ---- An intermediate form: each label that a jump names has exactly one place.

abbrev pub has_label : List Instr → Instr → Bool
has_label code (i.Push value) = true
has_label code (i.Load slot) = true
has_label code (i.Store slot) = true
has_label code (i.Plain c) = true
has_label code (i.Jump c label) = count_of_places label code == 1
has_label code (i.Label label) = true
has_label code (i.Call inline place) = true

abbrev pub has_labels : Ir → Bool
has_labels ir = list_all (has_label ir.code) ir.code

unfoldable pub ir_in : List ℕ → Option Ir
ir_in bytes = passed has_labels (forms_are_answered.ir bytes).0
