-- The diagnostics of a text (docs/LANGUAGE.md, "Diagnostics"), said of its tree: nothing here speaks of the order of the work.
use Rattle.std.specs.Prelude.{◌≡◌, ℕ, Bool, codes, if◌then◌else◌, List, [], ◌∷◌, ◌++◌, map, Option, Some, None, Ok, Err}
use Rattle.std.specs.List.{list_any, flat_map}
use Rattle.std.specs.Option.{option_map_or}
use Rattle.rs_tree.specs.declared.place.At.{At}
use Rattle.rs_tree.specs.declared.place.Place.{Place}
use Rattle.rs_tree.specs.declared.answers.Const.{Const}
use Rattle.rs_tree.specs.declared.index.IndexItem.{IndexItem}
use Rattle.rs_tree.specs.declared.index.Sig.{Sig}
use Rattle.rs_tree.specs.declared.tree.Crate.{Crate}
use Rattle.rs_tree.specs.Plain.{definition, plain_item}
use Rattle.rs_text.specs.Text.{text_of}
use Rattle.rs_text.specs.declared.fault.TextFault.{TextFault}
use Rattle.rs_text.specs.declared.fault.TextFault.TheVariants as text
use Rattle.rs_lookup.specs.Places.{Name, same, place_name}
use Rattle.rs_names.specs.Resolved.{item_at}
use Rattle.rs_reach.specs.Calls.{calls_in}
use Rattle.rs_reach.specs.Dead.{dead_of, is_function}
use Rattle.rs_diag.specs.Faults.{diag}
use Rattle.rs_diag.specs.Faults.Wrong.{Dead, NoMain}
use Rattle.rs_lines.specs.Lines.{has_error, in_order, line_of, printed, printed_all}
use Rattle.rs_lines.specs.declared.line.Line.{Line}
use Rattle.rs_check.specs.Items.{item_wrongs, lines}
use Rattle.rs_const.specs.Constants.{Entry, AreValues}
use Rattle.rs_queries.specs.Known.{Answered, all_answered, constants_of, items_of, place_of, sigs_of, value_at}

-- ---- The fault of a text: one line.

abbrev pub line_at : At → ℕ → List ℕ → Line
line_at at code words = record { line = at.line; column = at.column; code = code; text = words }

abbrev pub fault_line : TextFault → Option Line
fault_line (text.Byte at) = Some (line_at at 1 (codes "unexpected byte"))
fault_line (text.Nesting at) = Some (line_at at 2 (codes "nesting over 64"))
fault_line (text.Syntax at) = Some (line_at at 3 (codes "syntax error"))
fault_line (text.Twice at name) = Some (line_at at 4 (codes "`" ++ name ++ codes "` is defined twice"))
fault_line text.Memory = None

-- ---- Errors, and warnings of locals.

-- the root has a function `main`
abbrev pub has_main : List IndexItem → Bool
has_main items = option_map_or is_function (item_at ([], codes "main") items) Bool.false

-- where it has none, this is told at the text's first place
abbrev pub main_lines : List IndexItem → List Line
main_lines items =
    if has_main items then [] else line_of (record { line = 1; column = 1 }) (diag (record { line = 0; column = 0 }) NoMain) ∷ []

-- what is wrong with an item, at its place
abbrev pub item_lines : List IndexItem → List (Place × Sig) → Option Const → Answered → List Line
item_lines items sigs value a =
    map (line_of a.0.start) (lines (item_wrongs items sigs a.0.«module» a.1 value (plain_item a.0.item)))

-- of all items; each constant has its value
abbrev pub all_item_lines : List IndexItem → List (Place × Sig) → List Entry → List Const → List Answered → List Line
all_item_lines items sigs constants values all =
    flat_map (λ (a : Answered). item_lines items sigs (value_at constants values (place_of a.0)) a) all

abbrev pub own_lines : List IndexItem → List (Place × Sig) → List Entry → List Const → List Answered → List Line
own_lines items sigs constants values all = main_lines items ++ all_item_lines items sigs constants values all

-- ---- Functions that are never used.

-- what an item calls
abbrev pub calls_of : List IndexItem → Answered → Place × List Place
calls_of items a = (place_of a.0, calls_in items (definition a.0.item.body) a.1)

abbrev pub is_among : List Name → Name → Bool
is_among names q = list_any (same q) names

-- an item that is never used, at its name
abbrev pub dead_line : List Name → Answered → List Line
dead_line dead a =
    if is_among dead (place_name (place_of a.0)) then line_of a.0.start (diag a.0.item.at (Dead a.0.item.name)) ∷ [] else []

abbrev pub dead_lines : List IndexItem → List Answered → List Line
dead_lines items all = flat_map (dead_line (map place_name (dead_of items (map (calls_of items) all)))) all

-- ---- The lines of a tree.

-- those of functions that are never used only where there is no error
abbrev pub all_lines : List IndexItem → List (Place × Sig) → List Entry → List Const → List Answered → List Line
all_lines items sigs constants values all =
    let own = own_lines items sigs constants values all in
    own ++ (if has_error own then [] else dead_lines items all)

-- in order, each once; `values` has the values of the constants
abbrev pub tree_lines : Crate → List Const → List Line
tree_lines krate values = in_order (all_lines (items_of krate) (sigs_of krate) (constants_of krate) values (all_answered krate))

-- what is printed says the lines of the tree, whose constants have their values
pub record SaysTree (krate : Crate) (out : List ℕ) : Type 0 where
  pub values : List Const
  pub are : AreValues (constants_of krate) values
  pub says : out ≡ printed_all (tree_lines krate values)

-- what is printed is the line of the fault
pub record SaysFault (fault : TextFault) (out : List ℕ) : Type 0 where
  pub line : Line
  pub is : fault_line fault ≡ Some line
  pub says : out ≡ printed line

-- What is so of a text: this of its fault, where it has one, and that of its tree.
pub record OfText (bytes : List ℕ) (F : TextFault → Type 0) (T : Crate → Type 0) : Type 0 where
  pub fault : (f : TextFault) → text_of bytes ≡ Err f → F f
  pub tree : (krate : Crate) → text_of bytes ≡ Ok krate → T krate

-- The diagnostics of a text: the line of its fault, or the lines of its tree.
abbrev pub IsDiagnosis : List ℕ → List ℕ → Type 0
IsDiagnosis bytes out = OfText bytes (λ f. SaysFault f out) (λ krate. SaysTree krate out)
