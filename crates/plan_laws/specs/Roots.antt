-- What the roots of a build give, as the definitions of the clean build have it, and what is told of a text with a fault.
use Rattle.std.specs.Prelude.{◌≡◌, ℕ, Bool, false, codes, List, ◌++◌, map, Option, Some, None}
use Rattle.std.specs.List.{AllByRecursion}
use Rattle.inc_query.specs.declared.query.Query.{Query}
use Rattle.rs_tree.specs.declared.answers.Const.{Const}
use Rattle.rs_tree.specs.declared.answers.Diag.{Diag}
use Rattle.rs_tree.specs.declared.index.IndexFault.{IndexFault}
use Rattle.rs_tree.specs.declared.index.TextFault.{TextFault as Code}
use Rattle.rs_tree.specs.declared.index.TextFault.TheVariants as code
use Rattle.rs_tree.specs.declared.place.At.{At}
use Rattle.rs_tree.specs.declared.tree.Crate.{Crate}
use Rattle.rs_tree.specs.declared.tree.Placed.{Placed}
use Rattle.rs_tree.specs.Plain.{definition, plain_item}
use Rattle.rs_forms.specs.Fits.{FitsFault, FitsIr}
use Rattle.rs_forms.proofs.Readers.{forms_are_answered}
use Rattle.rs_answers.specs.Fits.{FitsConst, FitsDiags}
use Rattle.rs_answers.specs.Forms.{diags_form}
use Rattle.rs_lines.specs.Lines.{has_error, printed}
use Rattle.rs_lines.specs.declared.line.Line.{Line}
use Rattle.rs_check.specs.Items.{item_wrongs, lines}
use Rattle.rs_const.specs.Constants.{AreValues}
use Rattle.rs_units.specs.Units.{units_of}
use Rattle.rs_object.specs.Fits.{FitsObject}
use Rattle.rs_object.specs.Forms.{object_form}
use Rattle.rs_object.specs.declared.object.Object.{Object}
use Rattle.rs_emit.specs.Objects.{object_of}
use Rattle.rs_queries.specs.Built.{consts_of, form_of, members_in, tree_index}
use Rattle.rs_queries.specs.Diagnosed.{OfText, calls_of, line_at, own_lines}
use Rattle.rs_queries.specs.Known.{all_answered, answered, constants_of, items_of, place_of, sigs_of, value_at}
use Rattle.rs_queries.specs.declared.compiled.Compiled.{Compiled}
use Rattle.rs_plans.specs.Plans.{index_fault, is_constant}
use Rattle.rs_plans.specs.Steps.{query, whole}
use Rattle.plan_laws.specs.Assembled.{IsAssembled, object_query}
use Rattle.plan_laws.specs.Texts.{HasCrate}
use Rattle.plan_laws.specs.Whole.{HasItems}

-- ---- What the clean build says of a tree whose constants have these values.

-- what is wrong with an item, in order, each once
abbrev pub wrongs_of : Crate → List Const → Placed → List Diag
wrongs_of krate values p =
    lines (item_wrongs (items_of krate) (sigs_of krate) p.«module» (answered (items_of krate) p).1 (value_at (constants_of krate) values (place_of p)) (plain_item p.item))

-- a line is an error's
abbrev pub has_wrong : Crate → List Const → Bool
has_wrong krate values = has_error (own_lines (items_of krate) (sigs_of krate) (constants_of krate) values (all_answered krate))

-- the object of a unit
abbrev pub unit_object : Crate → ℕ → List Const → List ℕ → Object
unit_object krate level values unit =
    object_of unit (members_in (items_of krate) (map (calls_of (items_of krate)) (all_answered krate)) (map (form_of level (sigs_of krate) (consts_of (constants_of krate) values)) (all_answered krate)) unit)

-- ---- Values of queries that are these.

-- what is wrong with an item, in the ranges of its types
pub record GivesDiags (v : Query → List ℕ) (krate : Crate) (values : List Const) (p : Placed) : Type 0 where
  pub is : v (query 5 (place_of p)) ≡ diags_form (wrongs_of krate values p)
  pub fits : FitsDiags (wrongs_of krate values p)

-- a unit's object, in the ranges of its types
pub record GivesObject (v : Query → List ℕ) (krate : Crate) (level : ℕ) (values : List Const) (unit : List ℕ) : Type 0 where
  pub is : v (object_query unit) ≡ object_form (unit_object krate level values unit)
  pub fits : FitsObject (unit_object krate level values unit)

-- the constants have these values, each item's check gives what is wrong with it, and each unit's object is given where no line is an error's
pub record GiveRoots (v : Query → List ℕ) (krate : Crate) (level : ℕ) (values : List Const) : Type 0 where
  pub are : AreValues (constants_of krate) values
  pub checks : AllByRecursion (GivesDiags v krate values) krate.items
  pub objects : has_wrong krate values ≡ false → AllByRecursion (GivesObject v krate level values) (units_of (tree_index krate))

-- ---- The ranges of what the clean build says.

-- a function's form is in the ranges of its types
abbrev pub FitsForm : Crate → ℕ → List Const → Placed → Type 0
FitsForm krate level values p = is_constant (definition p.item.body) ≡ false → FitsIr (form_of level (sigs_of krate) (consts_of (constants_of krate) values) (answered (items_of krate) p)).1

-- What is wrong with items, and the values of constants are in the ranges of their types; and where no line is an error's, so are the forms of functions and the objects
-- of units.
pub record FitsClean (krate : Crate) (level : ℕ) (values : List Const) : Type 0 where
  pub constants : AllByRecursion FitsConst values
  pub diags : AllByRecursion (λ p. FitsDiags (wrongs_of krate values p)) krate.items
  pub forms : has_wrong krate values ≡ false → AllByRecursion (FitsForm krate level values) krate.items
  pub objects : has_wrong krate values ≡ false → AllByRecursion (λ u. FitsObject (unit_object krate level values u)) (units_of (tree_index krate))

-- a text's tree, which is in the ranges of its types
pub record IsRooted (v : Query → List ℕ) (bytes : List ℕ) (level : ℕ) (krate : Crate) : Type 0 where
  pub whole : HasCrate bytes krate
  pub items : HasItems krate
  pub values : List Const
  pub give : GiveRoots v krate level values

-- ---- A text with a fault. Its one root is the index.

-- the fault that an index's value is read as
unfoldable pub fault_in : List ℕ → Option IndexFault
fault_in bytes = (forms_are_answered.fault bytes).0

-- the line of a fault, by its code
abbrev pub told_by_code : At → List ℕ → Code → Line
told_by_code at name code.Byte = line_at at 1 (codes "unexpected byte")
told_by_code at name code.Nesting = line_at at 2 (codes "nesting over 64")
told_by_code at name code.Syntax = line_at at 3 (codes "syntax error")
told_by_code at name code.Twice = line_at at 4 (codes "`" ++ name ++ codes "` is defined twice")

abbrev pub fault_told : IndexFault → Line
fault_told fault = told_by_code fault.at fault.name fault.code

-- What is compiled of it by the index's value: the line of the fault that it is read as, printed; no unit, and nothing built.
pub record IsFaultAssembled (v : Query → List ℕ) (c : Compiled) : Type 0 where
  pub fault : IndexFault
  pub read : fault_in (v (whole 1)) ≡ Some fault
  pub says : c.diags ≡ printed (fault_told fault)
  pub units : c.units ≡ 0
  pub built : c.built ≡ None

-- What is compiled of a text by the values of its roots.
abbrev pub IsTextAssembled : List ℕ → (Query → List ℕ) → Compiled → Type 0
IsTextAssembled text v c = OfText text (λ f. IsFaultAssembled v c) (λ krate. IsAssembled v krate c)

-- each text has what its queries are stated by: a fault, or a tree, in the ranges of the types
abbrev pub IsTextRooted : List ℕ → (Query → List ℕ) → ℕ → Type 0
IsTextRooted text v level = OfText text (λ f. FitsFault (index_fault f)) (IsRooted v text level)

-- a text's tree, where it and what the clean build says of it are in the ranges of their types
pub record IsFitting (bytes : List ℕ) (level : ℕ) (krate : Crate) : Type 0 where
  pub whole : HasCrate bytes krate
  pub items : HasItems krate
  pub values : List Const
  pub are : AreValues (constants_of krate) values
  pub fits : FitsClean krate level values

abbrev pub IsTextFitting : List ℕ → ℕ → Type 0
IsTextFitting text level = OfText text (λ f. FitsFault (index_fault f)) (IsFitting text level)
