-- What is told and made of the values of a build's roots (docs/FORMATS.md, "Queries"). Of the text's tree only the places of items and of their
-- names are looked at, and which items and units there are.
use Rattle.std.specs.Prelude.{◌≡◌, ℕ, true, false, Result, Ok, Err, List, [], ◌∷◌, ◌++◌, length, map, Some, None, unwrap_or, if◌then◌else◌}
use Rattle.std.specs.List.{AllZip, flat_map}
use Rattle.rs_tree.specs.declared.answers.Diag.{Diag}
use Rattle.rs_tree.specs.declared.index.Index.{Index}
use Rattle.rs_tree.specs.declared.index.IndexItem.{IndexItem}
use Rattle.rs_tree.specs.declared.place.Place.{Place}
use Rattle.rs_tree.specs.declared.tree.Crate.{Crate}
use Rattle.rs_tree.specs.declared.tree.Placed.{Placed}
use Rattle.rs_text.specs.declared.fault.TextFault.{TextFault}
use Rattle.rs_answers.proofs.Seeks.{answers_are_answered}
use Rattle.rs_lookup.specs.Places.{Name, place_name}
use Rattle.rs_diag.specs.Faults.{diag}
use Rattle.rs_diag.specs.Faults.Wrong.{Dead}
use Rattle.rs_lines.specs.Lines.{has_error, in_order, line_of, printed_all}
use Rattle.rs_lines.specs.declared.line.Line.{Line}
use Rattle.rs_units.specs.Units.{units_of}
use Rattle.rs_object.specs.Fits.{FitsObject}
use Rattle.rs_object.specs.Forms.{object_form}
use Rattle.rs_object.specs.declared.object.Object.{Object}
use Rattle.rs_queries.specs.Built.{output_of, tree_index}
use Rattle.rs_queries.specs.Diagnosed.{is_among, main_lines}
use Rattle.rs_queries.specs.Known.{place_of}
use Rattle.rs_queries.specs.declared.compiled.Compiled.{Compiled}
use Rattle.inc_query.specs.declared.query.Query.{Query}
use Rattle.rs_plans.specs.Readings.{places_in}
use Rattle.rs_plans.specs.Steps.{query, whole}

-- ---- The roots.

-- the check of each item, in the order of the index
abbrev pub check_query : IndexItem → Query
check_query x = record { kind = 5; «module» = x.«module»; name = x.name }

abbrev pub checks_of : Index → List Query
checks_of index = map check_query index.items

-- the object of a unit
abbrev pub object_query : List ℕ → Query
object_query unit = record { kind = 10; «module» = unit; name = [] }

-- the functions that are never used, and the object of each unit
abbrev pub products_of : Index → List Query
products_of index = whole 7 ∷ map object_query (units_of index)

-- ---- What they say. `v` has the values of queries.

abbrev pub diags_in : List ℕ → List Diag
diags_in bytes = unwrap_or (answers_are_answered.diags bytes).0 []

-- what is wrong with an item, at its place in the text
abbrev pub told_of : (Query → List ℕ) → Placed → List Line
told_of v p = map (line_of p.start) (diags_in (v (query 5 (place_of p))))

-- of all items, and where the root has no function `main`, that
abbrev pub told_by : (Query → List ℕ) → Index → List Placed → List Line
told_by v index ps = main_lines index.items ++ flat_map (told_of v) ps

-- a function that is never used, at its name
abbrev pub unused_line : List Name → Placed → List Line
unused_line dead p = if is_among dead (place_name (place_of p)) then line_of p.start (diag p.item.at (Dead p.item.name)) ∷ [] else []

abbrev pub unused_lines : List Place → List Placed → List Line
unused_lines dead ps = flat_map (unused_line (map place_name dead)) ps

-- where there is no error, the functions that are never used too
abbrev pub all_told : (Query → List ℕ) → Index → List Placed → List Line
all_told v index ps =
    let own = told_by v index ps in
    own ++ (if has_error own then [] else unused_lines (unwrap_or (places_in (v (whole 7))) []) ps)

-- the roots of a text: the index alone where it has a fault, and the checks alone where there is an error
abbrev pub roots_by : (Query → List ℕ) → Crate → List Query
roots_by v krate =
    whole 1 ∷ checks_of (tree_index krate) ++ (if has_error (told_by v (tree_index krate) krate.items) then [] else products_of (tree_index krate))

abbrev pub roots_read : (Query → List ℕ) → Result Crate TextFault → List Query
roots_read v (Ok krate) = roots_by v krate
roots_read v (Err fault) = whole 1 ∷ []

-- ---- What is made.

-- the value of each unit's object is that of one of these objects, in their order
abbrev pub AreObjects : (Query → List ℕ) → List (List ℕ) → List Object → Type 0
AreObjects v units objects = AllZip (λ unit (o : Object). (v (object_query unit) ≡ object_form o) × FitsObject o) units objects

-- What is compiled of a tree by these values: the lines of the diagnostics, printed; and where none is an error, the objects and what they link to.
pub record IsAssembled (v : Query → List ℕ) (krate : Crate) (c : Compiled) : Type 0 where
  pub says : c.diags ≡ printed_all (in_order (all_told v (tree_index krate) krate.items))
  pub units : c.units ≡ length (units_of (tree_index krate))
  pub wrong : has_error (told_by v (tree_index krate) krate.items) ≡ true → c.built ≡ None
  pub right : has_error (told_by v (tree_index krate) krate.items) ≡ false → (objects : List Object) × AreObjects v (units_of (tree_index krate)) objects × (c.built ≡ Some (output_of objects))
