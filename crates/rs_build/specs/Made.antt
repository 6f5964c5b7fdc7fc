-- Objects, as the values of queries are.
use Rattle.std.specs.Prelude.{◌≡◌, ℕ, List, [], Some, drop, fold, slice_index_or, unwrap_or}
use Rattle.std.specs.List.{AllZip, Contains}
use Rattle.inc_wire.specs.Readings.{IsNoForm}
use Rattle.rs_tree.specs.declared.tree.Placed.{Placed}
use Rattle.rs_lines.specs.Lines.{Told, note, printed_all}
use Rattle.rs_object.specs.Fits.{FitsObject}
use Rattle.rs_object.specs.Forms.{object_form}
use Rattle.rs_object.specs.declared.object.Object.{Object}
use Rattle.rs_queries.specs.Built.{output_of}
use Rattle.rs_queries.specs.declared.compiled.Compiled.{Compiled}
use Rattle.rs_plans.specs.Readings.{places_in}
use Rattle.plan_laws.specs.Assembled.{unused_lines}

-- each value is the form of the object that stands at its place
abbrev pub AreObjectsOf : List (List ℕ) → List Object → Type 0
AreObjectsOf values objects = AllZip (λ value (o : Object). (value ≡ object_form o) × FitsObject o) values objects

-- one value is no object's form
abbrev pub IsNoneOf : List (List ℕ) → Type 0
IsNoneOf values = (value : List ℕ) × Contains values value × IsNoForm FitsObject object_form value

-- what is compiled where these lines were told and none is an error's: the first value says which functions are never used, and the others are objects
pub record MadeOf (lines : Told) (items : List Placed) (units : ℕ) (values : List (List ℕ)) (c : Compiled) : Type 0 where
  pub objects : List Object
  pub are : AreObjectsOf (drop 1 values) objects
  pub says : c.diags ≡ printed_all (fold note lines (unused_lines (unwrap_or (places_in (slice_index_or values 0 [])) []) items)).lines
  pub units_are : c.units ≡ units
  pub built : c.built ≡ Some (output_of objects)
