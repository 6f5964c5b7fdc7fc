-- The clean build of a text (docs/FORMATS.md, "A build"), said of its tree: no query, no print and no stored file.
use Rattle.std.specs.Prelude.{◌≡◌, ℕ, List, map, length, Option, Some, None, Result, Ok, Err, slice_get, option_and_then, unwrap_or, if◌then◌else◌}
use Rattle.std.specs.List.{filter_map}
use Rattle.std.specs.Option.{option_map_or}
use Rattle.rs_tree.specs.declared.place.Place.{Place}
use Rattle.rs_tree.specs.declared.answers.Const.{Const}
use Rattle.rs_tree.specs.declared.answers.Const.TheVariants.{Bad}
use Rattle.rs_tree.specs.declared.index.Index.{Index}
use Rattle.rs_tree.specs.declared.index.IndexItem.{IndexItem}
use Rattle.rs_tree.specs.declared.index.Sig.{Sig}
use Rattle.rs_tree.specs.declared.ir.Ir.{Ir}
use Rattle.rs_tree.specs.declared.tree.Crate.{Crate}
use Rattle.rs_tree.specs.Plain.{plain_crate}
use Rattle.rs_text.specs.declared.fault.TextFault.{TextFault}
use Rattle.rs_lookup.specs.Places.{Name, place_name, place_from}
use Rattle.rs_names.specs.Indexed.{index_of}
use Rattle.rs_lines.specs.Lines.{has_error, printed_all}
use Rattle.rs_const.specs.Constants.{Entry, AreValues, names}
use Rattle.rs_lower.specs.Lowered.{lowered}
use Rattle.rs_units.specs.Units.{units_of}
use Rattle.rs_units.specs.Members.{member_numbers}
use Rattle.rs_object.specs.declared.object.Object.{Object}
use Rattle.rs_object.specs.Forms.{object_form}
use Rattle.rs_emit.specs.Objects.{object_of}
use Rattle.rs_link.specs.Linked.{linked}
use Rattle.rs_link.specs.Symbols.{funcs_of}
use Rattle.rs_link.specs.declared.fault.LinkFault.{LinkFault}
use Rattle.rs_queries.specs.declared.compiled.Built.{Built}
use Rattle.rs_queries.specs.declared.compiled.CleanBuild.{CleanBuild}
use Rattle.rs_queries.specs.declared.compiled.Compiled.{Compiled}
use Rattle.rs_queries.specs.Diagnosed.{OfText, SaysFault, calls_of, own_lines, tree_lines}
use Rattle.rs_queries.specs.Known.{Answered, all_answered, constants_of, place_of, sigs_of}

-- ---- What is compiled of a tree whose constants have these values.

-- a constant's place, and its value; `places` are those of all constants
abbrev pub const_by : List Name → List Const → Entry → Place × Const
const_by places values e = (e.0, unwrap_or (option_and_then (slice_get values) (place_from (place_name e.0) 0 places)) Bad)

abbrev pub consts_of : List Entry → List Const → List (Place × Const)
consts_of constants values = map (const_by (names constants) values) constants

-- an item, and its form at a level
abbrev pub form_of : ℕ → List (Place × Sig) → List (Place × Const) → Answered → Place × Ir
form_of level sigs consts a = (place_of a.0, lowered level a.1 sigs consts a.0.item)

-- the members of a unit with their forms; items have the numbers that they have in the index
abbrev pub members_in : List IndexItem → List (Place × List Place) → List (Place × Ir) → List ℕ → List (Place × Ir)
members_in items calls forms unit = filter_map (slice_get forms) (member_numbers unit items calls)

-- the objects of units, in their order
abbrev pub objects_in : List IndexItem → List (Place × List Place) → List (Place × Ir) → List (List ℕ) → List Object
objects_in items calls forms units = map (λ u. object_of u (members_in items calls forms u)) units

-- the objects of an index's units; `sigs`, `constants` and `values` are those of its items, `all` the items and what their
-- paths lead to
abbrev pub objects_by : Index → List (Place × Sig) → List Entry → List Const → List Answered → ℕ → List Object
objects_by index sigs constants values all level =
    objects_in index.items (map (calls_of index.items) all) (map (form_of level sigs (consts_of constants values)) all) (units_of index)

abbrev pub image_by : Result (List ℕ) LinkFault → Option (List ℕ)
image_by (Ok image) = Some image
image_by (Err fault) = None

-- the image that objects are linked to, where they are
abbrev pub image_of : List Object → Option (List ℕ)
image_of objects = image_by (linked (funcs_of objects))

-- the text of an object's unit, and the object's bytes
abbrev pub stored : Object → List ℕ × List ℕ
stored o = (o.unit, object_form o)

abbrev pub output_of : List Object → Built
output_of objects = record { objects = map stored objects; image = image_of objects }

-- where no line is an error's, the output of the objects; the lines of functions that are never used are warnings
abbrev pub built_by : Index → List (Place × Sig) → List Entry → List Const → List Answered → ℕ → Option Built
built_by index sigs constants values all level =
    if has_error (own_lines index.items sigs constants values all) then None else Some (output_of (objects_by index sigs constants values all level))

abbrev pub tree_index : Crate → Index
tree_index krate = index_of (plain_crate krate)

abbrev pub built_of : Crate → ℕ → List Const → Option Built
built_of krate level values = built_by (tree_index krate) (sigs_of krate) (constants_of krate) values (all_answered krate) level

-- ---- What is compiled of a text.

-- Of a tree, whose constants have their values.
pub record IsTreeCompiled (krate : Crate) (level : ℕ) (c : Compiled) : Type 0 where
  pub values : List Const
  pub are : AreValues (constants_of krate) values
  pub says : c.diags ≡ printed_all (tree_lines krate values)
  pub units : c.units ≡ length (units_of (tree_index krate))
  pub built : c.built ≡ built_of krate level values

-- Of a text with a fault: its line, no unit, nothing built.
pub record IsFaultCompiled (fault : TextFault) (c : Compiled) : Type 0 where
  pub says : SaysFault fault c.diags
  pub units : c.units ≡ 0
  pub built : c.built ≡ None

-- What a compiler makes of a text at a level.
abbrev pub IsCompiled : List ℕ → ℕ → Compiled → Type 0
IsCompiled bytes level c = OfText bytes (λ f. IsFaultCompiled f c) (λ krate. IsTreeCompiled krate level c)

-- how many units were emitted: each, where something was built
abbrev pub emitted_by : Option Built → ℕ
emitted_by built = option_map_or (λ (b : Built). length b.objects) built 0

abbrev pub emitted : Compiled → ℕ
emitted c = emitted_by c.built

-- The clean build: what is compiled, without the objects.
abbrev pub clean_of : Compiled → CleanBuild
clean_of c = record { diags = c.diags; image = option_and_then (λ (b : Built). b.image) c.built; units = c.units }

abbrev pub IsClean : List ℕ → ℕ → CleanBuild → Type 0
IsClean bytes level b = (c : Compiled) × IsCompiled bytes level c × (b ≡ clean_of c)
