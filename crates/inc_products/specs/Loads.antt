-- The values that the files of a session hold.
use Rattle.std.specs.Prelude.{◌≡◌, ℕ, ◌+◌, ◌==◌, ◌&&◌, Bool, true, false, cond, List, [], ◌∷◌, ◌++◌, Some, slice_get, unwrap_or}
use Rattle.std.specs.Option.{option_map_or}
use Rattle.std.specs.Str.{bytes_eq}
use Rattle.sha2.specs.Sha256.{sha256}
use Rattle.inc_wire.specs.declared.header.Header.{Header}
use Rattle.inc_graph.specs.declared.node.Node.{Node}
use Rattle.inc_graph.specs.Forms.{FitsCache, FitsFile, cache_form, file_form}
use Rattle.inc_products.specs.declared.load.Loaded.{Loaded}
use Rattle.inc_products.specs.declared.load.Loaded.TheVariants as l
use Rattle.inc_products.specs.Named.{AreOrdered, value_at}
use Rattle.inc_products.specs.Plans.{File}
use Rattle.inc_products.specs.Saved.{Value, cache_name, demanded, is_kept_kind, is_object_kind, object_name}
use Rattle.inc_products.specs.Starts.{AreValuesOf, IsFirstDamaged, IsWell}
use Rattle.inc_products.specs.Walks.{AreWell}

-- the values in a file of the cache that is well
abbrev pub HoldsKept : List Node → List ℕ → Type 0
HoldsKept nodes bytes = (h : Header) × ((values : List Value) × (FitsFile FitsCache (h, values) × ((bytes ≡ file_form cache_form (h, values)) × AreValuesOf is_kept_kind nodes values)))

-- a value is its node's, as a test
abbrev pub is_value_of : ℕ → Node → Value → Bool
is_value_of i n v = v.0 == i && bytes_eq (sha256 v.1) n.print.0

abbrev pub begins_with_value_of : ℕ → Node → (List Value → Bool) → List Value → Bool
begins_with_value_of i n others [] = false
begins_with_value_of i n others (v ∷ vs) = is_value_of i n v && others vs

abbrev pub is_nothing : List Value → Bool
is_nothing [] = true
is_nothing (v ∷ vs) = false

-- values are those of the kinds that stand in the cache, as a test
abbrev pub are_kept_from : ℕ → List Node → List Value → Bool
are_kept_from i [] values = is_nothing values
are_kept_from i (n ∷ ns) values = cond (is_kept_kind n.query.kind) (begins_with_value_of i n (are_kept_from (i + 1) ns) values) (are_kept_from (i + 1) ns values)

-- bytes have the print of the node at a position, as a test
abbrev pub has_print_at : List Node → ℕ → List ℕ → Bool
has_print_at nodes i bytes = option_map_or (λ n. bytes_eq (sha256 bytes) n.print.0) (slice_get nodes i) false

-- the bytes at a name, empty where there are none
abbrev pub bytes_at : List ℕ → List File → List ℕ
bytes_at name files = unwrap_or (value_at name files) []

-- the objects of the nodes of kind 10 by their files, from a position on
abbrev pub objects_from : List File → ℕ → List Node → List Value
objects_from files i [] = []
objects_from files i (n ∷ ns) = cond (is_object_kind n.query.kind) ((i, bytes_at (object_name n.query.module) files) ∷ objects_from files (i + 1) ns) (objects_from files (i + 1) ns)

-- the values of a cache's bytes
abbrev pub IsKeptOf : List ℕ → List Value → Type 0
IsKeptOf bytes kept = (h : Header) (values : List Value) → FitsFile FitsCache (h, values) → bytes ≡ file_form cache_form (h, values) → kept ≡ values

-- those of the cache's file
abbrev pub HasKept : List File → List Value → Type 0
HasKept files kept = (h : Header) (values : List Value) → FitsFile FitsCache (h, values) → value_at cache_name files ≡ Some (file_form cache_form (h, values)) → kept ≡ values

-- those, and the objects behind them
abbrev pub HasValues : List Node → List File → List Value → Type 0
HasValues nodes files all = (h : Header) (values : List Value) → FitsFile FitsCache (h, values) → value_at cache_name files ≡ Some (file_form cache_form (h, values)) → all ≡ values ++ objects_from files 0 nodes

-- what the other files are, beside the graph's: all well, with these values, or the first damaged one
abbrev pub IsLoaded : Header → List Node → List File → Loaded → Type 0
IsLoaded want nodes files (l.Whole values) = AreOrdered files × (AreWell (IsWell want nodes) (demanded nodes) files × HasValues nodes files values)
IsLoaded want nodes files (l.Damaged name) = IsFirstDamaged (IsWell want nodes) (demanded nodes) files name
