-- What the files of a session are read as.
use Rattle.std.specs.Prelude.{◌≡◌, ℕ, ◌+◌, ◌⊎◌, Bool, cond, List, [], ◌∷◌, ◌++◌, slice_get, Option, Some, None}
use Rattle.std.specs.declared.cmp.Ordering.TheVariants.{Less}
use Rattle.sha2.specs.Sha256.{sha256}
use Rattle.inc_wire.specs.Fits.{Each}
use Rattle.inc_wire.specs.declared.header.Header.{Header}
use Rattle.inc_graph.specs.declared.node.Node.{Node}
use Rattle.inc_graph.specs.Forms.{FitsCache, FitsFile, FitsGraph, cache_form, file_form}
use Rattle.inc_graph.specs.Graphs.{HasOrder}
use Rattle.rs_object.specs.Fits.{FitsObject}
use Rattle.rs_object.specs.Forms.{object_form}
use Rattle.rs_object.specs.declared.object.Object.{Object}
use Rattle.inc_products.specs.declared.part.Part.{Part}
use Rattle.inc_products.specs.declared.part.Part.TheVariants as part
use Rattle.inc_products.specs.declared.start.Start.{Start}
use Rattle.inc_products.specs.declared.start.Start.TheVariants as s
use Rattle.inc_products.specs.Fronts.{HasNoGraph, IsGraphFile, IsOther}
use Rattle.inc_products.specs.Named.{name_cmp, value_at}
use Rattle.inc_products.specs.Plans.{File}
use Rattle.inc_products.specs.Saved.{Value, demanded, files_of, graph_name, is_kept_kind, is_object_kind, products_form, products_of}

-- the bytes are an object's
abbrev pub IsObject : List ℕ → Type 0
IsObject bytes = (o : Object) × FitsObject o × (bytes ≡ object_form o)

-- a value stands at its node's position, and has its node's print
pub record IsValueOf (i : ℕ) (n : Node) (v : Value) : Type 0 where
  pub at : v.0 ≡ i
  pub print : sha256 v.1 ≡ n.print.0

-- the first value is this node's, and of the others the rest holds
abbrev pub BeginsWithValueOf : ℕ → Node → (List Value → Type 0) → List Value → Type 0
BeginsWithValueOf i n Others [] = ⊥
BeginsWithValueOf i n Others (v ∷ vs) = IsValueOf i n v × Others vs

-- values are exactly of the nodes whose kinds pass, from a position on: one of each, in the order of the nodes
abbrev pub AreValuesFrom : (ℕ → Bool) → ℕ → List Node → List Value → Type 0
AreValuesFrom passes i [] values = values ≡ []
AreValuesFrom passes i (n ∷ ns) values = cond (passes n.query.kind) (BeginsWithValueOf i n (AreValuesFrom passes (i + 1) ns) values) (AreValuesFrom passes (i + 1) ns values)

abbrev pub AreValuesOf : (ℕ → Bool) → List Node → List Value → Type 0
AreValuesOf passes nodes values = AreValuesFrom passes 0 nodes values

-- the cache's file is well: it has the wanted header, and the values of the kinds that stand in it, each with its node's print
pub record IsWellCache (want : Header) (nodes : List Node) (bytes : List ℕ) : Type 0 where
  pub values : List Value
  pub fits : FitsFile FitsCache (want, values)
  pub whole : bytes ≡ file_form cache_form (want, values)
  pub kept : AreValuesOf is_kept_kind nodes values

-- bytes have the print of the node at a position
pub record HasPrint (nodes : List Node) (i : ℕ) (bytes : List ℕ) : Type 0 where
  pub node : Node
  pub there : slice_get nodes i ≡ Some node
  pub print : sha256 bytes ≡ node.print.0

-- an object's file is well: it is an object, with its node's print
abbrev pub IsWellObject : List Node → ℕ → List ℕ → Type 0
IsWellObject nodes i bytes = HasPrint nodes i bytes × IsObject bytes

-- A file is well where it is in its grammar, has the wanted header if it has one, fits the nodes, and its values have their nodes' prints. Of the graph's file
-- that is known where this is asked, since the nodes are read from it.
abbrev pub IsWell : Header → List Node → Part → List ℕ → Type 0
IsWell want nodes part.Graph bytes = Unit {0}
IsWell want nodes part.Cache bytes = IsWellCache want nodes bytes
IsWell want nodes part.Products bytes = bytes ≡ file_form products_form (want, products_of nodes)
IsWell want nodes (part.Object i) bytes = IsWellObject nodes i bytes

-- what is demanded and isn't there, what is there and isn't demanded, and what is there and isn't well
abbrev pub IsBad : (Part → List ℕ → Type 0) → Option Part → Option (List ℕ) → Type 0
IsBad Well None None = ⊥
IsBad Well None (Some bytes) = Unit {0}
IsBad Well (Some part) None = Unit {0}
IsBad Well (Some part) (Some bytes) = ¬ Well part bytes

-- the file of a name is damaged
abbrev pub IsDamaged : (Part → List ℕ → Type 0) → List (List ℕ × Part) → List File → List ℕ → Type 0
IsDamaged Well parts files name = IsBad Well (value_at name parts) (value_at name files)

-- it is, and none of a name before it
pub record IsFirstDamaged (Well : Part → List ℕ → Type 0) (parts : List (List ℕ × Part)) (files : List File) (name : List ℕ) : Type 0 where
  pub damaged : IsDamaged Well parts files name
  pub first : (q : List ℕ) → name_cmp q name ≡ Less → IsDamaged Well parts files q → ⊥

-- The values that a session keeps of a graph: in the order of their positions, those of the nodes of kinds 4 to 8, and behind them those of kind 10, which are
-- objects. Each has its node's print.
pub record AreSaved (want : Header) (nodes : List Node) (values : List Value) : Type 0 where
  pub kept : List Value
  pub objects : List Value
  pub made : values ≡ kept ++ objects
  pub fits : FitsFile FitsCache (want, kept)
  pub are_kept : AreValuesOf is_kept_kind nodes kept
  pub are_objects : AreValuesOf is_object_kind nodes objects
  pub each : Each (λ v. IsObject v.1) objects
  pub order : HasOrder values

-- the files are exactly those of the wanted header with this graph and these values
pub record IsWhole (want : Header) (files : List File) (nodes : List Node) (values : List Value) : Type 0 where
  pub graph : FitsGraph nodes
  pub saved : AreSaved want nodes values
  pub whole : files ≡ files_of want nodes values

-- What files are read as, by the wanted header: the graph and the values whose files they are; that the graph's file is of another compiler or another crate; or
-- that the graph's file is none, or else the first name whose file is damaged.
abbrev pub IsStart : Header → List File → Start → Type 0
IsStart want files (s.Whole nodes values) = IsWhole want files nodes values
IsStart want files s.OtherCompiler = IsOther want (value_at graph_name files)
IsStart want files (s.Damaged name) = ((name ≡ graph_name) × HasNoGraph want (value_at graph_name files))
    ⊎ ((nodes : List Node) × IsGraphFile want (value_at graph_name files) nodes × IsFirstDamaged (IsWell want nodes) (demanded nodes) files name)
