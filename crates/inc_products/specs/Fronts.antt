-- What the graph's file of a session is, by the wanted header.
use Rattle.std.specs.Prelude.{◌≡◌, ℕ, ◌⊎◌, Bool, true, false, List, ◌++◌, Option, Some, None}
use Rattle.inc_wire.specs.Forms.{header_form}
use Rattle.inc_wire.specs.Readings.{IsNoForm}
use Rattle.inc_wire.specs.declared.header.Header.{Header}
use Rattle.inc_graph.specs.declared.node.Node.{Node}
use Rattle.inc_graph.specs.Forms.{FitsFile, FitsGraph, IsFileHeader, file_form, graph_form}
use Rattle.inc_products.specs.declared.front.Front.{Front}
use Rattle.inc_products.specs.declared.front.Front.TheVariants as f

-- it is the wanted header and these nodes
pub record IsGraphFile (want : Header) (found : Option (List ℕ)) (nodes : List Node) : Type 0 where
  pub there : found ≡ Some (file_form graph_form (want, nodes))
  pub fits : FitsGraph nodes

-- it begins with a header of another compiler or another crate
pub record IsOther (want : Header) (found : Option (List ℕ)) : Type 0 where
  pub header : Header
  pub rest : List ℕ
  pub is : IsFileHeader header
  pub there : found ≡ Some (header_form header ++ rest)
  pub differs : ¬ ((header.compiler ≡ want.compiler) × (header.krate ≡ want.krate))

-- no front of the bytes is a header
abbrev pub BeginsWithNoHeader : List ℕ → Type 0
BeginsWithNoHeader bytes = (h : Header) (rest : List ℕ) → IsFileHeader h → bytes ≡ header_form h ++ rest → ⊥

-- bytes have a front, or don't
abbrev pub HasFront : List ℕ → List ℕ → Bool → Type 0
HasFront front bytes true = (rest : List ℕ) × (bytes ≡ front ++ rest)
HasFront front bytes false = (rest : List ℕ) → bytes ≡ front ++ rest → ⊥

-- whether the bytes begin with this header
abbrev pub BeginsWith : Header → List ℕ → Bool → Type 0
BeginsWith want bytes b = HasFront (header_form want) bytes b

-- it is missing, begins with no header, or begins with the wanted one and isn't in its grammar
abbrev pub HasNoGraph : Header → Option (List ℕ) → Type 0
HasNoGraph want None = Unit {0}
HasNoGraph want (Some bytes) = BeginsWithNoHeader bytes ⊎ (((rest : List ℕ) × (bytes ≡ header_form want ++ rest)) × IsNoForm (FitsFile FitsGraph) (file_form graph_form) bytes)

abbrev pub IsFront : Header → Option (List ℕ) → Front → Type 0
IsFront want found (f.Graph nodes) = IsGraphFile want found nodes
IsFront want found f.Other = IsOther want found
IsFront want found f.Damaged = HasNoGraph want found

-- what bytes are as a graph's file, whatever their header is
abbrev pub IsFrontOf : List ℕ → Front → Type 0
IsFrontOf bytes (f.Graph nodes) = (h : Header) × FitsFile FitsGraph (h, nodes) × (bytes ≡ file_form graph_form (h, nodes))
IsFrontOf bytes f.Other = ⊥
IsFrontOf bytes f.Damaged = IsNoForm (FitsFile FitsGraph) (file_form graph_form) bytes
