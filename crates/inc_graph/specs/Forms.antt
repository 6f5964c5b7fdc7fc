-- The bytes of graphs and of kept values.
use Rattle.std.specs.Prelude.{◌≡◌, ℕ, ◌^◌, ◌<◌, List, ◌++◌, length}
use Rattle.inc_wire.specs.Fits.{FitsList, FitsText}
use Rattle.inc_wire.specs.Forms.{IsHeader, header_form, list_form, number_form, text_form}
use Rattle.inc_wire.specs.Narrow.{Both}
use Rattle.inc_wire.specs.declared.header.Header.{Header}
use Rattle.inc_wire.specs.declared.print.Print.{Print}
use Rattle.inc_graph.specs.declared.node.Node.{Node}
use Rattle.inc_graph.specs.Graphs.{HasOrder, HasQuery, IsGraph}

-- a print: its 32 bytes
abbrev pub print_form : Print → List ℕ
print_form print = print.0

abbrev pub FitsPrint : Print → Type 0
FitsPrint print = length print.0 ≡ 32

-- a node: its kind in one byte, its module and its name, its print, and the list of its reads in four bytes each
abbrev pub node_form : Node → List ℕ
node_form x = number_form 1 x.query.kind ++ (text_form x.query.module ++ (text_form x.query.name ++ (print_form x.print ++ list_form (number_form 4) x.reads)))

-- what a node holds is in the ranges of its types
pub record HasRanges (x : Node) : Type 0 where
  pub kind : x.query.kind < 2 ^ 8
  pub «module» : FitsText x.query.module
  pub name : FitsText x.query.name
  pub print : FitsPrint x.print
  pub reads : FitsList (λ r. r < 2 ^ 32) x.reads

-- and its query is one of a graph
abbrev pub FitsNode : Node → Type 0
FitsNode x = Both HasRanges HasQuery x

-- the list of the nodes, which are those of a graph
abbrev pub graph_form : List Node → List ℕ
graph_form nodes = list_form node_form nodes

abbrev pub FitsGraph : List Node → Type 0
FitsGraph nodes = Both (FitsList FitsNode) IsGraph nodes

-- a value: the position of its node in four bytes, and the value
abbrev pub entry_form : ℕ × List ℕ → List ℕ
entry_form e = number_form 4 e.0 ++ text_form e.1

abbrev pub FitsEntry : ℕ × List ℕ → Type 0
FitsEntry e = (e.0 < 2 ^ 32) × FitsText e.1

-- the list of the values, whose positions ascend strictly
abbrev pub cache_form : List (ℕ × List ℕ) → List ℕ
cache_form values = list_form entry_form values

abbrev pub FitsCache : List (ℕ × List ℕ) → Type 0
FitsCache values = Both (FitsList FitsEntry) HasOrder values

-- a file: a header, and a value to the end
abbrev pub file_form : {X : Type 0} → (X → List ℕ) → Header × X → List ℕ
file_form form p = header_form p.0 ++ form p.1

-- the header of a file is of format 1
pub record IsFileHeader (h : Header) : Type 0 where
  pub header : IsHeader h
  pub format : h.format ≡ 1

pub record FitsFile {X : Type 0} (P : X → Type 0) (p : Header × X) : Type 0 where
  pub header : IsFileHeader p.0
  pub value : P p.1

-- what a node is read as
abbrev pub Parts : Type 0
Parts = ℕ × (List ℕ × (List ℕ × (Print × List ℕ)))

abbrev pub node_of : Parts → Node
node_of p = record { query = record { kind = p.0; «module» = p.1.0; name = p.1.1.0 }; print = p.1.1.1.0; reads = p.1.1.1.1 }

abbrev pub parts_of : Node → Parts
parts_of x = (x.query.kind, (x.query.module, (x.query.name, (x.print, x.reads))))
