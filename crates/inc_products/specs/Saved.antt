-- The files of a session: what they are called, and what stands in each.
use Rattle.std.specs.Prelude.{ℕ, ◌+◌, ◌==◌, ◌&&◌, Bool, nat_le, cond, List, [], ◌∷◌, ◌++◌, codes, filter, slice_get, unwrap_or}
use Rattle.std.specs.Option.{option_map_or}
use Rattle.std.specs.Ordering.{nat_cmp}
use Rattle.std.specs.Map.{lookup}
use Rattle.std.specs.BTreeMap.{is_at}
use Rattle.inc_wire.specs.Forms.{list_form, number_form, text_form}
use Rattle.inc_wire.specs.declared.header.Header.{Header}
use Rattle.inc_graph.specs.declared.node.Node.{Node}
use Rattle.inc_graph.specs.Forms.{cache_form, file_form, graph_form}
use Rattle.inc_products.specs.declared.part.Part.{Part}
use Rattle.inc_products.specs.declared.part.Part.TheVariants as part
use Rattle.inc_products.specs.Named.{with_value}
use Rattle.inc_products.specs.Plans.{File}

-- a value of a node, by the node's position
abbrev pub Value : Type 0
Value = ℕ × List ℕ

abbrev pub graph_name : List ℕ
graph_name = codes "dep-graph.bin"

abbrev pub cache_name : List ℕ
cache_name = codes "query-cache.bin"

abbrev pub products_name : List ℕ
products_name = codes "work-products.bin"

-- the text of a unit: its module, and `crate` for the root
abbrev pub unit_text : List ℕ → List ℕ
unit_text [] = codes "crate"
unit_text (b ∷ bs) = b ∷ bs

-- the object of a unit
abbrev pub object_name : List ℕ → List ℕ
object_name module_text = codes "u-" ++ unit_text module_text ++ codes ".o"

-- which values are kept: those of kinds 4 to 8, and objects, which are of kind 10
abbrev pub is_kept_kind : ℕ → Bool
is_kept_kind kind = nat_le 4 kind && nat_le kind 8

abbrev pub is_object_kind : ℕ → Bool
is_object_kind kind = kind == 10

-- the kind of a node, 0 where there is none
abbrev pub kind_at : List Node → ℕ → ℕ
kind_at nodes i = option_map_or (λ n. n.query.kind) (slice_get nodes i) 0

-- the values that stand in the cache
abbrev pub kept_of : List Node → List Value → List Value
kept_of nodes values = filter (λ v. is_kept_kind (kind_at nodes v.0)) values

-- the value of a node, empty where there is none
abbrev pub value_of : List Value → ℕ → List ℕ
value_of values i = unwrap_or (lookup (is_at (nat_cmp i)) values) []

-- the units: the module of each node of kind 10, the name of its file, and the node's position, from a position on
abbrev pub products_from : ℕ → List Node → List (List ℕ × (List ℕ × ℕ))
products_from i [] = []
products_from i (n ∷ ns) = cond (is_object_kind n.query.kind) ((n.query.module, (object_name n.query.module, i)) ∷ products_from (i + 1) ns) (products_from (i + 1) ns)

abbrev pub products_of : List Node → List (List ℕ × (List ℕ × ℕ))
products_of nodes = products_from 0 nodes

abbrev pub product_form : List ℕ × (List ℕ × ℕ) → List ℕ
product_form p = text_form p.0 ++ (text_form p.1.0 ++ number_form 4 p.1.1)

abbrev pub products_form : List (List ℕ × (List ℕ × ℕ)) → List ℕ
products_form products = list_form product_form products

-- what stands in each part of the files
abbrev pub bytes_of : Header → List Node → List Value → Part → List ℕ
bytes_of h nodes values part.Graph = file_form graph_form (h, nodes)
bytes_of h nodes values part.Cache = file_form cache_form (h, kept_of nodes values)
bytes_of h nodes values part.Products = file_form products_form (h, products_of nodes)
bytes_of h nodes values (part.Object i) = value_of values i

-- with the object of each node of kind 10, from a position on
abbrev pub with_object : {V : Type 0} → (ℕ → V) → ℕ → Node → List (List ℕ × V) → List (List ℕ × V)
with_object f i n pairs = cond (is_object_kind n.query.kind) (with_value pairs (object_name n.query.module) (f i)) pairs

abbrev pub with_objects : {V : Type 0} → (ℕ → V) → ℕ → List Node → List (List ℕ × V) → List (List ℕ × V)
with_objects f i [] pairs = pairs
with_objects f i (n ∷ ns) pairs = with_objects f (i + 1) ns (with_object f i n pairs)

-- each part by the name of its file
abbrev pub by_names : {V : Type 0} → (Part → V) → List Node → List (List ℕ × V)
by_names f nodes = with_objects (λ i. f (part.Object i)) 0 nodes (with_value (with_value (with_value [] graph_name (f part.Graph)) cache_name (f part.Cache)) products_name (f part.Products))

-- the files of a graph and the values kept of it
abbrev pub files_of : Header → List Node → List Value → List File
files_of h nodes values = by_names (bytes_of h nodes values) nodes

-- the files that a graph demands, by their names
abbrev pub demanded : List Node → List (List ℕ × Part)
demanded nodes = by_names (λ part. part) nodes
