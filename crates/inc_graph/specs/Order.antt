-- What is tested of nodes and of values, one after the other.
use Rattle.std.specs.Prelude.{ℕ, ◌&&◌, Bool, true, false, not, nat_eq, nat_lt, List, [], ◌∷◌, ◌++◌, Option, Some, None, slice_get}
use Rattle.std.specs.List.{list_any}
use Rattle.std.specs.Option.{option_map_or}
use Rattle.std.specs.Ordering.{is_lt}
use Rattle.inc_query.specs.Queries.{query_cmp}
use Rattle.inc_graph.specs.declared.node.Node.{Node}

abbrev pub is_node_below : Node → Node → Bool
is_node_below x y = is_lt (query_cmp x.query y.query)

abbrev pub is_value_below : ℕ × List ℕ → ℕ × List ℕ → Bool
is_value_below x y = nat_lt x.0 y.0

-- the one before, if any, is below
abbrev pub is_above : {X : Type 0} → (X → X → Bool) → Option X → X → Bool
is_above below None y = true
is_above below (Some x) y = below x y

-- each is above the one before
abbrev pub ascends : {X : Type 0} → (X → X → Bool) → Option X → List X → Bool
ascends below before [] = true
ascends below before (x ∷ xs) = is_above below before x && ascends below (Some x) xs

-- each read is a node of a lower kind
abbrev pub are_lower : List Node → ℕ → List ℕ → Bool
are_lower all kind [] = true
are_lower all kind (r ∷ rs) = option_map_or (λ x. nat_lt x.query.kind kind) (slice_get all r) false && are_lower all kind rs

-- none of the reads stands among those seen, or twice
abbrev pub differ_from : List ℕ → List ℕ → Bool
differ_from seen [] = true
differ_from seen (r ∷ rs) = not (list_any (nat_eq r) seen) && differ_from (seen ++ r ∷ []) rs

-- the reads of each node are as they should be
abbrev pub have_reads : List Node → List Node → Bool
have_reads all [] = true
have_reads all (x ∷ xs) = (are_lower all x.query.kind x.reads && differ_from [] x.reads) && have_reads all xs
