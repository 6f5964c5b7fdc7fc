-- Nodes of a graph have different queries.
use Rattle.std.proofs.Common.{◌≡◌, ◌≢◌, ℕ, ◌<◌, inl, inr, List, [], ◌∷◌, length, map, sym, ◌∙◌, ap, subst, arith, get_or, true, false}
use Rattle.std.specs.Prelude.{nat_eq}
use Rattle.std.specs.Bool.{Decides}
use Rattle.std.specs.Ordering.{eq_by_cmp}
use Rattle.std.specs.List.{AllByRecursion, IsDistinct}
use Rattle.std.proofs.lemmas.Bool.{cases_lt, false_from_ne_true}
use Rattle.std.proofs.lemmas.Bool.Decides.{Decides-eqb}
use Rattle.std.proofs.lemmas.Cmp.{eq_by_cmp_equiv}
use Rattle.std.proofs.lemmas.List.{length-map}
use Rattle.std.proofs.lemmas.List.Elements.{recursion_from_All}
use Rattle.std.proofs.lemmas.Map.Keys.{IsDistinct-from_sorted}
use Rattle.std.proofs.lemmas.Map.Made.{AllPairs-from_IsDistinct}
use Rattle.std.proofs.lemmas.Map.Views.{tells_apart}
use Rattle.inc_query.specs.Queries.{query_cmp}
use Rattle.inc_query.specs.QueryLaws.{queries_total, exact_queries}
use Rattle.inc_query.specs.declared.query.Query.{Query}
use Rattle.inc_graph.specs.Graphs.{IsGraph, IsNode, IsLower, queries_of}
use Rattle.inc_graph.specs.declared.node.Node.{Node}
use Rattle.inc_engine.specs.Builds.{at}
use Rattle.inc_engine.specs.Marking.{Distinct}
use Rattle.inc_engine.proofs.Marks.{lower-within}

pub same_queries : (a b : Query) → Decides (eq_by_cmp query_cmp a b) (a ≡ b)
same_queries a b = (tells_apart exact_queries a b, λ e. subst (λ c. eq_by_cmp query_cmp a c ≡ true) e ((eq_by_cmp_equiv queries_total).refl a))

pub apart : (nodes : List Node) → IsGraph nodes → (i j : ℕ) → i < j → j < length nodes → at (queries_of nodes) i ≢ at (queries_of nodes) j
apart nodes graph i j l h =
    AllPairs-from_IsDistinct same_queries (queries_of nodes) (IsDistinct-from_sorted query_cmp (queries_of nodes) graph.ascend) i j _ l (let long = length-map nodes (λ (n : Node). n.query) in omega (arith, long, h))

-- one query has one position
pub one-position : (nodes : List Node) → IsGraph nodes → (i j : ℕ) → i < length nodes → j < length nodes → at (queries_of nodes) i ≡ at (queries_of nodes) j → i ≡ j
one-position nodes graph i j li lj e = elim (cases_lt i j) [
  | inl below ↦ absurd (apart nodes graph i j below lj e)
  | inr above ↦ elim (cases_lt j i) [ inl below ↦ absurd (apart nodes graph j i below li (sym e)) | inr other ↦ omega arith ]
]

-- the reads of a node are different queries
pub node-differs : (nodes : List Node) → IsGraph nodes → (place : ℕ) (node : Node) (items : List ℕ) → place < length nodes → node ≡ get_or nodes place node → items ≡ node.reads → Distinct (map (at (queries_of nodes)) items)
unfolding IsDistinct
node-differs nodes graph place node items l e same =
    let it : IsNode nodes node = subst (IsNode nodes) (sym e) (graph.each place node l) in
    subst (λ xs. Distinct (map (at (queries_of nodes)) xs)) (sym same) (each node.query.kind node.reads (recursion_from_All _ node.reads it.lower) it.differ)
  where
    apart_by : (x y : ℕ) → nat_eq x y ≡ false → x ≡ y → ⊥
    apart_by x y d same = (let yes : nat_eq x y ≡ true = (Decides-eqb x y).1 same in let bad : true ≡ false = sym yes ∙ d in absurd (cc))

    other : (kind x : ℕ) (ys : List ℕ) → x < length nodes → AllByRecursion (IsLower nodes kind) ys → AllByRecursion (λ y. nat_eq x y ≡ false) ys → AllByRecursion (λ r. r ≢ at (queries_of nodes) x) (map (at (queries_of nodes)) ys)
    other kind x [] l a d = tt
    other kind x (y ∷ ys) l a d = (λ same. apart_by x y d.0 (one-position nodes graph x y l (lower-within nodes kind y a.0) (sym same)), other kind x ys l a.1 d.1)

    each : (kind : ℕ) (xs : List ℕ) → AllByRecursion (IsLower nodes kind) xs → IsDistinct nat_eq xs → Distinct (map (at (queries_of nodes)) xs)
    each kind [] a d = tt
    each kind (x ∷ xs) a d = (other kind x xs (lower-within nodes kind x a.0) a.1 d.0, each kind xs a.1 d.1)

-- and so are their positions
pub positions-differ : (f : ℕ → Query) (xs : List ℕ) → Distinct (map f xs) → IsDistinct nat_eq xs
unfolding IsDistinct
positions-differ f [] d = tt
positions-differ f (x ∷ xs) d = (other xs d.0, positions-differ f xs d.1)
  where
    other : (ys : List ℕ) → AllByRecursion (λ r. r ≢ f x) (map f ys) → AllByRecursion (λ y. nat_eq x y ≡ false) ys
    other [] a = tt
    other (y ∷ ys) a = (false_from_ne_true _ (λ e. a.0 (ap f (sym ((Decides-eqb x y).0 e)))), other ys a.1)
