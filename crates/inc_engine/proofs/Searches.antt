-- What a binary search by a key finds, and that what it doesn't find isn't there.
use Rattle.std.proofs.Common.{◌≡◌, ◌≢◌, ℕ, ◌+◌, ◌<◌, inl, inr, List, [], length, map, refl, sym, ◌∙◌, ap, arith, get_or}
use Rattle.std.specs.declared.cmp.Ordering.{Ordering}
use Rattle.std.specs.declared.cmp.Ordering.TheVariants.{Less, Equal, Greater}
use Rattle.std.specs.Ordering.{is_lt, nat_cmp, ordering_index, ordering_reverse}
use Rattle.std.specs.Cmp.{IsTotalOrder}
use Rattle.std.specs.List.{All}
use Rattle.std.specs.List.Sorted.{IsStrictlySortedBy, IsSortedBy, IsNonDecreasingBy, IsPartitionPoint}
use Rattle.std.proofs.lemmas.Bool.{cases_lt}
use Rattle.std.proofs.lemmas.List.{get_or-map, length-map, get_or_default}
use Rattle.std.proofs.lemmas.List.Sorted.{searchable_from_sorted}
use Rattle.std.proofs.lemmas.Map.Keys.{Less-from_sorted}
use Rattle.std.proofs.lemmas.Map.Lookups.{exact_unsigned}
use Rattle.inc_query.specs.Queries.{query_cmp}
use Rattle.inc_query.specs.QueryLaws.{exact_queries}
use Rattle.inc_query.specs.declared.query.Query.{Query}
use Rattle.inc_graph.specs.Graphs.{queries_of}
use Rattle.inc_graph.specs.declared.node.Node.{Node}
use Rattle.inc_engine.specs.Builds.{at}

-- keys that rise are in order
pub sorted_keys : {X K : Type 0} {R : K → K → Ordering} → IsTotalOrder R → (key : X → K) (xs : List X) → IsStrictlySortedBy R (map key xs) → IsSortedBy (λ a b. is_lt (R (key a) (key b))) xs
sorted_keys {X} {K} {R} o key xs sorted = λ k d low l.
    (let long = length-map xs key in
    let here = get_or-map key xs k d (key d) (omega arith) in
    let next = get_or-map key xs (k + 1) d (key d) (omega arith) in
    let rises = Less-from_sorted R (map key xs) k (k + 1) (key d) sorted (omega arith) (omega (arith, long)) in
    let up : R (key (get_or xs k d)) (key (get_or xs (k + 1) d)) ≡ Less = ap (λ a. R a (key (get_or xs (k + 1) d))) (sym here) ∙ ap (λ b. R (get_or (map key xs) k (key d)) b) (sym next) ∙ rises in
    ap is_lt (o.antisymm (key (get_or xs (k + 1) d)) (key (get_or xs k d)) ∙ ap ordering_reverse up))

tied : (r : Ordering) → r ≡ ordering_reverse r → r ≡ Equal
tied Less e = absurd (cc)
tied Equal e = refl
tied Greater e = absurd (cc)

-- a key that isn't found
pub none-found : {X K : Type 0} {R : K → K → Ordering} → IsTotalOrder R → (key : X → K) (xs : List X) (x : K) (i : ℕ) → IsSortedBy (λ a b. is_lt (R (key a) (key b))) xs → (IsNonDecreasingBy (λ y. ordering_index (R (key y) x)) xs → IsPartitionPoint (λ y. R (key y) x ≡ Less) (λ y. R (key y) x ≡ Greater) xs i) → All (λ y. key y ≢ x) xs
none-found {X} {K} {R} o key xs x i sorted parted = λ k d l same.
    (let parts = parted (searchable_from_sorted o key xs x sorted) in
    let equal : R (key (get_or xs k d)) x ≡ Equal = ap (λ a. R a x) same ∙ tied (R x x) (o.antisymm x x) in
    elim (cases_lt k i) [
      | inl before ↦ absurd (let bad : Equal ≡ Less = sym equal ∙ parts.0 k d (omega arith) before in cc)
      | inr after ↦ absurd (let bad : Equal ≡ Greater = sym equal ∙ parts.1 k d (omega arith) l in cc)
    ])

-- a node that is found has the query
pub found-node : (nodes : List Node) (q : Query) (i : ℕ) → i < length nodes → ((d : Node) → query_cmp (get_or nodes i d).query q ≡ Equal) → at (queries_of nodes) i ≡ q
found-node nodes q i l h =
    let none : Node = record { query = q; print = record { 0 = [] }; reads = [] } in
    get_or-map (λ (n : Node). n.query) nodes i none _ l ∙ exact_queries _ _ (h none)

-- and a value that is found the position
pub found-value : (cache : List (ℕ × List ℕ)) (place i : ℕ) (r : ℕ × List ℕ) → i < length cache → ((d : ℕ × List ℕ) → nat_cmp (get_or cache i d).0 place ≡ Equal) → (e : ℕ × List ℕ) → get_or cache i e ≡ (place, (get_or cache i r).1)
found-value cache place i r l h e = get_or_default cache i e r l ∙ ap (λ x. (x, (get_or cache i r).1)) (exact_unsigned _ _ (h r))
