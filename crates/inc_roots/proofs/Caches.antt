-- The values kept of a graph of queries that were asked from roots are those of these roots.
use Rattle.std.proofs.Common.{◌≡◌, ℕ, ◌+◌, zero, suc, ◌<◌, ◌≤◌, inl, inr, Bool, List, [], ◌∷◌, map, length, refl, ◌∙◌, ap, subst, arith}
use Rattle.std.specs.Prelude.{IsTrue, slice_index_or}
use Rattle.std.specs.Cmp.{nat_cmp_total, ranks}
use Rattle.std.specs.List.{All, AllByRecursion, range_with_len}
use Rattle.std.specs.List.Sorted.{IsStrictlySortedBy}
use Rattle.std.specs.Ordering.{MatchOrdering, nat_cmp}
use Rattle.std.specs.declared.cmp.Ordering.{Ordering}
use Rattle.std.specs.declared.cmp.Ordering.TheVariants.{Less, Equal, Greater}
use Rattle.std.proofs.lemmas.Bool.{cases_lt}
use Rattle.std.proofs.lemmas.List.{length-map}
use Rattle.std.proofs.lemmas.List.Elements.{recursion_from_All}
use Rattle.std.proofs.lemmas.List.Kept.{IsStrictlySortedBy-filter}
use Rattle.inc_query.specs.Plans.{Plan, ReadsFit, reads_of}
use Rattle.inc_query.specs.declared.query.Query.{Query}
use Rattle.inc_graph.specs.Graphs.{IsCache, IsGraph, positions_of, queries_of}
use Rattle.inc_graph.specs.declared.node.Node.{Node}
use Rattle.inc_engine.specs.Builds.{IsBuildOf, at}
use Rattle.inc_engine.specs.Finish.{HasKept}
use Rattle.inc_roots.specs.Asked.{AreAsked}
use Rattle.inc_roots.specs.Rooted.{cache_of, kept_places, value_at, values_of}
use Rattle.inc_roots.proofs.Graphs.{queries_are}
use Rattle.inc_roots.proofs.Members.{IsIn, in_from, passes_from, passes_in}
use Rattle.inc_roots.proofs.Sorted.{one_list}

-- ---- Numbers from a place on.

is_less : (a b : ℕ) → a < b → nat_cmp a b ≡ Less
is_less a b l = go (nat_cmp a b) (ranks a b)
  where
    go : (o : Ordering) → MatchOrdering o (a < b) (a ≡ b) (b < a) → o ≡ Less
    go Less h = refl
    go Equal h = absurd (omega (arith, l, h))
    go Greater h = absurd (omega (arith, l, h))

range_above : (a b n : ℕ) → a < b → AllByRecursion (λ y. nat_cmp a y ≡ Less) (range_with_len b n)
range_above a b zero l = tt
range_above a b (suc n) l = (is_less a b l, range_above a (b + 1) n (omega (arith, l)))

range_ascends : (a n : ℕ) → IsStrictlySortedBy nat_cmp (range_with_len a n)
unfolding IsStrictlySortedBy
range_ascends a zero = tt
range_ascends a (suc n) = (range_above a (a + 1) n (omega arith), range_ascends (a + 1) n)

range_has : (a n j : ℕ) → a ≤ j → j < a + n → IsIn (range_with_len a n) j
range_has a zero j l h = absurd (omega (arith, l, h))
range_has a (suc n) j l h = elim (cases_lt a j) [
  | inl below ↦ inr (range_has (a + 1) n j (omega (arith, below)) (omega (arith, h)))
  | inr other ↦ inl (omega (arith, l, other))
]

range_from : (a n j : ℕ) → IsIn (range_with_len a n) j → j < a + n
range_from a zero j h = absurd h
range_from a (suc n) j (inl e) = omega (arith, e)
range_from a (suc n) j (inr h) = (let l = range_from (a + 1) n j h in omega (arith, l))

-- ---- The values.

position_has : (P : ℕ → Type 0) (es : List (ℕ × List ℕ)) → AllByRecursion (λ e. P e.0) es → (i : ℕ) → IsIn (positions_of es) i → P i
position_has P [] h i k = absurd k
position_has P (e ∷ es) h i (inl same) = subst P same h.0
position_has P (e ∷ es) h i (inr k) = position_has P es h.1 i k

each_value : (f : ℕ → ℕ × List ℕ) (es : List (ℕ × List ℕ)) → AllByRecursion (λ e. e ≡ f e.0) es → es ≡ map f (positions_of es)
each_value f [] h = refl
each_value f (e ∷ es) h = (let rest = each_value f es h.1 in λ i. h.0 i ∷ rest i)

module _ (plan : Query → Plan) (kept : ℕ → Bool) (input : List ℕ) (roots : List Query) (nodes : List Node) (cache : List (ℕ × List ℕ)) (fits : (q : Query) → ReadsFit q [] (plan q)) (graph : IsGraph nodes) (values : IsCache nodes cache) (build : IsBuildOf plan kept input nodes cache) (has : HasKept kept nodes cache) (asked : AreAsked (reads_of plan input) roots (queries_of nodes)) where
  many : length (queries_of nodes) ≡ length nodes
  many = length-map nodes (λ (n : Node). n.query)

  abbrev is_kept : ℕ → Bool
  is_kept i = kept (at (queries_of nodes) i).kind

  abbrev Standing : ℕ → Type 0
  Standing i = (i < length nodes) × IsTrue (is_kept i)

  standing : All (λ e. Standing e.0) cache
  standing k d l = (values.within k d l, has.kept_only k d l)

  forth : (i : ℕ) → IsIn (positions_of cache) i → IsIn (kept_places kept (queries_of nodes)) i
  forth i h =
      let at_it : Standing i = position_has Standing cache (recursion_from_All (λ e. Standing e.0) cache standing) i h in
      passes_in is_kept (range_with_len 0 (length (queries_of nodes))) i (range_has 0 (length (queries_of nodes)) i (omega arith) (omega (arith, at_it.0, many))) at_it.1

  back : (i : ℕ) → IsIn (kept_places kept (queries_of nodes)) i → IsIn (positions_of cache) i
  back i h =
      let found = passes_from is_kept (range_with_len 0 (length (queries_of nodes))) i h in
      let l = range_from 0 (length (queries_of nodes)) i found.0 in
      in_from (positions_of cache) i (has.complete i (omega (arith, l, many)) found.1)

  places_are : positions_of cache ≡ kept_places kept (queries_of nodes)
  places_are =
      one_list nat_cmp_total (positions_of cache) (kept_places kept (queries_of nodes)) values.ascend
      (IsStrictlySortedBy-filter nat_cmp is_kept (range_with_len 0 (length (queries_of nodes))) (range_ascends 0 (length (queries_of nodes)))) forth back

  values_are : cache ≡ map (value_at plan input (queries_of nodes)) (positions_of cache)
  values_are = each_value (value_at plan input (queries_of nodes)) cache (recursion_from_All (λ e. e ≡ value_at plan input (queries_of nodes) e.0) cache (λ k d l. ap (λ v. ((slice_index_or cache k d).0, v)) (build.values k d l)))

  pub cache_is : cache ≡ cache_of plan kept input roots
  unfolding cache_of
  cache_is = values_are ∙ ap (map (value_at plan input (queries_of nodes))) places_are ∙ ap (values_of plan kept input) (queries_are plan kept input roots nodes cache fits graph build asked)
