-- Of the highest kind a build does its roots alone, and over nothing each of them.
use Rattle.std.proofs.Common.{◌≡◌, ◌≢◌, ℕ, ◌+◌, zero, suc, ◌<◌, ◌≤◌, ◌⊎◌, inl, inr, Bool, List, [], ◌∷◌, ◌==◌, map, length, refl, sym, ◌∙◌, ap, subst, arith}
use Rattle.std.specs.Prelude.{filter}
use Rattle.std.specs.List.{All, count_by}
use Rattle.std.specs.Ordering.{match_ordering}
use Rattle.std.specs.declared.cmp.Ordering.{Ordering}
use Rattle.std.specs.declared.cmp.Ordering.TheVariants.{Less, Equal, Greater}
use Rattle.std.proofs.lemmas.Bool.Decides.{Decides-eqb}
use Rattle.std.proofs.lemmas.List.Kept.{IsStrictlySortedBy-filter}
use Rattle.std.proofs.lemmas.List.Sums.{length-filter}
use Rattle.inc_query.specs.Plans.{Plan, ReadsFit, reads_of}
use Rattle.inc_query.specs.Queries.{query_cmp}
use Rattle.inc_query.specs.QueryLaws.{exact_queries, queries_total}
use Rattle.inc_query.specs.declared.query.Query.{Query}
use Rattle.inc_graph.specs.Graphs.{queries_of}
use Rattle.inc_engine.specs.Builds.{setup, stale}
use Rattle.inc_engine.specs.Marking.{Distinct}
use Rattle.inc_engine.proofs.Stale.{and-true}
use Rattle.inc_roots.specs.Fresh.{is_of}
use Rattle.inc_roots.specs.Reached.{all_reached, in_order, put, reached, reached_to}
use Rattle.inc_roots.specs.Rooted.{graph_of, node_of, queries_from}
use Rattle.inc_roots.proofs.Closed.{AreLower, lower, roots_in}
use Rattle.inc_roots.proofs.Members.{IsIn, from_flat, of_any, of_one, passes_from, passes_in}
use Rattle.inc_roots.proofs.Sorted.{one_list, order_ascends, order_from, order_has}

-- ---- The highest kind.

-- what a query reaches is itself or of a lower kind
reached_low : (reads : Query → List Query) → AreLower reads → (n : ℕ) (q r : Query) → IsIn (reached_to reads n q) r → (q ≡ r) ⊎ (r.kind < q.kind)
reached_low reads low zero q r (inl e) = inl e
reached_low reads low zero q r (inr none) = absurd none
reached_low reads low (suc n) q r (inl e) = inl e
reached_low reads low (suc n) q r (inr h) =
    let found = from_flat (reached_to reads n) (reads q) r h in
    let l : found.0.kind < q.kind = low q found.0 found.1 in
    elim (reached_low reads low n found.0 r found.2) [
      | inl e ↦ inr (subst (λ (t : Query). t.kind < q.kind) e l)
      | inr k ↦ inr (omega (arith, l, k))
    ]

module _ (reads : Query → List Query) (low : AreLower reads) (top : ℕ) (roots : List Query) (high : All (λ (q : Query). q.kind ≤ top) roots) where
  is_root : (q : Query) → IsIn (all_reached reads roots) q → q.kind ≡ top → IsIn roots q
  is_root q h e =
      let found = from_flat (reached reads) roots q h in
      let most : found.0.kind ≤ top = of_any (λ (q : Query). q.kind ≤ top) roots found.0 high found.1 in
      elim (reached_low reads low found.0.kind found.0 q found.2) [
        | inl same ↦ subst (IsIn roots) same found.1
        | inr l ↦ absurd (omega (arith, most, l, e))
      ]

  forth : (q : Query) → IsIn (filter (is_of top) (in_order (all_reached reads roots))) q → IsIn (in_order (filter (is_of top) roots)) q
  forth q h =
      let passed = passes_from (is_of top) (in_order (all_reached reads roots)) q h in
      order_has (filter (is_of top) roots) q (passes_in (is_of top) roots q (is_root q (order_from (all_reached reads roots) q passed.0) ((Decides-eqb q.kind top).0 passed.1)) passed.1)

  back : (q : Query) → IsIn (in_order (filter (is_of top) roots)) q → IsIn (filter (is_of top) (in_order (all_reached reads roots))) q
  back q h =
      let passed = passes_from (is_of top) roots q (order_from (filter (is_of top) roots) q h) in
      passes_in (is_of top) (in_order (all_reached reads roots)) q (order_has (all_reached reads roots) q (roots_in reads low roots q passed.0)) passed.1

  roots_alone : filter (is_of top) (in_order (all_reached reads roots)) ≡ in_order (filter (is_of top) roots)
  roots_alone =
      one_list queries_total (filter (is_of top) (in_order (all_reached reads roots))) (in_order (filter (is_of top) roots))
      (IsStrictlySortedBy-filter query_cmp (is_of top) (in_order (all_reached reads roots)) (order_ascends (all_reached reads roots))) (order_ascends (filter (is_of top) roots)) forth back

queries_back : (plan : Query → Plan) (input : List ℕ) (order qs : List Query) → queries_of (map (node_of plan input order) qs) ≡ qs
queries_back plan input order [] = refl
queries_back plan input order (q ∷ qs) = ap (λ rs. q ∷ rs) (queries_back plan input order qs)

graph_queries : (plan : Query → Plan) (input : List ℕ) (roots : List Query) → queries_of (graph_of plan input roots) ≡ queries_from plan input roots
unfolding graph_of
graph_queries plan input roots = queries_back plan input (queries_from plan input roots) (queries_from plan input roots)

pub highest : (plan : Query → Plan) (input : List ℕ) (roots : List Query) (top : ℕ) → ((q : Query) → ReadsFit q [] (plan q)) → All (λ q. q.kind ≤ top) roots → filter (is_of top) (queries_of (graph_of plan input roots)) ≡ in_order (filter (is_of top) roots)
unfolding queries_from
highest plan input roots top fits high = ap (filter (is_of top)) (graph_queries plan input roots) ∙ roots_alone (reads_of plan input) (lower plan input fits) top roots high

-- ---- Each once.

put_long : (q : Query) (xs : List Query) → (IsIn xs q → ⊥) → length (put q xs) ≡ length xs + 1
put_long q [] new = refl
put_long q (x ∷ xs) new = go (query_cmp q x) refl (put_long q xs (λ h. new (inr h)))
  where
    go : (o : Ordering) → query_cmp q x ≡ o → length (put q xs) ≡ length xs + 1 → length (match_ordering o (q ∷ x ∷ xs) (x ∷ xs) (x ∷ put q xs)) ≡ length (x ∷ xs) + 1
    go Less e h = omega arith
    go Equal e h = absurd (new (inl (sym (exact_queries q x e))))
    go Greater e h = omega (arith, h)

order_long : (xs : List Query) → Distinct xs → length (in_order xs) ≡ length xs
order_long [] d = refl
order_long (x ∷ xs) d =
    let more : length (put x (in_order xs)) ≡ length (in_order xs) + 1 = put_long x (in_order xs) (λ h. of_one (λ r. r ≢ x) xs x d.0 (order_from xs x h) refl) in
    let rest : length (in_order xs) ≡ length xs = order_long xs d.1 in
    omega (arith, more, rest)

-- ---- Over nothing.

-- a query of the kind that ticks is stale
all_stale : (plan : Query → Plan) (kept : ℕ → Bool) (ticking height : ℕ) (input s : List ℕ) (q : Query) → stale (setup plan kept ticking height input [] []) s q ≡ is_of ticking q
unfolding stale
all_stale plan kept ticking height input s q = and-true (q.kind == ticking) _ refl

pub fresh_ticks : (plan : Query → Plan) (kept : ℕ → Bool) (ticking height : ℕ) (input s : List ℕ) (roots : List Query) → ((q : Query) → ReadsFit q [] (plan q)) → All (λ q. q.kind ≤ ticking) roots → Distinct (filter (is_of ticking) roots)
    → count_by (stale (setup plan kept ticking height input [] []) s) (queries_of (graph_of plan input roots)) ≡ count_by (is_of ticking) roots
fresh_ticks plan kept ticking height input s roots fits high differ =
    ap (λ f. count_by f (queries_of (graph_of plan input roots))) (λ i q. all_stale plan kept ticking height input s q i)
    ∙ sym (length-filter (is_of ticking) (queries_of (graph_of plan input roots)))
    ∙ ap length (highest plan input roots ticking fits high)
    ∙ order_long (filter (is_of ticking) roots) differ
    ∙ length-filter (is_of ticking) roots
