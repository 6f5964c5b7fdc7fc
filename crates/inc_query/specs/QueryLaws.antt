-- The order of queries is total, and queries that compare alike are one.
use Rattle.std.proofs.Common.{ℕ, List, ap}
use Rattle.std.specs.Ordering.{nat_cmp, ordering_then}
use Rattle.std.specs.Cmp.{IsTotalOrder, nat_cmp_total}
use Rattle.std.specs.Cmp.Lexicographic.{slice_cmp, nat_list_cmp_total}
use Rattle.std.proofs.lemmas.Cmp.{on_total, then_total}
use Rattle.std.proofs.lemmas.Map.Lookups.{CmpEqualImpliesEq, exact_pairs, exact_unsigned, exact_bytes}
use Rattle.inc_query.specs.Queries.{query_cmp}
use Rattle.inc_query.specs.declared.query.Query.{Query}

pub queries_total : IsTotalOrder query_cmp
queries_total =
    then_total (on_total (λ (q : Query). q.kind) nat_cmp_total) (then_total (on_total (λ (q : Query). q.«module») nat_list_cmp_total) (on_total (λ (q : Query). q.name) nat_list_cmp_total))

pub exact_queries : CmpEqualImpliesEq query_cmp
exact_queries a b h =
    ap (λ (p : ℕ × (List ℕ × List ℕ)). record { kind = p.0; «module» = p.1.0; name = p.1.1 }) (exact_pairs nat_cmp (λ x y. ordering_then (slice_cmp nat_cmp x.0 y.0) (slice_cmp nat_cmp x.1 y.1)) exact_unsigned (exact_pairs (slice_cmp nat_cmp) (slice_cmp nat_cmp) exact_bytes exact_bytes) (a.kind, (a.«module», a.name)) (b.kind, (b.«module», b.name)) h)
