-- What is tested of nodes says that they are those of a graph.
use Rattle.std.proofs.Common.{◌≡◌, ℕ, ◌&&◌, ◌||◌, Bool, true, false, cond, not, nat_eq, nat_lt, List, [], ◌∷◌, ◌++◌, Option, Some, None, All, Decides, refl, sym, ap, ◌∙◌, subst, append_assoc, append-nil}
use Rattle.std.specs.Prelude.{slice_get}
use Rattle.std.specs.List.{AllByRecursion, IsDistinct, list_any}
use Rattle.std.specs.Option.{option_map_or}
use Rattle.std.specs.Ordering.{is_lt, nat_cmp}
use Rattle.std.specs.declared.cmp.Ordering.{Ordering}
use Rattle.std.specs.declared.cmp.Ordering.TheVariants.{Less, Equal, Greater}
use Rattle.std.proofs.lemmas.Bool.Decides.{Decides-ltb}
use Rattle.std.proofs.lemmas.Cmp.{nat_cmp_total, nat_eq_equiv}
use Rattle.std.proofs.lemmas.List.Elements.{All-nil, All-cons, All-head, All-tail}
use Rattle.std.proofs.lemmas.Map.Keys.{IsDistinct-push}
use Rattle.inc_query.specs.Queries.{query_cmp}
use Rattle.inc_query.specs.QueryLaws.{queries_total}
use Rattle.inc_graph.specs.declared.node.Node.{Node}
use Rattle.inc_graph.specs.Graphs.{HasOrder, HasQuery, IsGraph, IsLower, IsNode}
use Rattle.inc_graph.specs.Order.{are_lower, ascends, differ_from, have_reads, is_node_below, is_value_below}
use Rattle.inc_graph.proofs.Ordered.{ascends_decides, both_of, both_true}

pub less_is : (r : Ordering) → Decides (is_lt r) (r ≡ Less)
less_is Less = (λ e. refl, λ e. refl)
less_is Equal = (λ e. absurd (cc), λ e. absurd (cc))
less_is Greater = (λ e. absurd (cc), λ e. absurd (cc))

-- reads of lower kinds

lower_there : (all : List Node) (kind r : ℕ) (o : Option Node) → slice_get all r ≡ o → option_map_or (λ x. nat_lt x.query.kind kind) o false ≡ true → IsLower all kind r
lower_there all kind r None is e = absurd (cc)
lower_there all kind r (Some n) is e = record { node = n; there = is; lower = (Decides-ltb n.query.kind kind).0 e }

lower_test : (all : List Node) (kind r : ℕ) → IsLower all kind r → option_map_or (λ x. nat_lt x.query.kind kind) (slice_get all r) false ≡ true
lower_test all kind r is = ap (λ o. option_map_or (λ x. nat_lt x.query.kind kind) o false) is.there ∙ (Decides-ltb is.node.query.kind kind).1 is.lower

lower_decides : (all : List Node) (kind : ℕ) (rs : List ℕ) → Decides (are_lower all kind rs) (All (IsLower all kind) rs)
lower_decides all kind [] = (λ e. All-nil (IsLower all kind), λ h. refl)
lower_decides all kind (r ∷ rs) = (
  λ e. (let p = both_of (option_map_or (λ x. nat_lt x.query.kind kind) (slice_get all r) false) (are_lower all kind rs) e in
      All-cons (IsLower all kind) r rs (lower_there all kind r (slice_get all r) refl p.0) ((lower_decides all kind rs).0 p.1)),
  λ h. both_true (lower_test all kind r (All-head (IsLower all kind) r rs h)) ((lower_decides all kind rs).1 (All-tail (IsLower all kind) r rs h)),
)

-- reads that differ

not_of : (b : Bool) → not b ≡ true → b ≡ false
not_of true e = absurd (cc)
not_of false e = refl

not_false : {b : Bool} → b ≡ false → not b ≡ true
not_false e = ap not e

distinct_after : (seen rs : List ℕ) → IsDistinct nat_eq seen → differ_from seen rs ≡ true → IsDistinct nat_eq (seen ++ rs)
distinct_after seen [] d e = subst (IsDistinct nat_eq) (sym (append-nil seen)) d
distinct_after seen (r ∷ rs) d e =
    let p = both_of (not (list_any (nat_eq r) seen)) (differ_from (seen ++ r ∷ []) rs) e in
    let more = IsDistinct-push nat_eq_equiv seen r d (not_of (list_any (nat_eq r) seen) p.0) in
    subst (IsDistinct nat_eq) (append_assoc seen (r ∷ []) rs) (distinct_after (seen ++ r ∷ []) rs more p.1)

among : (r : ℕ) (P : ℕ → Type 0) (seen rs : List ℕ) → AllByRecursion P (seen ++ r ∷ rs) → P r
among r P [] rs h = h.0
among r P (s ∷ seen) rs h = among r P seen rs h.1

or_false : {a b : Bool} → a ≡ false → b ≡ false → (a || b) ≡ false
or_false {a} {b} p q = ap (λ c. c || b) p ∙ q

unseen : (r : ℕ) (seen rs : List ℕ) → IsDistinct nat_eq (seen ++ r ∷ rs) → list_any (nat_eq r) seen ≡ false
unfolding IsDistinct
unseen r [] rs d = refl
unseen r (s ∷ seen) rs d = or_false (nat_eq_equiv.symm r s ∙ among r (λ y. nat_eq s y ≡ false) seen rs d.0) (unseen r seen rs d.1)

differs_after : (seen rs : List ℕ) → IsDistinct nat_eq (seen ++ rs) → differ_from seen rs ≡ true
differs_after seen [] d = refl
differs_after seen (r ∷ rs) d = both_true (not_false (unseen r seen rs d)) (differs_after (seen ++ r ∷ []) rs (subst (IsDistinct nat_eq) (sym (append_assoc seen (r ∷ []) rs)) d))

none_distinct : IsDistinct nat_eq []
unfolding IsDistinct
none_distinct = tt

-- nodes

node_from : (all : List Node) (x : Node) → HasQuery x → (are_lower all x.query.kind x.reads && differ_from [] x.reads) ≡ true → IsNode all x
node_from all x has e =
    let p = both_of (are_lower all x.query.kind x.reads) (differ_from [] x.reads) e in
    record { query = has; lower = (lower_decides all x.query.kind x.reads).0 p.0; differ = distinct_after [] x.reads none_distinct p.1 }

node_test : (all : List Node) (x : Node) → IsNode all x → (are_lower all x.query.kind x.reads && differ_from [] x.reads) ≡ true
node_test all x is = both_true ((lower_decides all x.query.kind x.reads).1 is.lower) (differs_after [] x.reads is.differ)

nodes_from : (all xs : List Node) → All HasQuery xs → have_reads all xs ≡ true → All (IsNode all) xs
nodes_from all [] has e = All-nil (IsNode all)
nodes_from all (x ∷ xs) has e =
    let p = both_of (are_lower all x.query.kind x.reads && differ_from [] x.reads) (have_reads all xs) e in
    All-cons (IsNode all) x xs (node_from all x (All-head HasQuery x xs has) p.0) (nodes_from all xs (All-tail HasQuery x xs has) p.1)

nodes_test : (all xs : List Node) → All (IsNode all) xs → have_reads all xs ≡ true
nodes_test all [] are = refl
nodes_test all (x ∷ xs) are = both_true (node_test all x (All-head (IsNode all) x xs are)) (nodes_test all xs (All-tail (IsNode all) x xs are))

node_below_tells : (x y : Node) → Decides (is_node_below x y) (query_cmp x.query y.query ≡ Less)
node_below_tells x y = less_is (query_cmp x.query y.query)

pub graph_decides : (nodes : List Node) → All HasQuery nodes → Decides (ascends is_node_below None nodes && have_reads nodes nodes) (IsGraph nodes)
graph_decides nodes has =
    let sorted = ascends_decides query_cmp queries_total (λ (x : Node). x.query) is_node_below node_below_tells nodes in (
      λ e. (let p = both_of (ascends is_node_below None nodes) (have_reads nodes nodes) e in record { ascend = sorted.0 p.0; each = nodes_from nodes nodes has p.1 }),
      λ g. both_true (sorted.1 g.ascend) (nodes_test nodes nodes g.each),
    )

value_below_tells : (x y : ℕ × List ℕ) → Decides (is_value_below x y) (nat_cmp x.0 y.0 ≡ Less)
value_below_tells x y = go (nat_lt x.0 y.0) refl
  where
    go : (b : Bool) → nat_lt x.0 y.0 ≡ b → Decides (is_value_below x y) (nat_cmp x.0 y.0 ≡ Less)
    go true is = (λ e. ap (λ b. cond b Less (cond (nat_eq x.0 y.0) Equal Greater)) is, λ e. is)
    go false is = (λ e. absurd (cc), λ less. absurd (not_less (nat_eq x.0 y.0) (sym (ap (λ b. cond b Less (cond (nat_eq x.0 y.0) Equal Greater)) is) ∙ less)))
      where
        not_less : (b : Bool) → cond b Equal Greater ≡ Less → ⊥
        not_less true e = cc
        not_less false e = cc

-- values stand in order where each is above the one before
pub order_decides : (values : List (ℕ × List ℕ)) → Decides (ascends is_value_below None values) (HasOrder values)
order_decides = ascends_decides nat_cmp nat_cmp_total (λ (v : ℕ × List ℕ). v.0) is_value_below value_below_tells
