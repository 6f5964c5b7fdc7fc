-- What is made of the entries has the form of a graph and a cache, and is that of the queries that were asked.
use Rattle.std.proofs.Common.{◌≡◌, ◌≢◌, ℕ, ◌+◌, ◌<◌, List, [], ◌∷◌, ◌++◌, length, refl, sym, ◌∙◌, ap, subst, arith, get_or, take, false, Bool, map, cond}
use Rattle.std.specs.Prelude.{IsPermutation, IsSorted, IsTrue, IsSome}
use Rattle.std.specs.declared.cmp.Ordering.{Ordering}
use Rattle.std.specs.declared.cmp.Ordering.TheVariants.{Less, Equal, Greater}
use Rattle.std.specs.Ordering.{is_lt, eq_by_cmp, ordering_reverse}
use Rattle.std.specs.List.{All, AllByRecursion, Contains, IsDistinct, count_by}
use Rattle.std.specs.List.Sorted.{IsStrictlySortedBy}
use Rattle.std.proofs.lemmas.Bool.{false_from_ne_true}
use Rattle.std.proofs.lemmas.Cmp.{eq_by_cmp_equiv}
use Rattle.std.proofs.lemmas.List.{length-map, get_or-map, map-append, take_more}
use Rattle.std.proofs.lemmas.List.Elements.{All-from_recursion, All-contains_itself, recursion_from_All}
use Rattle.std.proofs.lemmas.List.Sums.{sum_by-cons}
use Rattle.std.proofs.lemmas.List.Sorted.{All-permutation, Contains-permutation, length_permutation}
use Rattle.std.proofs.lemmas.Map.Keys.{IsDistinct-IsPermutation, sorted_from_all_adjacent}
use Rattle.std.proofs.lemmas.Map.Made.{AllPairs-from_IsDistinct}
use Rattle.std.proofs.lemmas.Option.{slice_get-get_or}
use Rattle.sha2.specs.Sha256.{sha256}
use Rattle.inc_query.specs.Queries.{IsQuery, query_cmp}
use Rattle.inc_query.specs.QueryLaws.{queries_total, exact_queries}
use Rattle.inc_query.specs.declared.query.Query.{Query}
use Rattle.inc_graph.specs.Graphs.{IsGraph, IsNode, IsLower, IsCache, queries_of}
use Rattle.inc_graph.specs.declared.node.Node.{Node}
use Rattle.inc_engine.specs.Builds.{at, Setup, value_in, reads_in, Before, IsBuildOf}
use Rattle.inc_engine.specs.Marking.{asked, Distinct, Sound, IsRight}
use Rattle.inc_engine.specs.Finish.{IsNodeOf, IsValueOf, IsCacheOf, HasKept}
use Rattle.inc_engine.specs.declared.done.Done.{Done}
use Rattle.inc_engine.proofs.Lists.{length-asked, all-weaker, all-at}
use Rattle.inc_engine.proofs.Apart.{same_queries, positions-differ}
use Rattle.inc_engine.proofs.Marks.{formed_at}

-- the order has each query that was asked, and no other
pub ordered-has : (memo : List Done) {order : List Query} → IsPermutation (asked memo) order → All (λ (d : Done). Contains order d.query) memo
ordered-has memo {order} same = λ i d l.
    Contains-permutation (asked memo) order _ same (i, (let long = length-asked memo in omega (arith, long, l)), get_or-map (λ (x : Done). x.query) memo i d _ l)

pub ordered-asked : (memo : List Done) {order : List Query} → IsPermutation (asked memo) order → All (Contains (asked memo)) order
ordered-asked memo {order} same = All-permutation (Contains (asked memo)) (asked memo) order same (All-contains_itself (asked memo))

pub length-ordered : (memo : List Done) {order : List Query} → IsPermutation (asked memo) order → length order ≡ length memo
length-ordered memo {order} same = length_permutation (asked memo) order same ∙ length-asked memo

-- no query twice, so each is below the next
distinct-by : (qs : List Query) → Distinct qs → IsDistinct (eq_by_cmp query_cmp) qs
unfolding IsDistinct
distinct-by [] d = tt
distinct-by (q ∷ qs) d = (others qs d.0, distinct-by qs d.1)
  where
    others : (rs : List Query) → AllByRecursion (λ r. r ≢ q) rs → AllByRecursion (λ r. eq_by_cmp query_cmp q r ≡ false) rs
    others [] a = tt
    others (r ∷ rs) a = (false_from_ne_true _ (λ e. a.0 (sym ((same_queries q r).0 e))), others rs a.1)

below : (r : Ordering) → is_lt r ≡ false → (r ≡ Equal → ⊥) → ordering_reverse r ≡ Less
below Less e apart = absurd (cc)
below Equal e apart = absurd (apart refl)
below Greater e apart = refl

pub ordered-ascends : (memo : List Done) {order : List Query} → Distinct (asked memo) → IsPermutation (asked memo) order → IsSorted query_cmp order → IsStrictlySortedBy query_cmp order
ordered-ascends memo {order} distinct same sorted =
    let none : Query = record { kind = 0; «module» = []; name = [] } in
    let differ = AllPairs-from_IsDistinct same_queries order (IsDistinct-IsPermutation (eq_by_cmp query_cmp) (λ x y. flips x y) (asked memo) order same (distinct-by (asked memo) distinct)) in
    sorted_from_all_adjacent queries_total order none (λ k l.
    let here = get_or order k none in
    let next = get_or order (k + 1) none in
    queries_total.antisymm here next ∙ below (query_cmp next here) (sorted k none (omega arith) l) (λ e. differ k (k + 1) none (omega arith) l (sym (exact_queries next here e))))
  where
    flips : (x y : Query) → eq_by_cmp query_cmp x y ≡ eq_by_cmp query_cmp y x
    flips x y = (eq_by_cmp_equiv queries_total).symm x y

-- a node of an entry
node_is : {b : Setup} {memo : List Done} (nodes : List Node) {order : List Query} (n : Node) → Sound b memo → queries_of nodes ≡ order → IsNodeOf order memo n → IsNode nodes n
node_is {b} {memo} nodes {order} n sound e x =
    let formed = formed_at x.place x.done sound x.within x.is in
    let kinds : x.done.query.kind ≡ n.query.kind = ap (λ (q : Query). q.kind) (sym x.query) in
    record {
      query = subst IsQuery (sym x.query) formed.query;
      lower = All-from_recursion (IsLower nodes n.query.kind) n.reads (each n.reads x.done.reads x.places x.reads_are formed.visited.each kinds);
      differ = positions-differ (at order) n.reads (subst Distinct (sym x.reads_are) formed.differ);
    }
  where
    long : length nodes ≡ length order
    long = sym (length-map nodes (λ (m : Node). m.query)) ∙ ap length e

    here : (y : ℕ) (q : Query) → y < length order → at order y ≡ q → q.kind < n.query.kind → IsLower nodes n.query.kind y
    here y q l there low = record {
      node = get_or nodes y n;
      there = slice_get-get_or nodes y n (omega (arith, long));
      lower = (let kind = ap (λ (r : Query). r.kind) (sym (get_or-map (λ (m : Node). m.query) nodes y n _ (omega (arith, long))) ∙ ap (λ o. at o y) e ∙ there) in omega (arith, kind, low));
    }

    each : (xs rs : List ℕ) → AllByRecursion (λ i. i < length order) xs → map (at order) xs ≡ map (at (asked memo)) rs → AllByRecursion (λ i. (i < length (asked memo)) × ((at (asked memo) i).kind < x.done.query.kind)) rs → x.done.query.kind ≡ n.query.kind → AllByRecursion (IsLower nodes n.query.kind) xs
    each [] rs a m v kinds = tt
    each (y ∷ ys) [] a m v kinds = absurd (cc)
    each (y ∷ ys) (r ∷ rs) a m v kinds =
        let head : at order y ≡ at (asked memo) r = cc in
        let tail : map (at order) ys ≡ map (at (asked memo)) rs = cc in
        (here y (at (asked memo) r) a.0 head (omega (arith, v.0.1, kinds)), each ys rs a.1 tail v.1 kinds)

pub graph_is : {b : Setup} {memo : List Done} (nodes : List Node) {order : List Query} → Sound b memo → IsPermutation (asked memo) order → IsSorted query_cmp order → queries_of nodes ≡ order → All (IsNodeOf order memo) nodes → IsGraph nodes
graph_is {b} {memo} nodes {order} sound same sorted e all = record {
  ascend = subst (IsStrictlySortedBy query_cmp) (sym e) (ordered-ascends memo sound.distinct same sorted);
  each = λ i n l. node_is nodes _ sound e (all i n l);
}

pub kinds_below : {b : Setup} {memo : List Done} (nodes : List Node) {order : List Query} → Sound b memo → All (IsNodeOf order memo) nodes → All (λ n. n.query.kind < b.height) nodes
kinds_below {b} {memo} nodes {order} sound all = λ i n l. one (get_or nodes i n) (all i n l)
  where
    one : (n : Node) → IsNodeOf order memo n → n.query.kind < b.height
    one n x = (let formed = formed_at x.place x.done sound x.within x.is in let kinds = ap (λ (q : Query). q.kind) x.query in omega (arith, formed.kind, kinds))

pub length-nodes : (nodes : List Node) {order : List Query} → queries_of nodes ≡ order → length nodes ≡ length order
length-nodes nodes e = sym (length-map nodes (λ (m : Node). m.query)) ∙ ap length e

pub cache_is : {kept : ℕ → Bool} {memo : List Done} (nodes : List Node) {order : List Query} (cache : List (ℕ × List ℕ)) → queries_of nodes ≡ order → IsCacheOf kept memo order (length order) cache → IsCache nodes cache
cache_is {kept} {memo} nodes {order} cache e h = record {
  ascend = h.ascend;
  within = subst (λ n. All (λ x. x.0 < n) cache) (sym (length-nodes nodes e)) h.within;
}

pub has_kept : {kept : ℕ → Bool} {memo : List Done} (nodes : List Node) {order : List Query} (cache : List (ℕ × List ℕ)) → queries_of nodes ≡ order → IsCacheOf kept memo order (length order) cache → HasKept kept nodes cache
has_kept {kept} {memo} nodes {order} cache e h =
    let P : List Query → Type 0 = λ qs. All (λ x. IsTrue (kept (at qs x.0).kind)) cache in
    record {
      kept_only = subst P (sym e) h.kept_only;
      complete = λ i l is. h.complete i (let long = length-nodes nodes e in omega (arith, long, l)) (subst (λ (qs : List Query). IsTrue (kept (at qs i).kind)) e is);
    }

-- they are those of queries asked of this input
pub finished : {b : Setup} {memo : List Done} (nodes : List Node) {order : List Query} (cache : List (ℕ × List ℕ)) (s : List ℕ) → Sound b memo → queries_of nodes ≡ order → All (IsNodeOf order memo) nodes → IsCacheOf b.kept memo order (length order) cache → Before b s → IsBuildOf b.plan b.kept b.input nodes cache
finished {b} {memo} nodes {order} cache s sound e all kept before = record {
  prints = λ i n l. print _ (all i n l);
  reads = λ i n l. read _ (all i n l);
  values = λ i x l. value _ (kept.values i x l);
  complete = (has_kept nodes cache e kept).complete;
}
  where
    right : (i : ℕ) (d : Done) → i < length memo → d ≡ get_or memo i d → IsRight b (asked memo) d
    right i d l f = subst (IsRight b (asked memo)) (sym f) (sound.right s before i d l)

    print : (n : Node) → IsNodeOf order memo n → n.print.0 ≡ sha256 (value_in b b.input n.query)
    print n x = x.print ∙ (right x.place x.done x.within x.is).print ∙ ap (λ q. sha256 (value_in b b.input q)) (sym x.query)

    read : (n : Node) → IsNodeOf order memo n → map (at (queries_of nodes)) n.reads ≡ reads_in b b.input n.query
    read n x = ap (λ (o : List Query). map (at o) n.reads) e ∙ x.reads_are ∙ (right x.place x.done x.within x.is).reads_are ∙ ap (reads_in b b.input) (sym x.query)

    value : (x : ℕ × List ℕ) → IsValueOf memo (at order x.0) x.1 → x.1 ≡ value_in b b.input (at (queries_of nodes) x.0)
    value x v = (right v.place v.done v.within v.is).value_is x.1 v.value ∙ ap (value_in b b.input) v.query ∙ ap (λ (o : List Query). value_in b b.input (at o x.0)) (sym e)

-- positions in the memo as positions in the order
pub ranked : (order : List Query) (ranks : List ℕ) (qs : List Query) (places : List ℕ) → map (at order) ranks ≡ qs → All (λ i. i < length ranks) places → map (at order) (map (λ i. get_or ranks i 0) places) ≡ map (at qs) places
ranked order ranks qs places e all = each places (recursion_from_All (λ i. i < length ranks) places all)
  where
    each : (is : List ℕ) → AllByRecursion (λ i. i < length ranks) is → map (at order) (map (λ i. get_or ranks i 0) is) ≡ map (at qs) is
    each [] a = refl
    each (i ∷ is) a =
        let here : at order (get_or ranks i 0) ≡ at qs i = sym (get_or-map (at order) ranks i 0 _ a.0) ∙ ap (λ rs. at rs i) e in
        ap (λ q. q ∷ map (at order) (map (λ k. get_or ranks k 0) is)) here ∙ ap (λ rs. at qs i ∷ rs) (each is a.1)

pub ranked-within : (n : ℕ) (ranks places : List ℕ) → AllByRecursion (λ i. i < n) ranks → All (λ i. i < length ranks) places → AllByRecursion (λ i. i < n) (map (λ i. get_or ranks i 0) places)
ranked-within n ranks places within all = each places (recursion_from_All (λ i. i < length ranks) places all)
  where
    each : (is : List ℕ) → AllByRecursion (λ i. i < length ranks) is → AllByRecursion (λ i. i < n) (map (λ i. get_or ranks i 0) is)
    each [] a = tt
    each (i ∷ is) a = (All-from_recursion (λ k. k < n) ranks within i 0 a.0, each is a.1)

-- a count over the queries is one over the entries
pub count-asked : (f : Query → Bool) (memo : List Done) → count_by f (asked memo) ≡ count_by (λ d. f d.query) memo
count-asked f [] = refl
count-asked f (d ∷ memo) = sum_by-cons (λ q. cond (f q) 1 0) d.query (asked memo) ∙ ap (λ n. cond (f d.query) 1 0 + n) (count-asked f memo) ∙ sym (sum_by-cons (λ (x : Done). cond (f x.query) 1 0) d memo)

-- nothing is a graph and a cache
pub graph-nothing : IsGraph []
unfolding IsStrictlySortedBy
graph-nothing = record { ascend = tt; each = λ i d l. absurd (omega arith) }

pub cache-nothing : IsCache [] []
unfolding IsStrictlySortedBy
cache-nothing = record { ascend = tt; within = λ i d l. absurd (omega arith) }

-- the reads of the entries are positions of entries, and kept kinds have their values
pub reads-within : {b : Setup} (memo : List Done) → Sound b memo → All (λ d. All (λ i. i < length memo) d.reads) memo
reads-within {b} memo sound = λ i d l. one (get_or memo i d).reads (get_or memo i d).query.kind (sound.formed i d l).visited.each
  where
    one : (reads : List ℕ) (top : ℕ) → AllByRecursion (λ i. (i < length (asked memo)) × ((at (asked memo) i).kind < top)) reads → All (λ i. i < length memo) reads
    one reads top each = All-from_recursion (λ i. i < length memo) reads (all-weaker _ _ reads (λ i p. (let long = length-asked memo in omega (arith, long, p.0))) each)

pub kept-some : {b : Setup} (memo : List Done) → Sound b memo → All (λ d. IsTrue (b.kept d.query.kind) → IsSome d.value) memo
kept-some memo sound = λ i d l. (sound.formed i d l).kept

-- the same, as positions of ranks
pub reads-ranked : {b : Setup} (memo : List Done) (order : List Query) (ranks : List ℕ) → Sound b memo → map (at order) ranks ≡ asked memo → All (λ d. All (λ i. i < length ranks) d.reads) memo
reads-ranked memo order ranks sound are =
    let long : length ranks ≡ length memo = sym (length-map ranks (at order)) ∙ ap length are ∙ length-asked memo in
    subst (λ n. All (λ (d : Done). All (λ i. i < n) d.reads) memo) (sym long) (reads-within memo sound)

-- a node that is made of an entry
pub node-made : (order : List Query) (memo : List Done) (ranks : List ℕ) (place : ℕ) (done : Done) (n : Node) → place < length memo → done ≡ get_or memo place done → map (at order) ranks ≡ asked memo → AllByRecursion (λ i. i < length order) ranks → All (λ (d : Done). All (λ i. i < length ranks) d.reads) memo → n.query ≡ done.query → n.print ≡ done.print → n.reads ≡ map (λ i. get_or ranks i 0) done.reads → IsNodeOf order memo n
node-made order memo ranks place done n within is are ranked_in reads query print made =
    let here : All (λ i. i < length ranks) done.reads = all-at (λ (d : Done). All (λ i. i < length ranks) d.reads) memo place done reads within is in
    record {
      place = place;
      done = done;
      within = within;
      is = is;
      query = query;
      print = ap (λ p. p.0) print;
      reads_are = ap (map (at order)) made ∙ ranked order ranks (asked memo) done.reads are here;
      places = subst (AllByRecursion (λ i. i < length order)) (sym made) (ranked-within (length order) ranks done.reads ranked_in here);
    }

-- one more node
pub queries-more : (order : List Query) (i : ℕ) (q : Query) (nodes new : List Node) (n : Node) → i < length order → queries_of nodes ≡ take i order → new ≡ nodes ++ n ∷ [] → n.query ≡ get_or order i q → queries_of new ≡ take (i + 1) order
queries-more order i q nodes new n l e push is =
    ap queries_of push ∙ map-append (λ (m : Node). m.query) nodes (n ∷ []) ∙ ap (λ qs. qs ++ n.query ∷ []) e ∙ ap (λ x. take i order ++ x ∷ []) is ∙ sym (take_more order i q l)
