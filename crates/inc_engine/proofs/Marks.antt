-- What marking finds, and what a new entry leaves.
use Rattle.std.proofs.Common.{◌≡◌, ◌≢◌, ℕ, suc, zero, ◌+◌, ◌<◌, ◌≤◌, ◌⊎◌, inl, inr, List, [], ◌∷◌, ◌++◌, length, refl, sym, ◌∙◌, ap, subst, map, arith, rules, true, false, cond, ◌==◌, get_or, take, drop, add-one, append_assoc, length-append}
use Rattle.std.specs.Prelude.{Option, Some, None, Result, Ok, Err, IfOk, IsSome, IsTrue, slice_set}
use Rattle.std.specs.List.{All, AllByRecursion, count_by}
use Rattle.std.proofs.lemmas.List.{take_all, get_or-map, length-map, map-append}
use Rattle.std.proofs.lemmas.List.Elements.{All-push, All-set, All-weaker, recursion_from_All, All-from_recursion}
use Rattle.std.proofs.lemmas.List.Sums.{sum_by-append}
use Rattle.std.proofs.lemmas.Bool.{false_from_ne_true}
use Rattle.std.proofs.lemmas.Bool.Decides.{Decides-eqb}
use Rattle.std.proofs.lemmas.Option.{get_or_from_slice_get, slice_get_cases}
use Rattle.std.proofs.Math.Seq.{take-suc, map-set_same}
use Rattle.std.proofs.Math.ListN.{get_or-append}
use Rattle.sha2.specs.Sha256.{sha256}
use Rattle.inc_query.specs.Queries.{IsQuery}
use Rattle.inc_query.specs.Plans.{ReadsFit}
use Rattle.inc_query.specs.PlanLaws.{same-above, prefix-above}
use Rattle.inc_query.specs.Ticks.{rise}
use Rattle.inc_query.specs.TickLaws.{rise-none, rise-rise}
use Rattle.inc_query.specs.declared.query.Query.{Query}
use Rattle.inc_graph.specs.Graphs.{IsGraph, IsNode, IsLower, queries_of}
use Rattle.inc_graph.specs.declared.node.Node.{Node}
use Rattle.inc_engine.specs.Builds.{at, Setup, value_in, reads_in, Before, stale, Reached, itself, by_read}
use Rattle.inc_engine.specs.Marking.{asked, Distinct, Visited, IsFormed, IsRight, Sound, Grew, IsAt, DidRun, IsValue, Greening, IsCached, Marked, Settled}
use Rattle.inc_engine.specs.declared.done.Done.{Done}
use Rattle.inc_engine.specs.declared.done.Ran.{Ran}
use Rattle.inc_engine.proofs.Lists.{all-append, all-weaker, all-push, distinct-push, at-asked, length-asked, wider-visited, mapped-more, contains_in}
use Rattle.inc_engine.proofs.Stale.{read_query, prints_agree, prints_differ, stale-differs, stale-agree, stale-new, stale-start}
use Rattle.inc_engine.proofs.Steps.{grew-then, at-is, mapped-grew}

-- the j-th read of the node at a place
pub record IsReadOf (nodes : List Node) (place : ℕ) (items : List ℕ) (j : ℕ) (n : Node) : Type 0 where
  pub within : get_or items j 0 < length nodes
  pub is : n ≡ get_or nodes (get_or items j 0) n
  pub query : at (queries_of nodes) (get_or items j 0) ≡ n.query
  pub lower : n.query.kind < (at (queries_of nodes) place).kind
  pub form : IsQuery n.query

-- a lower node is there
pub lower-within : (nodes : List Node) (kind i : ℕ) → IsLower nodes kind i → i < length nodes
lower-within nodes kind i h = elim (slice_get_cases nodes i).1 [
  | inl here ↦ here.1
  | inr past ↦ absurd (let bad : Some h.node ≡ None = sym h.there ∙ past.1 in cc)
]

pub lower-kind : (nodes : List Node) (kind i : ℕ) (n : Node) → IsLower nodes kind i → n ≡ get_or nodes i n → n.query.kind < kind
lower-kind nodes kind i n h e =
    let same : n ≡ h.node = e ∙ get_or_from_slice_get nodes i h.node n h.there in
    let kinds = ap (λ (m : Node). m.query.kind) same in
    omega (arith, h.lower, kinds)

node_at : (nodes : List Node) → IsGraph nodes → (i : ℕ) (n : Node) → i < length nodes → n ≡ get_or nodes i n → IsNode nodes n
node_at nodes graph i n l e = subst (IsNode nodes) (sym e) (graph.each i n l)

pub is_read : (nodes : List Node) → IsGraph nodes → (place : ℕ) (node : Node) (items : List ℕ) (j : ℕ) (n : Node) → place < length nodes → node ≡ get_or nodes place node → items ≡ node.reads → j < length items → n ≡ get_or nodes (get_or items j 0) n → IsReadOf nodes place items j n
is_read nodes graph place node items j n l e same m f =
    let all = subst (λ xs. All (IsLower nodes node.query.kind) xs) (sym same) (node_at nodes graph place node l e).lower in
    let within = lower-within nodes node.query.kind (get_or items j 0) (all j 0 m) in
    let top = ap (λ (q : Query). q.kind) (read_query nodes place node l e) in
    record {
      within = within;
      is = f;
      query = read_query nodes (get_or items j 0) n within f;
      lower = omega (arith, top, lower-kind nodes node.query.kind (get_or items j 0) n (all j 0 m) f);
      form = (node_at nodes graph (get_or items j 0) n within f).query;
    }

-- the reads that a node had
node_reads : {b : Setup} {s : List ℕ} (place : ℕ) (node : Node) → Before b s → place < length b.nodes → node ≡ get_or b.nodes place node → map (at (queries_of b.nodes)) node.reads ≡ reads_in b s (at (queries_of b.nodes) place)
node_reads {b} {s} place node before l e =
    let P : Node → Type 0 = λ n. map (at (queries_of b.nodes)) n.reads ≡ reads_in b s n.query in
    let here : P node = subst P (sym e) (before.of.reads place node l) in
    here ∙ ap (reads_in b s) (sym (read_query b.nodes place node l e))

-- the entry of the memo at a position is right
pub right_at : {b : Setup} {memo : List Done} {s : List ℕ} (i : ℕ) (d : Done) → Sound b memo → Before b s → i < length memo → d ≡ get_or memo i d → IsRight b (asked memo) d
right_at {b} {memo} {s} i d sound before l e = subst (IsRight b (asked memo)) (sym e) (sound.right s before i d l)

pub formed_at : {b : Setup} {memo : List Done} (i : ℕ) (d : Done) → Sound b memo → i < length memo → d ≡ get_or memo i d → IsFormed b (asked memo) d
formed_at {b} {memo} i d sound l e = subst (IsFormed b (asked memo)) (sym e) (sound.formed i d l)

pub query_is : (memo : List Done) {q : Query} (i : ℕ) (d : Done) → IsAt memo i q → d ≡ get_or memo i d → d.query ≡ q
query_is memo i d h e = ap (λ (x : Done). x.query) e ∙ h.1 d

-- a read whose print differs
pub marked-differs : (qs : List Query) {b : Setup} {memo : List Done} {place : ℕ} {items : List ℕ} {j : ℕ} {n : Node} (node : Node) (i : ℕ) (d : Done) → IsReadOf b.nodes place items j n → place < length b.nodes → node ≡ get_or b.nodes place node → items ≡ node.reads → j < length items → Sound b memo → IsAt memo i n.query → d ≡ get_or memo i d → d.print.0 ≢ n.print.0 → Marked b qs (at (queries_of b.nodes) place) None
marked-differs qs {b} {memo} {place} {items} {j} {n} node i d read l e same m sound is f differ = λ s before.
    let right = right_at i d sound before is.0 f in
    let apart = prints_differ before right (get_or items j 0) read.within read.is (query_is memo i d is f) differ in
    let P : Query → Type 0 = λ q. value_in b s q ≢ value_in b b.input q in
    let apart_there : P (at (queries_of b.nodes) (get_or items j 0)) = subst P (sym read.query) apart in
    let reads : map (at (queries_of b.nodes)) items ≡ reads_in b s (at (queries_of b.nodes) place) = ap (map (at (queries_of b.nodes))) same ∙ node_reads place node before l e in
    stale-differs b s (at (queries_of b.nodes) place) items j reads m apart_there

-- one more read that agrees
pub greening-more : {b : Setup} {memo : List Done} {place : ℕ} {items : List ℕ} {j : ℕ} {n : Node} {rs : List Query} (i : ℕ) (d : Done) → IsReadOf b.nodes place items j n → Sound b memo → IsAt memo i n.query → d ≡ get_or memo i d → d.print.0 ≡ n.print.0 → Greening b rs → Greening b (rs ++ n.query ∷ [])
greening-more {b} {memo} {place} {items} {j} {n} {rs} i d read sound is f same green = record {
  agree = λ s before. all-push _ rs n.query (green.agree s before) (prints_agree before (right_at i d sound before is.0 f) (get_or items j 0) read.within read.is (query_is memo i d is f) same);
}

pub taken-more : {nodes : List Node} {place : ℕ} {items : List ℕ} {j : ℕ} {n : Node} → IsReadOf nodes place items j n → j < length items → map (at (queries_of nodes)) (take (j + 1) items) ≡ map (at (queries_of nodes)) (take j items) ++ n.query ∷ []
taken-more {nodes} {place} {items} {j} {n} read m =
    let position = get_or items j 0 in
    let more : map (at (queries_of nodes)) (take (j + 1) items) ≡ map (at (queries_of nodes)) (take j items) ++ at (queries_of nodes) position ∷ [] = rw (add-one, take-suc items j 0 m) (map-append (at (queries_of nodes)) (take j items) (position ∷ [])) in
    more ∙ ap (λ q. map (at (queries_of nodes)) (take j items) ++ q ∷ []) read.query

-- the positions of the reads that were visited
pub told-more : {b : Setup} {nodes : List Node} {place : ℕ} {items : List ℕ} {j : ℕ} {n : Node} {root : Query} {old new : List Done} {places : List ℕ} {k top from to : ℕ} (i : ℕ) (d : Done) → IsReadOf nodes place items j n → j < length items → Visited (asked old) k places → Grew b root old new top from to → IsAt new i n.query → map (at (asked old)) places ≡ map (at (queries_of nodes)) (take j items) → map (at (asked new)) (places ++ i ∷ []) ≡ map (at (queries_of nodes)) (take (j + 1) items)
told-more {b} {nodes} {place} {items} {j} {n} {root} {old} {new} {places} {k} {top} {from} {to} i d read m visited grew there told =
    map-append (at (asked new)) places (i ∷ [])
    ∙ ap (λ rs. rs ++ at (asked new) i ∷ []) (mapped-grew visited grew ∙ told)
    ∙ ap (λ q. map (at (queries_of nodes)) (take j items) ++ q ∷ []) (at-is new i n.query d there)
    ∙ sym (taken-more read m)

pub told-all : (nodes : List Node) (items : List ℕ) {j : ℕ} {rs : List Query} → length items ≤ j → rs ≡ map (at (queries_of nodes)) (take j items) → rs ≡ map (at (queries_of nodes)) items
told-all nodes items {j} {rs} l told = told ∙ ap (map (at (queries_of nodes))) (take_all j items l)

-- the read that a mark visits is a read of the query
pub way-mark : {b : Setup} {place : ℕ} {items : List ℕ} {j : ℕ} {n : Node} (node : Node) → IsReadOf b.nodes place items j n → place < length b.nodes → node ≡ get_or b.nodes place node → items ≡ node.reads → j < length items → 0 < (at (queries_of b.nodes) place).kind → Greening b (map (at (queries_of b.nodes)) (take j items)) → (s : List ℕ) → Before b s → Reached (reads_in b b.input) (at (queries_of b.nodes) place) n.query
way-mark {b} {place} {items} {j} {n} node read l e same m above green s before =
    let q = at (queries_of b.nodes) place in
    let f = at (queries_of b.nodes) in
    let whole : map f items ≡ reads_in b s q = ap (map f) same ∙ node_reads place node before l e in
    let parts : reads_in b s q ≡ map f (take j items) ++ n.query ∷ map f (drop (suc j) items) = sym whole ∙ map-split f items j m ∙ ap (λ r. map f (take j items) ++ r ∷ map f (drop (suc j) items)) read.query in
    let more = prefix-above b.plan s b.input q above (map f (take j items)) n.query (map f (drop (suc j) items)) parts (green.agree s before) in
    by_read q n.query (contains_in (map f (take j items)) n.query more.0 more.1)
  where
    map-split : (f : ℕ → Query) (xs : List ℕ) (k : ℕ) → k < length xs → map f xs ≡ map f (take k xs) ++ f (get_or xs k 0) ∷ map f (drop (suc k) xs)
    map-split f [] k h = absurd (omega arith)
    map-split f (x ∷ xs) zero h = refl
    map-split f (x ∷ xs) (suc k) h = ap (λ r. f x ∷ r) (map-split f xs k (omega arith))

-- a query whose reads all agree is green
pub marked-green : {b : Setup} {place : ℕ} {items : List ℕ} {qs : List Query} (node : Node) (places : List ℕ) (d : Done) → ((x : Query) → ReadsFit x [] (b.plan x)) → IsGraph b.nodes → place < length b.nodes → node ≡ get_or b.nodes place node → items ≡ node.reads → 0 < (at (queries_of b.nodes) place).kind → (at (queries_of b.nodes) place).kind < b.height → map (at qs) places ≡ map (at (queries_of b.nodes)) items → Distinct (map (at (queries_of b.nodes)) items) → Greening b (map (at (queries_of b.nodes)) items) → d.query ≡ node.query → d.print.0 ≡ node.print.0 → d.reads ≡ places → IsCached b.kept b.cache place node.query.kind d.value → Visited qs (at (queries_of b.nodes) place).kind places → Marked b qs (at (queries_of b.nodes) place) (Some d)
marked-green {b} {place} {items} {qs} node places d fits graph l e same above below told differ green query print reads_are value visited =
    let here = read_query b.nodes place node l e in
    let mine : d.query ≡ at (queries_of b.nodes) place = query ∙ sym here in
    let reads_told : map (at qs) d.reads ≡ map (at (queries_of b.nodes)) items = ap (map (at qs)) reads_are ∙ told in (
      mine,
      λ s before.
          let q = at (queries_of b.nodes) place in
          let old : map (at (queries_of b.nodes)) items ≡ reads_in b s q = ap (map (at (queries_of b.nodes))) same ∙ node_reads place node before l e in
          let agree : AllByRecursion (λ r. value_in b s r ≡ value_in b b.input r) (reads_in b s q) = subst (AllByRecursion (λ r. value_in b s r ≡ value_in b b.input r)) old (green.agree s before) in
          let law = same-above b.plan s b.input fits q above agree in
          let P : Node → Type 0 = λ n. n.print.0 ≡ sha256 (value_in b s n.query) in
          let printed : P node = subst P (sym e) (before.of.prints place node l) in (
            record {
              print = print ∙ printed ∙ ap (λ r. sha256 (value_in b s r)) (sym here) ∙ ap sha256 law.1 ∙ ap (λ r. sha256 (value_in b b.input r)) (sym mine);
              reads_are = reads_told ∙ old ∙ law.0 ∙ ap (reads_in b b.input) (sym mine);
              value_is = λ v has. cached_value s before law.1 d.value value v has;
            },
            stale-agree b s q place l refl agree,
          ),
      record {
        query = subst IsQuery (sym query) (node_at b.nodes graph place node l e).query;
        kind = (let k = ap (λ (q : Query). q.kind) mine in omega (arith, below, k));
        visited = subst (λ k. Visited qs k d.reads) (sym (ap (λ (q : Query). q.kind) mine)) (subst (λ xs. Visited qs (at (queries_of b.nodes) place).kind xs) (sym reads_are) visited);
        differ = subst Distinct (sym reads_told) differ;
        kept = λ is. cached_kept d.value value (subst (λ (r : Query). IsTrue (b.kept r.kind)) query is);
      },
    )
  where
    cached_value : (s : List ℕ) → Before b s → value_in b s (at (queries_of b.nodes) place) ≡ value_in b b.input (at (queries_of b.nodes) place) → (o : Option (List ℕ)) → IsCached b.kept b.cache place node.query.kind o → (v : List ℕ) → o ≡ Some v → v ≡ value_in b b.input d.query
    cached_value s before law None h v has = absurd (cc)
    cached_value s before law (Some w) h v has =
        let entry : ℕ × List ℕ = (place, w) in
        let found : get_or b.cache h.0 entry ≡ entry = h.2 entry in
        let is = before.of.values h.0 entry h.1 in
        let P : (ℕ × List ℕ) → Type 0 = λ x. x.1 ≡ value_in b s (at (queries_of b.nodes) x.0) in
        let w_is : w ≡ value_in b s (at (queries_of b.nodes) place) = subst P found is in
        let same_value : w ≡ v = cc in
        sym same_value ∙ w_is ∙ law ∙ ap (value_in b b.input) (read_query b.nodes place node l e ∙ sym query)

    cached_kept : (o : Option (List ℕ)) → IsCached b.kept b.cache place node.query.kind o → IsTrue (b.kept node.query.kind) → IsSome o
    cached_kept None h is = absurd (cc)
    cached_kept (Some w) h is = search rules

-- a kept value that isn't in the cache
pub marked-uncached : (qs : List Query) {b : Setup} {place : ℕ} (node : Node) → place < length b.nodes → node ≡ get_or b.nodes place node → IsTrue (b.kept node.query.kind) → All (λ e. e.0 ≢ place) b.cache → Marked b qs (at (queries_of b.nodes) place) None
marked-uncached qs {b} {place} node l e kept none = λ s before.
    let here = read_query b.nodes place node l e in
    let P : Query → Type 0 = λ q. IsTrue (b.kept q.kind) in
    let is : P (at (queries_of b.nodes) place) = subst P (sym here) kept in
    let found = before.of.complete place l is in
    let long = length-map b.cache (λ (x : ℕ × List ℕ). x.0) in
    absurd (none found.0 (place, []) (omega (arith, found.1, long)) (sym (get_or-map (λ (x : ℕ × List ℕ). x.0) b.cache found.0 (place, []) place (omega (arith, found.1, long))) ∙ found.2))

-- the entry of a query that was run
pub settled-run : {b : Setup} {q : Query} {old new : List Done} {from to : ℕ} {r : Ran} (d : Done) → IsQuery q → q.kind < b.height → DidRun b q old new from to r → ((s : List ℕ) → Before b s → stale b s q ≡ (q.kind == b.ticking)) → d.query ≡ q → d.print.0 ≡ sha256 r.value → d.reads ≡ r.reads → d.value ≡ Some r.value → Settled b q old new from to d
settled-run {b} {q} {old} {new} {from} {to} {r} d form height ran new_is query print reads value = record {
  until = ran.until;
  grew = ran.grew;
  query = query;
  right = λ s before. record {
    print = print ∙ ap sha256 (ran.value_is s before) ∙ ap (λ x. sha256 (value_in b b.input x)) (sym query);
    reads_are = ap (map (at (asked new))) reads ∙ ran.reads_are s before ∙ ap (reads_in b b.input) (sym query);
    value_is = λ v has. (let same : r.value ≡ v = (let both : Some r.value ≡ Some v = sym value ∙ has in cc) in sym same ∙ ran.value_is s before ∙ ap (value_in b b.input) (sym query));
  };
  formed = record {
    query = subst IsQuery (sym query) form;
    kind = (let k = ap (λ (x : Query). x.kind) query in omega (arith, height, k));
    visited = subst (λ k. Visited (asked new) k d.reads) (sym (ap (λ (x : Query). x.kind) query)) (subst (λ xs. Visited (asked new) q.kind xs) (sym reads) ran.visited);
    differ = subst (λ xs. Distinct (map (at (asked new)) xs)) (sym reads) ran.differ;
    kept = λ _. subst (λ (o : Option (List ℕ)). IsSome o) (sym value) (search rules);
  };
  ticked = λ s before _. ran.ticked ∙ ap (λ x. rise ran.until (cond x 1 0)) (sym (new_is s before));
}

-- a query that isn't to be found green
pub stale-other : {b : Setup} {q : Query} → (q.kind ≡ 0) ⊎ All (λ n. n.query ≢ q) b.nodes → 0 < b.ticking → (s : List ℕ) → Before b s → stale b s q ≡ (q.kind == b.ticking)
stale-other {b} {q} (inl e) l s before = stale-start b s q e l
stale-other {b} {q} (inr h) l s before = stale-new b s q h

-- found green
pub settled-green : {b : Setup} {q : Query} (place : ℕ) {old new : List Done} {from to : ℕ} (d : Done) → at (queries_of b.nodes) place ≡ q → Grew b (at (queries_of b.nodes) place) old new (at (queries_of b.nodes) place).kind from to → Marked b (asked new) (at (queries_of b.nodes) place) (Some d) → Settled b q old new from to d
settled-green {b} {q} place {old} {new} {from} {to} d e grew marked =
    let P : Query → Type 0 = λ r. Settled b r old new from to d in
    subst P e (record {
      until = to;
      grew = grew;
      query = marked.0;
      formed = marked.2;
      right = λ s before. (marked.1 s before).0;
      ticked = λ s before _. sym (rise-none to) ∙ ap (λ x. rise to (cond x 1 0)) (sym (marked.1 s before).1);
    })

-- run after it wasn't found green
pub settled-after : {b : Setup} {q : Query} (place : ℕ) {old mid new : List Done} {from between to : ℕ} {r : Ran} (d : Done) → IsQuery q → q.kind < b.height → at (queries_of b.nodes) place ≡ q → Grew b (at (queries_of b.nodes) place) old mid (at (queries_of b.nodes) place).kind from between → Marked b (asked mid) (at (queries_of b.nodes) place) None → DidRun b q mid new between to r → d.query ≡ q → d.print.0 ≡ sha256 r.value → d.reads ≡ r.reads → d.value ≡ Some r.value → Settled b q old new from to d
settled-after {b} {q} place {old} {mid} {new} {from} {between} {to} {r} d form height e grew marked ran query print reads value =
    let P : Query → Type 0 = λ x. Grew b x old mid x.kind from between in
    let first : P q = subst P e grew in
    let M : Query → Type 0 = λ x. (s : List ℕ) → Before b s → stale b s x ≡ (x.kind == b.ticking) in
    let new_is : M q = subst M e marked in
    let whole : DidRun b q old new from to r = record {
      until = ran.until;
      grew = grew-then first ran.grew (omega arith) (omega arith) (λ _ _. itself q);
      visited = ran.visited;
      differ = ran.differ;
      ticked = ran.ticked;
      value_is = ran.value_is;
      reads_are = ran.reads_are;
    } in
    settled-run d form height whole new_is query print reads value

-- the value of an entry
pub value-found : {b : Setup} {memo : List Done} {q : Query} (i : ℕ) (d : Done) (v : List ℕ) → Sound b memo → IsAt memo i q → d ≡ get_or memo i d → d.value ≡ Some v → IsValue b q v
value-found {b} {memo} {q} i d v sound is e has = record {
  is = λ s before. (right_at i d sound before is.0 e).value_is v has ∙ ap (value_in b b.input) (query_is memo i d is e);
}

-- an entry keeps its place
pub at-grew : {b : Setup} {root : Query} {old new : List Done} {top from to : ℕ} {q : Query} (i : ℕ) → IsAt old i q → Grew b root old new top from to → IsAt new i q
at-grew {b} {root} {old} {new} {top} {from} {to} {q} i is grew =
    let l0 = length-map old (λ (d : Done). d.query) in
    let l1 = length-map new (λ (d : Done). d.query) in
    let l2 : length (asked new) ≡ length (asked old ++ grew.more) = ap length grew.asked_are in
    let l3 = length-append (asked old) grew.more in
    let within : i < length new = omega (arith, is.0) in (
      within,
      λ d.
          sym (get_or-map (λ (x : Done). x.query) new i d d.query within)
          ∙ ap (λ xs. get_or xs i d.query) grew.asked_are
          ∙ get_or-append (asked old) grew.more d.query i (omega (arith, is.0))
          ∙ get_or-map (λ (x : Done). x.query) old i d d.query is.0
          ∙ is.1 d,
    )

-- a rerun of a value that wasn't kept ticks nothing
pub grew-rerun : {b : Setup} {q : Query} {old mid late new : List Done} {from between to : ℕ} {r : Ran} (i : ℕ) (d x : Done) → Grew b q old mid (q.kind + 1) from between → Sound b mid → IsAt mid i q → d ≡ get_or mid i d → d.value ≡ None → DidRun b q mid late between to r → new ≡ slice_set late i x → x.query ≡ (get_or late i d).query → Grew b q old new (q.kind + 1) from to
grew-rerun {b} {q} {old} {mid} {late} {new} {from} {between} {to} {r} i d x first sound is e none ran kept same =
    let quiet : Grew b q mid new q.kind between to = record {
      more = ran.grew.more;
      asked_are = ap asked kept ∙ map-set_same (λ (y : Done). y.query) late i x d same ∙ ran.grew.asked_are;
      lower = ran.grew.lower;
      reached = ran.grew.reached;
      ticked = λ s before is_kept.
          let formed : IsFormed b (asked mid) d = formed_at i d sound is.0 e in
          let no : (q.kind == b.ticking) ≡ false = false_from_ne_true _ (λ t.
          let kind : q.kind ≡ b.ticking = (Decides-eqb q.kind b.ticking).0 t in
          let there : d.query.kind ≡ b.ticking = ap (λ (y : Query). y.kind) (query_is mid i d is e) ∙ kind in
          let some : IsSome d.value = formed.kept (subst (λ k. IsTrue (b.kept k)) (sym there) is_kept) in
          never (subst (λ (o : Option (List ℕ)). IsSome o) none some)) in
          ran.ticked ∙ ap (λ y. rise ran.until (cond y 1 0)) no ∙ rise-none ran.until ∙ ran.grew.ticked s before is_kept;
    } in
    grew-then first quiet (omega arith) (omega arith) (λ _ _. itself q)
  where
    never : IsSome {T = List ℕ} None → ⊥
    never h = absurd (cc)

-- and leaves the memo right
pub sound-rerun : {b : Setup} {q : Query} {mid late new : List Done} {between to : ℕ} {r : Ran} (i : ℕ) (w : List ℕ) → Sound b late → IsAt mid i q → DidRun b q mid late between to r → w ≡ r.value → ((d : Done) → new ≡ slice_set late i (record (get_or late i d) { value = Some w; ran = true })) → (d : Done) → Sound b new
sound-rerun {b} {q} {mid} {late} {new} {between} {to} {r} i w sound is ran same kept d =
    let there = at-grew i is ran.grew in
    let x : Done = record (get_or late i d) { value = Some w; ran = true } in
    let same_asked : asked new ≡ asked late = ap asked (kept d) ∙ map-set_same (λ (y : Done). y.query) late i x d refl in
    record {
      graph = sound.graph;
      cache = sound.cache;
      right = λ s before.
          let all = sound.right s before in
          let one = all i d there.0 in
          let P : List Done → Type 0 = λ m. All (IsRight b (asked late)) m in
          let set : P new = subst P (sym (kept d)) (All-set (IsRight b (asked late)) late i x (record {
            print = one.print;
            reads_are = one.reads_are;
            value_is = λ v has. (let both : w ≡ v = cc in sym both ∙ same ∙ ran.value_is s before ∙ ap (value_in b b.input) (sym (there.1 d)));
          }) all) in
          let Q : List Query → Type 0 = λ qs. All (IsRight b qs) new in
          subst Q (sym same_asked) set;
      distinct = subst Distinct (sym same_asked) sound.distinct;
      formed =
          let one = sound.formed i d there.0 in
          let P : List Done → Type 0 = λ m. All (IsFormed b (asked late)) m in
          let set : P new = subst P (sym (kept d)) (All-set (IsFormed b (asked late)) late i x (record { query = one.query; kind = one.kind; visited = one.visited; differ = one.differ; kept = λ _. search rules }) sound.formed) in
          let Q : List Query → Type 0 = λ qs. All (IsFormed b qs) new in
          subst Q (sym same_asked) set;
    }

-- an entry is formed and right where more are asked
wider-formed : {b : Setup} (qs more : List Query) (d : Done) → IsFormed b qs d → IsFormed b (qs ++ more) d
wider-formed {b} qs more d h = record {
  query = h.query;
  kind = h.kind;
  visited = record { each = all-weaker _ _ d.reads (λ i p. wider-visited qs more d.query.kind i p) h.visited.each };
  differ = subst Distinct (sym (mapped-more qs more d.query.kind d.reads h.visited.each)) h.differ;
  kept = h.kept;
}

wider-right : {b : Setup} (qs more : List Query) (d : Done) → IsFormed b qs d → IsRight b qs d → IsRight b (qs ++ more) d
wider-right {b} qs more d f h = record { print = h.print; reads_are = mapped-more qs more d.query.kind d.reads f.visited.each ∙ h.reads_are; value_is = h.value_is }

all-wider-right : {b : Setup} (qs more : List Query) (memo : List Done) → All (IsFormed b qs) memo → All (IsRight b qs) memo → All (IsRight b (qs ++ more)) memo
all-wider-right {b} qs more memo f h = λ i d l. wider-right {b = b} qs more (get_or memo i d) (f i d l) (h i d l)

others : (q : Query) (xs : List Done) → AllByRecursion (λ (x : Done). x.query ≢ q) xs → AllByRecursion (λ (r : Query). r ≢ q) (asked xs)
others q [] h = tt
others q (x ∷ xs) h = (h.0, others q xs h.1)

apart-settled : {b : Setup} {q : Query} {old mid : List Done} {from to : ℕ} (d : Done) → Settled b q old mid from to d → All (λ (x : Done). x.query ≢ q) old → AllByRecursion (λ (r : Query). r ≢ q) (asked mid)
apart-settled {b} {q} {old} {mid} {from} {to} d settled none =
    subst (AllByRecursion (λ (r : Query). r ≢ q)) (sym settled.grew.asked_are) (all-append _ _ (asked old) settled.grew.more (λ r h. h) (others q old (recursion_from_All _ old none)) (all-weaker _ _ settled.grew.more (λ r h same. (let k = ap (λ (y : Query). y.kind) same in omega (arith, h, k))) settled.grew.lower))

-- a new entry
pub sound-push : {b : Setup} {q : Query} {old mid new : List Done} {from to : ℕ} (d : Done) → Sound b mid → Settled b q old mid from to d → new ≡ mid ++ d ∷ [] → All (λ (x : Done). x.query ≢ q) old → Sound b new
sound-push {b} {q} {old} {mid} {new} {from} {to} d sound settled e none = record {
  graph = sound.graph;
  cache = sound.cache;
  distinct = subst Distinct (sym now) (distinct-push (asked mid) q sound.distinct (apart-settled d settled none));
  formed =
      let P : List Done → Type 0 = λ m. All (IsFormed b (asked new)) m in
      let Q : List Query → Type 0 = λ qs. All (IsFormed b qs) (mid ++ d ∷ []) in
      subst P (sym e) (subst Q (sym now) (All-push (IsFormed b (asked mid ++ q ∷ [])) mid d (All-weaker (IsFormed b (asked mid)) (IsFormed b (asked mid ++ q ∷ [])) (λ x h. wider-formed {b = b} (asked mid) (q ∷ []) x h) mid sound.formed) (wider-formed {b = b} (asked mid) (q ∷ []) d settled.formed)));
  right = λ s before.
      let P : List Done → Type 0 = λ m. All (IsRight b (asked new)) m in
      let Q : List Query → Type 0 = λ qs. All (IsRight b qs) (mid ++ d ∷ []) in
      subst P (sym e) (subst Q (sym now) (All-push (IsRight b (asked mid ++ q ∷ [])) mid d (all-wider-right {b = b} (asked mid) (q ∷ []) mid sound.formed (sound.right s before)) (wider-right {b = b} (asked mid) (q ∷ []) d settled.formed (settled.right s before))));
}
  where
    now : asked new ≡ asked mid ++ q ∷ []
    now = ap asked e ∙ map-append (λ (x : Done). x.query) mid (d ∷ []) ∙ ap (λ r. asked mid ++ r ∷ []) settled.query

below-more : (k : ℕ) (xs : List Query) (q : Query) → q.kind ≡ k → AllByRecursion (λ r. r.kind < k) xs → AllByRecursion (λ r. r.kind < k + 1) (xs ++ q ∷ [])
below-more k [] q e h = (omega arith, tt)
below-more k (x ∷ xs) q e h = (omega (arith, h.0), below-more k xs q e h.1)

pub grew-push : {b : Setup} {q : Query} {old mid new : List Done} {from to : ℕ} (d : Done) → Settled b q old mid from to d → new ≡ mid ++ d ∷ [] → Grew b q old new (q.kind + 1) from to
grew-push {b} {q} {old} {mid} {new} {from} {to} d settled e = record {
  more = settled.grew.more ++ q ∷ [];
  asked_are = ap asked e ∙ map-append (λ (x : Done). x.query) mid (d ∷ []) ∙ ap (λ r. asked mid ++ r ∷ []) settled.query ∙ ap (λ xs. xs ++ q ∷ []) settled.grew.asked_are ∙ append_assoc (asked old) settled.grew.more (q ∷ []);
  reached = λ s before. all-push _ settled.grew.more q (settled.grew.reached s before) (itself q);
  lower = below-more q.kind settled.grew.more q refl settled.grew.lower;
  ticked = λ s before kept.
      let before_it = settled.grew.ticked s before kept in
      let it = settled.ticked s before kept in
      let sum = sum_by-append (λ r. cond (stale b s r) 1 0) settled.grew.more (q ∷ []) in
      let one : cond (stale b s q) 1 0 ≡ count_by (stale b s) (q ∷ []) = omega arith in
      it ∙ ap (λ k. rise k (cond (stale b s q) 1 0)) before_it ∙ rise-rise from _ _ ∙ ap (λ n. rise from (count_by (stale b s) settled.grew.more + n)) one ∙ ap (rise from) (sym sum);
}

-- where a query is after a rerun
pub at-rerun : {b : Setup} {q : Query} {mid late new : List Done} {between to : ℕ} {r : Ran} (i : ℕ) (d x : Done) → IsAt mid i q → DidRun b q mid late between to r → new ≡ slice_set late i x → x.query ≡ (get_or late i d).query → IsAt new i q
at-rerun {b} {q} {mid} {late} {new} {between} {to} {r} i d x is ran kept same =
    let there = at-grew i is ran.grew in
    let qs : asked new ≡ asked late = ap asked kept ∙ map-set_same (λ (y : Done). y.query) late i x d same in
    let long : length new ≡ length late = sym (length-asked new) ∙ ap length qs ∙ length-asked late in
    let within : i < length new = omega (arith, there.0, long) in
    (within, λ y. sym (at-asked new i y within) ∙ ap (λ xs. at xs i) qs ∙ at-asked late i y there.0 ∙ there.1 y)

-- what is settled wasn't asked before
pub fresh : {b : Setup} {q : Query} {old mid : List Done} {from to : ℕ} (d : Done) → Settled b q old mid from to d → All (λ (x : Done). x.query ≢ q) old → All (λ (x : Done). x.query ≢ d.query) mid
fresh {b} {q} {old} {mid} {from} {to} d settled none = λ i x l same.
    All-from_recursion (λ (r : Query). r ≢ q) (asked mid) (apart-settled d settled none) i (get_or mid i x).query (let long = length-asked mid in omega (arith, long, l)) (get_or-map (λ (y : Done). y.query) mid i x _ l ∙ same ∙ settled.query)

pub if-ok : {A E : Type 0} (P Q : A → Type 0) (r : Result A E) → ((a : A) → P a → Q a) → IfOk r P → IfOk r Q
if-ok P Q (Ok a) w h = w a h
if-ok P Q (Err e) w h = tt
