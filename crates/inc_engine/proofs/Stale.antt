-- Which queries are stale, and which prints show it.
use Rattle.std.proofs.Common.{◌≡◌, ◌≢◌, ℕ, suc, zero, ◌<◌, inl, inr, List, [], ◌∷◌, length, refl, sym, ◌∙◌, ap, subst, map, arith, true, false, Bool, ◌==◌, ◌&&◌, ◌||◌, get_or}
use Rattle.std.specs.Prelude.{not}
use Rattle.std.specs.List.{All, AllByRecursion, list_any}
use Rattle.std.specs.Str.{bytes_eq}
use Rattle.std.proofs.lemmas.Bool.{false_from_ne_true}
use Rattle.std.proofs.lemmas.Bool.Decides.{Decides-eqb}
use Rattle.std.proofs.lemmas.Slice.Eq.{bytes_eq-Decides}
use Rattle.std.proofs.lemmas.List.{get_or-map, get_or_default}
use Rattle.std.proofs.lemmas.List.Elements.{All-head, All-tail}
use Rattle.sha2.specs.Sha256.{sha256}
use Rattle.inc_query.specs.declared.query.Query.{Query}
use Rattle.inc_graph.specs.Graphs.{queries_of}
use Rattle.inc_graph.specs.declared.node.Node.{Node}
use Rattle.inc_engine.specs.Builds.{at, Setup, value_in, reads_in, Before, stale, is_red, differs, same_query, was_asked}
use Rattle.inc_engine.specs.Marking.{IsRight}
use Rattle.inc_engine.specs.Finish.{IsRedBy}
use Rattle.inc_engine.specs.declared.done.Done.{Done}

pub and-true : (a b : Bool) → b ≡ true → (a && b) ≡ a
and-true true b h = h
and-true false b h = refl

pub and-false : (a b : Bool) → b ≡ false → (a && b) ≡ false
and-false true b h = h
and-false false b h = refl

both_left : (a b : Bool) → (a && b) ≡ true → a ≡ true
both_left true b e = refl
both_left false b e = e

both_right : (a b : Bool) → (a && b) ≡ true → b ≡ true
both_right true b e = e
both_right false b e = absurd (cc)

pub or-true : (a b : Bool) → b ≡ true → (a || b) ≡ true
or-true true b h = refl
or-true false b h = h

-- equal queries, by the test
same_is : (q r : Query) → same_query q r ≡ true → q ≡ r
same_is q r h =
    let kinds = both_left (q.kind == r.kind) (bytes_eq q.«module» r.«module» && bytes_eq q.name r.name) h in
    let texts = both_right (q.kind == r.kind) (bytes_eq q.«module» r.«module» && bytes_eq q.name r.name) h in
    let modules = both_left (bytes_eq q.«module» r.«module») (bytes_eq q.name r.name) texts in
    let names = both_right (bytes_eq q.«module» r.«module») (bytes_eq q.name r.name) texts in
    let k : q.kind ≡ r.kind = (Decides-eqb q.kind r.kind).0 kinds in
    let m : q.«module» ≡ r.«module» = (bytes_eq-Decides q.«module» r.«module»).0 modules in
    let n : q.name ≡ r.name = (bytes_eq-Decides q.name r.name).0 names in
    ap (λ x. record { kind = x; «module» = q.«module»; name = q.name }) k
    ∙ ap (λ x. record { kind = r.kind; «module» = x; name = q.name }) m
    ∙ ap (λ x. record { kind = r.kind; «module» = r.«module»; name = x }) n

same_itself : (q : Query) → same_query q q ≡ true
same_itself q =
    and-true (q.kind == q.kind) _ (and-true (bytes_eq q.«module» q.«module») _ ((bytes_eq-Decides q.name q.name).1 refl) ∙ (bytes_eq-Decides q.«module» q.«module»).1 refl)
    ∙ (Decides-eqb q.kind q.kind).1 refl

-- a query that isn't in the graph
none_there : (nodes : List Node) (q : Query) → All (λ n. n.query ≢ q) nodes → list_any (same_query q) (queries_of nodes) ≡ false
none_there [] q h = refl
none_there (n ∷ ns) q h =
    let here : same_query q n.query ≡ false = false_from_ne_true _ (λ e. All-head (λ n. n.query ≢ q) n ns h (sym (same_is q n.query e))) in
    ap (λ b. b || list_any (same_query q) (queries_of ns)) here ∙ none_there ns q (All-tail (λ n. n.query ≢ q) n ns h)

pub not-asked : (b : Setup) (q : Query) → All (λ n. n.query ≢ q) b.nodes → was_asked b q ≡ false
not-asked b q h = none_there b.nodes q h

-- one that is
one_there : (nodes : List Node) (i : ℕ) (q : Query) → i < length nodes → at (queries_of nodes) i ≡ q → list_any (same_query q) (queries_of nodes) ≡ true
one_there [] i q l e = absurd (omega arith)
one_there (n ∷ ns) zero q l e =
    let same : same_query q n.query ≡ true = subst (λ r. same_query q r ≡ true) (sym e) (same_itself q) in
    ap (λ b. b || list_any (same_query q) (queries_of ns)) same
one_there (n ∷ ns) (suc i) q l e = or-true (same_query q n.query) _ (one_there ns i q (omega arith) e)

pub asked-there : (b : Setup) (i : ℕ) (q : Query) → i < length b.nodes → at (queries_of b.nodes) i ≡ q → was_asked b q ≡ true
asked-there b i q l e = one_there b.nodes i q l e

-- no read differs
agree_none : (v0 v1 : Query → List ℕ) (rs : List Query) → AllByRecursion (λ r. v0 r ≡ v1 r) rs → differs v0 v1 rs ≡ false
agree_none v0 v1 [] h = refl
agree_none v0 v1 (r ∷ rs) h =
    let here : bytes_eq (v0 r) (v1 r) ≡ true = (bytes_eq-Decides (v0 r) (v1 r)).1 h.0 in
    ap (λ b. not b || differs v0 v1 rs) here ∙ agree_none v0 v1 rs h.1

-- one read does
one_differs : (v0 v1 : Query → List ℕ) (f : ℕ → Query) (places : List ℕ) (j : ℕ) → j < length places → v0 (f (get_or places j 0)) ≢ v1 (f (get_or places j 0)) → differs v0 v1 (map f places) ≡ true
one_differs v0 v1 f [] j l h = absurd (omega arith)
one_differs v0 v1 f (p ∷ ps) zero l h =
    let here : bytes_eq (v0 (f p)) (v1 (f p)) ≡ false = false_from_ne_true _ (λ e. h ((bytes_eq-Decides (v0 (f p)) (v1 (f p))).0 e)) in
    ap (λ b. not b || differs v0 v1 (map f ps)) here
one_differs v0 v1 f (p ∷ ps) (suc j) l h = or-true _ _ (one_differs v0 v1 f ps j (omega arith) h)

-- not in the graph: stale by its kind alone
pub stale-new : (b : Setup) (s : List ℕ) (q : Query) → All (λ n. n.query ≢ q) b.nodes → stale b s q ≡ (q.kind == b.ticking)
unfolding stale
stale-new b s q h = and-true _ _ (ap (λ x. not x || differs (value_in b s) (value_in b b.input) (reads_in b s q)) (not-asked b q h))

pub stale-start : (b : Setup) (s : List ℕ) (q : Query) → q.kind ≡ 0 → 0 < b.ticking → stale b s q ≡ (q.kind == b.ticking)
unfolding stale
stale-start b s q e l =
    let no : (q.kind == b.ticking) ≡ false = false_from_ne_true _ (λ t. let k = (Decides-eqb q.kind b.ticking).0 t in omega arith) in
    ap (λ x. x && (not (was_asked b q) || differs (value_in b s) (value_in b b.input) (reads_in b s q))) no ∙ sym no

-- a read differs: stale by its kind alone
pub stale-differs : (b : Setup) (s : List ℕ) (q : Query) (places : List ℕ) (j : ℕ) → map (at (queries_of b.nodes)) places ≡ reads_in b s q → j < length places → value_in b s (at (queries_of b.nodes) (get_or places j 0)) ≢ value_in b b.input (at (queries_of b.nodes) (get_or places j 0)) → stale b s q ≡ (q.kind == b.ticking)
unfolding stale
stale-differs b s q places j e l h =
    let d : differs (value_in b s) (value_in b b.input) (reads_in b s q) ≡ true = subst (λ rs. differs (value_in b s) (value_in b b.input) rs ≡ true) e (one_differs (value_in b s) (value_in b b.input) (at (queries_of b.nodes)) places j l h) in
    and-true _ _ (or-true _ _ d)

-- each read agrees: not stale
pub stale-agree : (b : Setup) (s : List ℕ) (q : Query) (i : ℕ) → i < length b.nodes → at (queries_of b.nodes) i ≡ q → AllByRecursion (λ r. value_in b s r ≡ value_in b b.input r) (reads_in b s q) → stale b s q ≡ false
unfolding stale
stale-agree b s q i l e h =
    and-false _ _ (ap (λ x. not x || differs (value_in b s) (value_in b b.input) (reads_in b s q)) (asked-there b i q l e) ∙ agree_none (value_in b s) (value_in b b.input) (reads_in b s q) h)

-- the node that was read at a place has that place's query
pub read_query : (nodes : List Node) (i : ℕ) (n : Node) → i < length nodes → n ≡ get_or nodes i n → at (queries_of nodes) i ≡ n.query
read_query nodes i n l e = get_or-map (λ (m : Node). m.query) nodes i n _ l ∙ sym (ap (λ (m : Node). m.query) e)

-- equal prints mean equal values
pub prints_agree : {b : Setup} {s : List ℕ} {qs : List Query} {d : Done} {n : Node} → Before b s → IsRight b qs d → (i : ℕ) → i < length b.nodes → n ≡ get_or b.nodes i n → d.query ≡ n.query → d.print.0 ≡ n.print.0 → value_in b s n.query ≡ value_in b b.input n.query
prints_agree {b} {s} {qs} {d} {n} before right i l e same print =
    let P : Node → Type 0 = λ m. m.print.0 ≡ sha256 (value_in b s m.query) in
    let old : n.print.0 ≡ sha256 (value_in b s n.query) = subst P (sym e) (before.of.prints i n l) in
    let Q : Node → Type 0 = λ m. sha256 (value_in b b.input m.query) ≡ sha256 (value_in b s m.query) → value_in b b.input m.query ≡ value_in b s m.query in
    let clear : Q n = subst Q (sym e) (before.clear i n l) in
    let now : d.print.0 ≡ sha256 (value_in b b.input n.query) = right.print ∙ ap (λ q. sha256 (value_in b b.input q)) same in
    sym (clear (sym now ∙ print ∙ old))

-- and different prints different ones
pub prints_differ : {b : Setup} {s : List ℕ} {qs : List Query} {d : Done} {n : Node} → Before b s → IsRight b qs d → (i : ℕ) → i < length b.nodes → n ≡ get_or b.nodes i n → d.query ≡ n.query → d.print.0 ≢ n.print.0 → value_in b s n.query ≢ value_in b b.input n.query
prints_differ {b} {s} {qs} {d} {n} before right i l e same print = λ equal.
    let P : Node → Type 0 = λ m. m.print.0 ≡ sha256 (value_in b s m.query) in
    let old : n.print.0 ≡ sha256 (value_in b s n.query) = subst P (sym e) (before.of.prints i n l) in
    let now : d.print.0 ≡ sha256 (value_in b b.input n.query) = right.print ∙ ap (λ q. sha256 (value_in b b.input q)) same in
    print (now ∙ sym (ap sha256 equal) ∙ sym old)

-- what is red by its print is red by its value
pub red-is : {b : Setup} {s : List ℕ} {qs : List Query} (d : Done) (red : Bool) → IsRedBy b.nodes d red → Before b s → IsRight b qs d → red ≡ is_red b s d.query
unfolding is_red
red-is {b} {s} {qs} d red (inl none) before right = none.1 ∙ sym (ap (λ x. not x || not (bytes_eq (value_in b s d.query) (value_in b b.input d.query))) (not-asked b d.query none.0))
red-is {b} {s} {qs} d red (inr there) before right =
    split red refl ∙ sym (ap (λ x. not x || not (bytes_eq (value_in b s d.query) (value_in b b.input d.query))) (asked-there b there.0 d.query there.1 there.2))
  where
    none : Node
    none = record { query = d.query; print = d.print; reads = [] }

    node : Node
    node = get_or b.nodes there.0 none

    is : node ≡ get_or b.nodes there.0 node
    is = get_or_default b.nodes there.0 none node there.1

    query : d.query ≡ node.query
    query = sym there.2 ∙ read_query b.nodes there.0 node there.1 is

    decided : Bool → Type 0
    decided x = x ≡ not (bytes_eq (value_in b s d.query) (value_in b b.input d.query))

    differ : value_in b s node.query ≢ value_in b b.input node.query → bytes_eq (value_in b s d.query) (value_in b b.input d.query) ≡ false
    differ apart = false_from_ne_true _ (λ e. apart (ap (value_in b s) (sym query) ∙ (bytes_eq-Decides (value_in b s d.query) (value_in b b.input d.query)).0 e ∙ ap (value_in b b.input) query))

    same : value_in b s node.query ≡ value_in b b.input node.query → bytes_eq (value_in b s d.query) (value_in b b.input d.query) ≡ true
    same e = (bytes_eq-Decides (value_in b s d.query) (value_in b b.input d.query)).1 (ap (value_in b s) query ∙ e ∙ ap (value_in b b.input) (sym query))

    split : (x : Bool) → red ≡ x → red ≡ not (bytes_eq (value_in b s d.query) (value_in b b.input d.query))
    split true e = e ∙ ap not (sym (differ (prints_differ before right there.0 there.1 is query ((there.3 none).0 e))))
    split false e = e ∙ ap not (sym (same (prints_agree before right there.0 there.1 is query (print (bytes_eq d.print.0 node.print.0) refl))))
      where
        print : (t : Bool) → bytes_eq d.print.0 node.print.0 ≡ t → d.print.0 ≡ node.print.0
        print true f = (bytes_eq-Decides d.print.0 node.print.0).0 f
        print false f = absurd (let bad : true ≡ false = sym ((there.3 none).1 (λ g. (let yes = (bytes_eq-Decides d.print.0 node.print.0).1 g in let no : true ≡ false = sym yes ∙ f in absurd (cc)))) ∙ e in cc)
