-- Each unit's object has a name of its own.
use Rattle.std.proofs.Common.{◌≡◌, ◌≢◌, ℕ, ◌+◌, suc, zero, Bool, true, false, cond, List, [], ◌∷◌, ◌++◌, Some, All, codes, refl, sym, ap, ◌∙◌, arith}
use Rattle.std.specs.Prelude.{slice_get}
use Rattle.std.specs.List.{AllByRecursion}
use Rattle.std.specs.List.Sorted.{IsStrictlySortedBy}
use Rattle.std.specs.Ordering.{is_eq, match_ordering}
use Rattle.std.specs.declared.cmp.Ordering.{Ordering}
use Rattle.std.specs.declared.cmp.Ordering.TheVariants.{Less, Equal, Greater}
use Rattle.std.proofs.lemmas.Bool.Decides.{Decides-eqb}
use Rattle.std.proofs.lemmas.Cmp.{tied_itself}
use Rattle.std.proofs.lemmas.List.{append_cancel_left, append_cancel_right}
use Rattle.std.proofs.lemmas.List.Elements.{All-head, All-tail}
use Rattle.std.proofs.lemmas.Map.Lookups.{exact_bytes}
use Rattle.inc_query.specs.Queries.{IsModule, IsQuery, query_cmp}
use Rattle.inc_query.specs.QueryLaws.{queries_total}
use Rattle.inc_query.specs.declared.query.Query.{Query}
use Rattle.inc_graph.specs.declared.node.Node.{Node}
use Rattle.inc_graph.specs.Graphs.{HasQuery, IsGraph, queries_of}
use Rattle.inc_products.specs.declared.part.Part.{Part}
use Rattle.inc_products.specs.declared.part.Part.TheVariants as part
use Rattle.inc_products.specs.Named.{name_cmp, value_at, with_value}
use Rattle.inc_products.specs.Saved.{cache_name, demanded, graph_name, is_object_kind, object_name, products_name, unit_text, with_object, with_objects}
use Rattle.inc_products.proofs.Matching.{some_is}
use Rattle.inc_products.proofs.Walking.{at_equal, at_first, passed}

-- a value that was put is there, and no other name's is touched

module _ {V : Type 0} (name : List ℕ) (v : V) where
  hit_step : (x : List ℕ × V) (xs : List (List ℕ × V)) (r : Ordering) → name_cmp name x.0 ≡ r → value_at name (with_value xs name v) ≡ Some v → value_at name (match_ordering r ((name, v) ∷ x ∷ xs) ((x.0, v) ∷ xs) (x ∷ with_value xs name v)) ≡ Some v
  hit_step x xs Less e later = at_first (name, v) (x ∷ xs)
  hit_step x xs Equal e later = at_equal name (x.0, v) xs e
  hit_step x xs Greater e later = passed name x (with_value xs name v) Greater e refl ∙ later

  hit : (xs : List (List ℕ × V)) → value_at name (with_value xs name v) ≡ Some v
  hit [] = at_first (name, v) []
  hit (x ∷ xs) = hit_step x xs (name_cmp name x.0) refl (hit xs)

  module _ (q : List ℕ) (off : is_eq (name_cmp q name) ≡ false) where
    miss_step : (x : List ℕ × V) (xs : List (List ℕ × V)) (r : Ordering) → name_cmp name x.0 ≡ r → value_at q (with_value xs name v) ≡ value_at q xs → value_at q (match_ordering r ((name, v) ∷ x ∷ xs) ((x.0, v) ∷ xs) (x ∷ with_value xs name v)) ≡ value_at q (x ∷ xs)
    miss_step x xs Less e later = passed q (name, v) (x ∷ xs) (name_cmp q name) refl off
    miss_step x xs Equal e later =
        let same : is_eq (name_cmp q x.0) ≡ false = ap (λ n. is_eq (name_cmp q n)) (sym (exact_bytes name x.0 e)) ∙ off in
        passed q (x.0, v) xs (name_cmp q x.0) refl same ∙ sym (passed q x xs (name_cmp q x.0) refl same)
    miss_step x xs Greater e later = ap (λ o. cond (is_eq (name_cmp q x.0)) (Some x.1) o) later

    miss : (xs : List (List ℕ × V)) → value_at q (with_value xs name v) ≡ value_at q xs
    miss [] = passed q (name, v) [] (name_cmp q name) refl off
    miss (x ∷ xs) = miss_step x xs (name_cmp name x.0) refl (miss xs)

-- a node whose object isn't of this name
abbrev IsApart : List ℕ → Node → Type 0
IsApart q n = is_object_kind n.query.kind ≡ true → is_eq (name_cmp q (object_name n.query.module)) ≡ false

module _ {V : Type 0} (f : ℕ → V) where
  miss_one : (q : List ℕ) (i : ℕ) (n : Node) (ps : List (List ℕ × V)) → IsApart q n → (b : Bool) → is_object_kind n.query.kind ≡ b → value_at q (cond b (with_value ps (object_name n.query.module) (f i)) ps) ≡ value_at q ps
  miss_one q i n ps a true e = miss (object_name n.query.module) (f i) q (a e) ps
  miss_one q i n ps a false e = refl

  objects_miss : (q : List ℕ) (i : ℕ) (ns : List Node) (ps : List (List ℕ × V)) → AllByRecursion (IsApart q) ns → value_at q (with_objects f i ns ps) ≡ value_at q ps
  objects_miss q i [] ps a = refl
  objects_miss q i (n ∷ ns) ps a = objects_miss q (i + 1) ns (with_object f i n ps) a.1 ∙ miss_one q i n ps a.0 (is_object_kind n.query.kind) refl

  -- no two of the nodes have one object
  abbrev pub Differ : List Node → Type 0
  Differ [] = Unit {0}
  Differ (n ∷ ns) = (is_object_kind n.query.kind ≡ true → AllByRecursion (IsApart (object_name n.query.module)) ns) × Differ ns

  objects_hit : (i : ℕ) (ns : List Node) (ps : List (List ℕ × V)) (j : ℕ) (n : Node) → Differ ns → slice_get ns j ≡ Some n → is_object_kind n.query.kind ≡ true → value_at (object_name n.query.module) (with_objects f i ns ps) ≡ Some (f (i + j))
  objects_hit i [] ps j n d at is = absurd (cc)
  objects_hit i (m ∷ ms) ps zero n d at is =
      let same : m ≡ n = some_is at in
      let it : is_object_kind m.query.kind ≡ true = ap (λ (x : Node). is_object_kind x.query.kind) same ∙ is in
      let name : object_name n.query.module ≡ object_name m.query.module = ap (λ (x : Node). object_name x.query.module) (sym same) in
      let place : f i ≡ f (i + 0) = (let e : i ≡ i + 0 = omega arith in ap f e) in
      ap (λ q. value_at q (with_objects f (i + 1) ms (with_object f i m ps))) name
      ∙ objects_miss (object_name m.query.module) (i + 1) ms (with_object f i m ps) (d.0 it)
      ∙ ap (λ b. value_at (object_name m.query.module) (cond b (with_value ps (object_name m.query.module) (f i)) ps)) it
      ∙ hit (object_name m.query.module) (f i) ps ∙ ap Some place
  objects_hit i (m ∷ ms) ps (suc j) n d at is =
      (let e : i + 1 + j ≡ i + suc j = omega arith in objects_hit (i + 1) ms (with_object f i m ps) j n d.1 at is ∙ ap (λ k. Some (f k)) e)

-- names of units are seen in the names of their objects

unit_seen : (a b : List ℕ) → a ≢ codes "crate" → b ≢ codes "crate" → unit_text a ≡ unit_text b → a ≡ b
unit_seen [] [] na nb e = refl
unit_seen [] (y ∷ ys) na nb e = absurd (nb (sym e))
unit_seen (x ∷ xs) [] na nb e = absurd (na e)
unit_seen (x ∷ xs) (y ∷ ys) na nb e = e

name_seen : (a b : List ℕ) → IsModule a → IsModule b → object_name a ≡ object_name b → a ≡ b
name_seen a b ma mb e =
    unit_seen a b ma.1 mb.1 (append_cancel_left (codes "u-") (unit_text a) (unit_text b) (append_cancel_right (codes "u-" ++ unit_text a) (codes "u-" ++ unit_text b) (codes ".o") e))

is_ten : (k : ℕ) → is_object_kind k ≡ true → k ≡ 10
is_ten k e = (Decides-eqb k 10).0 e

same_query : (a b : Query) → IsQuery a → IsQuery b → is_object_kind a.kind ≡ true → is_object_kind b.kind ≡ true → object_name a.module ≡ object_name b.module → a ≡ b
same_query a b qa qb ka kb e =
    let ta = is_ten a.kind ka in
    let tb = is_ten b.kind kb in
    ap (λ x. record { kind = x; «module» = a.module; name = a.name }) (ta ∙ sym tb)
    ∙ ap (λ x. record { kind = b.kind; «module» = x; name = a.name }) (name_seen a.module b.module qa.module qb.module e)
    ∙ ap (λ x. record { kind = b.kind; «module» = b.module; name = x }) (qa.unit ta ∙ sym (qb.unit tb))

apart : (a b : Node) → IsQuery a.query → IsQuery b.query → is_object_kind a.query.kind ≡ true → query_cmp a.query b.query ≡ Less → IsApart (object_name a.query.module) b
apart a b qa qb ka less kb = go (name_cmp (object_name a.query.module) (object_name b.query.module)) refl
  where
    never : object_name a.query.module ≡ object_name b.query.module → ⊥
    never e =
        (let same : query_cmp a.query b.query ≡ Equal = ap (query_cmp a.query) (sym (same_query a.query b.query qa qb ka kb e)) ∙ tied_itself queries_total a.query in
        let two : Less ≡ Equal = sym less ∙ same in cc)

    go : (r : Ordering) → name_cmp (object_name a.query.module) (object_name b.query.module) ≡ r → is_eq (name_cmp (object_name a.query.module) (object_name b.query.module)) ≡ false
    go Less e = ap is_eq e
    go Equal e = absurd (never (exact_bytes (object_name a.query.module) (object_name b.query.module) e))
    go Greater e = ap is_eq e

apart_each : (a : Node) (ns : List Node) → IsQuery a.query → is_object_kind a.query.kind ≡ true → AllByRecursion (λ q. query_cmp a.query q ≡ Less) (queries_of ns) → All HasQuery ns → AllByRecursion (IsApart (object_name a.query.module)) ns
apart_each a [] qa ka below has = tt
apart_each a (n ∷ ns) qa ka below has = (apart a n qa (All-head HasQuery n ns has) ka below.0, apart_each a ns qa ka below.1 (All-tail HasQuery n ns has))

module _ {V : Type 0} (f : ℕ → V) where
  differ : (ns : List Node) → IsStrictlySortedBy query_cmp (queries_of ns) → All HasQuery ns → Differ f ns
  unfolding IsStrictlySortedBy
  differ [] s has = tt
  differ (n ∷ ns) s has = ((λ is. apart_each n ns (All-head HasQuery n ns has) is s.0 (All-tail HasQuery n ns has)), differ ns s.1 (All-tail HasQuery n ns has))

pub queries_each : (nodes : List Node) → IsGraph nodes → All HasQuery nodes
queries_each nodes g = λ k d below. (g.each k d below).query

abbrev three : List (List ℕ × Part)
three = with_value (with_value (with_value [] graph_name part.Graph) cache_name part.Cache) products_name part.Products

-- the object of each unit is demanded at its name
pub object_there : (nodes : List Node) → IsGraph nodes → (j : ℕ) (n : Node) → slice_get nodes j ≡ Some n → is_object_kind n.query.kind ≡ true → value_at (object_name n.query.module) (demanded nodes) ≡ Some (part.Object j)
object_there nodes g j n at is =
    (let e : 0 + j ≡ j = omega arith in objects_hit part.Object 0 nodes three j n (differ part.Object nodes g.ascend (queries_each nodes g)) at is ∙ ap (λ k. Some (part.Object k)) e)

each_of : (P : Node → Type 0) → ((n : Node) → P n) → (ns : List Node) → AllByRecursion P ns
each_of P p [] = tt
each_of P p (n ∷ ns) = (p n, each_of P p ns)

-- and the cache at its own
pub cache_there : (nodes : List Node) → value_at cache_name (demanded nodes) ≡ Some part.Cache
cache_there nodes = objects_miss part.Object cache_name 0 nodes three (each_of (IsApart cache_name) (λ n is. refl) nodes)

-- and the graph's
pub graph_there : (nodes : List Node) → value_at graph_name (demanded nodes) ≡ Some part.Graph
graph_there nodes = objects_miss part.Object graph_name 0 nodes three (each_of (IsApart graph_name) (λ n is. refl) nodes)
