-- The roots of a build have the form of queries.
use Rattle.std.proofs.Common.{◌≡◌, ℕ, ◌<◌, ◌&&◌, inl, Bool, true, false, cond, List, [], ◌∷◌, map, refl, ap, arith}
use Rattle.std.specs.Prelude.{filter, IfOk, Result, Ok, Err}
use Rattle.std.specs.List.{All, AllByRecursion, list_all}
use Rattle.std.proofs.lemmas.List.Elements.{All-from_recursion}
use Rattle.inc_query.specs.Queries.{IsQuery}
use Rattle.inc_query.specs.declared.query.Query.{Query}
use Rattle.rs_tree.proofs.Both.{left_of, right_of}
use Rattle.rs_tree.specs.declared.index.Index.{Index}
use Rattle.rs_tree.specs.declared.index.IndexItem.{IndexItem}
use Rattle.rs_tree.specs.declared.tree.Placed.{Placed}
use Rattle.rs_tree.specs.Plain.{plain_placed}
use Rattle.rs_names.specs.Indexed.{index_item}
use Rattle.rs_queries.specs.Known.{place_of}
use Rattle.rs_units.specs.Units.{has_own}
use Rattle.rs_plans.specs.Names.{is_index, is_item_place, is_module}
use Rattle.rs_plans.specs.Steps.{query, whole}
use Rattle.rs_plans.proofs.Named.{query_is, whole_is}
use Rattle.plan_laws.specs.Assembled.{check_query, checks_of, object_query, products_of}

-- a root: a query, of a kind that the compiler answers
abbrev pub IsRoot : Query → Type 0
IsRoot q = IsQuery q × (q.kind < 11)

as_root : (q : Query) → IsQuery q → IsRoot q
as_root q is = (is, (let low = is.kind in omega (arith, low)))

each_check : (items : List IndexItem) → list_all is_item_place items ≡ true → AllByRecursion IsRoot (map check_query items)
each_check [] e = tt
each_check (x ∷ xs) e =
    (as_root (check_query x) (query_is 5 (record { «module» = x.«module»; name = x.name }) (omega arith) (left_of (is_item_place x) (list_all is_item_place xs) e)), each_check xs (right_of (is_item_place x) (list_all is_item_place xs) e))

object_root : (unit : List ℕ) → is_module unit ≡ true → IsRoot (object_query unit)
object_root unit e =
    let same = query_is 5 (record { «module» = unit; name = [] }) (omega arith) (ap (λ b. b && true) e) in
    (record { kind = omega arith; «module» = same.«module»; name = inl refl; unit = λ is. refl }, omega arith)

each_object : (keep : List ℕ → Bool) (ms : List (List ℕ)) → list_all is_module ms ≡ true → AllByRecursion IsRoot (map object_query (filter keep ms))
each_object keep [] e = tt
each_object keep (m ∷ ms) e = by (keep m) (each_object keep ms (right_of (is_module m) (list_all is_module ms) e))
  where
    by : (b : Bool) → AllByRecursion IsRoot (map object_query (filter keep ms)) → AllByRecursion IsRoot (map object_query (cond b (m ∷ filter keep ms) (filter keep ms)))
    by true more = (object_root m (left_of (is_module m) (list_all is_module ms) e), more)
    by false more = more

pub first_roots : (index : Index) → is_index index ≡ true → AllByRecursion IsRoot (whole 1 ∷ checks_of index)
first_roots index e = (as_root (whole 1) (whole_is 1 (omega arith)), each_check index.items (right_of (list_all is_module index.modules) (list_all is_item_place index.items) e))

pub last_roots : (index : Index) → is_index index ≡ true → AllByRecursion IsRoot (products_of index)
last_roots index e = (as_root (whole 7) (whole_is 7 (omega arith)), each_object (has_own index.items) ([] ∷ index.modules) (left_of (list_all is_module index.modules) (list_all is_item_place index.items) e))

-- taken apart
pub are_queries : (qs : List Query) → AllByRecursion IsRoot qs → All IsQuery qs
are_queries qs h = All-from_recursion IsQuery qs (each qs h)
  where
    each : (qs : List Query) → AllByRecursion IsRoot qs → AllByRecursion IsQuery qs
    each [] h = tt
    each (q ∷ qs) h = (h.0.0, each qs h.1)

pub have_kinds : (qs : List Query) → AllByRecursion IsRoot qs → All (λ q. q.kind < 11) qs
have_kinds qs h = All-from_recursion (λ q. q.kind < 11) qs (each qs h)
  where
    each : (qs : List Query) → AllByRecursion IsRoot qs → AllByRecursion (λ q. q.kind < 11) qs
    each [] h = tt
    each (q ∷ qs) h = (h.0.1, each qs h.1)

-- ---- The values of checks.

pub checks_are : (f : Query → List ℕ) (ps : List Placed) → map f (map check_query (map index_item (map plain_placed ps))) ≡ map (λ p. f (query 5 (place_of p))) ps
checks_are f [] = refl
checks_are f (p ∷ ps) = ap (λ vs. f (query 5 (place_of p)) ∷ vs) (checks_are f ps)

pub for_each : {A E S : Type 0} (Q : S → A → Type 0) (r : Result A E) → ((s : S) → IfOk r (Q s)) → IfOk r (λ a. (s : S) → Q s a)
for_each Q (Ok a) f = f
for_each Q (Err e) f = tt
