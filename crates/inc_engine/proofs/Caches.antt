-- The cache, position by position.
use Rattle.std.proofs.Common.{◌≡◌, ℕ, zero, suc, ◌<◌, ◌+◌, ◌⊎◌, inl, inr, List, [], ◌∷◌, ◌++◌, length, refl, sym, ◌∙◌, ap, subst, arith, get_or, true, false, Bool}
use Rattle.std.specs.Prelude.{IsTrue}
use Rattle.std.specs.declared.cmp.Ordering.TheVariants.{Less}
use Rattle.std.specs.Ordering.{nat_cmp}
use Rattle.std.specs.List.{AllByRecursion, Contains}
use Rattle.std.specs.List.Sorted.{IsStrictlySortedBy}
use Rattle.std.proofs.lemmas.Bool.Decides.{nat_tests}
use Rattle.std.proofs.lemmas.List.{map-append, get_or_default}
use Rattle.std.proofs.lemmas.List.Elements.{All-push, All-weaker, All-map, recursion_from_All, Contains-append_left, Contains-append_right}
use Rattle.inc_query.specs.declared.query.Query.{Query}
use Rattle.inc_graph.specs.Graphs.{positions_of}
use Rattle.inc_engine.specs.Builds.{at}
use Rattle.inc_engine.specs.Finish.{IsCacheOf, IsValueOf}
use Rattle.inc_engine.specs.declared.done.Done.{Done}
use Rattle.inc_engine.proofs.Lists.{all-push}

last : (i n : ℕ) → i < n + 1 → (i < n) ⊎ (i ≡ n)
last zero zero l = inr refl
last zero (suc n) l = inl (omega arith)
last (suc i) zero l = absurd (omega arith)
last (suc i) (suc n) l = elim (last i n (omega arith)) [ inl h ↦ inl (omega arith) | inr e ↦ inr (ap suc e) ]

less : (a b : ℕ) → a < b → nat_cmp a b ≡ Less
less a b l = grind (arith, nat_tests)

ascend-push : (xs : List ℕ) (y : ℕ) → IsStrictlySortedBy nat_cmp xs → AllByRecursion (λ x. x < y) xs → IsStrictlySortedBy nat_cmp (xs ++ y ∷ [])
unfolding IsStrictlySortedBy
ascend-push [] y s a = (tt, tt)
ascend-push (x ∷ xs) y s a = (all-push (λ z. nat_cmp x z ≡ Less) xs y s.0 (less x y a.0), ascend-push xs y s.1 a.1)

-- nothing yet
pub cache-none : {kept : ℕ → Bool} {memo : List Done} {order : List Query} → IsCacheOf kept memo order 0 []
unfolding IsStrictlySortedBy
cache-none {kept} {memo} {order} = record {
  ascend = tt;
  within = λ i d l. absurd (omega arith);
  values = λ i d l. absurd (omega arith);
  kept_only = λ i d l. absurd (omega arith);
  complete = λ i l is. absurd (omega arith);
}

-- a position whose kind isn't kept
pub cache-no : {kept : ℕ → Bool} {memo : List Done} {order : List Query} {i : ℕ} {cache : List (ℕ × List ℕ)} → IsCacheOf kept memo order i cache → kept (at order i).kind ≡ false → IsCacheOf kept memo order (i + 1) cache
cache-no {kept} {memo} {order} {i} {cache} h e = record {
  ascend = h.ascend;
  within = All-weaker (λ (x : ℕ × List ℕ). x.0 < i) (λ (x : ℕ × List ℕ). x.0 < i + 1) (λ x l. omega arith) cache h.within;
  values = h.values;
  kept_only = h.kept_only;
  complete = λ j l is. one j is (last j i l);
}
  where
    one : (j : ℕ) → IsTrue (kept (at order j).kind) → (j < i) ⊎ (j ≡ i) → Contains (positions_of cache) j
    one j is (inl l) = h.complete j l is
    one j is (inr same) = absurd (let bad : true ≡ false = sym is ∙ ap (λ k. kept (at order k).kind) same ∙ e in cc)

-- a position whose kind is
pub cache-yes : {kept : ℕ → Bool} {memo : List Done} {order : List Query} {i : ℕ} {cache new : List (ℕ × List ℕ)} (v : List ℕ) → IsCacheOf kept memo order i cache → IsTrue (kept (at order i).kind) → IsValueOf memo (at order i) v → new ≡ cache ++ (i, v) ∷ [] → IsCacheOf kept memo order (i + 1) new
cache-yes {kept} {memo} {order} {i} {cache} {new} v h kind value e = subst (λ c. IsCacheOf kept memo order (i + 1) c) (sym e) (record {
  ascend = subst (IsStrictlySortedBy nat_cmp) (sym pushed) (ascend-push (positions_of cache) i h.ascend (recursion_from_All (λ x. x < i) (positions_of cache) (All-map (λ x. x < i) (λ (x : ℕ × List ℕ). x.0) cache h.within)));
  within = All-push (λ (x : ℕ × List ℕ). x.0 < i + 1) cache (i, v) (All-weaker (λ (x : ℕ × List ℕ). x.0 < i) (λ (x : ℕ × List ℕ). x.0 < i + 1) (λ x l. omega arith) cache h.within) (omega arith);
  values = All-push (λ (x : ℕ × List ℕ). IsValueOf memo (at order x.0) x.1) cache (i, v) h.values value;
  kept_only = All-push (λ (x : ℕ × List ℕ). IsTrue (kept (at order x.0).kind)) cache (i, v) h.kept_only kind;
  complete = λ j l is. one j is (last j i l);
})
  where
    pushed : positions_of (cache ++ (i, v) ∷ []) ≡ positions_of cache ++ i ∷ []
    pushed = map-append (λ (x : ℕ × List ℕ). x.0) cache ((i, v) ∷ [])

    one : (j : ℕ) → IsTrue (kept (at order j).kind) → (j < i) ⊎ (j ≡ i) → Contains (positions_of (cache ++ (i, v) ∷ [])) j
    one j is (inl l) = subst (λ xs. Contains xs j) (sym pushed) (Contains-append_left (positions_of cache) (i ∷ []) j (h.complete j l is))
    one j is (inr same) = subst (λ xs. Contains xs j) (sym pushed) (Contains-append_right (positions_of cache) (i ∷ []) j (0, omega arith, sym same))

-- the query that stands at a position
pub item-at : (order : List Query) (i : ℕ) (q : Query) → i < length order → q ≡ get_or order i q → at order i ≡ q
item-at order i q l e = get_or_default order i _ q l ∙ sym e
