-- Lists in strict order, and queries that are put at their places.
use Rattle.std.proofs.Common.{◌≡◌, ◌⊎◌, inl, inr, List, [], ◌∷◌, refl, sym, ◌∙◌, ap, subst}
use Rattle.std.specs.declared.cmp.Ordering.{Ordering}
use Rattle.std.specs.declared.cmp.Ordering.TheVariants.{Less, Equal, Greater}
use Rattle.std.specs.Ordering.{match_ordering, ordering_reverse}
use Rattle.std.specs.Cmp.{IsTotalOrder}
use Rattle.std.specs.List.{AllByRecursion}
use Rattle.std.specs.List.Sorted.{IsStrictlySortedBy}
use Rattle.std.proofs.lemmas.Map.Keys.{sorted_head, sorted_tail}
use Rattle.inc_query.specs.Queries.{query_cmp}
use Rattle.inc_query.specs.QueryLaws.{queries_total, exact_queries}
use Rattle.inc_query.specs.declared.query.Query.{Query}
use Rattle.inc_roots.specs.Reached.{put, in_order}
use Rattle.inc_roots.proofs.Members.{IsIn, of_one}

-- two strictly sorted lists of the same elements are one
module _ {K : Type 0} {R : K → K → Ordering} (total : IsTotalOrder R) where
  -- what is below another isn't above it, and isn't it
  not_both : (x y : K) → R x y ≡ Less → R y x ≡ Less → ⊥
  not_both x y l g = (let back : R x y ≡ Greater = total.antisymm x y ∙ ap ordering_reverse g in let bad : Less ≡ Greater = sym l ∙ back in absurd (cc))

  pub not_itself : (x y : K) → R x y ≡ Less → x ≡ y → ⊥
  not_itself x y l e = not_both x y l (subst (λ z. R z x ≡ Less) e (subst (λ z. R x z ≡ Less) (sym e) l))

  pub above : (x : K) (xs : List K) → IsStrictlySortedBy R (x ∷ xs) → (q : K) → IsIn xs q → R x q ≡ Less
  above x xs s q h = of_one (λ y. R x y ≡ Less) xs q (sorted_head R x xs s) h

  heads : (x : K) (xs : List K) (y : K) (ys : List K) → IsStrictlySortedBy R (x ∷ xs) → IsStrictlySortedBy R (y ∷ ys) → IsIn (y ∷ ys) x → IsIn (x ∷ xs) y → x ≡ y
  heads x xs y ys s t (inl e) k = sym e
  heads x xs y ys s t (inr h) (inl e) = e
  heads x xs y ys s t (inr h) (inr k) = absurd (not_both x y (above x xs s y k) (above y ys t x h))

  rest_in : (x : K) (xs : List K) (y : K) (ys : List K) → IsStrictlySortedBy R (x ∷ xs) → x ≡ y → ((q : K) → IsIn (x ∷ xs) q → IsIn (y ∷ ys) q) → (q : K) → IsIn xs q → IsIn ys q
  rest_in x xs y ys s e f q h = elim (f q (inr h)) [ inl same ↦ absurd (not_itself x q (above x xs s q h) (e ∙ same)) | inr k ↦ k ]

  pub one_list : (xs ys : List K) → IsStrictlySortedBy R xs → IsStrictlySortedBy R ys → ((q : K) → IsIn xs q → IsIn ys q) → ((q : K) → IsIn ys q → IsIn xs q) → xs ≡ ys
  one_list [] [] s t f g = refl
  one_list [] (y ∷ ys) s t f g = absurd (g y (inl refl))
  one_list (x ∷ xs) [] s t f g = absurd (f x (inl refl))
  one_list (x ∷ xs) (y ∷ ys) s t f g =
      let e = heads x xs y ys s t (f x (inl refl)) (g y (inl refl)) in
      let rest = one_list xs ys (sorted_tail R x xs s) (sorted_tail R y ys t) (rest_in x xs y ys s e f) (rest_in y ys x xs t (sym e) g) in
      λ i. e i ∷ rest i

-- ---- Putting them there one by one.

put_in : (q : Query) (xs : List Query) → IsIn (put q xs) q
put_in q [] = inl refl
put_in q (x ∷ xs) = go (query_cmp q x) refl (put_in q xs)
  where
    go : (o : Ordering) → query_cmp q x ≡ o → IsIn (put q xs) q → IsIn (match_ordering o (q ∷ x ∷ xs) (x ∷ xs) (x ∷ put q xs)) q
    go Less e h = inl refl
    go Equal e h = inl (sym (exact_queries q x e))
    go Greater e h = inr h

put_keeps : (q : Query) (xs : List Query) (r : Query) → IsIn xs r → IsIn (put q xs) r
put_keeps q [] r h = absurd h
put_keeps q (x ∷ xs) r h = go (query_cmp q x) h (λ k. put_keeps q xs r k)
  where
    go : (o : Ordering) → IsIn (x ∷ xs) r → (IsIn xs r → IsIn (put q xs) r) → IsIn (match_ordering o (q ∷ x ∷ xs) (x ∷ xs) (x ∷ put q xs)) r
    go Less h f = inr h
    go Equal h f = h
    go Greater (inl e) f = inl e
    go Greater (inr k) f = inr (f k)

put_from : (q : Query) (xs : List Query) (r : Query) → IsIn (put q xs) r → (q ≡ r) ⊎ IsIn xs r
put_from q [] r (inl e) = inl e
put_from q [] r (inr h) = absurd h
put_from q (x ∷ xs) r h = go (query_cmp q x) h (λ k. put_from q xs r k)
  where
    go : (o : Ordering) → IsIn (match_ordering o (q ∷ x ∷ xs) (x ∷ xs) (x ∷ put q xs)) r → (IsIn (put q xs) r → (q ≡ r) ⊎ IsIn xs r) → (q ≡ r) ⊎ IsIn (x ∷ xs) r
    go Less (inl e) f = inl e
    go Less (inr h) f = inr h
    go Equal h f = inr h
    go Greater (inl e) f = inr (inl e)
    go Greater (inr h) f = elim (f h) [ inl e ↦ inl e | inr k ↦ inr (inr k) ]

-- all are above one that is below the new one and the others
all_above : (x q : Query) (xs : List Query) → query_cmp x q ≡ Less → AllByRecursion (λ y. query_cmp x y ≡ Less) xs → AllByRecursion (λ y. query_cmp x y ≡ Less) (put q xs)
all_above x q [] l h = (l, tt)
all_above x q (y ∷ ys) l h = go (query_cmp q y) (all_above x q ys l h.1)
  where
    go : (o : Ordering) → AllByRecursion (λ z. query_cmp x z ≡ Less) (put q ys) → AllByRecursion (λ z. query_cmp x z ≡ Less) (match_ordering o (q ∷ y ∷ ys) (y ∷ ys) (y ∷ put q ys))
    go Less more = (l, h)
    go Equal more = h
    go Greater more = (h.0, more)

lower_too : (q x : Query) (xs : List Query) → query_cmp q x ≡ Less → AllByRecursion (λ y. query_cmp x y ≡ Less) xs → AllByRecursion (λ y. query_cmp q y ≡ Less) xs
lower_too q x [] l h = tt
lower_too q x (y ∷ ys) l h = (queries_total.trans q x y l h.0, lower_too q x ys l h.1)

put_ascends : (q : Query) (xs : List Query) → IsStrictlySortedBy query_cmp xs → IsStrictlySortedBy query_cmp (put q xs)
unfolding IsStrictlySortedBy
put_ascends q [] s = (tt, tt)
put_ascends q (x ∷ xs) s = go (query_cmp q x) refl (put_ascends q xs s.1)
  where
    go : (o : Ordering) → query_cmp q x ≡ o → IsStrictlySortedBy query_cmp (put q xs) → IsStrictlySortedBy query_cmp (match_ordering o (q ∷ x ∷ xs) (x ∷ xs) (x ∷ put q xs))
    go Less e more = ((e, lower_too q x xs e s.0), s)
    go Equal e more = s
    go Greater e more = (all_above x q xs (queries_total.antisymm x q ∙ ap ordering_reverse e) s.0, more)

pub order_ascends : (xs : List Query) → IsStrictlySortedBy query_cmp (in_order xs)
unfolding IsStrictlySortedBy
order_ascends [] = tt
order_ascends (x ∷ xs) = put_ascends x (in_order xs) (order_ascends xs)

pub order_has : (xs : List Query) (q : Query) → IsIn xs q → IsIn (in_order xs) q
order_has [] q h = absurd h
order_has (x ∷ xs) q (inl e) = subst (IsIn (put x (in_order xs))) e (put_in x (in_order xs))
order_has (x ∷ xs) q (inr h) = put_keeps x (in_order xs) q (order_has xs q h)

pub order_from : (xs : List Query) (q : Query) → IsIn (in_order xs) q → IsIn xs q
order_from [] q h = h
order_from (x ∷ xs) q h = elim (put_from x (in_order xs) q h) [ inl e ↦ inl e | inr k ↦ inr (order_from xs q k) ]
