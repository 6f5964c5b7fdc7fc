-- The objects stand behind the values of the cache.
use Rattle.std.proofs.Common.{◌≡◌, ℕ, ◌+◌, suc, zero, ◌≤◌, ◌<◌, Bool, true, false, cond, List, [], ◌∷◌, ◌++◌, refl, sym, ap, ◌∙◌, subst, arith}
use Rattle.std.specs.List.{AllByRecursion}
use Rattle.std.specs.List.Sorted.{IsStrictlySortedBy}
use Rattle.std.specs.Cmp.Lexicographic.{slice_cmp}
use Rattle.std.specs.Ordering.{nat_cmp, ordering_then}
use Rattle.std.specs.declared.cmp.Ordering.{Ordering}
use Rattle.std.specs.declared.cmp.Ordering.TheVariants.{Less, Equal, Greater}
use Rattle.std.proofs.lemmas.Bool.Decides.{Decides-eqb}
use Rattle.std.proofs.lemmas.Map.Lookups.{exact_unsigned}
use Rattle.inc_query.specs.Queries.{query_cmp}
use Rattle.inc_query.specs.declared.query.Query.{Query}
use Rattle.inc_graph.specs.declared.node.Node.{Node}
use Rattle.inc_graph.specs.Graphs.{HasOrder, positions_of, queries_of}
use Rattle.inc_products.specs.Saved.{Value, is_kept_kind, is_object_kind, kind_at}
use Rattle.inc_products.specs.Starts.{AreValuesFrom, AreValuesOf, BeginsWithValueOf}
use Rattle.inc_products.proofs.Saving.{object_not_kept}
use Rattle.inc_products.proofs.Places.{weaker_each}

-- no node of kind 10 stands before one of kinds 4 to 8

ten_first : (k : ℕ) → is_kept_kind k ≡ true → nat_cmp 10 k ≡ Greater
ten_first k kept = grind arith

not_below : (a b : Query) → is_object_kind a.kind ≡ true → is_kept_kind b.kind ≡ true → query_cmp a b ≡ Less → ⊥
not_below a b ta kb less =
    (let kinds : nat_cmp a.kind b.kind ≡ Greater = ap (λ k. nat_cmp k b.kind) ((Decides-eqb a.kind 10).0 ta) ∙ ten_first b.kind kb in
    let two : Greater ≡ Less = sym (ap (λ r. ordering_then r (ordering_then (slice_cmp nat_cmp a.module b.module) (slice_cmp nat_cmp a.name b.name))) kinds) ∙ less in cc)

never_after : (a : Query) → is_object_kind a.kind ≡ true → (ns : List Node) (j : ℕ) → AllByRecursion (λ q. query_cmp a q ≡ Less) (queries_of ns) → is_kept_kind (kind_at ns j) ≡ true → ⊥
never_after a ta [] j below kept = cc
never_after a ta (n ∷ ns) zero below kept = not_below a n.query ta kept below.0
never_after a ta (n ∷ ns) (suc j) below kept = never_after a ta ns j below.1 kept

never : (ns : List Node) → IsStrictlySortedBy query_cmp (queries_of ns) → (a b : ℕ) → a < b → is_object_kind (kind_at ns a) ≡ true → is_kept_kind (kind_at ns b) ≡ true → ⊥
unfolding IsStrictlySortedBy
never [] s a b less object kept = cc
never (n ∷ ns) s zero zero less object kept = absurd (omega (arith, less))
never (n ∷ ns) s zero (suc b) less object kept = never_after n.query object ns b s.0 kept
never (n ∷ ns) s (suc a) zero less object kept = absurd (omega (arith, less))
never (n ∷ ns) s (suc a) (suc b) less object kept = never ns s.1 a b (omega (arith, less)) object kept

greater_is : (a b : ℕ) → nat_cmp a b ≡ Greater → b < a
greater_is a b e = grind arith

module _ (nodes : List Node) (ascend : IsStrictlySortedBy query_cmp (queries_of nodes)) where
  below : (a b : ℕ) → is_kept_kind (kind_at nodes a) ≡ true → is_object_kind (kind_at nodes b) ≡ true → nat_cmp a b ≡ Less
  below a b kept object = go (nat_cmp a b) refl
    where
      go : (r : Ordering) → nat_cmp a b ≡ r → nat_cmp a b ≡ Less
      go Less e = e
      go Equal e = absurd (let no : is_kept_kind (kind_at nodes a) ≡ false = ap (λ i. is_kept_kind (kind_at nodes i)) (exact_unsigned a b e) ∙ object_not_kept (kind_at nodes b) object in cc)
      go Greater e = absurd (never nodes ascend b a (greater_is a b e) object kept)

-- positions from one on, strictly ascending

less_is : (a b : ℕ) → a < b → nat_cmp a b ≡ Less
less_is a b l = grind arith

further : (i : ℕ) (xs : List ℕ) → AllByRecursion (λ y. i + 1 ≤ y) xs → AllByRecursion (λ y. i ≤ y) xs
further i xs a = weaker_each (λ y. i + 1 ≤ y) (λ y. i ≤ y) (λ y h. omega (arith, h)) xs a

behind : (i x : ℕ) (xs : List ℕ) → x ≡ i → AllByRecursion (λ y. i + 1 ≤ y) xs → AllByRecursion (λ y. nat_cmp x y ≡ Less) xs
behind i x xs at a = weaker_each (λ y. i + 1 ≤ y) (λ y. nat_cmp x y ≡ Less) (λ y h. less_is x y (omega (arith, at, h))) xs a

abbrev AscendFrom : ℕ → List Value → Type 0
AscendFrom i vs = AllByRecursion (λ y. i ≤ y) (positions_of vs) × IsStrictlySortedBy nat_cmp (positions_of vs)

ordered_step : (i : ℕ) (n : Node) (Others : List Value → Type 0) → ((vs : List Value) → Others vs → AscendFrom (i + 1) vs) → (b : Bool) (vs : List Value) → cond b (BeginsWithValueOf i n Others vs) (Others vs) → AscendFrom i vs
unfolding IsStrictlySortedBy
ordered_step i n Others later true [] are = absurd are
ordered_step i n Others later true (v ∷ vs) are =
    (let rest = later vs are.1 in
    let at : v.0 ≡ i = are.0.at in
    ((omega (arith, at), further i (positions_of vs) rest.0), (behind i v.0 (positions_of vs) at rest.0, rest.1)))
ordered_step i n Others later false vs are = (let rest = later vs are in (further i (positions_of vs) rest.0, rest.1))

ordered_from : (passes : ℕ → Bool) (i : ℕ) (ns : List Node) (vs : List Value) → AreValuesFrom passes i ns vs → AscendFrom i vs
unfolding IsStrictlySortedBy
ordered_from passes i [] vs are = subst (AscendFrom i) (sym are) (tt, tt)
ordered_from passes i (n ∷ ns) vs are = ordered_step i n (AreValuesFrom passes (i + 1) ns) (ordered_from passes (i + 1) ns) (passes n.query.kind) vs are

all_append : (P : ℕ → Type 0) (vs ws : List Value) → AllByRecursion P (positions_of vs) → AllByRecursion P (positions_of ws) → AllByRecursion P (positions_of (vs ++ ws))
all_append P [] ws a b = b
all_append P (v ∷ vs) ws a b = (a.0, all_append P vs ws a.1 b)

module _ (nodes : List Node) (ascend : IsStrictlySortedBy query_cmp (queries_of nodes)) where
  all_below : (a : ℕ) → is_kept_kind (kind_at nodes a) ≡ true → (ws : List Value) → AllByRecursion (λ (w : Value). is_object_kind (kind_at nodes w.0) ≡ true) ws → AllByRecursion (λ y. nat_cmp a y ≡ Less) (positions_of ws)
  all_below a kept [] are = tt
  all_below a kept (w ∷ ws) are = (below nodes ascend a w.0 kept are.0, all_below a kept ws are.1)

  appended : (vs ws : List Value) → HasOrder vs → HasOrder ws → AllByRecursion (λ (v : Value). is_kept_kind (kind_at nodes v.0) ≡ true) vs → AllByRecursion (λ (w : Value). is_object_kind (kind_at nodes w.0) ≡ true) ws → HasOrder (vs ++ ws)
  unfolding IsStrictlySortedBy
  appended [] ws s t kept objects = t
  appended (v ∷ vs) ws s t kept objects = (all_append (λ y. nat_cmp v.0 y ≡ Less) vs ws s.0 (all_below v.0 kept.0 ws objects), appended vs ws s.1 t kept.1 objects)

  pub saved_ordered : (kept objects : List Value) → HasOrder kept → AreValuesOf is_object_kind nodes objects → AllByRecursion (λ (v : Value). is_kept_kind (kind_at nodes v.0) ≡ true) kept
      → AllByRecursion (λ (v : Value). is_object_kind (kind_at nodes v.0) ≡ true) objects → HasOrder (kept ++ objects)
  saved_ordered kept objects s are kinds others = appended kept objects s (ordered_from is_object_kind 0 nodes objects are).1 kinds others
