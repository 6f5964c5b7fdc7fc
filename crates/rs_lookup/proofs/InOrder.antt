-- What stands at a place of keys in order.
use Rattle.std.proofs.Common.{◌≡◌, ℕ, zero, suc, ◌≤◌, ◌<◌, Bool, true, false, cond, List, [], ◌∷◌, length, Option, Some, None, refl, sym, ap, ◌∙◌, arith, get_or}
use Rattle.std.specs.Prelude.{slice_get}
use Rattle.std.specs.List.{AllByRecursion}
use Rattle.std.specs.List.Sorted.{IsPartitionedBy, IsPartitionPoint, IsStrictlySortedBy}
use Rattle.std.specs.Map.{keys_of, lookup}
use Rattle.std.specs.BTreeMap.{is_at}
use Rattle.std.specs.Ordering.{is_eq, is_lt, ordering_reverse}
use Rattle.std.specs.Cmp.{IsTotalOrder}
use Rattle.std.specs.declared.cmp.Ordering.{Ordering}
use Rattle.std.specs.declared.cmp.Ordering.TheVariants.{Less, Equal, Greater}
use Rattle.rs_lookup.specs.Orders.{is_keyed, place_in}

weaker_each : {K : Type 0} (P Q : K → Type 0) → ((x : K) → P x → Q x) → (xs : List K) → AllByRecursion P xs → AllByRecursion Q xs
weaker_each P Q f [] h = tt
weaker_each P Q f (x ∷ xs) h = (f x h.0, weaker_each P Q f xs h.1)

less_is : (r : Ordering) → is_lt r ≡ true → r ≡ Less
less_is Less e = refl
less_is Equal e = absurd (cc)
less_is Greater e = absurd (cc)

module _ {K : Type 0} (order : K → K → Ordering) (total : IsTotalOrder order) where
  back : (a b : K) (r : Ordering) → order a b ≡ r → order b a ≡ ordering_reverse r
  back a b r is = total.antisymm b a ∙ ap ordering_reverse is

module _ {K V : Type 0} (order : K → K → Ordering) (total : IsTotalOrder order) (key : K) where
  abbrev pub before : K × V → Bool
  before p = is_lt (order p.0 key)

  head_before : (x : K × V) (xs : List (K × V)) → AllByRecursion (λ y. order x.0 y ≡ Less) (keys_of xs) → (j : ℕ) (d : K × V) → j < length xs → before (get_or xs j d) ≡ true → before x ≡ true
  head_before x [] a j d l e = absurd (omega (arith, l))
  head_before x (y ∷ ys) a zero d l e = ap is_lt (total.trans x.0 y.0 key a.0 (less_is (order y.0 key) e))
  head_before x (y ∷ ys) a (suc j) d l e = head_before x ys a.1 j d (omega (arith, l)) e

  pub partitioned : (xs : List (K × V)) → IsStrictlySortedBy order (keys_of xs) → IsPartitionedBy before xs
  unfolding IsStrictlySortedBy
  partitioned [] s i j d le l e = absurd (omega (arith, l))
  partitioned (x ∷ xs) s zero zero d le l e = e
  partitioned (x ∷ xs) s zero (suc j) d le l e = head_before x xs s.0 j d (omega (arith, l)) e
  partitioned (x ∷ xs) s (suc i) zero d le l e = absurd (omega (arith, le))
  partitioned (x ∷ xs) s (suc i) (suc j) d le l e = partitioned xs s.1 i j d (omega (arith, le)) (omega (arith, l)) e

  -- where those before the key end is its place
  pub place_is : (xs : List (K × V)) (i : ℕ) → i ≤ length xs → IsPartitionPoint (λ y. before y ≡ true) (λ y. before y ≡ false) xs i → i ≡ place_in order key xs
  place_is [] i le p = omega (arith, le)
  place_is (x ∷ xs) zero le p = sym (ap (λ b. cond b (suc (place_in order key xs)) 0) (p.1 0 x (omega arith) (omega arith)))
  place_is (x ∷ xs) (suc i) le p =
      let first : before x ≡ true = p.0 0 x (omega arith) (omega arith) in
      let rest = place_is xs i (omega (arith, le)) (λ k d lo hi. p.0 (suc k) d (omega arith) (omega (arith, hi)), λ k d lo hi. p.1 (suc k) d (omega (arith, lo)) (omega (arith, hi))) in
      ap suc rest ∙ sym (ap (λ b. cond b (suc (place_in order key xs)) 0) first)

  pub none_there : (xs : List (K × V)) → AllByRecursion (λ y. order key y ≡ Less) (keys_of xs) → lookup (is_at (order key)) xs ≡ None
  none_there [] a = refl
  none_there (x ∷ xs) a = ap (λ r. cond (is_eq r) (Some x.1) (lookup (is_at (order key)) xs)) a.0 ∙ none_there xs a.1

  -- the value of a pair that is the key's
  abbrev pub value_named : Option (K × V) → Option V
  value_named None = None
  value_named (Some p) = cond (is_eq (order key p.0)) (Some p.1) None

  at_head : (x : K × V) (xs : List (K × V)) (r : Ordering) → order x.0 key ≡ r → slice_get (x ∷ xs) (place_in order key (x ∷ xs)) ≡ slice_get (x ∷ xs) (cond (is_lt r) (suc (place_in order key xs)) 0)
  at_head x xs r is = ap (λ r. slice_get (x ∷ xs) (cond (is_lt r) (suc (place_in order key xs)) 0)) is

  value_step : (x : K × V) (xs : List (K × V)) (r : Ordering) → order x.0 key ≡ r → AllByRecursion (λ y. order x.0 y ≡ Less) (keys_of xs) → lookup (is_at (order key)) xs ≡ value_named (slice_get xs (place_in order key xs)) → lookup (is_at (order key)) (x ∷ xs) ≡ value_named (slice_get (x ∷ xs) (place_in order key (x ∷ xs)))
  value_step x xs Less is above later =
      let off : is_eq (order key x.0) ≡ false = ap is_eq (back order total x.0 key Less is) in
      ap (λ b. cond b (Some x.1) (lookup (is_at (order key)) xs)) off ∙ later ∙ sym (ap value_named (at_head x xs Less is))
  value_step x xs Equal is above later =
      let on : is_eq (order key x.0) ≡ true = ap is_eq (back order total x.0 key Equal is) in
      ap (λ b. cond b (Some x.1) (lookup (is_at (order key)) xs)) on ∙ sym (ap value_named (at_head x xs Equal is) ∙ ap (λ b. cond b (Some x.1) None) on)
  value_step x xs Greater is above later =
      let lower : order key x.0 ≡ Less = back order total x.0 key Greater is in
      let off : is_eq (order key x.0) ≡ false = ap is_eq lower in
      let none = none_there xs (weaker_each (λ y. order x.0 y ≡ Less) (λ y. order key y ≡ Less) (λ y h. total.trans key x.0 y lower h) (keys_of xs) above) in
      ap (λ b. cond b (Some x.1) (lookup (is_at (order key)) xs)) off ∙ none ∙ sym (ap value_named (at_head x xs Greater is) ∙ ap (λ b. cond b (Some x.1) None) off)

  -- what stands at a key stands at its place
  pub value_placed : (xs : List (K × V)) → IsStrictlySortedBy order (keys_of xs) → lookup (is_at (order key)) xs ≡ value_named (slice_get xs (place_in order key xs))
  unfolding IsStrictlySortedBy
  value_placed [] s = refl
  value_placed (x ∷ xs) s = value_step x xs (order x.0 key) refl s.0 (value_placed xs s.1)

  get_there : (xs : List (K × V)) (i : ℕ) (d : K × V) → is_keyed order key (slice_get xs i) ≡ true → slice_get xs i ≡ Some (get_or xs i d)
  get_there [] i d keyed = absurd (cc)
  get_there (x ∷ xs) zero d keyed = refl
  get_there (x ∷ xs) (suc i) d keyed = get_there xs i d keyed

  keyed_at : (xs : List (K × V)) (i : ℕ) (d : K × V) → is_keyed order key (slice_get xs i) ≡ true → is_eq (order key (get_or xs i d).0) ≡ true
  keyed_at xs i d keyed = ap (is_keyed order key) (sym (get_there xs i d keyed)) ∙ keyed

  -- what stands at the key's place is its value
  pub value_found : (xs : List (K × V)) (i : ℕ) (d : K × V) → IsStrictlySortedBy order (keys_of xs) → i ≡ place_in order key xs → is_keyed order key (slice_get xs i) ≡ true → Some (get_or xs i d).1 ≡ lookup (is_at (order key)) xs
  value_found xs i d s is keyed =
      sym (value_placed xs s ∙ ap value_named (ap (slice_get xs) (sym is) ∙ get_there xs i d keyed) ∙ ap (λ b. cond b (Some (get_or xs i d).1) None) (keyed_at xs i d keyed))

  named_none : (o : Option (K × V)) → is_keyed order key o ≡ false → value_named o ≡ None
  named_none None off = refl
  named_none (Some p) off = ap (λ b. cond b (Some p.1) None) off

  -- and where it doesn't stand there, it has none
  pub value_missing : (xs : List (K × V)) (i : ℕ) → IsStrictlySortedBy order (keys_of xs) → i ≡ place_in order key xs → is_keyed order key (slice_get xs i) ≡ false → None ≡ lookup (is_at (order key)) xs
  value_missing xs i s is off = sym (value_placed xs s ∙ ap value_named (ap (slice_get xs) (sym is)) ∙ named_none (slice_get xs i) off)
