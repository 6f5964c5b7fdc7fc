-- Where a search for a new pair goes on.
use Rattle.std.proofs.Common.{◌≡◌, ◌⊎◌, ◌+◌, ◌%◌, ◌^◌, ◌<◌, ◌∙◌, ℕ, List, ◌∷◌, true, false, zero, suc, refl, sym, ap, subst, inl, inr, arith, Option, Some, None}
use Rattle.std.specs.Prelude.{MatchOption, IsSome, IfSome, IfNone}
use Rattle.std.proofs.Math.Nat.{mod-add-mod}
use Rattle.std.proofs.lemmas.Map.Lookups.{CmpEqualImpliesEq, exact_pairs, exact_unsigned}
use Rattle.std.specs.Map.{lookup, set_value, keys_of}
use Rattle.std.specs.List.Sorted.{IsStrictlySortedBy}
use Rattle.std.specs.BTreeMap.{is_at, insert_entry}
use Rattle.std.specs.Ordering.{is_eq, nat_cmp}
use Rattle.std.specs.Cmp.{IsTotalOrder, tied_itself, then_total, on_total, nat_cmp_total}
use Rattle.inc_fs.specs.Lists.{IsIn}
use Rattle.inc_fs.specs.Lookups.{lookup_here, lookup_there, same_or_apart}
use Rattle.inc_fs.specs.Drawn.{pair_cmp, AreDrawnUpTo, AreSkips}
use Rattle.inc_fs.proofs.Tables.{set_value-insert_entry}

pair_cmp_total : IsTotalOrder pair_cmp
pair_cmp_total = then_total {R = λ x y. nat_cmp x.0 y.0} {S = λ x y. nat_cmp x.1 y.1} (on_total (λ p. p.0) nat_cmp_total) (on_total (λ p. p.1) nat_cmp_total)

pair_cmp_exact : CmpEqualImpliesEq pair_cmp
pair_cmp_exact = exact_pairs nat_cmp nat_cmp exact_unsigned exact_unsigned

same_pairs : (x y : ℕ × ℕ) → (x ≡ y) ⊎ (is_eq (pair_cmp x y) ≡ false)
same_pairs = same_or_apart pair_cmp pair_cmp_exact

-- ---- Ways.

one_step : (drawn : List (ℕ × ℕ)) (moment random : ℕ) → random < 2 ^ 32 → IsIn drawn (moment, random) → AreDrawnUpTo drawn moment random ((random + 1) % 2 ^ 32)
one_step drawn moment random few within = record {
  steps = 1;
  other_is = refl;
  before = λ j h. let here : random ≡ (random + j) % 2 ^ 32 = omega arith in subst (λ r. IsIn drawn (moment, r)) here within;
}

within_or_past : (n j : ℕ) → (j < n) ⊎ ((i : ℕ) × (j ≡ n + i))
within_or_past zero j = inr (j, omega arith)
within_or_past (suc n) zero = inl (omega arith)
within_or_past (suc n) (suc j) = elim (within_or_past n j) [
  | inl less ↦ inl (omega arith)
  | inr (i, is) ↦ inr (i, omega arith)
]

pub both_ways : (drawn : List (ℕ × ℕ)) (moment r s t : ℕ) → AreDrawnUpTo drawn moment r s → AreDrawnUpTo drawn moment s t → AreDrawnUpTo drawn moment r t
both_ways drawn moment r s t a b = record {
  steps = a.steps + b.steps;
  other_is = b.other_is ∙ on b.steps;
  before = λ j h. go j h (within_or_past a.steps j);
}
  where
    on : (i : ℕ) → (s + i) % 2 ^ 32 ≡ (r + (a.steps + i)) % 2 ^ 32
    on i = ap (λ s. (s + i) % 2 ^ 32) a.other_is ∙ mod-add-mod (r + a.steps) (2 ^ 32) i ∙ ap (λ n. n % 2 ^ 32) (let e : r + a.steps + i ≡ r + (a.steps + i) = omega arith in e)

    go : (j : ℕ) → j < a.steps + b.steps → (j < a.steps) ⊎ ((i : ℕ) × (j ≡ a.steps + i)) → IsIn drawn (moment, (r + j) % 2 ^ 32)
    go j h (inl less) = a.before j less
    go j h (inr (i, is)) = subst (λ j. IsIn drawn (moment, (r + j) % 2 ^ 32)) (sym is) (subst (λ u. IsIn drawn (moment, u)) (on i) (b.before i (omega (arith, is, h))))

more_drawn : (drawn : List (ℕ × ℕ)) (noted : ℕ × ℕ) (moment r s : ℕ) → AreDrawnUpTo drawn moment r s → AreDrawnUpTo (noted ∷ drawn) moment r s
more_drawn drawn noted moment r s a = record { steps = a.steps; other_is = a.other_is; before = λ j h. inr (a.before j h) }

-- ---- What the map says.

abbrev Told : List (ℕ × ℕ) → ℕ × ℕ → Option ℕ → Type 0
Told drawn pair next = MatchOption next (¬ IsIn drawn pair) (λ next. IsIn drawn pair × AreDrawnUpTo drawn pair.0 pair.1 next)

module _ (drawn : List (ℕ × ℕ)) (skips : List ((ℕ × ℕ) × ℕ)) (pair : ℕ × ℕ) (found : Option ℕ) (is : found ≡ lookup (is_at (pair_cmp pair)) skips) (all : AreSkips drawn skips) where
  pub goes_on : IfSome found (λ next. IsIn drawn pair × AreDrawnUpTo drawn pair.0 pair.1 next)
  goes_on = go found (subst (Told drawn pair) (sym is) (all pair))
    where
      go : (found : Option ℕ) → Told drawn pair found → IfSome found (λ next. IsIn drawn pair × AreDrawnUpTo drawn pair.0 pair.1 next)
      go None told = tt
      go (Some next) told = told

  pub not_drawn : IfNone found (¬ IsIn drawn pair)
  not_drawn = go found (subst (Told drawn pair) (sym is) (all pair))
    where
      go : (found : Option ℕ) → Told drawn pair found → IfNone found (¬ IsIn drawn pair)
      go None told = told
      go (Some next) told = tt

module _ (drawn : List (ℕ × ℕ)) (skips : List ((ℕ × ℕ) × ℕ)) (key : ℕ × ℕ) (next : ℕ) where
  apart_differs : (pair : ℕ × ℕ) → is_eq (pair_cmp pair key) ≡ false → key ≡ pair → ⊥
  apart_differs pair off is =
      let same : is_eq (pair_cmp key key) ≡ true = ap is_eq (tied_itself pair_cmp_total key) in
      let apart : is_eq (pair_cmp key key) ≡ false = subst (λ p. is_eq (pair_cmp p key) ≡ false) (sym is) off in
      cc

  -- what was put beside a pair is told there, and beside others what was told
  put : (grown : List (ℕ × ℕ)) → Told grown key (Some next) → ((pair : ℕ × ℕ) → (key ≡ pair → ⊥) → Told grown pair (lookup (is_at (pair_cmp pair)) skips)) → AreSkips grown (insert_entry pair_cmp skips key next)
  put grown here there pair = go (same_pairs pair key)
    where
      go : (pair ≡ key) ⊎ (is_eq (pair_cmp pair key) ≡ false) → Told grown pair (lookup (is_at (pair_cmp pair)) (insert_entry pair_cmp skips key next))
      go (inl is) = subst (λ (p : ℕ × ℕ). Told grown p (lookup (is_at (pair_cmp p)) (insert_entry pair_cmp skips key next))) (sym is)
          (subst (Told grown key) (sym (lookup_here pair_cmp pair_cmp_total skips key next)) here)
      go (inr off) = subst (Told grown pair) (sym (lookup_there pair_cmp pair_cmp_total skips key pair next off)) (there pair (apart_differs pair off))

  stands : AreSkips drawn skips → IsIn drawn key → IsSome (lookup (is_at (pair_cmp key)) skips)
  stands all within = go (lookup (is_at (pair_cmp key)) skips) (all key)
    where
      go : (found : Option ℕ) → Told drawn key found → IsSome found
      go None none = absurd (none within)
      go (Some found) told = refl

  -- once another way was noted beside a drawn pair
  pub skips_set : AreSkips drawn skips → IsStrictlySortedBy pair_cmp (keys_of skips) → IsIn drawn key → AreDrawnUpTo drawn key.0 key.1 next → AreSkips drawn (set_value (is_at (pair_cmp key)) skips next)
  skips_set all sorted within way =
      subst (AreSkips drawn) (sym (set_value-insert_entry pair_cmp pair_cmp_total skips key next sorted (stands all within))) (put drawn (within, way) (λ pair apart. all pair))

more_told : (drawn : List (ℕ × ℕ)) (key pair : ℕ × ℕ) (next : Option ℕ) → (key ≡ pair → ⊥) → Told drawn pair next → Told (key ∷ drawn) pair next
more_told drawn key pair None apart none = λ within. elim within [ inl is ↦ apart is | inr w ↦ none w ]
more_told drawn key pair (Some next) apart some = (inr some.0, more_drawn drawn key pair.0 pair.1 next some.1)

-- once a pair was noted as the latest
pub skips_pushed : (drawn : List (ℕ × ℕ)) (skips : List ((ℕ × ℕ) × ℕ)) (moment random : ℕ) → random < 2 ^ 32 → AreSkips drawn skips
    → AreSkips ((moment, random) ∷ drawn) (insert_entry pair_cmp skips (moment, random) ((random + 1) % 2 ^ 32))
skips_pushed drawn skips moment random few all =
    put drawn skips (moment, random) ((random + 1) % 2 ^ 32) ((moment, random) ∷ drawn)
    (inl refl, one_step ((moment, random) ∷ drawn) moment random few (inl refl))
    (λ pair apart. more_told drawn (moment, random) pair (lookup (is_at (pair_cmp pair)) skips) apart (all pair))
