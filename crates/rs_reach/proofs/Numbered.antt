-- Numbers of items that pass.
use Rattle.std.proofs.Common.{◌≡◌, ℕ, ◌+◌, ◌<◌, ◌≤◌, Bool, true, false, cond, nat_eq, List, [], ◌∷◌, length, map, arith, suc}
use Rattle.std.specs.List.{IsDistinct, AllByRecursion}
use Rattle.std.proofs.lemmas.Map.Keys.{IsDistinct-cons}
use Rattle.std.proofs.lemmas.List.{length-map}
use Rattle.std.proofs.lemmas.List.Elements.{All-from_recursion}
use Rattle.std.proofs.lemmas.Bool.Decides.{Decides-eqb}
use Rattle.std.proofs.lemmas.Bool.{false_from_ne_true}
use Rattle.rs_tree.specs.declared.index.IndexItem.{IndexItem}
use Rattle.rs_reach.specs.Dead.{numbers_where}
use Rattle.rs_reach.specs.Laws.{RootsDiffer}

weaker : (P Q : ℕ → Type 0) → ((n : ℕ) → P n → Q n) → (ns : List ℕ) → AllByRecursion P ns → AllByRecursion Q ns
weaker P Q f [] h = tt
weaker P Q f (n ∷ ns) h = (f n h.0, weaker P Q f ns h.1)

-- from i on, below i and the number of items
within : (p : IndexItem → Bool) (i : ℕ) (xs : List IndexItem) → AllByRecursion (λ n. (i ≤ n) × (n < i + length xs)) (numbers_where p i xs)
within p i [] = tt
within p i (x ∷ xs) = by (p x) (weaker _ _ (λ n h. (omega (arith, h.0), omega (arith, h.1))) (numbers_where p (i + 1) xs) (within p (i + 1) xs))
  where
    by : (b : Bool) → AllByRecursion (λ n. (i ≤ n) × (n < i + suc (length xs))) (numbers_where p (i + 1) xs) → AllByRecursion (λ n. (i ≤ n) × (n < i + suc (length xs))) (cond b (i ∷ numbers_where p (i + 1) xs) (numbers_where p (i + 1) xs))
    by true h = ((omega arith, omega arith), h)
    by false h = h

differ : (p : IndexItem → Bool) (i : ℕ) (xs : List IndexItem) → IsDistinct nat_eq (numbers_where p i xs)
unfolding IsDistinct
differ p i [] = tt
differ p i (x ∷ xs) = by (p x) (differ p (i + 1) xs)
  where
    apart : (n : ℕ) → (i + 1 ≤ n) × (n < i + 1 + length xs) → nat_eq i n ≡ false
    apart n h = false_from_ne_true (nat_eq i n) (λ e. (let same = (Decides-eqb i n).0 e in omega (arith, same, h.0)))

    by : (b : Bool) → IsDistinct nat_eq (numbers_where p (i + 1) xs) → IsDistinct nat_eq (cond b (i ∷ numbers_where p (i + 1) xs) (numbers_where p (i + 1) xs))
    by true h = IsDistinct-cons nat_eq i (numbers_where p (i + 1) xs) (weaker _ _ apart (numbers_where p (i + 1) xs) (within p (i + 1) xs)) h
    by false h = h

pub roots_differ : RootsDiffer
roots_differ from may items = record {
  distinct = differ from 0 items;
  below = All-from_recursion (λ n. n < length (map may items)) (numbers_where from 0 items) (weaker _ _ (λ n h. omega (arith, h.1, length-map items may)) (numbers_where from 0 items) (within from 0 items));
}
