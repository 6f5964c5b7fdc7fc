-- What a search has left, and what it has found.
use Rattle.std.proofs.Common.{◌≡◌, ℕ, ◌+◌, ◌<◌, Bool, true, false, cond, not, ◌&&◌, nat_eq, List, [], ◌∷◌, ◌++◌, length, get_or, drop, refl, sym, ap, ◌∙◌, map, arith, suc, append_assoc}
use Rattle.std.specs.Prelude.{filter, slice_index_or, if◌then◌else◌}
use Rattle.std.specs.List.{list_any}
use Rattle.std.proofs.lemmas.List.{at_drop_more}
use Rattle.rs_tree.specs.declared.index.IndexItem.{IndexItem}
use Rattle.rs_reach.specs.Places.{IsLeft}
use Rattle.rs_reach.specs.Dead.{numbers_where, place_of, places_where}

-- two tests that agree at each item with its number
same_where : (p q : ℕ → IndexItem → Bool) (may : IndexItem → Bool) (marks : ℕ → Bool) → ((i : ℕ) (x : IndexItem) → marks i ≡ may x → p i x ≡ q i x) → (i : ℕ) (items : List IndexItem) → ((k : ℕ) → marks (i + k) ≡ slice_index_or (map may items) k false) → places_where p i items ≡ places_where q i items
same_where p q may marks agree i [] at = refl
same_where p q may marks agree i (x ∷ items) at =
    let zero_more : i + 0 ≡ i = omega arith in
    let here : marks i ≡ may x = ap marks (sym zero_more) ∙ at 0 in
    (λ j. cond (agree i x here j) (place_of x ∷ places_where p (i + 1) items) (places_where p (i + 1) items))
    ∙ ap (λ rest. cond (q i x) (place_of x ∷ rest) rest) (same_where p q may marks agree (i + 1) items (λ k. (let more : i + 1 + k ≡ i + suc k = omega arith in ap marks more ∙ at (suc k))))

-- what is left of what may be found
pub left_where : (may keep : IndexItem → Bool) (items : List IndexItem) (left : List Bool) (found : List ℕ) → IsLeft (map may items) left found
    → places_where (λ i x. may x && slice_index_or left i false && keep x) 0 items ≡ places_where (λ i x. may x && not (list_any (nat_eq i) found) && keep x) 0 items
left_where may keep items left found is = same_where _ _ may (λ k. slice_index_or (map may items) k false) (λ i x m. ap (λ b. b && keep x) (at i x (may x) refl m)) 0 items (λ k. ap (λ n. slice_index_or (map may items) n false) (zero_plus k))
  where
    zero_plus : (k : ℕ) → 0 + k ≡ k
    zero_plus k = omega arith

    at : (i : ℕ) (x : IndexItem) (b : Bool) → may x ≡ b → slice_index_or (map may items) i false ≡ may x → (may x && slice_index_or left i false) ≡ (may x && not (list_any (nat_eq i) found))
    at i x true e m = ap (λ b. may x && b) (is.each i ∙ ap (λ b. b && not (list_any (nat_eq i) found)) (m ∙ e))
    at i x false e m = ap (λ b. b && slice_index_or left i false) e ∙ sym (ap (λ b. b && not (list_any (nat_eq i) found)) e)

-- one item more of those that pass and are kept
pub kept_more : (p : IndexItem → Bool) (keep : ℕ → Bool) (items : List IndexItem) (i : ℕ) (x : IndexItem) (was now all : List ℕ) → i < length items → x ≡ get_or items i x → now ≡ (if p x && keep i then was ++ i ∷ [] else was)
    → was ++ filter keep (numbers_where p i (drop i items)) ≡ all → now ++ filter keep (numbers_where p (i + 1) (drop (i + 1) items)) ≡ all
kept_more p keep items i x was now all l is adds h =
    ap (λ ns. ns ++ rest) adds ∙ by (p x)
    ∙ ap (λ (y : IndexItem). was ++ filter keep (numbers_where p i (y ∷ drop (i + 1) items))) is
    ∙ sym (at_drop_more (λ xs. was ++ filter keep (numbers_where p i xs)) items i x l) ∙ h
  where
    rest : List ℕ
    rest = filter keep (numbers_where p (i + 1) (drop (i + 1) items))

    kept : (b : Bool) → (if b then was ++ i ∷ [] else was) ++ rest ≡ was ++ cond b (i ∷ rest) rest
    kept true = append_assoc was (i ∷ []) rest
    kept false = refl

    by : (a : Bool) → (if a && keep i then was ++ i ∷ [] else was) ++ rest ≡ was ++ filter keep (cond a (i ∷ numbers_where p (i + 1) (drop (i + 1) items)) (numbers_where p (i + 1) (drop (i + 1) items)))
    by true = kept (keep i)
    by false = refl
