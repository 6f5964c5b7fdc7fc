-- Fronts of a text.
use Rattle.std.proofs.Common.{◌≡◌, ℕ, zero, suc, ◌-◌, ◌<◌, ◌≤◌, ◌&&◌, Bool, true, false, cond, List, [], ◌∷◌, ◌++◌, length, take, drop, refl, sym, ap, ◌∙◌, nat_le, ◌⊎◌, inl, inr, arith, length-append, one-add, sub-one}
use Rattle.std.specs.List.{prefix_len, list_all}
use Rattle.std.proofs.Math.Seq.{take-append_seam}
use Rattle.std.proofs.lemmas.Bool.Decides.{nat_tests}
use Rattle.rs_tree.proofs.Both.{left_of, right_of}
use Rattle.rs_tree.specs.Words.{begins}
use Rattle.rs_lex.specs.Scan.{longest_front}

-- a front is what its length takes
pub take_front : (text front after : List ℕ) → text ≡ front ++ after → take (length front) text ≡ front
take_front text front after is = ap (take (length front)) is ∙ take-append_seam front after

pub front_within : (text front after : List ℕ) → text ≡ front ++ after → length front ≤ length text
front_within text front after is = omega (arith, ap length is, length-append front after)

le_or_next : (k n : ℕ) → k ≤ suc n → (past : Bool) → nat_le k n ≡ past → (k ≤ n) ⊎ (k ≡ suc n)
le_or_next k n small true e = inl (grind (arith, nat_tests))
le_or_next k n small false e = inr (grind (arith, nat_tests))

top_passes : (test : List ℕ → Bool) (most : ℕ) (rest : List ℕ) → suc most ≤ length rest → test (take (suc most) rest) ≡ true → (nat_le (suc most) (length rest) && test (take (suc most) rest)) ≡ true
top_passes test most rest within passes = let fits : nat_le (suc most) (length rest) ≡ true = grind (arith, nat_tests) in rw (fits, passes) refl

longest_step : (test : List ℕ → Bool) (most k : ℕ) (rest : List ℕ) (found : Bool) → (nat_le (suc most) (length rest) && test (take (suc most) rest)) ≡ found →
    (k ≤ most → k ≤ longest_front test most rest) → (k ≤ most) ⊎ (k ≡ suc most) → k ≤ length rest → test (take k rest) ≡ true → k ≤ longest_front test (suc most) rest
unfolding longest_front
longest_step test most k rest true is more (inl small) within passes = rw is (omega arith)
longest_step test most k rest true is more (inr same) within passes = rw is (omega arith)
longest_step test most k rest false is more (inl small) within passes = rw is (more small)
longest_step test most k rest false is more (inr same) within passes =
    let passes' : test (take (suc most) rest) ≡ true = rw same at passes in
    let found = top_passes test most rest (omega arith) passes' in cc

pub longest_front-ge : (test : List ℕ → Bool) (most k : ℕ) (rest : List ℕ) → k ≤ most → k ≤ length rest → test (take k rest) ≡ true → k ≤ longest_front test most rest
unfolding longest_front
longest_front-ge test zero k rest small within passes = small
longest_front-ge test (suc most) k rest small within passes =
    longest_step test most k rest _ refl (λ s. longest_front-ge test most k rest s within passes) (le_or_next k most small _ refl) within passes

pub record IsFrontFound (test : List ℕ → Bool) (n : ℕ) (rest : List ℕ) : Type 0 where
  pub within : n ≤ length rest
  pub passes : 0 < n → test (take n rest) ≡ true

found_step : (test : List ℕ → Bool) (most : ℕ) (rest : List ℕ) (found : Bool) → (nat_le (suc most) (length rest) && test (take (suc most) rest)) ≡ found →
    IsFrontFound test (longest_front test most rest) rest → IsFrontFound test (longest_front test (suc most) rest) rest
unfolding longest_front
found_step test most rest true is more = rw is (record { within = (let fits : nat_le (suc most) (length rest) ≡ true = left_of (nat_le (suc most) (length rest)) (test (take (suc most) rest)) is in grind (arith, nat_tests)); passes = λ some. right_of (nat_le (suc most) (length rest)) (test (take (suc most) rest)) is })
found_step test most rest false is more = rw is more

pub longest_front-found : (test : List ℕ → Bool) (most : ℕ) (rest : List ℕ) → IsFrontFound test (longest_front test most rest) rest
unfolding longest_front
longest_front-found test zero rest = record { within = omega arith; passes = λ some. absurd (omega arith) }
longest_front-found test (suc most) rest = found_step test most rest _ refl (longest_front-found test most rest)

-- runs

pub prefix_len-ge : (test : ℕ → Bool) (front after : List ℕ) → list_all test front ≡ true → length front ≤ prefix_len test (front ++ after)
prefix_len-ge test [] after all = omega arith
prefix_len-ge test (b ∷ bs) after all = let first : test b ≡ true = left_of (test b) (list_all test bs) all in let later = prefix_len-ge test bs after (right_of (test b) (list_all test bs) all) in rw first (omega arith)

prefix_step : (test : ℕ → Bool) (b : ℕ) (bs : List ℕ) (passes : Bool) → test b ≡ passes → list_all test (take (prefix_len test bs) bs) ≡ true → list_all test (take (prefix_len test (b ∷ bs)) (b ∷ bs)) ≡ true
prefix_step test b bs true is more = rw (is, one-add, is) more
prefix_step test b bs false is more = rw is refl

pub prefix_passes : (test : ℕ → Bool) (bs : List ℕ) → list_all test (take (prefix_len test bs) bs) ≡ true
prefix_passes test [] = refl
prefix_passes test (b ∷ bs) = prefix_step test b bs _ refl (prefix_passes test bs)

-- the byte after a run is none of the run's
stop_step : (test : ℕ → Bool) (b : ℕ) (bs : List ℕ) (passes : Bool) → test b ≡ passes → begins test (drop (prefix_len test bs) bs) ≡ false → begins test (drop (prefix_len test (b ∷ bs)) (b ∷ bs)) ≡ false
stop_step test b bs true is more = rw (is, one-add) more
stop_step test b bs false is more = rw is is

pub prefix_stops : (test : ℕ → Bool) (bs : List ℕ) → begins test (drop (prefix_len test bs) bs) ≡ false
prefix_stops test [] = refl
prefix_stops test (b ∷ bs) = stop_step test b bs _ refl (prefix_stops test bs)

exact_nil : (test : ℕ → Bool) (after : List ℕ) → begins test after ≡ false → prefix_len test after ≡ 0
exact_nil test [] stops = refl
exact_nil test (b ∷ bs) stops = rw stops refl

pub prefix_exact : (test : ℕ → Bool) (front after : List ℕ) → list_all test front ≡ true → begins test after ≡ false → prefix_len test (front ++ after) ≡ length front
prefix_exact test [] after all stops = exact_nil test after stops
prefix_exact test (b ∷ bs) after all stops = let first : test b ≡ true = left_of (test b) (list_all test bs) all in let later = prefix_exact test bs after (right_of (test b) (list_all test bs) all) stops in rw (first, later) (omega arith)

-- one byte less

step_down : (test : List ℕ → Bool) (most : ℕ) (rest : List ℕ) (found : Bool) → (nat_le (suc most) (length rest) && test (take (suc most) rest)) ≡ found → longest_front test (suc most) rest ≡ cond found (suc most) (longest_front test most rest)
unfolding longest_front
step_down test most rest found is = rw is refl

pub longest_front-down : (test : List ℕ → Bool) (n : ℕ) (rest : List ℕ) → 0 < n → (nat_le n (length rest) && test (take n rest)) ≡ false → longest_front test (n - 1) rest ≡ longest_front test n rest
longest_front-down test zero rest some fails = absurd (omega arith)
longest_front-down test (suc n) rest some fails = rw sub-one (sym (step_down test n rest false fails))

pub longest_front-here : (test : List ℕ → Bool) (n : ℕ) (rest : List ℕ) → 0 < n → (nat_le n (length rest) && test (take n rest)) ≡ true → longest_front test n rest ≡ n
longest_front-here test zero rest some passes = absurd (omega arith)
longest_front-here test (suc n) rest some passes = step_down test n rest true passes

pub longest_front-none : (test : List ℕ → Bool) (n : ℕ) (rest : List ℕ) → n ≡ 0 → longest_front test n rest ≡ n
unfolding longest_front
longest_front-none test n rest none = rw none refl
