-- The value of digits only grows.
use Rattle.std.proofs.Common.{◌≡◌, ◌≢◌, ℕ, ◌+◌, ◌-◌, ◌*◌, ◌^◌, ◌<◌, ◌≤◌, ◌==◌, Bool, true, false, List, [], ◌∷◌, length, get_or, drop, refl, sym, ap, ◌∙◌, add-one, arith}
use Rattle.std.proofs.Math.Seq.{drop-cons}
use Rattle.std.proofs.lemmas.Bool.Decides.{nat_tests}
use Rattle.rs_tree.specs.Words.{value_after, value_of}

value_step : (before b : ℕ) (bs : List ℕ) (blank : Bool) → (b == 95) ≡ blank → ((n : ℕ) → n ≤ value_after n bs) → before ≤ value_after before (b ∷ bs)
value_step before b bs true is more = rw is (more before)
value_step before b bs false is more = let grown = more (before * 10 + (b - 48)) in rw is (omega arith)

pub value_after-ge : (before : ℕ) (bs : List ℕ) → before ≤ value_after before bs
value_after-ge before [] = omega arith
value_after-ge before (b ∷ bs) = value_step before b bs (b == 95) refl (λ n. value_after-ge n bs)

pub value_passes : (text : List ℕ) (i d before : ℕ) → i < length text → value_after before (drop i text) ≡ value_of text → get_or text i d ≢ 95 →
    2 ^ 63 ≤ before * 10 + (get_or text i d - 48) → 2 ^ 63 ≤ value_of text
value_passes text i d before within is other large =
    let at : drop i text ≡ get_or text i d ∷ drop (i + 1) text = rw (add-one, drop-cons text i d within) refl in
    let digit : (get_or text i d == 95) ≡ false = grind (arith, nat_tests) in
    let more = value_after-ge (before * 10 + (get_or text i d - 48)) (drop (i + 1) text) in
    let step : value_after before (get_or text i d ∷ drop (i + 1) text) ≡ value_after (before * 10 + (get_or text i d - 48)) (drop (i + 1) text) = rw digit refl in
    let whole : value_of text ≡ value_after (before * 10 + (get_or text i d - 48)) (drop (i + 1) text) = sym is ∙ ap (value_after before) at ∙ step in
    omega arith
