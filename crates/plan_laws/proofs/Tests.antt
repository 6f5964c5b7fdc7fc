-- Names pass the tests of names.
use Rattle.std.proofs.Common.{◌≡◌, ◌≢◌, ℕ, ◌&&◌, ◌||◌, Bool, true, false, not, List, [], ◌∷◌, length, codes, refl, ap, arith, nat_lt, nat_le}
use Rattle.std.specs.List.{AllByRecursion, list_all}
use Rattle.std.specs.Str.{bytes_eq}
use Rattle.std.proofs.lemmas.Bool.{false_from_ne_true}
use Rattle.std.proofs.lemmas.Bool.Decides.{nat_tests}
use Rattle.std.proofs.lemmas.List.Sums.{list_all-from_AllPass}
use Rattle.std.proofs.lemmas.Slice.Eq.{bytes_eq-Decides}
use Rattle.inc_base.specs.Texts.{IsName, is_name_byte}
use Rattle.rs_grammar.specs.Tidy.{IsPlainName}
use Rattle.rs_plans.specs.Names.{is_module, is_name, is_name_or_none}

pub both : (a b : Bool) → a ≡ true → b ≡ true → (a && b) ≡ true
both true b e f = f
both false b e f = absurd (cc)

or_right : (a b : Bool) → b ≡ true → (a || b) ≡ true
or_right true b e = refl
or_right false b e = e

named : (text : List ℕ) → IsName text → is_name text ≡ true
named text is =
    let some : nat_lt 0 (length text) ≡ true = grind (arith, nat_tests, is.some) in
    let few : nat_le (length text) 64 ≡ true = grind (arith, nat_tests, is.few) in
    both (nat_lt 0 (length text)) (nat_le (length text) 64 && list_all is_name_byte text) some (both (nat_le (length text) 64) (list_all is_name_byte text) few (list_all-from_AllPass is_name_byte text is.each))

pub name_passes : (text : List ℕ) → IsPlainName text → is_name_or_none text ≡ true
name_passes text is = or_right (bytes_eq text []) (is_name text) (named text is.name)

other_passes : (text : List ℕ) → text ≢ codes "crate" → not (bytes_eq text (codes "crate")) ≡ true
other_passes text other = ap not (false_from_ne_true (bytes_eq text (codes "crate")) (λ e. other ((bytes_eq-Decides text (codes "crate")).0 e)))

pub module_passes : (text : List ℕ) → IsPlainName text → is_module text ≡ true
module_passes text is = both (is_name_or_none text) (not (bytes_eq text (codes "crate"))) (name_passes text is) (other_passes text is.other)

pub root_passes : is_module [] ≡ true
root_passes = refl

pub all_pass : {X : Type 0} (test : X → Bool) (xs : List X) → AllByRecursion (λ x. test x ≡ true) xs → list_all test xs ≡ true
all_pass test [] h = refl
all_pass test (x ∷ xs) h = both (test x) (list_all test xs) h.0 (all_pass test xs h.1)
