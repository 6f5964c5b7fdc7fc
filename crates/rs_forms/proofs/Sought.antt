-- Of any bytes it is found whether a value's form begins them, and which: so each reading has an answer.
use Rattle.std.proofs.Common.{◌≡◌, ◌⊎◌, ℕ, zero, suc, ◌^◌, ◌<◌, ◌≤◌, ◌&&◌, Bool, true, false, List, [], ◌∷◌, ◌++◌, length, take, drop, inl, inr, refl, sym, ap, ◌∙◌, subst, arith, append_assoc, append-nil, length-append, nat_eq, nat_le, nat_lt}
use Rattle.std.specs.Prelude.{Option, Some, None}
use Rattle.std.specs.List.{flat_map}
use Rattle.std.specs.Cmp.Lexicographic.{pointwise, same_text, bytes_decides}
use Rattle.std.proofs.lemmas.Bool.Decides.{nat_tests}
use Rattle.std.proofs.lemmas.List.{length-take-le, take-append-drop}
use Rattle.std.proofs.Math.Nat.{mod-eq_of_lt}
use Rattle.std.proofs.Math.Seq.{take-append_seam}
use Rattle.byteorder.specs.Endian.{big_from}
use Rattle.byteorder.specs.Numbers.{big_from-bytes}
use Rattle.inc_wire.specs.Fits.{Always, Each, FitsList, FitsText}
use Rattle.inc_wire.specs.Forms.{list_form, number_form, text_form}
use Rattle.inc_wire.specs.FormLaws.{length-number_form, text_form-parts}
use Rattle.inc_wire.specs.Fronts.{HasFronts, injective_of, number_fronts}
use Rattle.inc_wire.specs.Readings.{IsReadAs}
use Rattle.rs_tree.proofs.Both.{left_of, right_of}

-- the value whose form begins the bytes, and what follows it, or that there is none
abbrev pub Sought : {X : Type 0} → (X → Type 0) → (X → List ℕ) → List ℕ → Type 0
Sought {X} P form before = ((x : X) × (after : List ℕ) × P x × (before ≡ form x ++ after)) ⊎ ((x : X) (after : List ℕ) → P x → before ≡ form x ++ after → ⊥)

pub record Seeks {X : Type 0} (P : X → Type 0) (form : X → List ℕ) : Type 0 where
  pub seek : (before : List ℕ) → Sought P form before

-- numbers

number_back : (width v : ℕ) (rest : List ℕ) → v < 256 ^ width → big_from 0 width (number_form width v ++ rest) ≡ v
unfolding number_form
number_back width v rest small = big_from-bytes width v rest ∙ mod-eq_of_lt small

taken : (front after before : List ℕ) → before ≡ front ++ after → take (length front) before ≡ front
taken front after before is = ap (take (length front)) is ∙ take-append_seam front after

number_there : ℕ → ℕ → List ℕ → Bool
number_there width v before = nat_lt v (256 ^ width) && pointwise nat_eq (number_form width v) (take width before)

number_stands : (width v : ℕ) (before after : List ℕ) → v < 256 ^ width → before ≡ number_form width v ++ after → number_there width v before ≡ true
unfolding number_there
number_stands width v before after small is =
    let fits : nat_lt v (256 ^ width) ≡ true = grind (arith, nat_tests) in
    let front : take width before ≡ number_form width v = ap (λ n. take n before) (sym (length-number_form width v)) ∙ taken (number_form width v) after before is in
    let same : pointwise nat_eq (number_form width v) (take width before) ≡ true = (bytes_decides (number_form width v) (take width before)).1 (sym front) in
    rw (fits, same) refl

number_begins : (width v : ℕ) (before : List ℕ) → number_there width v before ≡ true → (v < 256 ^ width) × (before ≡ number_form width v ++ drop width before)
unfolding number_there
number_begins width v before is =
    let small : nat_lt v (256 ^ width) ≡ true = left_of (nat_lt v (256 ^ width)) (pointwise nat_eq (number_form width v) (take width before)) is in
    let same = same_text (number_form width v) (take width before) (sym (right_of (nat_lt v (256 ^ width)) (pointwise nat_eq (number_form width v) (take width before)) is)) in
    (grind (arith, nat_tests), sym (take-append-drop width before) ∙ ap (λ front. front ++ drop width before) (sym same))

pub number_seeks : (width : ℕ) → Seeks (λ v. v < 256 ^ width) (number_form width)
number_seeks width = record { seek = λ before. go before (number_there width (big_from 0 width before) before) refl }
  where
    go : (before : List ℕ) (b : Bool) → number_there width (big_from 0 width before) before ≡ b → Sought (λ v. v < 256 ^ width) (number_form width) before
    go before true e = let parts = number_begins width (big_from 0 width before) before e in inl (big_from 0 width before, drop width before, parts.0, parts.1)
    go before false e = inr (λ v after small is. (
        let same : big_from 0 width before ≡ v = ap (big_from 0 width) is ∙ number_back width v after small in
        let there : number_there width (big_from 0 width before) before ≡ true = ap (λ n. number_there width n before) same ∙ number_stands width v before after small is in
        absurd (cc)
        ))

-- forms made of others

pub pair_seeks : {X Y : Type 0} {P : X → Type 0} {form : X → List ℕ} {Q : Y → Type 0} {other : Y → List ℕ} → HasFronts P form → Seeks P form → Seeks Q other → Seeks {X = X × Y} (λ p. P p.0 × Q p.1) (λ p. form p.0 ++ other p.1)
pair_seeks {X} {Y} {P} {form} {Q} {other} fronts firsts seconds = record { seek = λ before. go before (firsts.seek before) }
  where
    then_second : (before : List ℕ) (x : X) (rest : List ℕ) → P x → before ≡ form x ++ rest → Sought Q other rest → Sought {X = X × Y} (λ p. P p.0 × Q p.1) (λ p. form p.0 ++ other p.1) before
    then_second before x rest fits is (inl two) = inl ((x, two.0), two.1, (fits, two.2), is ∙ ap (λ r. form x ++ r) two.3 ∙ sym (append_assoc (form x) (other two.0) two.1))
    then_second before x rest fits is (inr none) = inr (λ p after both here. (
        let seen = fronts.seen p.0 x (other p.1 ++ after) rest both.0 fits (sym (here ∙ append_assoc (form p.0) (other p.1) after) ∙ is) in
        none p.1 after both.1 (sym seen.rest)
        ))

    go : (before : List ℕ) → Sought P form before → Sought {X = X × Y} (λ p. P p.0 × Q p.1) (λ p. form p.0 ++ other p.1) before
    go before (inl one) = then_second before one.0 one.1 one.2 one.3 (seconds.seek one.1)
    go before (inr none) = inr (λ p after both here. none p.0 (other p.1 ++ after) both.0 (here ∙ append_assoc (form p.0) (other p.1) after))

pub made_seeks : {X Y : Type 0} {P : X → Type 0} {form : X → List ℕ} {Q : Y → Type 0} {other : Y → List ℕ} (to : X → Y) (back : Y → X) → ((x : X) → P x → Q (to x)) → ((y : Y) → Q y → P (back y))
    → ((x : X) → P x → form x ≡ other (to x)) → ((y : Y) → other y ≡ form (back y)) → Seeks P form → Seeks Q other
made_seeks {P} {form} {Q} {other} to back fits fits_back same same_back seeks = record { seek = λ before. go before (seeks.seek before) }
  where
    go : (before : List ℕ) → Sought P form before → Sought Q other before
    go before (inl one) = inl (to one.0, one.1, fits one.0 one.2, one.3 ∙ ap (λ bytes. bytes ++ one.1) (same one.0 one.2))
    go before (inr none) = inr (λ y after q is. none (back y) after (fits_back y q) (is ∙ ap (λ bytes. bytes ++ after) (same_back y)))

pub narrow_seeks : {X : Type 0} {P Q : X → Type 0} {form : X → List ℕ} → HasFronts P form → ((x : X) → Q x ⊎ (Q x → ⊥)) → Seeks P form → Seeks (λ x. P x × Q x) form
narrow_seeks {X} {P} {Q} {form} fronts decide seeks = record { seek = λ before. go before (seeks.seek before) }
  where
    decided : (before : List ℕ) (x : X) (after : List ℕ) → P x → before ≡ form x ++ after → Q x ⊎ (Q x → ⊥) → Sought (λ x. P x × Q x) form before
    decided before x after fits is (inl q) = inl (x, after, (fits, q), is)
    decided before x after fits is (inr not_q) = inr (λ y rest both here. (let seen = fronts.seen y x rest after both.0 fits (sym here ∙ is) in not_q (subst Q seen.value both.1)))

    go : (before : List ℕ) → Sought P form before → Sought (λ x. P x × Q x) form before
    go before (inl one) = decided before one.0 one.1 one.2 one.3 (decide one.0)
    go before (inr none) = inr (λ y rest both here. none y rest both.0 here)

pub le_decided : (m n : ℕ) → (m ≤ n) ⊎ (m ≤ n → ⊥)
le_decided m n = go (nat_le m n) refl
  where
    go : (b : Bool) → nat_le m n ≡ b → (m ≤ n) ⊎ (m ≤ n → ⊥)
    go true e = inl (grind (arith, nat_tests))
    go false e = inr (λ le. grind (arith, nat_tests))

pub number_is : (n m : ℕ) → (m ≡ n) ⊎ (m ≡ n → ⊥)
number_is n m = go (nat_eq m n) refl
  where
    go : (b : Bool) → nat_eq m n ≡ b → (m ≡ n) ⊎ (m ≡ n → ⊥)
    go true e = inl (grind (arith, nat_tests))
    go false e = inr (λ same. grind (arith, nat_tests))

-- the same number before each
pub marked_seeks : {X : Type 0} {P : X → Type 0} {form : X → List ℕ} (mark : ℕ) → mark < 256 ^ 1 → Seeks P form → Seeks P (λ x. number_form 1 mark ++ form x)
marked_seeks {X} {P} {form} mark small seeks = record { seek = λ before. go before ((pair_seeks marks (narrow_seeks {Q = λ v. v ≡ mark} (number_fronts 1) (number_is mark) (number_seeks 1)) seeks).seek before) }
  where
    marks : HasFronts (λ v. (v < 256 ^ 1) × (v ≡ mark)) (number_form 1)
    marks = record { seen = λ x y r s fx fy same. (number_fronts 1).seen x y r s fx.0 fy.0 same }

    go : (before : List ℕ) → Sought {X = ℕ × X} (λ p. ((p.0 < 256 ^ 1) × (p.0 ≡ mark)) × P p.1) (λ p. number_form 1 p.0 ++ form p.1) before → Sought P (λ x. number_form 1 mark ++ form x) before
    go before (inl one) = inl (one.0.1, one.1, one.2.1, one.3 ∙ ap (λ v. (number_form 1 v ++ form one.0.1) ++ one.1) one.2.0.1)
    go before (inr none) = inr (λ x after fits is. none (mark, x) after ((small, refl), fits) is)

-- texts and lists

pub text_seeks : Seeks FitsText text_form
text_seeks = record { seek = λ before. go before ((number_seeks 4).seek before) }
  where
    counted : (before : List ℕ) (n : ℕ) (rest : List ℕ) → n < 256 ^ 4 → before ≡ number_form 4 n ++ rest → (n ≤ length rest) ⊎ (n ≤ length rest → ⊥) → Sought FitsText text_form before
    counted before n rest small is (inl within) =
        let long : length (take n rest) ≡ n = length-take-le n rest within in
        inl (
          take n rest,
          drop n rest,
          subst (λ m. m < 256 ^ 4) (sym long) small,
          is ∙ ap (λ r. number_form 4 n ++ r) (sym (take-append-drop n rest)) ∙ ap (λ m. number_form 4 m ++ (take n rest ++ drop n rest)) (sym long) ∙ sym (text_form-parts (take n rest) (drop n rest)),
        )
    counted before n rest small is (inr short) = inr (λ text after fits here. (
        let seen = (number_fronts 4).seen (length text) n (text ++ after) rest fits small (sym (here ∙ text_form-parts text after) ∙ is) in
        short (within text after n rest seen.value seen.rest)
        )) where
          within : (text after : List ℕ) (n : ℕ) (rest : List ℕ) → length text ≡ n → text ++ after ≡ rest → n ≤ length rest
          within text after n rest long same = omega (arith, long, ap length same, length-append text after)

    go : (before : List ℕ) → Sought (λ v. v < 256 ^ 4) (number_form 4) before → Sought FitsText text_form before
    go before (inl one) = counted before one.0 one.1 one.2 one.3 (le_decided one.0 (length one.1))
    go before (inr none) = inr (λ text after fits here. none (length text) (text ++ after) fits (here ∙ text_form-parts text after))

-- so many elements
abbrev Counted : {X : Type 0} → (X → Type 0) → ℕ → List X → Type 0
Counted P n xs = (length xs ≡ n) × Each P xs

each_sought : {X : Type 0} {P : X → Type 0} {form : X → List ℕ} → HasFronts P form → Seeks P form → (n : ℕ) (before : List ℕ) → Sought (Counted P n) (flat_map form) before
each_sought fronts seeks zero before = inl ([], before, (refl, tt), refl)
each_sought {X} {P} {form} fronts seeks (suc n) before = go (each_sought fronts seeks n) (seeks.seek before)
  where
    nothing : (none : (x : X) (after : List ℕ) → P x → before ≡ form x ++ after → ⊥) (xs : List X) (after : List ℕ) → Counted P (suc n) xs → before ≡ flat_map form xs ++ after → ⊥
    nothing none [] after fits is = absurd (omega (arith, fits.0))
    nothing none (x ∷ xs) after fits is = none x (flat_map form xs ++ after) fits.1.0 (is ∙ append_assoc (form x) (flat_map form xs) after)

    no_more : (x : X) (rest : List ℕ) → P x → before ≡ form x ++ rest → ((ys : List X) (after : List ℕ) → Counted P n ys → rest ≡ flat_map form ys ++ after → ⊥) → (xs : List X) (after : List ℕ) → Counted P (suc n) xs → before ≡ flat_map form xs ++ after → ⊥
    no_more x rest fx is none [] after fits here = absurd (omega (arith, fits.0))
    no_more x rest fx is none (y ∷ ys) after fits here =
        let seen = fronts.seen y x (flat_map form ys ++ after) rest fits.1.0 fx (sym (here ∙ append_assoc (form y) (flat_map form ys) after) ∙ is) in
        none ys after (omega (arith, fits.0), fits.1.1) (sym seen.rest)

    more : (x : X) (rest : List ℕ) → P x → before ≡ form x ++ rest → Sought (Counted P n) (flat_map form) rest → Sought (Counted P (suc n)) (flat_map form) before
    more x rest fx is (inl two) = inl (x ∷ two.0, two.1, (omega (arith, two.2.0), (fx, two.2.1)), is ∙ ap (λ r. form x ++ r) two.3 ∙ sym (append_assoc (form x) (flat_map form two.0) two.1))
    more x rest fx is (inr none) = inr (no_more x rest fx is none)

    go : ((rest : List ℕ) → Sought (Counted P n) (flat_map form) rest) → Sought P form before → Sought (Counted P (suc n)) (flat_map form) before
    go later (inl one) = more one.0 one.1 one.2 one.3 (later one.1)
    go later (inr none) = inr (nothing none)

list_parts : {X : Type 0} (form : X → List ℕ) (xs : List X) (rest : List ℕ) → list_form form xs ++ rest ≡ number_form 4 (length xs) ++ (flat_map form xs ++ rest)
unfolding list_form
list_parts form xs rest = append_assoc (number_form 4 (length xs)) (flat_map form xs) rest

pub list_seeks : {X : Type 0} {P : X → Type 0} {form : X → List ℕ} → HasFronts P form → Seeks P form → Seeks (FitsList P) (list_form form)
list_seeks {X} {P} {form} fronts seeks = record { seek = λ before. go before ((number_seeks 4).seek before) }
  where
    counted : (before : List ℕ) (n : ℕ) (rest : List ℕ) → n < 256 ^ 4 → before ≡ number_form 4 n ++ rest → Sought (Counted P n) (flat_map form) rest → Sought (FitsList P) (list_form form) before
    counted before n rest small is (inl two) =
        inl (
          two.0,
          two.1,
          record { few = subst (λ m. m < 256 ^ 4) (sym two.2.0) small; each = two.2.1 },
          is ∙ ap (λ r. number_form 4 n ++ r) two.3 ∙ ap (λ m. number_form 4 m ++ (flat_map form two.0 ++ two.1)) (sym two.2.0) ∙ sym (list_parts form two.0 two.1),
        )
    counted before n rest small is (inr none) = inr (λ xs after fits here. (
        let seen = (number_fronts 4).seen (length xs) n (flat_map form xs ++ after) rest fits.few small (sym (here ∙ list_parts form xs after) ∙ is) in
        none xs after (seen.value, fits.each) (sym seen.rest)
        ))

    go : (before : List ℕ) → Sought (λ v. v < 256 ^ 4) (number_form 4) before → Sought (FitsList P) (list_form form) before
    go before (inl one) = counted before one.0 one.1 one.2 one.3 (each_sought fronts seeks one.0 one.1)
    go before (inr none) = inr (λ xs after fits here. none (length xs) (flat_map form xs ++ after) fits.few (here ∙ list_parts form xs after))

-- values of few, each by its number
-- one of these has the number, or none has
pub among : {X : Type 0} (code : X → ℕ) (c : ℕ) (xs : List X) → ((x : X) × (code x ≡ c)) ⊎ Each (λ x. code x ≡ c → ⊥) xs
among code c [] = inr tt
among code c (x ∷ xs) = elim (number_is c (code x)) [
  | inl e ↦ inl (x, e)
  | inr other ↦ elim (among code c xs) [ inl found ↦ inl found | inr none ↦ inr (other, none) ]
]

pub named_seeks : {X : Type 0} (code : X → ℕ) → ((x : X) → code x < 256 ^ 1) → ((c : ℕ) → ((x : X) × (code x ≡ c)) ⊎ ((x : X) → code x ≡ c → ⊥)) → Seeks (Always {X = X}) (λ x. number_form 1 (code x))
named_seeks {X} code small decode = record { seek = λ before. go before ((number_seeks 1).seek before) }
  where
    decoded : (before : List ℕ) (c : ℕ) (rest : List ℕ) → c < 256 ^ 1 → before ≡ number_form 1 c ++ rest → ((x : X) × (code x ≡ c)) ⊎ ((x : X) → code x ≡ c → ⊥) → Sought (Always {X = X}) (λ x. number_form 1 (code x)) before
    decoded before c rest fits is (inl x) = inl (x.0, rest, tt, is ∙ ap (λ n. number_form 1 n ++ rest) (sym x.1))
    decoded before c rest fits is (inr none) = inr (λ x after always here. (let seen = (number_fronts 1).seen (code x) c after rest (small x) fits (sym here ∙ is) in none x seen.value))

    go : (before : List ℕ) → Sought (λ v. v < 256 ^ 1) (number_form 1) before → Sought (Always {X = X}) (λ x. number_form 1 (code x)) before
    go before (inl one) = decoded before one.0 one.1 one.2 one.3 (decode one.0)
    go before (inr none) = inr (λ x after always here. none (code x) after (small x) here)

-- so bytes are read as a value or as none
pub read_of : {X : Type 0} {P : X → Type 0} {form : X → List ℕ} → HasFronts P form → Seeks P form → (bytes : List ℕ) → (o : Option X) × IsReadAs P form bytes o
read_of {X} {P} {form} fronts seeks bytes = go (seeks.seek bytes)
  where
    left : (x : X) (after : List ℕ) → P x → bytes ≡ form x ++ after → (o : Option X) × IsReadAs P form bytes o
    left x [] fits is = (
      Some x,
      record {
        fits = fits;
        whole = is ∙ append-nil (form x);
        only = λ y fy same. injective_of fronts y x fy fits (sym same ∙ is ∙ append-nil (form x));
      },
    )
    left x (b ∷ after) fits is = (
      None,
      record {
        none = λ y fy same. (let seen = fronts.seen y x [] (b ∷ after) fy fits (append-nil (form y) ∙ sym same ∙ is) in absurd (cc));
      },
    )

    go : Sought P form bytes → (o : Option X) × IsReadAs P form bytes o
    go (inl one) = left one.0 one.1 one.2 one.3
    go (inr none) = (None, record { none = λ x fits is. none x [] fits (is ∙ sym (append-nil (form x))) })

-- and in one way
pub read_one : {X : Type 0} (P : X → Type 0) (form : X → List ℕ) (bytes : List ℕ) (a b : Option X) → IsReadAs P form bytes a → IsReadAs P form bytes b → a ≡ b
read_one P form bytes None None x y = refl
read_one P form bytes None (Some v) x y = absurd (x.none v y.fits y.whole)
read_one P form bytes (Some u) None x y = absurd (y.none u x.fits x.whole)
read_one P form bytes (Some u) (Some v) x y = ap Some (y.only u x.fits x.whole)
