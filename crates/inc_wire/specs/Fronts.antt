-- Forms that are seen from the bytes that they begin, whatever follows.
use Rattle.std.proofs.Common.{◌≡◌, ℕ, ◌^◌, ◌<◌, Bool, true, false, List, [], ◌∷◌, ◌++◌, length, refl, sym, ap, ◌∙◌, arith, append_assoc}
use Rattle.std.proofs.lemmas.List.{append_cancel_left}
use Rattle.std.specs.List.{flat_map}
use Rattle.inc_wire.specs.Forms.{flag_form, list_form, number_form, text_form}
use Rattle.inc_wire.specs.FormLaws.{same_number_front, same_text_front}
use Rattle.inc_wire.specs.Fits.{Always, Each, FitsList, FitsText}
use Rattle.inc_wire.specs.Readings.{IsSeen}

-- a value that fits, and what follows it, are seen from the bytes that its form begins
pub record HasFronts {X : Type 0} (P : X → Type 0) (form : X → List ℕ) : Type 0 where
  pub seen : (x y : X) (r s : List ℕ) → P x → P y → form x ++ r ≡ form y ++ s → IsSeen x y r s

pub number_fronts : (width : ℕ) → HasFronts (λ v. v < 256 ^ width) (number_form width)
number_fronts width = record {
  seen = λ v w r s fv fw same. (let parts = same_number_front width v w r s fv fw same in record { value = parts.0; rest = parts.1 });
}

pub text_fronts : HasFronts FitsText text_form
text_fronts = record {
  seen = λ x y r s fx fy same. (let parts = same_text_front x y r s fx fy same in record { value = parts.0; rest = parts.1 });
}

flag_seen : (x y : Bool) (r s : List ℕ) → flag_form x ++ r ≡ flag_form y ++ s → IsSeen x y r s
flag_seen true true r s same = record { value = refl; rest = (same_number_front 1 1 1 r s (omega arith) (omega arith) same).1 }
flag_seen false false r s same = record { value = refl; rest = (same_number_front 1 0 0 r s (omega arith) (omega arith) same).1 }
flag_seen true false r s same = let codes = (same_number_front 1 1 0 r s (omega arith) (omega arith) same).0 in absurd (cc)
flag_seen false true r s same = let codes = (same_number_front 1 0 1 r s (omega arith) (omega arith) same).0 in absurd (cc)

pub flag_fronts : HasFronts Always flag_form
flag_fronts = record { seen = λ x y r s fx fy same. flag_seen x y r s same }

pair_seen : {X Y : Type 0} (x v : X) (y w : Y) (r s : List ℕ) → x ≡ v → IsSeen y w r s → IsSeen {X = X × Y} (x, y) (v, w) r s
pair_seen x v y w r s first second = record { value = ap (λ z. (z, y)) first ∙ ap (λ z. (v, z)) second.value; rest = second.rest }

-- one value after another
pub pair_fronts : {X Y : Type 0} {P : X → Type 0} {form : X → List ℕ} {Q : Y → Type 0} {other : Y → List ℕ} → HasFronts P form → HasFronts Q other → HasFronts {X = X × Y} (λ p. P p.0 × Q p.1) (λ p. form p.0 ++ other p.1)
pair_fronts {form} {other} firsts seconds = record {
  seen = λ p q r s fp fq same.
      (let first = firsts.seen p.0 q.0 (other p.1 ++ r) (other q.1 ++ s) fp.0 fq.0 (sym (append_assoc (form p.0) (other p.1) r) ∙ same ∙ append_assoc (form q.0) (other q.1) s) in
      pair_seen p.0 q.0 p.1 q.1 r s first.value (seconds.seen p.1 q.1 r s fp.1 fq.1 first.rest));
}

-- the same bytes before each
pub marked_fronts : {X : Type 0} {P : X → Type 0} {form : X → List ℕ} (mark : List ℕ) → HasFronts P form → HasFronts P (λ x. mark ++ form x)
marked_fronts {form} mark fronts = record {
  seen = λ x y r s fx fy same. fronts.seen x y r s fx fy (append_cancel_left mark (form x ++ r) (form y ++ s) (sym (append_assoc mark (form x) r) ∙ same ∙ append_assoc mark (form y) s));
}

-- values of one type that have the forms of another's, as a struct those of nested pairs
pub made_fronts : {X Y : Type 0} {P : X → Type 0} {form : X → List ℕ} {Q : Y → Type 0} {other : Y → List ℕ} (to : X → Y) (back : Y → X) → HasFronts P form
    → ((y : Y) → Q y → P (back y)) → ((y : Y) → other y ≡ form (back y)) → ((y : Y) → to (back y) ≡ y) → HasFronts Q other
made_fronts to back fronts fits same_back round = record {
  seen = λ x y r s qx qy same.
      (let seen = fronts.seen (back x) (back y) r s (fits x qx) (fits y qy) (sym (ap (λ bytes. bytes ++ r) (same_back x)) ∙ same ∙ ap (λ bytes. bytes ++ s) (same_back y)) in
      record { value = sym (round x) ∙ ap to seen.value ∙ round y; rest = seen.rest });
}

each_seen : {X : Type 0} (P : X → Type 0) (form : X → List ℕ) → HasFronts P form → (xs ys : List X) (r s : List ℕ) → length xs ≡ length ys → Each P xs → Each P ys → flat_map form xs ++ r ≡ flat_map form ys ++ s → IsSeen xs ys r s
each_seen P form fronts [] [] r s long fx fy same = record { value = refl; rest = same }
each_seen P form fronts [] (y ∷ ys) r s long fx fy same = absurd (omega (arith, long))
each_seen P form fronts (x ∷ xs) [] r s long fx fy same = absurd (omega (arith, long))
each_seen P form fronts (x ∷ xs) (y ∷ ys) r s long fx fy same =
    let first = fronts.seen x y (flat_map form xs ++ r) (flat_map form ys ++ s) fx.0 fy.0 (sym (append_assoc (form x) (flat_map form xs) r) ∙ same ∙ append_assoc (form y) (flat_map form ys) s) in
    let later = each_seen P form fronts xs ys r s (omega (arith, long)) fx.1 fy.1 first.rest in
    record { value = ap (λ z. z ∷ xs) first.value ∙ ap (λ zs. y ∷ zs) later.value; rest = later.rest }

list_seen : {X : Type 0} (P : X → Type 0) (form : X → List ℕ) → HasFronts P form → (xs ys : List X) (r s : List ℕ) → FitsList P xs → FitsList P ys → list_form form xs ++ r ≡ list_form form ys ++ s → IsSeen xs ys r s
unfolding list_form
list_seen P form fronts xs ys r s fx fy same =
    let counts = same_number_front 4 (length xs) (length ys) (flat_map form xs ++ r) (flat_map form ys ++ s) fx.few fy.few (sym (append_assoc (number_form 4 (length xs)) (flat_map form xs) r) ∙ same ∙ append_assoc (number_form 4 (length ys)) (flat_map form ys) s) in
    each_seen P form fronts xs ys r s counts.0 fx.each fy.each counts.1

pub list_fronts : {X : Type 0} {P : X → Type 0} {form : X → List ℕ} → HasFronts P form → HasFronts (FitsList P) (list_form form)
list_fronts {P} {form} fronts = record { seen = list_seen P form fronts }

-- values are seen from their forms
pub injective_of : {X : Type 0} {P : X → Type 0} {form : X → List ℕ} → HasFronts P form → (x y : X) → P x → P y → form x ≡ form y → x ≡ y
injective_of fronts x y fx fy same = (fronts.seen x y [] [] fx fy (ap (λ bytes. bytes ++ []) same)).value
