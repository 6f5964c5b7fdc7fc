-- Values that are taken field by field.
use Rattle.std.specs.Prelude.{IfSome, IfNone, Option, Some, None}
use Rattle.std.specs.Option.{option_map}
use Rattle.std.specs.List.{flat_map}
use Rattle.std.proofs.Common.{Bor}
use Rattle.std.proofs.Common.{◌≡◌, ℕ, ◌^◌, ◌<◌, ◌≤◌, List, [], ◌∷◌, ◌++◌, length, refl, sym, ap, ◌∙◌, arith, append_assoc, append-nil, length-append}
use Rattle.inc_wire.specs.Forms.{BeginsWithText, list_form, number_form, text_form}
use Rattle.inc_wire.specs.FormLaws.{length-number_form}
use Rattle.inc_wire.specs.Fits.{Each, FitsList, FitsText}
use Rattle.inc_wire.specs.Readings.{BeginsWithNone, IsFormOf, IsNoForm, IsSeen, IsTaken, Takes}
use Rattle.inc_wire.proofs.Lists.{more_fit}
use Rattle.inc_wire.specs.Fronts.{HasFronts, number_fronts, text_fronts}

pub taken : {X : Type 0} (P : X → Type 0) (form : X → List ℕ) → HasFronts P form → (before after : List ℕ) (x : X) → P x → before ≡ form x ++ after → IsTaken P form before after x
taken P form fronts before after x fx is = record { fits = fx; front = is; only = λ y rest fy same. fronts.seen y x rest after fy fx (sym same ∙ is) }

pub number_taken : (width v : ℕ) (before after : List ℕ) → v < 256 ^ width → before ≡ number_form width v ++ after → IsTaken (λ n. n < 256 ^ width) (number_form width) before after v
number_taken width v before after small is = taken (λ n. n < 256 ^ width) (number_form width) (number_fronts width) before after v small is

pub no_number : (width : ℕ) (before : List ℕ) → length before < width → BeginsWithNone (λ n. n < 256 ^ width) (number_form width) before
no_number width before few = record {
  none = λ v rest small is. absurd (omega (arith, few, ap length is, length-append (number_form width v) rest, length-number_form width v));
}

pub text_taken : (text before after : List ℕ) → length text < 2 ^ 32 → before ≡ text_form text ++ after → IsTaken FitsText text_form before after text
text_taken text before after small is = taken FitsText text_form text_fronts before after text small is

pub no_text : (before : List ℕ) → ¬ BeginsWithText before → BeginsWithNone FitsText text_form before
no_text before none = record { none = λ text rest small is. none (text, rest, small, is) }

pub number_answered : (width : ℕ) (before after : List ℕ) (o : Option ℕ) → IfSome o (λ v. (v < 256 ^ width) × (before ≡ number_form width v ++ after)) → IfNone o ((length before < width) × (after ≡ before)) → Takes (λ n. n < 256 ^ width) (number_form width) before after o
number_answered width before after None some none = no_number width before none.0
number_answered width before after (Some v) some none = number_taken width v before after some.0 some.1

pub text_answered : (before after : List ℕ) (o : Option (Bor (List ℕ))) → IfSome o (λ text. (length text.now < 2 ^ 32) × (before ≡ text_form text.now ++ after)) → IfNone o ((¬ BeginsWithText before) × (after ≡ before)) → Takes FitsText text_form before after (option_map (λ text. text.now) o)
text_answered before after None some none = no_text before none.0
text_answered before after (Some text) some none = text_taken text.now before after some.0 some.1

-- whole values

pub is_whole : {X : Type 0} (P : X → Type 0) (form : X → List ℕ) (before after : List ℕ) (x : X) → IsTaken P form before after x → length after ≤ 0 → IsFormOf P form before x
is_whole P form before [] x is none = record {
  fits = is.fits;
  whole = is.front ∙ append-nil (form x);
  only = λ y fy same. (is.only y [] fy (same ∙ sym (append-nil (form y)))).value;
}
is_whole P form before (b ∷ after) x is none = absurd (omega (arith, none))

pub not_whole : {X : Type 0} (P : X → Type 0) (form : X → List ℕ) (before after : List ℕ) (x : X) → IsTaken P form before after x → 0 < length after → IsNoForm P form before
not_whole P form before after x is more = record {
  none = λ y fy same. (let seen = is.only y [] fy (same ∙ sym (append-nil (form y))) in absurd (omega (arith, more, ap length seen.rest)));
}

pub begins_whole : {X : Type 0} (P : X → Type 0) (form : X → List ℕ) (before : List ℕ) → BeginsWithNone P form before → IsNoForm P form before
begins_whole P form before is = record { none = λ y fy same. is.none y [] fy (same ∙ sym (append-nil (form y))) }

-- lists: what was taken is what any list in the bytes begins with

-- a list begins with these, and what is left of it follows
pub record IsBegun {X : Type 0} (P : X → Type 0) (form : X → List ℕ) (xs ys : List X) (now rest : List ℕ) : Type 0 where
  pub more : List X
  pub are : ys ≡ xs ++ more
  pub fit : Each P more
  pub follow : now ≡ flat_map form more ++ rest

pub record IsUnderWay {X : Type 0} (P : X → Type 0) (form : X → List ℕ) (count : ℕ) (before now : List ℕ) (xs : List X) : Type 0 where
  pub few : length xs ≤ count
  pub each : Each P xs
  pub front : before ≡ flat_map form xs ++ now
  pub only : (ys : List X) (rest : List ℕ) → length ys ≡ count → Each P ys → before ≡ flat_map form ys ++ rest → IsBegun P form xs ys now rest

pub begun : {X : Type 0} (P : X → Type 0) (form : X → List ℕ) (count : ℕ) (before : List ℕ) → IsUnderWay P form count before before []
begun P form count before = record {
  few = omega arith;
  each = tt;
  front = refl;
  only = λ ys rest long each same. record { more = ys; are = refl; fit = each; follow = same };
}

more_form : {X : Type 0} (form : X → List ℕ) (xs : List X) (x : X) → flat_map form (xs ++ x ∷ []) ≡ flat_map form xs ++ form x
more_form form [] x = append-nil (form x)
more_form form (y ∷ xs) x = ap (λ later. form y ++ later) (more_form form xs x) ∙ sym (append_assoc (form y) (flat_map form xs) (form x))

begun_more : {X : Type 0} (P : X → Type 0) (form : X → List ℕ) (xs ys more : List X) (now after rest : List ℕ) (x : X) → ys ≡ xs ++ more → Each P more → now ≡ flat_map form more ++ rest → length xs < length ys → IsTaken P form now after x → IsBegun P form (xs ++ x ∷ []) ys after rest
begun_more P form xs ys [] now after rest x are fit follow short took = absurd (omega (arith, short, ap length (are ∙ append-nil xs)))
begun_more P form xs ys (y ∷ more) now after rest x are fit follow short took =
    let seen = took.only y (flat_map form more ++ rest) fit.0 (follow ∙ append_assoc (form y) (flat_map form more) rest) in
    record {
      more = more;
      are = are ∙ ap (λ z. xs ++ z ∷ more) seen.value ∙ sym (append_assoc xs (x ∷ []) more);
      fit = fit.1;
      follow = sym seen.rest;
    }

-- one more is taken
pub further : {X : Type 0} (P : X → Type 0) (form : X → List ℕ) (count : ℕ) (before now after : List ℕ) (xs : List X) (x : X) → IsUnderWay P form count before now xs → length xs < count → IsTaken P form now after x → IsUnderWay P form count before after (xs ++ x ∷ [])
further P form count before now after xs x way short took = record {
  few = omega (arith, short, length-append xs (x ∷ []));
  each = more_fit P xs x way.each took.fits;
  front = way.front ∙ ap (λ later. flat_map form xs ++ later) took.front ∙ sym (append_assoc (flat_map form xs) (form x) after) ∙ ap (λ front. front ++ after) (sym (more_form form xs x));
  only = λ ys rest long fit same.
      (let begun = way.only ys rest long fit same in
      begun_more P form xs ys begun.more now after rest x begun.are begun.fit begun.follow (omega (arith, short, long)) took);
}

all_begun : {X : Type 0} (form : X → List ℕ) (xs ys more : List X) (now rest : List ℕ) → ys ≡ xs ++ more → now ≡ flat_map form more ++ rest → length ys ≡ length xs → IsSeen ys xs rest now
all_begun form xs ys [] now rest are follow long = record { value = are ∙ append-nil xs; rest = sym follow }
all_begun form xs ys (y ∷ more) now rest are follow long = absurd (omega (arith, long, ap length are, length-append xs (y ∷ more)))

-- the number of elements and what follows it
counted : {X : Type 0} (form : X → List ℕ) (xs : List X) (rest : List ℕ) → list_form form xs ++ rest ≡ number_form 4 (length xs) ++ (flat_map form xs ++ rest)
unfolding list_form
counted form xs rest = append_assoc (number_form 4 (length xs)) (flat_map form xs) rest

-- as many as were counted are taken
pub list_taken : {X : Type 0} (P : X → Type 0) (form : X → List ℕ) (count : ℕ) (start before now : List ℕ) (xs : List X) → IsTaken (λ n. n < 2 ^ 32) (number_form 4) start before count → IsUnderWay P form count before now xs → count ≤ length xs → IsTaken (FitsList P) (list_form form) start now xs
list_taken P form count start before now xs number way enough =
    let long : count ≡ length xs = omega (arith, enough, way.few) in
    record {
      fits = record { few = omega (arith, long, number.fits); each = way.each };
      front = number.front ∙ ap (λ n. number_form 4 n ++ before) long ∙ ap (λ later. number_form 4 (length xs) ++ later) way.front ∙ sym (counted form xs now);
      only = λ ys rest fit same.
          (let counts = number.only (length ys) (flat_map form ys ++ rest) fit.few (same ∙ counted form ys rest) in
          let begun = way.only ys rest counts.value fit.each (sym counts.rest) in
          all_begun form xs ys begun.more now rest begun.are begun.follow (counts.value ∙ long));
    }

pub no_count : {X : Type 0} (P : X → Type 0) (form : X → List ℕ) (start : List ℕ) → BeginsWithNone (λ n. n < 2 ^ 32) (number_form 4) start → BeginsWithNone (FitsList P) (list_form form) start
no_count P form start number = record { none = λ ys rest fit same. number.none (length ys) (flat_map form ys ++ rest) fit.few (same ∙ counted form ys rest) }

stopped : {X : Type 0} (P : X → Type 0) (form : X → List ℕ) (xs ys more : List X) (now rest : List ℕ) → ys ≡ xs ++ more → Each P more → now ≡ flat_map form more ++ rest → length xs < length ys → BeginsWithNone P form now → ⊥
stopped P form xs ys [] now rest are fit follow short none = omega (arith, short, ap length (are ∙ append-nil xs))
stopped P form xs ys (y ∷ more) now rest are fit follow short none = none.none y (flat_map form more ++ rest) fit.0 (follow ∙ append_assoc (form y) (flat_map form more) rest)

-- there is no next one
pub no_list : {X : Type 0} (P : X → Type 0) (form : X → List ℕ) (count : ℕ) (start before now : List ℕ) (xs : List X) → IsTaken (λ n. n < 2 ^ 32) (number_form 4) start before count → IsUnderWay P form count before now xs → length xs < count → BeginsWithNone P form now → BeginsWithNone (FitsList P) (list_form form) start
no_list P form count start before now xs number way short none = record {
  none = λ ys rest fit same.
      (let counts = number.only (length ys) (flat_map form ys ++ rest) fit.few (same ∙ counted form ys rest) in
      let begun = way.only ys rest counts.value fit.each (sym counts.rest) in
      stopped P form xs ys begun.more now rest begun.are begun.fit begun.follow (omega (arith, short, counts.value)) none);
}
