-- A header and the value that follows it to the end.
use Rattle.std.proofs.Common.{◌≡◌, ◌≢◌, ℕ, ◌≤◌, List, ◌++◌, Option, Some, None, Result, Ok, IfOk, IfSome, IfNone, drop, length, sym, ap, ◌∙◌, subst}
use Rattle.inc_wire.specs.Forms.{BeginsWithHeader, IsHeader, header_form}
use Rattle.inc_wire.specs.FormLaws.{same_header_front}
use Rattle.inc_wire.specs.Readings.{IsFormOf, IsNoForm}
use Rattle.inc_wire.specs.declared.header.Header.{Header}
use Rattle.inc_graph.specs.Forms.{FitsFile, file_form}

-- what an answer says, once it is known which
pub ok_there : {X E : Type 0} (Q : X → Type 0) (r : Result X E) (x : X) → r ≡ Ok x → IfOk r Q → Q x
ok_there Q r x is holds = subst (λ z. IfOk z Q) is holds

abbrev pub Front : List ℕ → Header × ℕ → Type 0
Front b it = IsHeader it.0 × (it.1 ≤ length b) × (b ≡ header_form it.0 ++ drop it.1 b)

pub front_there : (b : List ℕ) (o : Option (Header × ℕ)) (h : Header) (at : ℕ) → o ≡ Some (h, at) → IfSome o (Front b) → Front b (h, at)
front_there b o h at is holds = subst (λ z. IfSome z (Front b)) is holds

pub front_none : (b : List ℕ) (o : Option (Header × ℕ)) → o ≡ None → IfNone o (¬ BeginsWithHeader b) → ¬ BeginsWithHeader b
front_none b o is holds = subst (λ z. IfNone z (¬ BeginsWithHeader b)) is holds

module _ {X : Type 0} (P : X → Type 0) (form : X → List ℕ) where
  pub no_header : (b : List ℕ) → ¬ BeginsWithHeader b → IsNoForm (FitsFile P) (file_form form) b
  no_header b none = record { none = λ p fits is. none (p.0, form p.1, fits.header.header, is) }

  pub other_format : (b rest : List ℕ) (h : Header) → IsHeader h → b ≡ header_form h ++ rest → h.format ≢ 1 → IsNoForm (FitsFile P) (file_form form) b
  other_format b rest h is front other = record {
    none = λ p fits whole. (let seen = same_header_front p.0 h (form p.1) rest fits.header.header is (sym whole ∙ front) in
        other (sym (ap (λ k. k.format) seen.0) ∙ fits.header.format));
  }

  pub no_value : (b rest : List ℕ) (h : Header) → IsHeader h → b ≡ header_form h ++ rest → IsNoForm P form rest → IsNoForm (FitsFile P) (file_form form) b
  no_value b rest h is front none = record {
    none = λ p fits whole. (let seen = same_header_front p.0 h (form p.1) rest fits.header.header is (sym whole ∙ front) in
        none.none p.1 fits.value (sym seen.1));
  }

  pub whole_file : (b rest : List ℕ) (h : Header) (x : X) → IsHeader h → b ≡ header_form h ++ rest → h.format ≡ 1 → IsFormOf P form rest x → IsFormOf (FitsFile P) (file_form form) b (h, x)
  whole_file b rest h x is front format value = record {
    fits = record { header = record { header = is; format = format }; value = value.fits };
    whole = front ∙ ap (λ r. header_form h ++ r) value.whole;
    only = λ p fits whole. (let seen = same_header_front p.0 h (form p.1) rest fits.header.header is (sym whole ∙ front) in
        ap (λ k. (k, p.1)) seen.0 ∙ ap (λ y. (h, y)) (value.only p.1 fits.value (sym seen.1)));
  }
