-- What the cache's bytes are, step by step.
use Rattle.std.proofs.Common.{◌≡◌, ℕ, Bool, true, false, List, Option, Some, None, Result, Ok, IfOk, Decides, refl, sym, ap, ◌∙◌, subst}
use Rattle.std.specs.Prelude.{slice_get}
use Rattle.std.specs.Option.{option_map_or}
use Rattle.std.specs.Str.{bytes_eq}
use Rattle.std.proofs.lemmas.Slice.Eq.{bytes_eq-Decides}
use Rattle.sha2.specs.Sha256.{sha256}
use Rattle.inc_base.specs.declared.memory.Memory.{Memory}
use Rattle.inc_wire.specs.FormLaws.{same_header_front}
use Rattle.inc_wire.specs.Readings.{IsReadAs}
use Rattle.inc_wire.specs.declared.header.Header.{Header}
use Rattle.inc_graph.specs.declared.node.Node.{Node}
use Rattle.inc_graph.specs.Forms.{FitsCache, FitsFile, IsFileHeader, cache_form, file_form}
use Rattle.inc_products.specs.Fronts.{BeginsWith}
use Rattle.inc_products.specs.Loads.{HoldsKept, IsKeptOf, are_kept_from, has_print_at}
use Rattle.inc_products.specs.Saved.{Value, is_kept_kind}
use Rattle.inc_products.specs.Starts.{AreValuesFrom, HasPrint, IsObject, IsWellCache, IsWellObject}
use Rattle.inc_products.proofs.Matching.{some_is}
use Rattle.inc_products.proofs.Saving.{kept_decides}

abbrev pub ReadCache : List ℕ → Option (Header × List Value) → Type 0
ReadCache bytes o = IsReadAs (FitsFile FitsCache) (file_form cache_form) bytes o

-- what an answer says, once it is known which
pub cache_read : (bytes b : List ℕ) (r : Result (Option (Header × List Value)) Memory) (o p : Option (Header × List Value)) → b ≡ bytes → r ≡ Ok o → o ≡ p → IfOk r (ReadCache b) → ReadCache bytes p
cache_read bytes b r o p same ok is read = subst (ReadCache bytes) is (subst (λ z. ReadCache z o) same (subst (λ z. IfOk z (ReadCache b)) ok read))

module _ (bytes : List ℕ) where
  pub kept_there : (h : Header) (kept : List Value) → ReadCache bytes (Some (h, kept)) → IsKeptOf bytes kept
  kept_there h kept form k values fits whole = ap (λ (p : Header × List Value). p.1) (sym (form.only (k, values) fits whole))

  pub kept_none : (kept : List Value) → ReadCache bytes None → IsKeptOf bytes kept
  kept_none kept none k values fits whole = absurd (none.none (k, values) fits whole)

  module _ (nodes : List Node) where
    pub holds_there : (h : Header) (kept : List Value) (are : Bool) → ReadCache bytes (Some (h, kept)) → are ≡ are_kept_from 0 nodes kept → (are ≡ true → HoldsKept nodes bytes) × (HoldsKept nodes bytes → are ≡ true)
    holds_there h kept are form is = (
      λ e. (h, (kept, (form.fits, (form.whole, (kept_decides 0 nodes kept).0 (sym is ∙ e))))),
      λ holds. (let same : holds.1.0 ≡ kept = ap (λ (p : Header × List Value). p.1) (form.only (holds.0, holds.1.0) holds.1.1.0 holds.1.1.1.0) in
          is ∙ (kept_decides 0 nodes kept).1 (subst (AreValuesFrom is_kept_kind 0 nodes) same holds.1.1.1.1)),
    )

    pub holds_none : ReadCache bytes None → (false ≡ true → HoldsKept nodes bytes) × (HoldsKept nodes bytes → false ≡ true)
    holds_none none = (λ e. absurd (cc), λ holds. absurd (none.none (holds.0, holds.1.0) holds.1.1.0 holds.1.1.1.0))

    module _ (want : Header) where
      of_wanted : IsFileHeader want → BeginsWith want bytes true → HoldsKept nodes bytes → IsWellCache want nodes bytes
      of_wanted is begins holds =
          let seen = same_header_front holds.0 want (cache_form holds.1.0) begins.0 holds.1.1.0.header.header is.header (sym holds.1.1.1.0 ∙ begins.1) in
          record {
            values = holds.1.0;
            fits = subst (λ h. FitsFile FitsCache (h, holds.1.0)) seen.0 holds.1.1.0;
            whole = holds.1.1.1.0 ∙ ap (λ h. file_form cache_form (h, holds.1.0)) seen.0;
            kept = holds.1.1.1.1;
          }

      pub like : IsFileHeader want → BeginsWith want bytes true → (is : Bool) → (is ≡ true → HoldsKept nodes bytes) × (HoldsKept nodes bytes → is ≡ true) → (is ≡ true → IsWellCache want nodes bytes) × (IsWellCache want nodes bytes → is ≡ true)
      like header begins is tells = (λ e. of_wanted header begins (tells.0 e), λ well. tells.1 (want, (well.values, (well.fits, (well.whole, well.kept)))))

-- a print and an object, tested one after the other

print_decides : (nodes : List Node) (i : ℕ) (bytes : List ℕ) → Decides (has_print_at nodes i bytes) (HasPrint nodes i bytes)
print_decides nodes i bytes = go (slice_get nodes i) refl
  where
    go : (o : Option Node) → slice_get nodes i ≡ o → Decides (option_map_or (λ (n : Node). bytes_eq (sha256 bytes) n.print.0) o false) (HasPrint nodes i bytes)
    go None e = (λ t. absurd (cc), λ has. absurd (let two = sym e ∙ has.there in cc))
    go (Some n) e = (
      λ t. record { node = n; there = e; print = (bytes_eq-Decides (sha256 bytes) n.print.0).0 t },
      λ has. (let same : n ≡ has.node = some_is (sym e ∙ has.there) in
          (bytes_eq-Decides (sha256 bytes) n.print.0).1 (has.print ∙ ap (λ (m : Node). m.print.0) (sym same))),
    )

module _ (nodes : List Node) (i : ℕ) (bytes : List ℕ) where
  pub with_print : has_print_at nodes i bytes ≡ true → (is : Bool) → (is ≡ true → IsObject bytes) × (IsObject bytes → is ≡ true) → (is ≡ true → IsWellObject nodes i bytes) × (IsWellObject nodes i bytes → is ≡ true)
  with_print on is tells = (λ e. ((print_decides nodes i bytes).0 on, tells.0 e), λ well. tells.1 well.1)
