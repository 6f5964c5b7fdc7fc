-- The names of objects are labels, and kept values stand in order.
use Rattle.std.proofs.Common.{◌≡◌, ℕ, Bool, true, false, cond, ◌||◌, ◌==◌, List, [], ◌∷◌, ◌++◌, length, length-append, inl, inr, refl, ap, arith, codes}
use Rattle.std.specs.List.{AllByRecursion}
use Rattle.std.specs.List.Sorted.{IsStrictlySortedBy}
use Rattle.std.specs.Ordering.{nat_cmp}
use Rattle.std.specs.declared.cmp.Ordering.TheVariants.{Less}
use Rattle.std.proofs.lemmas.List.Elements.{All-append, All-from_recursion, All-weaker}
use Rattle.inc_base.specs.Texts.{IsLabel, IsName, is_label_byte, is_name_byte}
use Rattle.inc_query.specs.Queries.{IsModule}
use Rattle.inc_graph.specs.declared.node.Node.{Node}
use Rattle.inc_graph.specs.Graphs.{HasOrder, positions_of}
use Rattle.inc_products.specs.Saved.{Value, is_kept_kind, kept_of, kind_at, object_name, unit_text}

label_byte : (b : ℕ) → is_name_byte b ≡ true → is_label_byte b ≡ true
label_byte b is = ap (λ c. c || (b == 45 || b == 46)) is

-- the text of a unit is a name
unit_name : (unit : List ℕ) → IsModule unit → IsName (unit_text unit)
unit_name [] is = record { some = omega arith; few = omega arith; each = All-from_recursion (λ b. is_name_byte b ≡ true) (codes "crate") (refl, (refl, (refl, (refl, (refl, tt))))) }
unit_name (b ∷ bs) is = elim is.0 [ inl none ↦ absurd (cc) | inr name ↦ name ]

abbrev IsLabelByte : ℕ → Type 0
IsLabelByte b = is_label_byte b ≡ true

label_of : (name : List ℕ) → IsName name → IsLabel (codes "u-" ++ name ++ codes ".o")
label_of name is = record {
  some = omega (arith, length-append (codes "u-" ++ name) (codes ".o"), length-append (codes "u-") name);
  few = omega (arith, length-append (codes "u-" ++ name) (codes ".o"), length-append (codes "u-") name, is.few);
  each = All-append IsLabelByte (codes "u-" ++ name) (codes ".o")
      (All-append IsLabelByte (codes "u-") name (All-from_recursion IsLabelByte (codes "u-") (refl, (refl, tt))) (All-weaker (λ b. is_name_byte b ≡ true) IsLabelByte label_byte name is.each))
      (All-from_recursion IsLabelByte (codes ".o") (refl, (refl, tt)));
  no_dot = λ e. absurd (omega (arith, ap length e, length-append (codes "u-" ++ name) (codes ".o"), length-append (codes "u-") name));
  no_dots = λ e. absurd (omega (arith, ap length e, length-append (codes "u-" ++ name) (codes ".o"), length-append (codes "u-") name));
}

pub object_label : (unit : List ℕ) → IsModule unit → IsLabel (object_name unit)
object_label unit is = label_of (unit_text unit) (unit_name unit is)

module _ (nodes : List Node) where
  kept_each : (P : ℕ → Type 0) (vs : List Value) → AllByRecursion P (positions_of vs) → AllByRecursion P (positions_of (kept_of nodes vs))
  kept_each P [] h = tt
  kept_each P (v ∷ vs) h = go (is_kept_kind (kind_at nodes v.0)) (kept_each P vs h.1)
    where
      go : (b : Bool) → AllByRecursion P (positions_of (kept_of nodes vs)) → AllByRecursion P (positions_of (cond b (v ∷ kept_of nodes vs) (kept_of nodes vs)))
      go true more = (h.0, more)
      go false more = more

  kept_step : (v : Value) (vs : List Value) → HasOrder (v ∷ vs) → (b : Bool) → HasOrder (kept_of nodes vs) → HasOrder (cond b (v ∷ kept_of nodes vs) (kept_of nodes vs))
  unfolding IsStrictlySortedBy
  kept_step v vs s true more = (kept_each (λ y. nat_cmp v.0 y ≡ Less) vs s.0, more)
  kept_step v vs s false more = more

  pub kept_ordered : (vs : List Value) → HasOrder vs → HasOrder (kept_of nodes vs)
  unfolding IsStrictlySortedBy
  kept_ordered [] s = tt
  kept_ordered (v ∷ vs) s = kept_step v vs s (is_kept_kind (kind_at nodes v.0)) (kept_ordered vs s.1)
