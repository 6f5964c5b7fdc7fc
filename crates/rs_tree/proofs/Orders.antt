-- Orders are total, and what they call equal is the same.
use Rattle.std.proofs.Common.{◌≡◌, ℕ, List, ap, ◌∙◌}
use Rattle.std.specs.declared.cmp.Ordering.{Ordering}
use Rattle.std.specs.declared.cmp.Ordering.TheVariants as o
use Rattle.std.specs.Ordering.{nat_cmp, ordering_then}
use Rattle.std.specs.Cmp.{IsTotalOrder}
use Rattle.std.specs.Cmp.Rules.{comparing}
use Rattle.std.specs.FinMap.{IsAntisymmetric, nat_cmp-IsAntisymmetric, slice_cmp-IsAntisymmetric}
use Rattle.rs_tree.specs.declared.place.At.{At}
use Rattle.rs_tree.specs.declared.place.Place.{Place}
use Rattle.rs_tree.specs.declared.answers.Diag.{Diag}
use Rattle.rs_tree.specs.Order.{at_cmp, diag_cmp, place_cmp, text_cmp}

both_equal : (a b : Ordering) → ordering_then a b ≡ o.Equal → (a ≡ o.Equal) × (b ≡ o.Equal)
both_equal o.Less b e = absurd (cc)
both_equal o.Equal b e = (λ i. o.Equal, e)
both_equal o.Greater b e = absurd (cc)

pub at_total : IsTotalOrder at_cmp
at_total = search comparing

pub place_total : IsTotalOrder place_cmp
place_total = search comparing

pub diag_total : IsTotalOrder diag_cmp
diag_total = search (at_total, comparing)

pub text_same : IsAntisymmetric text_cmp
text_same = slice_cmp-IsAntisymmetric nat_cmp-IsAntisymmetric

make_at : ℕ → ℕ → At
make_at line column = record { line = line; column = column }

pub at_same : IsAntisymmetric at_cmp
unfolding make_at
at_same a b e =
    let parts = both_equal (nat_cmp a.line b.line) (nat_cmp a.column b.column) e in
    ap (λ l. make_at l a.column) (nat_cmp-IsAntisymmetric a.line b.line parts.0) ∙ ap (make_at b.line) (nat_cmp-IsAntisymmetric a.column b.column parts.1)

make_place : List ℕ → List ℕ → Place
make_place at name = record { «module» = at; name = name }

pub place_same : IsAntisymmetric place_cmp
unfolding make_place
place_same a b e =
    let parts = both_equal (text_cmp a.module b.module) (text_cmp a.name b.name) e in
    ap (λ m. make_place m a.name) (text_same a.module b.module parts.0) ∙ ap (make_place b.module) (text_same a.name b.name parts.1)

make_diag : At → ℕ → List ℕ → Diag
make_diag at code text = record { at = at; code = code; text = text }

pub diag_same : IsAntisymmetric diag_cmp
unfolding make_diag
diag_same a b e =
    let parts = both_equal (at_cmp a.at b.at) (ordering_then (nat_cmp a.code b.code) (text_cmp a.text b.text)) e in
    let later = both_equal (nat_cmp a.code b.code) (text_cmp a.text b.text) parts.1 in
    ap (λ at. make_diag at a.code a.text) (at_same a.at b.at parts.0)
    ∙ ap (λ code. make_diag b.at code a.text) (nat_cmp-IsAntisymmetric a.code b.code later.0)
    ∙ ap (make_diag b.at b.code) (text_same a.text b.text later.1)
