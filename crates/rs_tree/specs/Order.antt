-- The order of places in a text, of places of items, and of diagnostics, as sorts and ordered sets have it.
use Rattle.std.specs.Prelude.{ℕ, List}
use Rattle.std.specs.declared.cmp.Ordering.{Ordering}
use Rattle.std.specs.Ordering.{nat_cmp, on, then_cmp}
use Rattle.std.specs.Cmp.Lexicographic.{slice_cmp}
use Rattle.rs_tree.specs.declared.place.At.{At}
use Rattle.rs_tree.specs.declared.place.Place.{Place}
use Rattle.rs_tree.specs.declared.answers.Diag.{Diag}

-- texts: the first bytes that differ decide, and where there are none the shorter text comes first
abbrev pub text_cmp : List ℕ → List ℕ → Ordering
text_cmp = slice_cmp nat_cmp

-- by line, then by column
abbrev pub at_cmp : At → At → Ordering
at_cmp = then_cmp (on (λ a. a.line) nat_cmp) (on (λ a. a.column) nat_cmp)

-- by module, then by name
abbrev pub place_cmp : Place → Place → Ordering
place_cmp = then_cmp (on (λ p. p.module) text_cmp) (on (λ p. p.name) text_cmp)

-- by place, then by number, then by text
abbrev pub diag_cmp : Diag → Diag → Ordering
diag_cmp = then_cmp (on (λ d. d.at) at_cmp) (then_cmp (on (λ d. d.code) nat_cmp) (on (λ d. d.text) text_cmp))
