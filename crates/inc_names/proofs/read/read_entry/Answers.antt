use Rattle.std.proofs.Common.{◌≡◌, ◌≢◌, ℕ, ◌<◌, ◌^◌, ◌++◌, Bool, List, true, false, sym, ap, ◌∙◌, subst, rules, append_assoc, codes, nat_eq}
use Rattle.std.proofs.lemmas.Bool.{false≢true}
use Rattle.std.proofs.lemmas.Bool.Decides.{Decides-eqb}
use Rattle.std.proofs.lemmas.List.{append_cancel_left}
use Rattle.std.proofs.lemmas.Slice.Eq.{slice_eq-Decides}
use Rattle.std.specs.Cmp.Lexicographic.{pointwise}
use Rattle.inc_base.specs.Base36.{wide36, SpellsWide36}
use Rattle.inc_base.specs.Base36Laws.{wide36_spells, same_wide_text36}
use Rattle.inc_names.specs.Entries.{stem_text, lock_text, working_text, final_text}
use Rattle.inc_names.proofs.Parts.{no_stem, no_end}
use Rattle.inc_names.proofs.read.read_entry.Goals as goal

pub returns-in_err-name-clause-none : goal.returns-in_err-name-clause-none
returns-in_err-name-clause-none c =
    rw c.from_residual.ensures (λ e is same.
    no_stem c.bytes.result.now c.in_err-name.ensures.none e is (c.bytes.ensures.value ∙ same))

-- what a test of two texts has told
same : (xs ys zs : List ℕ) (r : Bool) → r ≡ pointwise nat_eq xs ys → r ≡ true → ys ≡ zs → xs ≡ zs
same xs ys zs r is passes other = (slice_eq-Decides Decides-eqb xs ys r is).0 passes ∙ other

differ : (xs ys zs : List ℕ) (r : Bool) → r ≡ pointwise nat_eq xs ys → r ≡ false → ys ≡ zs → xs ≢ zs
differ xs ys zs r is fails other equal =
    absurd (false≢true (sym fails ∙ (slice_eq-Decides Decides-eqb xs ys r is).1 (equal ∙ sym other)))

pub returns-then-eq-clause-some : goal.returns-then-eq-clause-some
unfolding lock_text
returns-then-eq-clause-some c =
    let name = c.in_ok-name.ensures.some in
    let end = same c.in_ok-name.end.now _ (codes ".lock") c.eq.result c.eq.ensures c.if-eq.true c.as_slice.ensures in
    (name.0, sym c.bytes.ensures.value ∙ name.1 ∙ ap (λ t. stem_text c.in_ok-name.name ++ t) end)

pub returns-then-eq-2-clause-some : goal.returns-then-eq-2-clause-some
unfolding working_text
returns-then-eq-2-clause-some c =
    let name = c.in_ok-name.ensures.some in
    let end = same c.in_ok-name.end.now _ (codes "-working") c.eq-2.result c.eq-2.ensures c.if-eq-2.true c.as_slice-2.ensures in
    (name.0, sym c.bytes.ensures.value ∙ name.1 ∙ ap (λ t. stem_text c.in_ok-name.name ++ t) end)

pub returns-in_err-after-clause-none : goal.returns-in_err-after-clause-none
returns-in_err-after-clause-none c =
    rw c.from_residual-in_err-after.ensures (
    let name = c.in_ok-name.ensures.some in
    let end = c.in_ok-name.end.now in
    no_end c.args.l.now end c.in_ok-name.name (sym c.bytes.ensures.value ∙ name.1) name.2 (differ end _ (codes ".lock") c.eq.result c.eq.ensures c.if-eq.false c.as_slice.ensures) (differ end _ (codes "-working") c.eq-2.result c.eq-2.ensures c.if-eq-2.false c.as_slice-2.ensures) (λ hash small is. c.in_err-after.ensures (wide36 hash) is))

pub returns-in_err-hash-clause-none : goal.returns-in_err-hash-clause-none
returns-in_err-hash-clause-none c =
    rw c.from_residual-in_err-hash.ensures (
    let name = c.in_ok-name.ensures.some in
    let end = c.in_ok-name.end.now in
    no_end c.args.l.now end c.in_ok-name.name (sym c.bytes.ensures.value ∙ name.1) name.2 (differ end _ (codes ".lock") c.eq.result c.eq.ensures c.if-eq.false c.as_slice.ensures) (differ end _ (codes "-working") c.eq-2.result c.eq-2.ensures c.if-eq-2.false c.as_slice-2.ensures) (λ hash small is.
    let wide : c.in_ok-after.field-0.now ≡ wide36 hash = append_cancel_left (codes "-") c.in_ok-after.field-0.now (wide36 hash) (sym c.in_ok-after.ensures ∙ is) in
    c.in_err-hash.ensures.none hash small (subst (λ t. SpellsWide36 t hash) (sym wide) (wide36_spells hash small))))

pub returns-clause-some : goal.returns-clause-some
unfolding final_text
returns-clause-some c =
    let name = c.in_ok-name.ensures.some in
    let small : c.in_ok-hash.hash < 2 ^ 128 = search rules in
    let wide = same_wide_text36 c.in_ok-hash.ensures.some (wide36_spells c.in_ok-hash.hash small) in (
      (name.0, small),
      sym c.bytes.ensures.value ∙ name.1 ∙ ap (λ t. stem_text c.in_ok-name.name ++ t) (c.in_ok-after.ensures ∙ ap (λ t. codes "-" ++ t) wide)
          ∙ sym (append_assoc (stem_text c.in_ok-name.name) (codes "-") (wide36 c.in_ok-hash.hash)),
    )
