use Rattle.std.proofs.Common.{◌≡◌, ◌≤◌, ◌<◌, ◌^◌, ◌++◌, List, ℕ, true, take, drop, sym, ap, ◌∙◌, subst, arith}
use Rattle.std.proofs.lemmas.List.{take-append-drop}
use Rattle.std.specs.List.{AllPass}
use Rattle.inc_base.specs.Base36.{text36, Spells36, is_digit36}
use Rattle.inc_base.specs.Base36Laws.{same_number36}
use Rattle.inc_names.specs.EntryLaws.{StartsNoDigit}
use Rattle.inc_names.proofs.Parts.{front_is_number, number_is_front}
use Rattle.inc_names.proofs.read.take_number.Goals as goal

-- a text is cut where its digits end, and its front spells each number that it begins with
spelled : (text front rest : List ℕ) (end v : ℕ) (more : List ℕ) → front ≡ take end text → rest ≡ drop end text → AllPass is_digit36 (take end text) → StartsNoDigit (drop end text) → StartsNoDigit more → text ≡ text36 v ++ more → Spells36 front v
spelled text front rest end v more is_front is_rest all ends more_ends same =
    subst (λ t. Spells36 t v) (sym is_front) (number_is_front text (take end text) (drop end text) v more (sym (take-append-drop end text)) all ends more_ends same)

pub returns-in_err-v-clause-none : goal.returns-in_err-v-clause-none
returns-in_err-v-clause-none c =
    rw c.from_residual.ensures (λ v more small ends same.
    let all = c.digits_end.ensures in
    let cut = c.split_at.ensures in
    c.in_err-v.ensures.none v (omega (arith, c.ranges.most.fits, small)) (spelled c.args.text.now _ _ c.digits_end.result v more cut.front cut.back all.digits all.end ends same))

pub returns-then-v-most-clause-none : goal.returns-then-v-most-clause-none
returns-then-v-most-clause-none c = λ v more small ends same.
    let all = c.digits_end.ensures in
    let cut = c.split_at.ensures in
    let other = spelled c.args.text.now _ _ c.digits_end.result v more cut.front cut.back all.digits all.end ends same in
    absurd (omega (arith, same_number36 c.in_ok-v.ensures.some other, c.if-v-most.true, small))

pub returns-clause-some : goal.returns-clause-some
returns-clause-some c =
    let cut = c.split_at.ensures in (
      c.if-v-most.false,
      front_is_number c.args.text.now _ _ c.in_ok-v.v cut.by_index.0 c.in_ok-v.ensures.some,
      subst StartsNoDigit (sym cut.back) c.digits_end.ensures.end,
    )
