use Rattle.std.proofs.Common.{◌≡◌, ◌≢◌, ℕ, ◌+◌, ◌-◌, ◌<◌, ◌^◌, List, length, drop, take, get_or, sym, ap, ◌∙◌, subst, arith}
use Rattle.std.proofs.lemmas.List.{take_all, length-drop}
use Rattle.std.proofs.lemmas.Result.{IfOk-weaker}
use Rattle.inc_base.specs.Base36.{last_digits36, Spells36}
use Rattle.inc_base.specs.Base36Laws.{same_text36, length-last_digits36}
use Rattle.inc_base.proofs.Base36Lemmas.{Spells36-from_last}
use Rattle.inc_base.proofs.base36.to36.Goals as goal

-- the piece of the digits is the text
piece : (digits : List ℕ) (v i : ℕ) → v < 2 ^ 128 → digits ≡ last_digits36 25 v → i < length digits → ((k : ℕ) → k < i → get_or digits k 0 ≡ 48) → (i + 1 < length digits → get_or digits i 0 ≢ 48) → Spells36 (take (25 - i) (drop i digits)) v
piece digits v i small is in' zeros first =
    let count : length digits ≡ 25 = ap length is ∙ length-last_digits36 25 v in
    let all : take (25 - i) (drop i digits) ≡ drop i digits = take_all (25 - i) (drop i digits) (omega (arith, length-drop i digits)) in
    let first' = λ (more : i + 1 < 25). first (omega arith) in
    rw (all, is) (Spells36-from_last v i small (omega arith) (rw is at zeros) (rw is at first'))

spelled : goal.returns-clause-spells
spelled c =
    let digits = c.last_digits-digits.result in
    let i = c.first_digit.result in
    let spells = piece digits c.args.v i c.ranges.v.fits c.last_digits-digits.ensures c.first_digit.ensures.within c.first_digit.ensures.zeros c.first_digit.ensures.first in
    IfOk-weaker c.of.result (λ it. it ≡ take (25 - i) (drop i digits)) (λ it. Spells36 it c.args.v) (λ it is. subst (λ t. Spells36 t c.args.v) (sym is) spells) c.of.ensures

pub returns-clause-spells : goal.returns-clause-spells
returns-clause-spells c = spelled c

pub returns-clause-only : goal.returns-clause-only
returns-clause-only c =
    IfOk-weaker c.of.result (λ it. Spells36 it c.args.v) (λ it. (text : List ℕ) → Spells36 text c.args.v → text ≡ it) (λ it spells. λ text other. same_text36 other spells) (spelled c)
