use Rattle.std.proofs.Common.{◌≡◌, ℕ, List, sym, subst}
use Rattle.std.proofs.lemmas.Result.{IfOk-weaker}
use Rattle.inc_base.specs.Base36.{SpellsWide36}
use Rattle.inc_base.specs.Base36Laws.{same_wide_text36, last_digits36_wide}
use Rattle.inc_base.proofs.base36.to36_wide.Goals as goal

spelled : goal.returns-clause-spells
spelled c =
    let spells = last_digits36_wide c.args.v c.ranges.v.fits in
    let wide = rw (← c.last_digits.ensures) at spells in
    IfOk-weaker c.of.result (λ it. it ≡ c.last_digits.result) (λ it. SpellsWide36 it c.args.v) (λ it is. subst (λ t. SpellsWide36 t c.args.v) (sym is) wide) c.of.ensures

pub returns-clause-spells : goal.returns-clause-spells
returns-clause-spells c = spelled c

pub returns-clause-only : goal.returns-clause-only
returns-clause-only c =
    IfOk-weaker c.of.result (λ it. SpellsWide36 it c.args.v) (λ it. (text : List ℕ) → SpellsWide36 text c.args.v → text ≡ it) (λ it spells. λ text other. same_wide_text36 other spells) (spelled c)
