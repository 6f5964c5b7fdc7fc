use Rattle.std.proofs.Common.{◌≡◌, length, Some, sym, ap, ◌∙◌, arith, below_more}
use Rattle.rs_reach.specs.Cycles.{fits}
use Rattle.rs_reach.proofs.Round.{listed_below, named_at}
use Rattle.rs_reach.proofs.cycles.all_fit.Goals as goal

pub loop-at-preserved : goal.loop-at-preserved
loop-at-preserved c =
    let its = c.args.names.now in
    let at = c.loop-at.at in
    let test = fits (length its) c.args.classes.now c.args.entered.now at in
    let here = named_at its at c.index-names-at.result c.loop-at-test.true c.index-names-at.is in
    below_more _ _ c.loop-at.invariant (λ names e.
    (let both : Some names ≡ Some c.index-names-at.result.items = sym e ∙ here in
    let same : names ≡ c.index-names-at.result.items = cc in
    ap test (same ∙ sym c.deref.ensures.value) ∙ sym c.fits.ensures ∙ c.if-not-fits.false))

pub returns : goal.returns
returns c = λ t v names e.
    (let inside = listed_below c.args.names.now v names e in
    c.loop-at.invariant v (omega (arith, inside, c.loop-at-test.false)) names e)
