use Rattle.std.specs.Prelude.{length}
use Rattle.std.proofs.Common.{ap, sym, ◌∙◌, subst, arith}
use Rattle.inc_fs.specs.Lists.{AreDistinct}
use Rattle.inc_proto.specs.LeadLaws.{leads_sound}
use Rattle.inc_laws.specs.Drawn.{drawn_in}
use Rattle.inc_laws.proofs.Pairs.{drawn_is, drawn_count}
use Rattle.inc_laws.proofs.counts.names_once.Goals as goal

-- src/counts.rt:10:1
pub returns-then-count-clause-count : goal.returns-then-count-clause-count
returns-then-count-clause-count g c =
    let counted = sym (ap (λ h. length (drawn_in h)) c.history.ensures.value) ∙ drawn_count c.history.result.now ∙ sym c.draws_among-count.ensures in
    omega (arith, counted, c.if-count.true)

-- src/counts.rt:10:1
pub returns-then-count-clause-differ : goal.returns-then-count-clause-differ
returns-then-count-clause-differ g c =
    subst AreDistinct (drawn_is c.args.ground.now.history c.args.ground.now.state c.legal.ensures.leads) (leads_sound c.args.ground.now.history c.args.ground.now.state c.legal.ensures.leads).tidy.drawn

-- src/counts.rt:10:1
pub returns-else-count-clause-count : goal.returns-else-count-clause-count
returns-else-count-clause-count g c =
    let counted = sym (ap (λ h. length (drawn_in h)) c.history.ensures.value) ∙ drawn_count c.history.result.now ∙ sym c.draws_among-count.ensures in
    omega (arith, counted, c.if-count.false)

-- src/counts.rt:10:1
pub returns-else-count-clause-differ : goal.returns-else-count-clause-differ
returns-else-count-clause-differ g c =
    subst AreDistinct (drawn_is c.args.ground.now.history c.args.ground.now.state c.legal.ensures.leads) (leads_sound c.args.ground.now.history c.args.ground.now.state c.legal.ensures.leads).tidy.drawn
