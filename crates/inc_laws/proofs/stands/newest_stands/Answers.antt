use Rattle.std.proofs.Common.{ap, sym, ◌∙◌, subst}
use Rattle.std.specs.Option.{option_map}
use Rattle.inc_proto.specs.Finals.{newest}
use Rattle.inc_laws.specs.Newest.{entry_by, IsNewestFound}
use Rattle.inc_laws.proofs.Found.{newest_is, entries_are}
use Rattle.inc_laws.proofs.Whole.{newest_is_whole, none_published}
use Rattle.inc_laws.proofs.stands.newest_stands.Goals as goal

pub returns-in-Some-clause-newest : goal.returns-in-Some-clause-newest
returns-in-Some-clause-newest g c =
    ap (option_map entry_by) (sym c.in-Some.is ∙ newest_is g.C.Content.files c.args.ground.now.history c.args.ground.now.state c.legal.ensures.leads c.legal.ensures.allowed c.args.krate.now c.newest_found.result
    (subst (λ h. IsNewestFound c.args.krate.now h c.newest_found.result) c.history.ensures.value c.newest_found.ensures))
    ∙ entries_are (newest c.args.ground.now.history c.args.krate.now)

pub returns-in-Some-clause-whole : goal.returns-in-Some-clause-whole
returns-in-Some-clause-whole g c = newest_is_whole g.C.Content.files c.args.ground.now.history c.args.ground.now.state c.legal.ensures.leads c.legal.ensures.allowed c.args.krate.now

pub returns-in-Some-clause-none : goal.returns-in-Some-clause-none
returns-in-Some-clause-none g c = none_published c.args.ground.now.history c.args.krate.now

pub returns-in-None-clause-newest : goal.returns-in-None-clause-newest
returns-in-None-clause-newest g c =
    ap (option_map entry_by) (sym c.in-None.is ∙ newest_is g.C.Content.files c.args.ground.now.history c.args.ground.now.state c.legal.ensures.leads c.legal.ensures.allowed c.args.krate.now c.newest_found.result
    (subst (λ h. IsNewestFound c.args.krate.now h c.newest_found.result) c.history.ensures.value c.newest_found.ensures))
    ∙ entries_are (newest c.args.ground.now.history c.args.krate.now)

pub returns-in-None-clause-whole : goal.returns-in-None-clause-whole
returns-in-None-clause-whole g c = newest_is_whole g.C.Content.files c.args.ground.now.history c.args.ground.now.state c.legal.ensures.leads c.legal.ensures.allowed c.args.krate.now

pub returns-in-None-clause-none : goal.returns-in-None-clause-none
returns-in-None-clause-none g c = none_published c.args.ground.now.history c.args.krate.now
