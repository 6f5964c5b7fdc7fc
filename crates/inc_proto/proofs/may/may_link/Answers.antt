use Rattle.std.proofs.Common.{sym, ◌∙◌, reverse}
use Rattle.std.proofs.lemmas.Bool.{false≢true}
use Rattle.inc_proto.specs.Permits.{MayLink}
use Rattle.inc_proto.proofs.Mays.{answers_as, never, HoldsListing, may_link, link_holds, link_creates}
use Rattle.inc_proto.proofs.may.may_link.Goals as goal

pub returns-then-may_create : goal.returns-then-may_create
returns-then-may_create c =
    let steps = reverse c.args.steps.now in
    let krate = c.args.krate.now in
    let from = c.args.from.now in
    let to = c.args.to.now in
    let file = c.args.file.now in
    let n = c.in-Some.n in
    let hash = c.in-Some.field-0-1 in
    let is = c.in-Some.ensures.some in
    answers_as (HoldsListing krate from file n steps) (MayLink steps krate from to file) c.holds_so.result
    (may_link steps krate from to file n hash is.0 is.1 is.2 ((c.may_create.ensures steps c.requires.dir c.requires.lock).0 c.if-may_create.true))
    (link_holds steps krate from to file n hash is.2) c.holds_so.ensures

pub returns-else-may_create : goal.returns-else-may_create
returns-else-may_create c =
    let steps = reverse c.args.steps.now in
    never (λ w. false≢true (sym c.if-may_create.false
    ∙ (c.may_create.ensures steps c.requires.dir c.requires.lock).1 (link_creates steps c.args.krate.now c.args.from.now c.args.to.now c.args.file.now w)))

pub returns-in-None : goal.returns-in-None
returns-in-None c = never (λ w. c.in-None.ensures.none w.1 w.2 w.8 w.9 w.10)
