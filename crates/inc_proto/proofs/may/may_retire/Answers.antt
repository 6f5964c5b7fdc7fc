use Rattle.std.proofs.Common.{sym, ◌∙◌, reverse}
use Rattle.std.proofs.lemmas.Bool.{false≢true}
use Rattle.inc_proto.specs.Asked.{HoldsBoth}
use Rattle.inc_proto.specs.Permits.{MayRetire}
use Rattle.inc_proto.proofs.Mays.{answers_as, never, others_of, may_retire, retires_of, retires_both}
use Rattle.inc_proto.proofs.may.may_retire.Goals as goal

pub returns-then-is_outdated : goal.returns-then-is_outdated
returns-then-is_outdated c =
    let steps = reverse c.args.steps.now in
    let krate = c.args.krate.now in
    let from = c.args.from.now in
    let to = c.args.to.now in
    let n = c.in-Some.n in
    let hash = c.in-Some.field-0-1 in
    let is = c.in-Some.ensures.some in
    let told = c.is_outdated.ensures.0 c.if-is_outdated.true in
    answers_as (HoldsBoth krate from n steps) (MayRetire steps krate from to) c.holds_both.result
    (may_retire steps krate from to n hash is.0 is.1 is.2 told.0 (others_of krate n c.args.its.now steps c.requires.dir told.1) told.2)
    (retires_both steps krate from to n hash is.2) c.holds_both.ensures

pub returns-else-is_outdated : goal.returns-else-is_outdated
returns-else-is_outdated c =
    let steps = reverse c.args.steps.now in
    let krate = c.args.krate.now in
    let from = c.args.from.now in
    let to = c.args.to.now in
    let n = c.in-Some.n in
    never (λ w. false≢true (sym c.if-is_outdated.false
    ∙ c.is_outdated.ensures.1 (retires_of steps krate from to n c.in-Some.field-0-1 c.args.its.now c.requires.dir c.in-Some.ensures.some.2 w)))

pub returns-in-None : goal.returns-in-None
returns-in-None c = never (λ w. c.in-None.ensures.none w.0 w.1 w.6 w.7 w.8)
