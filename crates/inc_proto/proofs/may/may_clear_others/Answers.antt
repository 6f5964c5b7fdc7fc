use Rattle.std.proofs.Common.{sym, ◌∙◌, reverse}
use Rattle.std.proofs.lemmas.Bool.{false≢true}
use Rattle.inc_proto.specs.Permits.{MayClearOthers}
use Rattle.inc_proto.proofs.Mays.{answers_as, never, HoldsFound, may_clear_others, clear_holds, clear_others, others_of, of_others}
use Rattle.inc_proto.proofs.may.may_clear_others.Goals as goal

pub returns-then-is_others : goal.returns-then-is_others
returns-then-is_others c =
    let steps = reverse c.args.steps.now in
    let krate = c.args.krate.now in
    let entry = c.args.entry.now in
    let n = c.in-Some.n in
    let is = c.in-Some.ensures.some in
    answers_as (HoldsFound krate entry n steps) (MayClearOthers steps krate entry) c.holds_so.result
    (may_clear_others steps krate entry n is.0 is.1 (others_of krate n c.args.its.now steps c.requires.dir (c.is_others.ensures.0 c.if-is_others.true)))
    (clear_holds steps krate entry n is.1) c.holds_so.ensures

pub returns-else-is_others : goal.returns-else-is_others
returns-else-is_others c =
    let steps = reverse c.args.steps.now in
    let krate = c.args.krate.now in
    let entry = c.args.entry.now in
    let n = c.in-Some.n in
    never (λ w. false≢true (sym c.if-is_others.false
    ∙ c.is_others.ensures.1 (of_others krate n c.args.its.now steps c.requires.dir (clear_others steps krate entry n c.in-Some.ensures.some.1 w))))

pub returns-in-None : goal.returns-in-None
returns-in-None c = never (λ w. c.in-None.ensures.none w.0 w.3 w.4)
