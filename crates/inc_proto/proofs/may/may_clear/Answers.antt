use Rattle.std.proofs.Common.{sym, ◌∙◌, reverse, inl}
use Rattle.std.proofs.lemmas.Bool.{false≢true}
use Rattle.inc_proto.specs.Permits.{MayClearOwn, MayClearOthers}
use Rattle.inc_proto.proofs.Mays.{always, answers_or}
use Rattle.inc_proto.proofs.may.may_clear.Goals as goal

pub returns-then-may_clear_own : goal.returns-then-may_clear_own
returns-then-may_clear_own c =
    always (inl ((c.may_clear_own.ensures (reverse c.args.steps.now) c.requires.dir c.requires.lock).0 c.if-may_clear_own.true))

pub returns : goal.returns
returns c =
    let steps = reverse c.args.steps.now in
    answers_or (MayClearOwn steps c.args.krate.now c.args.entry.now) (MayClearOthers steps c.args.krate.now c.args.entry.now) c.may_clear_others.result
    (λ own. false≢true (sym c.if-may_clear_own.false ∙ (c.may_clear_own.ensures steps c.requires.dir c.requires.lock).1 own)) c.may_clear_others.ensures
