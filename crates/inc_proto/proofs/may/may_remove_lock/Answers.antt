use Rattle.std.proofs.Common.{sym, ◌∙◌, reverse, inl}
use Rattle.std.proofs.lemmas.Bool.{false≢true}
use Rattle.inc_proto.specs.Permits.{MayRemoveOwn, MayRemoveOthers}
use Rattle.inc_proto.proofs.Mays.{always, answers_or}
use Rattle.inc_proto.proofs.may.may_remove_lock.Goals as goal

pub returns-then-may_remove_own : goal.returns-then-may_remove_own
returns-then-may_remove_own c =
    always (inl ((c.may_remove_own.ensures (reverse c.args.steps.now) c.requires.drawn c.requires.dir c.requires.lock).0 c.if-may_remove_own.true))

pub returns : goal.returns
returns c =
    let steps = reverse c.args.steps.now in
    answers_or (MayRemoveOwn c.args.job.now steps c.args.krate.now c.args.entry.now) (MayRemoveOthers steps c.args.krate.now c.args.entry.now) c.may_remove_others.result
    (λ own. false≢true (sym c.if-may_remove_own.false ∙ (c.may_remove_own.ensures steps c.requires.drawn c.requires.dir c.requires.lock).1 own)) c.may_remove_others.ensures
