use Rattle.std.proofs.Common.{◌≡◌, reverse, [], ap, refl, sym, subst, true}
use Rattle.std.proofs.lemmas.Result.{IfOk-weaker, on_err_weaker}
use Rattle.inc_fs.specs.State.{IsIn}
use Rattle.inc_proto.specs.Events.{latest}
use Rattle.inc_proto.specs.Legal.{IsLegal}
use Rattle.inc_dir.proofs.Grown.{looked_adds, grown_by, kept_beside, acted_answers, answered_tells, owed_may}
use Rattle.inc_dir.proofs.mem.MemDirDir.act.Goals as goal

pub invariant_of-self : goal.invariant_of-self
invariant_of-self g c =
    let looks = rw (c.as_slice.ensures.value, c.as_slice-2.ensures.value) at c.make_due-made.ensures.goes in
    kept_beside c.self.inside.ground c.make_due-made.new.ground (reverse c.self.inside.own.0) c.self.inside.number c.self.inside.runs c.self.invariant
    (looked_adds g.C.Content.files _ _ _ _ _ _ _ looks)

pub invariant_of-self-2 : goal.invariant_of-self-2
invariant_of-self-2 g c =
    let looks = rw (c.as_slice.ensures.value, c.as_slice-2.ensures.value) at c.make_due-made.ensures.goes in
    kept_beside c.self.inside.ground c.make_due-made.new.ground (reverse c.self.inside.own.0) c.self.inside.number c.self.inside.runs c.self.invariant
    (looked_adds g.C.Content.files _ _ _ _ _ _ _ looks)

pub returns-in-Err-clause-err : goal.returns-in-Err-clause-err
returns-in-Err-clause-err g c =
    let looks = rw (c.as_slice.ensures.value, c.as_slice-2.ensures.value) at c.make_due-made.ensures.goes in
    let legal : IsLegal g.C.Content.files c.make_due-made.new.ground.history = record { state = c.make_due-made.new.ground.state; leads = c.legal-2.ensures.leads; allowed = c.legal-2.ensures.allowed } in
    rw (← c.self.view_is)
    (grown_by g.C.Content.files (reverse c.self.inside.own.0) c.self.inside.ground.history c.make_due-made.new.ground.history c.make_due-made.new.ground.history []
    (looked_adds g.C.Content.files _ _ _ _ _ _ _ looks) refl tt legal)

pub answer-answer-requires : goal.answer-answer-requires
answer-answer-requires g c =
    let looks = rw (c.as_slice.ensures.value, c.as_slice-2.ensures.value) at c.make_due-made.ensures.goes in
    let legal : IsLegal g.C.Content.files c.self.inside.ground.history = record { state = c.self.inside.ground.state; leads = c.legal.ensures.leads; allowed = c.legal.ensures.allowed } in
    let own = reverse c.self.inside.own.0 in
    let running : c.self.inside.runs ≡ true = rw (← c.self.view_is) at c.requires.running in
    let among : IsIn own (latest own) = subst (IsIn own) c.self.invariant.number_is (c.self.invariant.among running) in
    let owed = rw (← c.self.view_is) at c.requires.permitted in
    owed_may g.C.Content.files g.C.Content.clear own c.self.inside.ground.history c.make_due-made.new.ground.history c.args.op owed legal among
    (looked_adds g.C.Content.files _ _ _ _ _ _ _ looks)

pub returns-clause-answered : goal.returns-clause-answered
returns-clause-answered g c =
    let looks = rw (c.as_slice.ensures.value, c.as_slice-2.ensures.value) at c.make_due-made.ensures.goes in
    let all = rw c.as_slice-2.ensures.value at c.in_default.ensures.all in
    rw (← c.self.view_is)
    (IfOk-weaker c.answer-answer.result _ _ (λ reply acted. acted_answers g.C.Content.files _ c.answer-answer.new.self c.make_due-made.new.ground c.make_due-made.new.looked c.args.op reply looks
    all acted) c.answer-answer.ensures.ok)

pub returns-clause-ok : goal.returns-clause-ok
returns-clause-ok g c =
    let legal : IsLegal g.C.Content.files c.answer-answer.new.self.world.history =
    rw (← c.self-2.view_is) (record { state = c.self-2.inside.ground.state; leads = c.legal-3.ensures.leads; allowed = c.legal-3.ensures.allowed }) in
    IfOk-weaker c.answer-answer.result _ _ (λ reply answered. answered_tells g.C.Content.files c.args.self.now c.answer-answer.new.self c.args.op reply answered legal) (returns-clause-answered g c)

pub returns-clause-err : goal.returns-clause-err
returns-clause-err g c =
    let looks = rw (c.as_slice.ensures.value, c.as_slice-2.ensures.value) at c.make_due-made.ensures.goes in
    let legal : IsLegal g.C.Content.files c.make_due-made.new.ground.history = record { state = c.make_due-made.new.ground.state; leads = c.legal-2.ensures.leads; allowed = c.legal-2.ensures.allowed } in
    let adds = looked_adds g.C.Content.files _ _ _ _ _ _ _ looks in
    rw (← c.self.view_is)
    (on_err_weaker c.answer-answer.result (λ kept. grown_by g.C.Content.files (reverse c.self.inside.own.0) c.self.inside.ground.history c.make_due-made.new.ground.history c.answer-answer.new.self.world.history []
    adds (ap (λ d. d.world.history) kept) tt (subst (IsLegal g.C.Content.files) (sym (ap (λ d. d.world.history) kept)) legal)) c.answer-answer.ensures.err)
