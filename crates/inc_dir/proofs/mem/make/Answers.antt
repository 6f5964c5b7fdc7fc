use Rattle.std.proofs.Common.{inl, inr, refl, sym, subst, ◌∙◌}
use Rattle.std.proofs.lemmas.Bool.{false≢true}
use Rattle.inc_dir.specs.Memories.{HasStepped}
use Rattle.inc_dir.proofs.Grown.{apart_turned, turned_apart}
use Rattle.inc_dir.proofs.mem.make.Goals as goal

pub returns-in_ok-reply-clause-ok : goal.returns-in_ok-reply-clause-ok
returns-in_ok-reply-clause-ok g c =
    let step = c.args.step.now in
    let may = c.in_ok-may_be_made.ensures.0 c.if-branch.true in
    inl (
      (apart_turned c.args.own.now step.who may.0, may.1),
      c.in_ok-reply.reply,
      subst (λ op. HasStepped step.who op step.chance c.args.ground.now c.in_ok-reply.reply c.act.new.self) c.in_ok-op.ensures
          (record { step = c.in_ok-reply.ensures.step; history = c.in_ok-reply.ensures.history }),
    )

pub returns-else-branch-clause-ok : goal.returns-else-branch-clause-ok
returns-else-branch-clause-ok g c =
    let step = c.args.step.now in
    inr ((λ may. false≢true (sym c.if-branch.false ∙ c.in_ok-may_be_made.ensures.1 (turned_apart c.args.own.now step.who may.0, may.1))), refl)
