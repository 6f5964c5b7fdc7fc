use Rattle.std.proofs.Common.{◌≡◌, reverse, Some, sym, eq-eqb, slice_get, length, refl, ltb-true}
use Rattle.std.proofs.lemmas.Option.{slice_get_read}
use Rattle.std.proofs.lemmas.Bool.{ne_eqb}
use Rattle.inc_dir.proofs.Grown.{looks_due, looks_past}
use Rattle.inc_dir.proofs.mem.make_due.Goals.{then-step-acts+in_ok-make, else-step-acts}
use Rattle.inc_dir.proofs.mem.make_due.Goals as goal

pub steps-preserved : goal.steps-preserved
steps-preserved g c =
    let files = g.C.Content.files in
    let own = reverse c.args.own.now in
    let between = c.args.between.now in
    let step = c.in-Some.step.now in
    let at : slice_get between c.steps.looked ≡ Some step =
    slice_get_read between (length between) c.steps.looked step refl (ltb-true c.steps.looked (length between) (sym c.in-Some.ensures.lookup.0)) c.in-Some.ensures.lookup.1 in
    elim c.if-step-acts.branch [
      | then-step-acts+in_ok-make w ↦ rw w.ground-is (looks_due files own c.args.acts between c.args.looked.now c.args.ground.now c.steps.looked c.steps.ground w.make.new.ground step c.steps.invariant at
          (eq-eqb step.before c.args.acts w.if-step-acts.true) w.in_ok-make.ensures.ok)
      | else-step-acts w ↦ rw w.ground-is (looks_past files own c.args.acts between c.args.looked.now c.args.ground.now c.steps.looked c.steps.ground step c.steps.invariant at
          (ne_eqb step.before c.args.acts w.if-step-acts.false))
    ]
