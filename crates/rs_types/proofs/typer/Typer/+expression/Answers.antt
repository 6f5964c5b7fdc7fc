use Rattle.rs_types.proofs.Forms.{args_next, args_fit_next, lighter, truths_next, all_truths_next, operands_next, all_ints_next, lighter_by, call_end, compare_end}
use Rattle.std.specs.Option.{option_copied}
use Rattle.rs_types.specs.State.{taken}
use Rattle.rs_types.proofs.typer.Typer.+expression.Goals as goal

pub arguments-loop-e-preserved : goal.arguments-loop-e-preserved
arguments-loop-e-preserved t c = (
  args_next c.loop-e.left.now c.after_first-left.result.now c.args.args.now c.loop-e.e-index c.e-item.result c.loop-e.self c.argument.new.self _
      c.loop-e-test.true c.e-item.is c.after_first-left.ensures (c.in_ok-fits.ensures.looked) c.loop-e.invariant.0,
  args_fit_next c.loop-e.fit c.in_ok-fits.fits c.both-fit.result _ c.loop-e.left.now c.after_first-left.result.now c.args.args.now c.loop-e.e-index c.e-item.result c.loop-e.self c.argument.new.self
      c.loop-e-test.true c.e-item.is c.after_first-left.ensures (c.in_ok-fits.ensures.looked) (c.in_ok-fits.ensures.fits) c.both-fit.ensures c.loop-e.invariant.1,
  lighter c.args.args.now c.loop-e.e-index c.e-item.result _ c.loop-e-test.true c.e-item.is c.loop-e.invariant.2,
)

pub call-returns-clause-looked : goal.call-returns-clause-looked
call-returns-clause-looked t c =
    call_end c.args.path.now c.args.args.now (taken c.take-found.result) c.take-found.new.self (option_copied c.in_ok-sig.sig) c.wants.result.now c.args.self.now c.read.new.self c.callee.new.self c.arguments.new.self
    c.take-found.ensures.rest c.take-found.ensures.first (c.in_ok-read.ensures {u = tt}) c.in_ok-sig.ensures.sig c.in_ok-sig.ensures.said c.wants.ensures c.in_ok-fit.ensures.argued

pub comparison-returns-clause-looked : goal.comparison-returns-clause-looked
comparison-returns-clause-looked t c =
    compare_end c.args.op c.args.a.now c.args.b.now c.in_ok-left.left c.in_ok-right.right c.args.self.now c.expression.new.self c.expression-2.new.self c.need_value.new.self c.need_same.new.self
    c.in_ok-left.ensures.looked c.in_ok-left.ensures.typ c.in_ok-right.ensures.looked c.in_ok-right.ensures.typ (c.in_ok-need_value.ensures {u = tt}) (c.in_ok-need_same.ensures {u = tt})

pub operands-loop-e-preserved : goal.operands-loop-e-preserved
operands-loop-e-preserved t c = (
  operands_next c.args.more.now c.loop-e.e-index c.loop-e-item.result c.loop-e.self c.needed.new.self _ c.loop-e-test.true c.loop-e-item.is c.in_ok-fits.ensures.looked c.loop-e.invariant.0,
  all_ints_next c.loop-e.all c.in_ok-fits.fits c.both-all.result _ c.args.more.now c.loop-e.e-index c.loop-e-item.result c.loop-e.self c.needed.new.self
      c.loop-e-test.true c.loop-e-item.is c.in_ok-fits.ensures.looked c.in_ok-fits.ensures.fits c.both-all.ensures c.loop-e.invariant.1,
  lighter_by c.args.more.now c.loop-e.e-index c.loop-e-item.result _ c.loop-e-test.true c.loop-e-item.is c.loop-e.invariant.2,
)

pub truths-loop-e-preserved : goal.truths-loop-e-preserved
truths-loop-e-preserved t c = (
  truths_next c.args.parts.now c.loop-e.e-index c.e-item.result c.loop-e.self c.needed.new.self _ c.loop-e-test.true c.e-item.is c.in_ok-fits.ensures.looked c.loop-e.invariant.0,
  all_truths_next c.loop-e.all c.in_ok-fits.fits c.both-all.result _ c.args.parts.now c.loop-e.e-index c.e-item.result c.loop-e.self c.needed.new.self
      c.loop-e-test.true c.e-item.is c.in_ok-fits.ensures.looked c.in_ok-fits.ensures.fits c.both-all.ensures c.loop-e.invariant.1,
  lighter c.args.parts.now c.loop-e.e-index c.e-item.result _ c.loop-e-test.true c.e-item.is c.loop-e.invariant.2,
)
