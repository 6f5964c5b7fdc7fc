use Rattle.std.proofs.Common.{List, arith, sym, ◌∙◌, ap, subst}
use Rattle.std.specs.List.{count_by}
use Rattle.std.proofs.lemmas.List.{take_all}
use Rattle.inc_graph.specs.declared.node.Node.{Node}
use Rattle.inc_engine.specs.Builds.{is_red}
use Rattle.inc_engine.specs.Finish.{IsRedBy}
use Rattle.inc_engine.specs.declared.done.Done.{Done}
use Rattle.inc_engine.proofs.Works.{reds-more, cond-le}
use Rattle.inc_engine.proofs.work.work_of.Goals as goal

pub loop-done-preserved : goal.loop-done-preserved
loop-done-preserved c = record {
  all = omega (arith, c.counted-work.ensures.all, c.loop-done.invariant.all);
  few = (let one = cond-le c.is_red-red.result in omega (arith, c.counted-work.ensures.red, c.loop-done.invariant.few, one));
  reds = λ b s e before right. reds-more b s c.args.memo.now c.loop-done.done-index c.done-item.result c.is_red-red.result c.loop-done.work.red c.counted-work.result.red c.loop-done-test.true c.done-item.is (subst (λ (ns : List Node). IsRedBy ns c.done-item.result c.is_red-red.result) (c.as_slice.ensures.value ∙ sym e) c.is_red-red.ensures) before right (c.loop-done.invariant.reds b s e before right) c.counted-work.ensures.red;
}

pub returns-clause-red : goal.returns-clause-red
returns-clause-red c = λ b s e before right. c.loop-done.invariant.reds b s e before right ∙ ap (count_by (λ (d : Done). is_red b s d.query)) (take_all c.loop-done.done-index c.args.memo.now c.loop-done-test.false)
