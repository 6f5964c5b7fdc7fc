use Rattle.rs_check.proofs.Parameters.{params_next}
use Rattle.rs_check.proofs.body.Checker.params.Goals as goal

pub loop-param-preserved : goal.loop-param-preserved
loop-param-preserved c =
    params_next c.args.params.now c.loop-param.param-index c.param-item.result c.as_slice-name.result.now c.loop-param.self c.twice.new.self c.clash.new.self c.declare.new.self _
    c.loop-param-test.true c.param-item.is c.as_slice-name.ensures.value (c.in_ok-twice.ensures {u = tt}) (c.in_ok-clash.ensures {u = tt}) (c.in_ok-declare.ensures {u = tt}) c.loop-param.invariant
