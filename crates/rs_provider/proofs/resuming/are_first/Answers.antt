use Rattle.std.proofs.Common.{◌≡◌, arith, rules, length}
use Rattle.rs_provider.proofs.Taken.{first_all, first_more}
use Rattle.rs_provider.proofs.resuming.are_first.Goals as goal

pub loop-i-preserved : goal.loop-i-preserved
loop-i-preserved c = first_more c.args.values.now c.args.known.now c.loop-i.i c.index-values-i.result c.index-known-i.result (omega arith) (omega arith) c.index-values-i.is c.index-known-i.is (search rules) c.loop-i.invariant

pub returns : goal.returns
returns c = λ t. first_all c.args.values.now c.args.known.now c.loop-i.i (omega arith) c.loop-i.invariant
