use Rattle.std.proofs.Common.{arith, refl}
use Rattle.rs_grammar.proofs.Depths.{nothing_shallow}
use Rattle.rs_reader.proofs.Nested.{depth_next, shallow_next, too_deep}
use Rattle.rs_reader.proofs.nesting.first_too_deep.Goals as goal

pub loop-i-init : goal.loop-i-init
loop-i-init c = record { count = refl; few = omega arith; shallow = nothing_shallow }

pub returns-then-open-gt-DEEPEST : goal.returns-then-open-gt-DEEPEST
returns-then-open-gt-DEEPEST c = too_deep c.args.tokens.now c.args.kinds.now c.loop-i.i c.requires c.loop-i-test.true c.loop-i.open c.open_after-open.result _ _ c.loop-i.invariant.count c.open_after-open.ensures c.if-open-gt-DEEPEST.true c.loop-i.invariant.shallow

pub loop-i-preserved : goal.loop-i-preserved
loop-i-preserved c = record {
  count = depth_next c.args.tokens.now c.args.kinds.now c.loop-i.i c.requires c.loop-i-test.true c.loop-i.open _ _ c.loop-i.invariant.count c.open_after-open.ensures;
  few = c.if-open-gt-DEEPEST.false;
  shallow = shallow_next c.args.tokens.now c.args.kinds.now c.loop-i.i c.requires c.loop-i-test.true c.loop-i.open c.open_after-open.result _ c.loop-i.invariant.count c.open_after-open.ensures c.if-open-gt-DEEPEST.false c.loop-i.invariant.shallow;
}
