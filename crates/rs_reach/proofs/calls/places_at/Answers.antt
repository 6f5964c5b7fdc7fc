use Rattle.rs_reach.proofs.Called.{place_more}
use Rattle.rs_reach.proofs.calls.places_at.Goals as goal

pub loop-number-preserved : goal.loop-number-preserved
loop-number-preserved c =
    place_more c.args.items.now c.args.numbers.now c.loop-number.number-index c.loop-number.places c.push_at.new.to _ c.loop-number-test.true (c.in_ok-push_at.ensures {u = tt}) c.loop-number.invariant
