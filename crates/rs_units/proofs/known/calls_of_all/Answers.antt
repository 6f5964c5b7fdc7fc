use Rattle.std.proofs.Common.{◌+◌, length, length-append, ap, ◌∙◌}
use Rattle.rs_reach.specs.Places.{ask}
use Rattle.rs_units.proofs.Kept.{kept_more}
use Rattle.rs_units.proofs.known.calls_of_all.Goals as goal

pub loop-i-preserved : goal.loop-i-preserved
loop-i-preserved c =
    let items = c.in_ok-push.ensures.items in
    let all = c.loop-i.all.items in
    record {
      counted = ap length items ∙ length-append all _ ∙ ap (λ n. n + 1) c.loop-i.invariant.counted;
      each = kept_more (ask c.args.places.now c.args.calls.now) all _ _ c.loop-i.i items c.loop-i.invariant.counted c.in_ok-calls_of.ensures c.loop-i.invariant.each;
    }
