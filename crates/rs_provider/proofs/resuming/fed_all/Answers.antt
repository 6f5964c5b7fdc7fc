use Rattle.std.proofs.Common.{◌≡◌, sym, refl, ap, ◌∙◌, arith, take}
use Rattle.rs_provider.specs.Begun.{values_of}
use Rattle.rs_provider.proofs.Taken.{fed_more, fed_whole}
use Rattle.rs_provider.proofs.resuming.fed_all.Goals as goal

pub loop-i-init : goal.loop-i-init
loop-i-init c = record { level_is = refl; query_is = refl; fed_is = c.requires ∙ ap (λ n. values_of (take n c.args.known.now)) (sym c.len-first.ensures.value) }

pub loop-i-preserved : goal.loop-i-preserved
loop-i-preserved c = fed_more c.args.begun.level c.args.begun.q c.args.known.now c.loop-i.i c.index-known-i.result c.loop-i.begun c.in_ok-begun.begun (omega arith) c.loop-i.invariant c.in_ok-begun.ensures

pub returns : goal.returns
returns c = fed_whole c.args.begun.level c.args.begun.q c.args.known.now c.loop-i.i c.loop-i.begun (omega arith) c.loop-i.invariant
