use Rattle.std.proofs.Common.{cond, sym, ◌∙◌, arith}
use Rattle.rs_emit.specs.Code.{is_place}
use Rattle.rs_emit.proofs.Codes.{offset_more, sizes_more}
use Rattle.rs_emit.proofs.starts.starts_of.Goals as goal

pub loop-instr-preserved : goal.loop-instr-preserved
loop-instr-preserved c =
    let xs = c.args.code.now in
    let k = c.loop-instr.instr-index in
    let x = c.instr-item.result in
    let more = sizes_more xs k x c.loop-instr-test.true c.instr-item.is in
    record {
      small = omega (arith, c.size_of.ensures.size, c.size_of-at.ensures.size, c.size_of.ensures.small, c.if-at-size_of.false);
      at = omega (arith, more, c.loop-instr.invariant.at, c.size_of-at.ensures.size);
      starts = λ q. c.in_ok-place.ensures q ∙ (λ j. cond (is_place q x) (c.loop-instr.invariant.at j) (c.loop-instr.invariant.starts q j)) ∙ sym (offset_more q xs k x c.loop-instr-test.true c.instr-item.is);
    }
