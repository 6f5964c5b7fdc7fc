use Rattle.std.proofs.Common.{◌+◌, ◌++◌, sym, ◌∙◌, arith}
use Rattle.rs_emit.specs.Symbols.{reloc_of}
use Rattle.rs_emit.proofs.Codes.{sizes_more, sizes_part, relocs_more}
use Rattle.rs_emit.proofs.relocs.relocs_of.Goals as goal

pub put_reloc-requires : goal.put_reloc-requires
put_reloc-requires c =
    let more = sizes_more c.args.instrs.now c.loop-instr.instr-index c.instr-item.result c.loop-instr-test.true c.instr-item.is in
    omega (arith, more, sizes_part c.args.instrs.now (c.loop-instr.instr-index + 1), c.requires, c.loop-instr.invariant.at)

pub overflow_add-at : goal.overflow_add-at
overflow_add-at c =
    let more = sizes_more c.args.instrs.now c.loop-instr.instr-index c.instr-item.result c.loop-instr-test.true c.instr-item.is in
    omega (arith, more, sizes_part c.args.instrs.now (c.loop-instr.instr-index + 1), c.requires, c.loop-instr.invariant.at, c.size_of.ensures.size)

pub loop-instr-preserved : goal.loop-instr-preserved
loop-instr-preserved c =
    let xs = c.args.instrs.now in
    let k = c.loop-instr.instr-index in
    let x = c.instr-item.result in
    let unit = c.args.unit.now in
    record {
      at = omega (arith, sizes_more xs k x c.loop-instr-test.true c.instr-item.is, c.loop-instr.invariant.at, c.size_of.ensures.size);
      relocs = c.in_ok-put_reloc.ensures ∙ (λ j. c.loop-instr.invariant.relocs j ++ reloc_of unit (c.loop-instr.invariant.at j) x) ∙ sym (relocs_more unit xs k x c.loop-instr-test.true c.instr-item.is);
    }
