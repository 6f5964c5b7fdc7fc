use Rattle.std.proofs.Common.{◌≡◌, take}
use Rattle.rs_emit.specs.Code.{sizes}
use Rattle.rs_emit.specs.Symbols.{relocs_from}
use Rattle.rs_emit.proofs.relocs.relocs_of.Given as goal

abbrev pub invariant-loop-instr : goal.invariant-loop-instr
invariant-loop-instr l = record {
  at : l.at ≡ sizes (take l.instr-index l.instrs);
  relocs : l.relocs ≡ relocs_from l.unit 0 (take l.instr-index l.instrs);
}
