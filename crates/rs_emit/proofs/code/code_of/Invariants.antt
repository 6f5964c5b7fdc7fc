use Rattle.std.proofs.Common.{◌≡◌, take}
use Rattle.std.specs.Prelude.{slice_index}
use Rattle.std.specs.List.{flat_map}
use Rattle.rs_emit.specs.Code.{bytes_of}
use Rattle.rs_emit.proofs.code.code_of.Given as goal

abbrev pub invariant-loop-instr : goal.invariant-loop-instr
invariant-loop-instr l = l.code ≡ flat_map (bytes_of (slice_index l.starts.items)) (take l.instr-index l.instrs)
