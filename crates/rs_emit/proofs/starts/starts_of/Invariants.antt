use Rattle.std.proofs.Common.{◌≡◌, ℕ, ◌<◌, ◌^◌, take}
use Rattle.std.specs.Prelude.{slice_index}
use Rattle.rs_emit.specs.Code.{sizes, offset}
use Rattle.rs_emit.proofs.starts.starts_of.Given as goal

abbrev pub invariant-loop-instr : goal.invariant-loop-instr
invariant-loop-instr l = record {
  small : l.at < 2 ^ 32;
  at : l.at ≡ sizes (take l.instr-index l.code);
  starts : (q : ℕ) → slice_index l.starts.items q ≡ offset (take l.instr-index l.code) q;
}
