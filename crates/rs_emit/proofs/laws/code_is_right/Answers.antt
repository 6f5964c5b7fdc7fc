use Rattle.rs_emit.proofs.Codes.{are_sums, has_length, are_right}
use Rattle.rs_emit.proofs.laws.code_is_right.Goals as goal

pub returns : goal.returns
returns c = record { offsets = are_sums; length = has_length; relocs = are_right }
