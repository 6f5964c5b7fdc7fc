use Rattle.std.proofs.Common.{◌≡◌, take}
use Rattle.rs_const.specs.Constants.{sigs_of}
use Rattle.rs_const.proofs.known.sigs_of.Given as goal

abbrev pub invariant-loop-entry : goal.invariant-loop-entry
invariant-loop-entry l = l.sigs ≡ sigs_of (take l.entry-index l.known)
