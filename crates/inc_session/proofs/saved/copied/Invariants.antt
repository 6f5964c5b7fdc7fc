use Rattle.std.proofs.Common.{◌≡◌, take}
use Rattle.inc_session.proofs.saved.copied.Given as goal

abbrev pub invariant-loop-file : goal.invariant-loop-file
invariant-loop-file l = l.all ≡ take l.file-index l.files
