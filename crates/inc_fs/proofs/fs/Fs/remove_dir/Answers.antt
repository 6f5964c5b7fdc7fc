use Rattle.std.proofs.Common.{rules, refl}
use Rattle.inc_fs.proofs.fs.Fs.remove_dir.Goals as goal

pub returns-then-not-is_empty-clause-removes : goal.returns-then-not-is_empty-clause-removes
returns-then-not-is_empty-clause-removes c = (c.in-Some.names.now, search rules, search rules, refl)
