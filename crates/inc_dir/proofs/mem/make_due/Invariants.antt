use Rattle.std.proofs.Common.{◌-◌, length, reverse}
use Rattle.inc_dir.specs.Memories.{HasLooked}
use Rattle.inc_dir.proofs.mem.make_due.Given as goal

-- what was looked at so far
abbrev pub invariant-steps : goal.invariant-steps
invariant-steps g l = HasLooked g.C.Content.files (reverse l.own) l.acts l.between l.initial.looked l.initial.ground l.looked l.ground

abbrev pub decreases-steps : goal.decreases-steps
decreases-steps g l = length l.between - l.looked
