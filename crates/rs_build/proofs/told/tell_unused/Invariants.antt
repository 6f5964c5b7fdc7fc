use Rattle.std.proofs.Common.{◌≡◌, fold, map, take}
use Rattle.std.specs.List.{flat_map}
use Rattle.rs_lines.specs.Lines.{note}
use Rattle.rs_lookup.specs.Places.{place_name}
use Rattle.plan_laws.specs.Assembled.{unused_line}
use Rattle.rs_build.proofs.told.tell_unused.Given as goal

abbrev pub invariant-loop-placed : goal.invariant-loop-placed
invariant-loop-placed l = l.lines ≡ fold note l.fn.lines (flat_map (unused_line (map place_name l.dead)) (take l.placed-index l.items))
