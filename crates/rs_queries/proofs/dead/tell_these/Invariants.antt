use Rattle.std.proofs.Common.{◌≡◌, take, fold, map}
use Rattle.std.specs.List.{flat_map}
use Rattle.rs_lookup.specs.Places.{place_name}
use Rattle.rs_lines.specs.Lines.{note}
use Rattle.rs_queries.specs.Diagnosed.{dead_line}
use Rattle.rs_queries.proofs.dead.tell_these.Given as goal

abbrev pub invariant-loop-one : goal.invariant-loop-one
invariant-loop-one l = l.lines ≡ fold note l.initial.lines (flat_map (dead_line (map place_name l.dead)) (take l.one-index l.answered))
