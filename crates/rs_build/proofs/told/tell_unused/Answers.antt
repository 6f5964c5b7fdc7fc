use Rattle.std.proofs.Common.{ap, ◌∙◌, fold, map, arith}
use Rattle.rs_lookup.specs.Places.{place_name}
use Rattle.rs_lines.specs.Lines.{note}
use Rattle.plan_laws.specs.Assembled.{unused_line}
use Rattle.rs_queries.proofs.Tellings.{tells_more}
use Rattle.rs_build.proofs.told.tell_unused.Goals as goal

pub loop-placed-preserved : goal.loop-placed-preserved
loop-placed-preserved c =
    let now = c.loop-placed.lines in
    tells_more (unused_line (map place_name c.args.dead.now)) c.args.items.now c.loop-placed.placed-index c.placed-item.result c.args.lines.now now c.tell_if_unused.new.lines (omega arith) c.placed-item.is c.loop-placed.invariant
    (c.in_ok-tell_if_unused.ensures ∙ ap (λ ps. fold note now (unused_line ps c.placed-item.result)) c.in_ok-places.ensures)
