use Rattle.std.proofs.Common.{ap, ◌∙◌, fold, map, arith}
use Rattle.rs_lookup.specs.Places.{place_name}
use Rattle.rs_lines.specs.Lines.{note}
use Rattle.rs_queries.specs.Diagnosed.{dead_line}
use Rattle.rs_queries.proofs.Tellings.{tells_more}
use Rattle.rs_queries.proofs.dead.tell_these.Goals as goal

pub loop-one-preserved : goal.loop-one-preserved
loop-one-preserved c =
    let now = c.loop-one.lines in
    tells_more (dead_line (map place_name c.args.dead.now)) c.args.answered.now c.loop-one.one-index c.one-item.result c.args.lines.now now c.tell_if_dead.new.lines (omega arith) c.one-item.is c.loop-one.invariant
    (c.in_ok-tell_if_dead.ensures ∙ ap (λ ps. fold note now (dead_line ps c.one-item.result)) c.in_ok-places.ensures)
