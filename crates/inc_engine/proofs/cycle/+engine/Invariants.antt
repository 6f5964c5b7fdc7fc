use Rattle.std.proofs.Common.{◌≡◌, ◌+◌, ◌*◌, take, map}
use Rattle.inc_graph.specs.Graphs.{queries_of}
use Rattle.inc_engine.specs.Builds.{at, Setup, setup}
use Rattle.inc_engine.specs.Marking.{Sound, Grew, Underway, Greening, Visited, asked}
use Rattle.inc_engine.proofs.cycle.+engine.Given as goal

abbrev pub decreases-mark : goal.decreases-mark
decreases-mark g l = 4 * (at (queries_of l.previous.now.graph) l.place).kind

abbrev pub decreases-run : goal.decreases-run
decreases-run g l = 4 * l.q.now.kind

abbrev pub decreases-value_of : goal.decreases-value_of
decreases-value_of g l = 4 * l.q.now.kind + 3

abbrev pub decreases-visit : goal.decreases-visit
decreases-visit g l = 4 * l.q.now.kind + 2

abbrev pub decreases-settle : goal.decreases-settle
decreases-settle g l = 4 * l.q.now.kind + 1

abbrev pub invariant-mark-loop-position : goal.invariant-mark-loop-position
invariant-mark-loop-position g l =
    let P = g.P.Providers in
    let b : Setup = setup (P.plan (P.setting l.p)) P.kept P.ticking P.height (P.input l.p) l.previous.graph l.previous.cache in
    record {
      sound : Sound b l.memo;
      grew : Grew b (at (queries_of l.previous.graph) l.place) l.fn.memo l.memo (at (queries_of l.previous.graph) l.place).kind (g.P.Tick.Tally.count l.fn.meter) (g.P.Tick.Tally.count l.meter);
      told : map (at (asked l.memo)) l.reads ≡ map (at (queries_of l.previous.graph)) (take l.position-index l.position-items);
      green : Greening b (map (at (queries_of l.previous.graph)) (take l.position-index l.position-items));
      visited : Visited (asked l.memo) (at (queries_of l.previous.graph) l.place).kind l.reads;
    }

abbrev pub invariant-run-loop : goal.invariant-run-loop
invariant-run-loop g l =
    let P = g.P.Providers in
    let b : Setup = setup (P.plan (P.setting l.p)) P.kept P.ticking P.height (P.input l.p) l.previous.graph l.previous.cache in
    record {
      sound : Sound b l.memo;
      grew : Grew b l.q l.fn.memo l.memo l.q.kind (g.P.Tick.Tally.count l.fn.meter) (g.P.Tick.Tally.count l.meter);
      underway : Underway b l.q (asked l.memo) l.known l.reads;
    }
