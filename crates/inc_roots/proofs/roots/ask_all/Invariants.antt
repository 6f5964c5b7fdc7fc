use Rattle.std.proofs.Common.{◌≡◌, ℕ, List, drop, length, map, take}
use Rattle.std.specs.Prelude.{IsTrue}
use Rattle.std.specs.List.{count_by}
use Rattle.inc_query.specs.Plans.{denote}
use Rattle.inc_query.specs.Ticks.{rise}
use Rattle.inc_engine.specs.Builds.{Before, setup, stale}
use Rattle.inc_roots.specs.Asked.{AsksAll}
use Rattle.inc_roots.proofs.roots.ask_all.Given as goal

abbrev pub invariant-loop-root : goal.invariant-loop-root
invariant-loop-root g l =
    let P = g.P.Providers in
    let e = l.fn.engine in
    record {
      many : length l.values ≡ l.root-index;
      values_are : (s : List ℕ) → Before (setup (P.plan e.setting) P.kept P.ticking P.height e.input e.nodes e.cache) s → l.values ≡ map (denote (P.plan e.setting) e.input) (take l.root-index l.roots);
      asks : AsksAll (setup (P.plan e.setting) P.kept P.ticking P.height e.input e.nodes e.cache) (take l.root-index l.roots) e.asked l.engine.asked;
      ticks : (s : List ℕ) → Before (setup (P.plan e.setting) P.kept P.ticking P.height e.input e.nodes e.cache) s → IsTrue (P.kept P.ticking) → g.P.Tick.Tally.count l.meter ≡ rise (g.P.Tick.Tally.count l.fn.meter) (count_by (stale (setup (P.plan e.setting) P.kept P.ticking P.height e.input e.nodes e.cache) s) (drop (length e.asked) l.engine.asked));
      same : l.engine ≡ record e { asked = l.engine.asked; failed = l.engine.failed };
    }
