use Rattle.std.proofs.Common.{◌≡◌, ℕ, List, fold, map, take}
use Rattle.std.specs.List.{flat_map}
use Rattle.inc_query.specs.declared.query.Query.{Query}
use Rattle.rs_lines.specs.Lines.{note}
use Rattle.rs_plans.specs.Steps.{query}
use Rattle.rs_queries.specs.Known.{place_of}
use Rattle.plan_laws.specs.Assembled.{told_of}
use Rattle.rs_build.proofs.told.tell_items.Given as goal

abbrev pub invariant-loop-i : goal.invariant-loop-i
invariant-loop-i l = (v : Query → List ℕ) → l.values ≡ map (λ p. v (query 5 (place_of p))) l.items → l.lines ≡ fold note l.fn.lines (flat_map (told_of v) (take l.i l.items))
