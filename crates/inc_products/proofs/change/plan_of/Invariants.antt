use Rattle.std.proofs.Common.{◌≡◌, ◌+◌, ◌++◌, length}
use Rattle.inc_products.specs.Plans.{plan_of}
use Rattle.inc_products.proofs.change.plan_of.Given as goal

abbrev pub invariant-each : goal.invariant-each
invariant-each l = l.changes ++ plan_of l.olds l.wants ≡ plan_of l.old l.wanted

abbrev pub decreases-each : goal.decreases-each
decreases-each l = length l.olds + length l.wants
