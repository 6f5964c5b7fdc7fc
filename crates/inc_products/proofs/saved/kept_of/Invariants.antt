use Rattle.std.proofs.Common.{◌≡◌, ◌++◌, drop}
use Rattle.inc_products.specs.Saved.{kept_of}
use Rattle.inc_products.proofs.saved.kept_of.Given as goal

abbrev pub invariant-loop-value : goal.invariant-loop-value
invariant-loop-value l = l.kept ++ kept_of l.g (drop l.value-index l.values) ≡ kept_of l.g l.values
