use Rattle.std.proofs.Common.{take, ℕ}
use Rattle.std.specs.Map.{lookup}
use Rattle.std.specs.Ordering.{nat_cmp}
use Rattle.std.specs.BTreeMap.{is_at}
use Rattle.inc_fs.specs.Lists.{IsIn}
use Rattle.inc_proto.specs.Indexes.{kept_hold, IsHeldSince}
use Rattle.inc_proto.proofs.index.asks.is_any_held.Given as goal

abbrev pub invariant-loop-h : goal.invariant-loop-h
invariant-loop-h l = (h : ℕ) → IsHeldSince l.way l.path l.at (kept_hold (lookup (is_at (nat_cmp h)) l.holds)) → ¬ IsIn (take l.h-index l.handles) h
