use Rattle.std.proofs.Common.{◌≡◌, map, take}
use Rattle.rs_tree.specs.Plain.{plain_placed}
use Rattle.rs_names.specs.Indexed.{index_item}
use Rattle.rs_names.proofs.listing.index.Given as goal

abbrev pub invariant-loop-placed : goal.invariant-loop-placed
invariant-loop-placed l = l.items ≡ map index_item (map plain_placed (take l.placed-index l.placed-items))
