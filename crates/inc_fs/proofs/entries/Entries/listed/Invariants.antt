use Rattle.std.proofs.Common.{◌≡◌, ◌++◌, false}
use Rattle.std.specs.List.{AllByRecursion}
use Rattle.std.specs.List.Sorted.{IsStrictlySortedBy}
use Rattle.std.specs.Map.{keys_of}
use Rattle.std.specs.Ordering.{is_gt}
use Rattle.inc_fs.specs.Listed.{first_path}
use Rattle.inc_fs.specs.Paths.{path_cmp, names_in}
use Rattle.inc_fs.specs.State.{listed}
use Rattle.inc_fs.proofs.entries.Entries.listed.Given as goal

abbrev pub invariant-loop-path : goal.invariant-loop-path
invariant-loop-path l = record {
  names : l.names ++ names_in l.krate (keys_of l.path-iterator) ≡ listed l.krate l.self;
  ascend : IsStrictlySortedBy path_cmp (keys_of l.path-iterator);
  from : AllByRecursion (λ path. is_gt (path_cmp (first_path l.krate) path) ≡ false) (keys_of l.path-iterator);
}
