use Rattle.std.proofs.Common.{◌≡◌, map, drop}
use Rattle.std.specs.Borrow.{Bor}
use Rattle.rs_tree.specs.declared.tree.Path as path
use Rattle.rs_names.specs.State.{told_all}
use Rattle.rs_names.proofs.resolve.Resolver.expression.Given as goal

abbrev pub invariant-loop-path : goal.invariant-loop-path
invariant-loop-path l = told_all (map (λ (x : Bor path.Path). x.now) (drop l.path-index l.path-items)) l.self ≡ told_all (map (λ (x : Bor path.Path). x.now) l.path-items) l.fn.self
