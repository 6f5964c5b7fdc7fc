use Rattle.std.proofs.Common.{sym, subst, IfSome, rules}
use Rattle.std.specs.Map.{lookup}
use Rattle.std.specs.BTreeMap.{is_at}
use Rattle.inc_fs.specs.Paths.{path_cmp}
use Rattle.inc_names.specs.Entries.{IsSessionName}
use Rattle.inc_proto.specs.Lefts.{IsLeft}
use Rattle.inc_proto.proofs.Remaining.{clear_since}
use Rattle.inc_proto.proofs.index.Index.last_clear.Goals as goal

pub returns-then-is_empty : goal.returns-then-is_empty
returns-then-is_empty c = λ steps index after before split le.
    let krate = c.args.krate.now in
    let n = c.args.n in
    let named : IsSessionName n = search rules in
    let found = c.in-Some.ensures in
    let none = c.is_empty.ensures.0 c.if-is_empty.true in
    let it = subst (λ p. IfSome (lookup (is_at (path_cmp p)) c.args.self.now.left) (IsLeft krate n steps)) (sym c.in_ok-path.ensures) (index.left krate n named) in
    clear_since krate n steps c.in-Some.left.now (subst (λ o. IfSome o (IsLeft krate n steps)) (sym found) it) none after before split le
