use Rattle.std.proofs.Common.{◌≡◌, ◌≢◌, List, length, subst, sym, arith}
use Rattle.std.specs.List.{All}
use Rattle.inc_engine.specs.declared.done.Done.{Done}
use Rattle.inc_engine.proofs.Indexes.{entered, left-out}
use Rattle.inc_engine.proofs.memo.Memo.enter.Goals as goal

pub invariant_of-self-in-Ok : goal.invariant_of-self-in-Ok
invariant_of-self-in-Ok c =
    let memo = c.self.inside.entries.items in
    let long : c.len-place.result ≡ length memo = omega (arith, c.self.inside.entries.ok.0, c.len-place.ensures) in
    let Fresh : List Done → Type 0 = λ m. All (λ (x : Done). x.query ≢ c.args.done.query) m in
    entered memo c.args.done c.in_ok-key.key c.len-place.result c.self.invariant.1 c.in_ok-key.ensures long (omega (arith, c.if-place-ge-MOST.false)) c.in-Ok.ensures.updates (subst Fresh (sym c.self.view_is) c.requires) c.in_ok-push.ensures.items

pub invariant_of-self-in-Err : goal.invariant_of-self-in-Err
invariant_of-self-in-Err c =
    let memo = c.self.inside.entries.items in
    let long : c.len-place.result ≡ length memo = omega (arith, c.self.inside.entries.ok.0, c.len-place.ensures) in
    left-out memo c.args.done c.len-place.result c.self.invariant.1 long (omega (arith, c.if-place-ge-MOST.false)) c.in-Err.ensures.err c.in_ok-push.ensures.items c.truncate.ensures.items
