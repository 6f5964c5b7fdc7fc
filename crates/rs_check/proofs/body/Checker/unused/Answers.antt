use Rattle.std.proofs.Common.{◌≡◌, ◌<◌, false, length, arith, ap, ◌∙◌}
use Rattle.std.proofs.lemmas.List.{get_or_read}
use Rattle.std.specs.Prelude.{nat_eq, slice_get}
use Rattle.std.specs.List.{list_any}
use Rattle.rs_check.specs.State.{said, unread_at}
use Rattle.rs_check.proofs.Marks.{unused_next}
use Rattle.rs_check.proofs.body.Checker.unused.Goals as goal

pub loop-number-preserved : goal.loop-number-preserved
loop-number-preserved c =
    let start = c.args.self.now in
    let i = c.loop-number.number in
    let mark = c.index.result.now in
    let s = c.loop-number.self in
    let s2 = c.unread_at.new.self in
    let same : s.declared ≡ start.declared = c.loop-number.invariant.1 in
    let h : i < length start.declared = omega arith in
    let marks = c.in_ok-read.ensures.marks i h in
    let em : mark ≡ list_any (nat_eq i) start.typer.reads = get_or_read c.in_ok-read.read.items _ _ (omega (arith, c.in_ok-read.ensures.length)) c.index.ensures false ∙ marks in
    let e2 : s2 ≡ said (unread_at mark (slice_get start.declared i)) s = (c.in_ok-unread_at.ensures {u = tt}) ∙ ap (λ ds. said (unread_at mark (slice_get ds i)) s) same in
    (unused_next start.typer.reads start.declared i mark s s2 _ h em e2 c.loop-number.invariant.0, ap (λ t. t.declared) e2 ∙ same)
