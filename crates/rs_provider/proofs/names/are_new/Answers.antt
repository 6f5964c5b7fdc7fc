use Rattle.std.proofs.Common.{sym, ◌∙◌, arith}
use Rattle.rs_provider.proofs.News.{all_new, new_more, not_new}
use Rattle.rs_provider.proofs.names.are_new.Goals as goal

pub returns-then-not-branch : goal.returns-then-not-branch
returns-then-not-branch c =
    not_new c.loop-place.seen c.args.places.now c.loop-place.place-index c.place-item.result c.loop-place.invariant c.loop-place-test.true c.place-item.is (sym (c.in_ok-add.ensures {u = tt}).new ∙ c.if-not-branch.true)

pub loop-place-preserved : goal.loop-place-preserved
loop-place-preserved c =
    new_more c.loop-place.seen c.add.new.self c.args.places.now c.loop-place.place-index c.place-item.result c.loop-place.invariant c.loop-place-test.true c.place-item.is
    (sym (c.in_ok-add.ensures {u = tt}).new ∙ c.if-not-branch.false) (c.in_ok-add.ensures {u = tt}).more

pub returns : goal.returns
returns c = all_new c.loop-place.seen c.args.places.now c.loop-place.place-index c.loop-place.invariant (omega arith)
