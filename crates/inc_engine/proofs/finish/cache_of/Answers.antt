use Rattle.std.proofs.Common.{◌≡◌, false, sym, ◌∙◌, subst}
use Rattle.std.specs.Prelude.{IsTrue}
use Rattle.inc_query.specs.declared.query.Query.{Query}
use Rattle.std.specs.List.{Contains}
use Rattle.inc_engine.specs.Finish.{IsValueOf}
use Rattle.inc_engine.specs.Marking.{asked}
use Rattle.inc_engine.proofs.Lists.{all-at}
use Rattle.inc_engine.proofs.Caches.{cache-none, cache-no, cache-yes, item-at}
use Rattle.inc_engine.proofs.finish.cache_of.Goals.{then-keeps+in_ok-value+in_ok-push, else-keeps}
use Rattle.inc_engine.proofs.finish.cache_of.Goals as goal

pub loop-i-init : goal.loop-i-init
loop-i-init g c = rw c.new-cache.ensures cache-none

pub value_at-requires-clause-asked : goal.value_at-requires-clause-asked
value_at-requires-clause-asked g c = all-at (Contains (asked c.args.memo.now)) c.args.order.now c.loop-i.i c.index-order-i.result c.requires.asked c.loop-i-test.true c.index-order-i.is

pub loop-i-preserved : goal.loop-i-preserved
loop-i-preserved g c =
    let q_is = sym (item-at c.args.order.now c.loop-i.i c.index-order-i.result c.loop-i-test.true c.index-order-i.is) in
    elim c.if-keeps.branch [
      | then-keeps+in_ok-value+in_ok-push w ↦ rw w.cache-is (cache-yes w.in_ok-value.value c.loop-i.invariant (subst (λ (q : Query). IsTrue (g.P.Providers.kept q.kind)) q_is (sym c.keeps.ensures ∙ w.if-keeps.true)) (subst (λ (q : Query). IsValueOf c.args.memo.now q w.in_ok-value.value) q_is w.in_ok-value.ensures) w.in_ok-push.ensures.ok)
      | else-keeps w ↦ rw w.cache-is (cache-no c.loop-i.invariant (subst (λ (q : Query). g.P.Providers.kept q.kind ≡ false) q_is (sym c.keeps.ensures ∙ w.if-keeps.false)))
    ]
