use Rattle.std.proofs.Common.{◌≡◌, ℕ, ◌+◌, ◌-◌, drop, ap, ◌∙◌, subst, arith}
use Rattle.std.specs.Prelude.{unwrap_or}
use Rattle.std.proofs.lemmas.List.{length-drop}
use Rattle.rs_tree.specs.Labels.{count_of_places}
use Rattle.rs_provider.specs.Counts.{AreCounted}
use Rattle.rs_provider.proofs.Counting.{count-le, other_counted}
use Rattle.rs_provider.proofs.labels.counts_of.Goals as goal

pub overflow_add-more : goal.overflow_add-more
overflow_add-more c =
    let rest = drop c.loop-i.i c.args.code.now in
    let is : c.unwrap_or-more.result ≡ count_of_places c.in-Label.label rest = c.unwrap_or-more.ensures ∙ ap (λ o. unwrap_or o 0) (c.copied.ensures ∙ c.get.ensures.value) ∙ c.loop-i.invariant.each c.in-Label.label in
    omega (arith, is, count-le c.in-Label.label rest, length-drop c.loop-i.i c.args.code.now)

pub loop-i-preserved : goal.loop-i-preserved
loop-i-preserved c =
    let code = c.args.code.now in
    let P : ℕ → Type 0 = λ k. AreCounted c.loop-i.counts (drop k code) in
    let at : c.loop-i.i ≡ (c.loop-i.i - 1) + 1 = omega arith in
    other_counted c.loop-i.counts code (c.loop-i.i - 1) c.index-code-i.result (omega arith) c.index-code-i.is c.in_default.not-Label (subst P at c.loop-i.invariant)
