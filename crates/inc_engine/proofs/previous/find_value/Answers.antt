use Rattle.std.proofs.Common.{rules, ℕ, List}
use Rattle.std.specs.Cmp.{nat_cmp_total}
use Rattle.std.proofs.lemmas.List.Sorted.{answers_always}
use Rattle.inc_engine.proofs.Searches.{sorted_keys, none-found, found-value}
use Rattle.inc_engine.proofs.previous.find_value.Goals as goal

pub returns-in-Ok-clause-found : goal.returns-in-Ok-clause-found
returns-in-Ok-clause-found c = (
  c.in-Ok.i,
  c.in-Ok.ensures.bound,
  found-value c.args.cache.now c.args.place c.in-Ok.i c.index-cache-i.result c.in-Ok.ensures.bound (c.in-Ok.ensures.position (λ e. e.0) (answers_always _ _ _ (λ f a r g called. search rules))),
)

pub returns-in-Err-clause-none : goal.returns-in-Err-clause-none
returns-in-Err-clause-none c =
    none-found nat_cmp_total (λ (e : ℕ × List ℕ). e.0) c.args.cache.now c.args.place c.in-Err.field-0 (sorted_keys nat_cmp_total (λ (e : ℕ × List ℕ). e.0) c.args.cache.now c.requires) (c.in-Err.ensures.position (λ e. e.0) (answers_always _ _ _ (λ f a r g called. search rules)))
