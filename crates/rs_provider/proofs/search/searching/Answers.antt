use Rattle.std.proofs.Common.{ap, subst, sym, ◌∙◌}
use Rattle.std.proofs.Math.Logic.{∥∥₁_map}
use Rattle.rs_tree.specs.declared.index.Index.{Index}
use Rattle.rs_provider.specs.Searches.{IsThere, next_by}
use Rattle.rs_provider.proofs.Going.{asks_next}
use Rattle.rs_provider.proofs.search.searching.Goals as goal

pub invariant_of-result : goal.invariant_of-result
invariant_of-result c =
    let a = c.args in
    let same = c.index.ensures ∙ c.as_ref.ensures in
    let there = subst (λ (i : Index). ∥ IsThere a.search i.items a.calls a.walk ∥₁) (sym same) c.requires in
    let wanted = sym c.in-Ok-Some.field-0-is ∙ c.in-Ok-Some.ensures {u = tt} a.search a.calls there ∙ ap (λ (i : Index). next_by a.search i a.calls a.left) same in
    record { is = ∥∥₁_map c.requires (λ t. record { there = t; asks = asks_next a.search a.index.value a.calls a.left c.in-Ok-Some.wanted wanted }) }
