use Rattle.std.proofs.Common.{nat_eq, ap, sym, ◌∙◌}
use Rattle.std.specs.List.{list_any}
use Rattle.std.proofs.lemmas.Cmp.{nat_eq_equiv}
use Rattle.std.proofs.lemmas.Map.Views.{Contains-from_any, list_any-from_Contains, exact_unsigned_eq}
use Rattle.rs_reach.proofs.cycles.is_in_cycle.Goals as goal

pub returns : goal.returns
returns c =
    let at = c.args.at in
    let same = c.has.ensures ∙ ap (list_any (nat_eq at)) c.deref.ensures.value in
    let exact = c.in_ok-found.ensures at in
    (λ t. exact.0 (Contains-from_any {eq = nat_eq} exact_unsigned_eq at c.in_ok-found.found.items (sym same ∙ t)), λ h. same ∙ list_any-from_Contains nat_eq_equiv at c.in_ok-found.found.items (exact.1 h))
