use Rattle.std.proofs.Common.{ap, length, ◌∙◌, List, ℕ}
use Rattle.std.specs.List.{list_any}
use Rattle.rs_reach.specs.Cycles.{is_own}
use Rattle.rs_reach.proofs.Round.{named_at, own_cycle}
use Rattle.rs_reach.proofs.cycles.is_cyclic.Goals as goal

pub returns-then-sorted : goal.returns-then-sorted
returns-then-sorted c = λ entered into sound.
    (let its = c.args.names.now in
    let classes = c.args.classes.now in
    let at = c.args.at in
    own_cycle its classes entered into (sound c.if-sorted.true) at c.index-names-at.result.items c.has_own.result (named_at its at c.index-names-at.result c.requires c.index-names-at.is)
    (c.has_own.ensures ∙ ap (λ (xs : List ℕ). list_any (is_own (length its) classes at) xs) c.deref.ensures.value))
