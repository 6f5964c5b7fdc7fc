use Rattle.std.proofs.Common.{sym, ap, ◌∙◌}
use Rattle.rs_plans.specs.Readings.{item_of}
use Rattle.rs_provider.proofs.Readings.{has_fault, has_tree, lexed_is, not_lexed, told_refused}
use Rattle.rs_provider.proofs.reading.item_of.Goals as goal

pub returns-then-not-are_lexed : goal.returns-then-not-are_lexed
returns-then-not-are_lexed c =
    not_lexed _ (sym c.if-not-are_lexed.true ∙ lexed_is c.are_lexed.result c.as_slice-tokens.result.now c.are_lexed.ensures) ∙ ap item_of c.as_slice-tokens.ensures.value

pub returns-in-Ok : goal.returns-in-Ok
returns-in-Ok c =
    c.one_item.ensures ∙ has_tree c.as_slice-tokens.result.now c.in-Ok.tree (sym c.if-not-are_lexed.false ∙ lexed_is c.are_lexed.result c.as_slice-tokens.result.now c.are_lexed.ensures) (c.in-Ok.ensures {u = tt}).tree ∙ ap item_of c.as_slice-tokens.ensures.value

pub returns-in-Err : goal.returns-in-Err
returns-in-Err c =
    told_refused c.refused.result (item_of c.args.tokens.now) c.in-Err.fault c.refused.ensures.none c.refused.ensures.fault
    (λ other. has_fault c.as_slice-tokens.result.now c.in-Err.fault (sym c.if-not-are_lexed.false ∙ lexed_is c.are_lexed.result c.as_slice-tokens.result.now c.are_lexed.ensures) (c.in-Err.ensures {u = tt}).fault other ∙ ap item_of c.as_slice-tokens.ensures.value)
