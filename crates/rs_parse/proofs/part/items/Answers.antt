use Rattle.std.proofs.Common.{sym, ap, ◌∙◌}
use Rattle.rs_grammar.specs.declared.sited.Sited.{Sited}
use Rattle.rs_parse.specs.Building.{with_item}
use Rattle.rs_parse.proofs.Adds.{add_passes, add_turns_more, add_turns_fail, add_turns_end, items_more}
use Rattle.rs_parse.proofs.part.items.Goals as goal

pub returns-in_err-sited : goal.returns-in_err-sited
returns-in_err-sited c = add_passes c.in_err-sited.field-0.0 c.from_residual.result c.from_residual.ensures.1 c.in_err-sited.ensures (λ r. add_turns_fail c.turns.invariant (sym c.turns-test.ensures) r)

pub turns-preserved : goal.turns-preserved
turns-preserved c = add_turns_more c.turns.invariant (sym c.turns-test.ensures) c.in_ok-sited.ensures.is
    (let s : Sited = c.in_ok-sited.sited in
    c.in_ok-add_item.ensures ∙ ap (λ b. with_item c.args.name.now b s) c.turns.invariant.built ∙ sym (items_more c.args.name.now c.args.into.now c.turns.invariant.done s))

pub returns : goal.returns
returns c = add_turns_end c.turns.invariant (sym c.turns-test.ensures)
