use Rattle.std.proofs.Common.{sym, ap, ◌∙◌}
use Rattle.rs_parse.specs.Building.{with_section}
use Rattle.rs_parse.proofs.Adds.{add_passes_on, add_turns_more, add_turns_fail, add_turns_end, sections_more}
use Rattle.rs_parse.proofs.part.parts.Goals as goal

pub returns-in_err-part : goal.returns-in_err-part
returns-in_err-part c = add_passes_on c.in_err-part.field-0.0 c.from_residual.result c.from_residual.ensures.1 c.in_err-part.ensures (λ r. add_turns_fail c.turns.invariant (sym c.turns-test.ensures) r)

pub turns-preserved : goal.turns-preserved
turns-preserved c = add_turns_more c.turns.invariant (sym c.turns-test.ensures) c.in_ok-part.ensures.is.1
    (c.in_ok-part.ensures.is.2 ∙ ap (λ b. with_section b c.in_ok-part.ensures.is.0) c.turns.invariant.built ∙ sym (sections_more c.args.into.now c.turns.invariant.done c.in_ok-part.ensures.is.0))

pub returns : goal.returns
returns c = add_turns_end c.turns.invariant (sym c.turns-test.ensures)
