use Rattle.std.proofs.Common.{sym, ap, ◌∙◌}
use Rattle.rs_plans.specs.Readings.{has_labels, passed}
use Rattle.rs_provider.proofs.Readings.{ir_read, passes, refused}
use Rattle.rs_provider.proofs.reading.ir_in.Goals as goal

pub returns-in-None : goal.returns-in-None
returns-in-None c = ap (passed has_labels) (sym c.in-None.is) ∙ ir_read c.args.value.now _ (rw c.as_slice.ensures.value at c.in_ok-read_ir.ensures)

pub returns-in-Ok-true : goal.returns-in-Ok-true
returns-in-Ok-true c =
    sym (passes has_labels c.in-Some.ir (sym (c.in-Ok-true.ensures {u = tt}) ∙ c.in-Ok-true.field-0-test))
    ∙ ap (passed has_labels) (sym c.in-Some.is) ∙ ir_read c.args.value.now _ (rw c.as_slice.ensures.value at c.in_ok-read_ir.ensures)

pub returns-in-Ok-false : goal.returns-in-Ok-false
returns-in-Ok-false c =
    sym (refused has_labels c.in-Some.ir (sym (c.in-Ok-false.ensures {u = tt}) ∙ c.in-Ok-false.field-0-test))
    ∙ ap (passed has_labels) (sym c.in-Some.is) ∙ ir_read c.args.value.now _ (rw c.as_slice.ensures.value at c.in_ok-read_ir.ensures)
