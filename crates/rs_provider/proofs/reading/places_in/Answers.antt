use Rattle.std.proofs.Common.{sym, ap, ◌∙◌}
use Rattle.rs_plans.specs.Names.{are_places}
use Rattle.rs_plans.specs.Readings.{passed}
use Rattle.rs_provider.proofs.Readings.{places_read, passes, refused}
use Rattle.rs_provider.proofs.reading.places_in.Goals as goal

pub returns-in-None : goal.returns-in-None
returns-in-None c = ap (passed are_places) (sym c.in-None.is) ∙ places_read c.args.value.now _ (rw c.as_slice.ensures.value at c.in_ok-read_places.ensures)

pub returns-in-Ok-true : goal.returns-in-Ok-true
returns-in-Ok-true c =
    sym (passes are_places c.in-Some.places (sym (c.in-Ok-true.ensures {u = tt}) ∙ c.in-Ok-true.field-0-test))
    ∙ ap (passed are_places) (sym c.in-Some.is) ∙ places_read c.args.value.now _ (rw c.as_slice.ensures.value at c.in_ok-read_places.ensures)

pub returns-in-Ok-false : goal.returns-in-Ok-false
returns-in-Ok-false c =
    sym (refused are_places c.in-Some.places (sym (c.in-Ok-false.ensures {u = tt}) ∙ c.in-Ok-false.field-0-test))
    ∙ ap (passed are_places) (sym c.in-Some.is) ∙ places_read c.args.value.now _ (rw c.as_slice.ensures.value at c.in_ok-read_places.ensures)
