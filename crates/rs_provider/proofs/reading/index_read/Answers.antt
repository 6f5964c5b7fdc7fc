use Rattle.std.proofs.Common.{sym, ap, ◌∙◌}
use Rattle.std.specs.Prelude.{Some}
use Rattle.rs_plans.specs.Names.{is_index}
use Rattle.rs_plans.specs.Readings.{index_in, passed}
use Rattle.rs_provider.proofs.Readings.{index_read, passes, refused}
use Rattle.rs_provider.proofs.reading.index_read.Goals as goal

pub returns-in-None : goal.returns-in-None
returns-in-None c = ap (passed is_index) (sym c.in-None.is) ∙ index_read c.args.value.now _ (rw c.as_slice.ensures.value at c.in_ok-read_index.ensures)

pub returns-in_ok-bytes-in-Some : goal.returns-in_ok-bytes-in-Some
returns-in_ok-bytes-in-Some c =
    ap Some (c.in_ok-index-in-Some.ensures ∙ c.in_ok-of-in-Some.ensures) ∙ sym (passes is_index c.in-Some.index (sym c.is_index.ensures ∙ c.if-is_index.true))
    ∙ ap (passed is_index) (sym c.in-Some.is) ∙ index_read c.args.value.now _ (rw c.as_slice.ensures.value at c.in_ok-read_index.ensures)

pub returns-else-is_index : goal.returns-else-is_index
returns-else-is_index c =
    sym (refused is_index c.in-Some.index (sym c.is_index.ensures ∙ c.if-is_index.false))
    ∙ ap (passed is_index) (sym c.in-Some.is) ∙ index_read c.args.value.now _ (rw c.as_slice.ensures.value at c.in_ok-read_index.ensures)

pub invariant_of-result : goal.invariant_of-result
invariant_of-result c = record {
  is = ∣ ap Some (c.in_ok-index-in-Some.ensures {u = tt} ∙ c.in_ok-of-in-Some.ensures {u = tt}) ∙ sym (passes is_index c.in-Some.index (sym c.is_index.ensures ∙ c.if-is_index.true))
      ∙ ap (passed is_index) (sym c.in-Some.is) ∙ index_read c.args.value.now _ (rw c.as_slice.ensures.value at c.in_ok-read_index.ensures) ∙ ap index_in (sym (c.in_ok-bytes-in-Some.ensures {u = tt})) ∣₁;
}
