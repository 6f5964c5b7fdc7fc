use Rattle.std.proofs.Common.{ap, ◌∙◌, fold, arith}
use Rattle.std.specs.Prelude.{option_and_then, slice_get}
use Rattle.rs_lookup.specs.Places.{place_from}
use Rattle.rs_lines.specs.Lines.{note}
use Rattle.rs_const.specs.Constants.{names}
use Rattle.rs_queries.specs.Diagnosed.{item_lines}
use Rattle.rs_queries.specs.Known.{Answered, place_of, value_at}
use Rattle.rs_queries.proofs.Tellings.{tells_more}
use Rattle.rs_queries.proofs.own.tell_items.Goals as goal

pub loop-one-preserved : goal.loop-one-preserved
loop-one-preserved c =
    let known = c.args.known.now in
    let items = c.args.names.now in
    let now = c.loop-one.lines in
    let one = c.one-item.result in
    let places = c.in_ok-places.ensures ∙ ap names c.as_slice-2.ensures.value in
    let value = c.value_at-value.ensures ∙ (λ j. option_and_then (slice_get (c.deref.ensures.value j)) (place_from (c.key.ensures j) 0 (places j))) in
    let sigs = c.in_ok-sigs.ensures ∙ c.as_slice.ensures.value in
    tells_more (λ (a : Answered). item_lines items known.sigs (value_at known.constants known.values.items (place_of a.0)) a) c.deref-one-items.result.now
    c.loop-one.one-index one c.args.lines.now now c.tell_item.new.lines (omega arith) c.one-item.is c.loop-one.invariant
    (c.in_ok-tell_item.ensures ∙ (λ j. fold note now (item_lines items (sigs j) (value j) one)))
