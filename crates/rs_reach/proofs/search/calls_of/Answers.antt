use Rattle.std.proofs.Common.{◌≡◌, Some, ap, sym, ◌∙◌}
use Rattle.std.specs.Prelude.{slice_get}
use Rattle.std.specs.Option.{option_map}
use Rattle.std.proofs.lemmas.Option.{slice_get_past}
use Rattle.rs_lookup.specs.Keys.{plain}
use Rattle.rs_lookup.specs.Places.{place_from}
use Rattle.rs_reach.specs.Places.{numbers, call_names}
use Rattle.rs_reach.proofs.Numbers.{asked_calls, got}
use Rattle.rs_reach.proofs.search.calls_of.Goals as goal

pub returns-in_default-get : goal.returns-in_default-get
returns-in_default-get c =
    let names = c.args.places.now in
    let calls = c.args.calls.now in
    let key : slice_get names c.in-Some.item ≡ Some (plain c.in-Some-key.key) = sym c.key.ensures ∙ ap (option_map plain) c.in-Some-key.is in
    let at : Some c.in-Some-find.at ≡ place_from (plain c.in-Some-key.key) 0 (call_names calls) = sym c.in-Some-find.is ∙ c.find.ensures ∙ ap (place_from (plain c.in-Some-key.key) 0) c.requires in
    sym (asked_calls names calls c.args.item c.in-Some.item c.in-Some-find.at (plain c.in-Some-key.key) _ c.in-Some.is key at (slice_get_past calls c.in-Some-find.at c.in_default-get.ensures.lookup.3))

pub returns : goal.returns
returns c =
    let names = c.args.places.now in
    let calls = c.args.calls.now in
    let entry = c.in-Some-get.ensures.lookup.3 in
    let key : slice_get names c.in-Some.item ≡ Some (plain c.in-Some-key.key) = sym c.key.ensures ∙ ap (option_map plain) c.in-Some-key.is in
    let at : Some c.in-Some-find.at ≡ place_from (plain c.in-Some-key.key) 0 (call_names calls) = sym c.in-Some-find.is ∙ c.find.ensures ∙ ap (place_from (plain c.in-Some-key.key) 0) c.requires in
    ap Some (c.in_ok-numbers_of.ensures ∙ ap (numbers names) c.as_slice.ensures.value)
    ∙ sym (asked_calls names calls c.args.item c.in-Some.item c.in-Some-find.at (plain c.in-Some-key.key) _ c.in-Some.is key at (got calls c.in-Some-find.at c.in-Some-get.entry.now entry.0 entry.1))
