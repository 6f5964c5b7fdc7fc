use Rattle.std.proofs.Common.{◌∙◌}
use Rattle.std.specs.Prelude.{slice_get, option_and_then}
use Rattle.std.specs.Option.{option_map_or}
use Rattle.rs_tree.specs.declared.answers.Const.TheVariants.{Bad}
use Rattle.rs_lookup.specs.Places.{place_from}
use Rattle.rs_provider.proofs.Worths.{worth_is}
use Rattle.rs_provider.proofs.worth.const_at.Goals as goal

pub returns : goal.returns
returns c =
    c.value_at.ensures
    ∙ (λ i. option_map_or (λ v. v) (option_and_then (slice_get (c.deref.ensures.value i)) (c.find-number.ensures i)) Bad)
    ∙ (λ i. option_map_or (λ v. v) (option_and_then (slice_get c.in_ok-values.values.items) (place_from (c.as_slice.ensures.value i, c.as_slice-2.ensures.value i) 0 (c.in_ok-places.ensures i))) Bad)
    ∙ worth_is c.args.known.now c.in_ok-values.values.items c.args.at.now c.in_ok-values.ensures
