use Rattle.std.proofs.Common.{◌<◌, length, get_or, ap, sym, subst, ◌∙◌, arith}
use Rattle.std.specs.Prelude.{slice_get}
use Rattle.std.proofs.lemmas.List.{length-map}
use Rattle.std.proofs.lemmas.Option.{slice_get-get_or}
use Rattle.rs_tree.specs.declared.answers.Const.TheVariants.{Bad}
use Rattle.rs_lookup.specs.Places.{place_name, place_from}
use Rattle.rs_const.specs.Constants.{Entry, names, IsValue, AreValues}
use Rattle.rs_const.proofs.Lists.{place_below}
use Rattle.rs_const.proofs.value.const_value.Goals as goal

pub returns : goal.returns
returns c =
    let known = c.args.known.now in
    let values = c.in_ok-values.values.items in
    let are = subst (λ k. AreValues k values) c.as_slice.ensures.value c.in_ok-values.ensures in
    let its = c.in_ok-places.ensures ∙ ap names c.as_slice-2.ensures.value in
    let found = c.find-found.ensures ∙ (λ j. place_from (c.as_slice-3.ensures.value j, c.as_slice-4.ensures.value j) 0 (its j)) in
    record {
      value = λ i is.
          (let below = place_below (place_name c.args.at.now) 0 (names known) i is in
          let inside : i < length values = omega (arith, below, are.all, length-map known (λ (e : Entry). place_name e.0)) in
          let here = slice_get-get_or values i Bad inside in
          subst (IsValue known i) (sym (c.value_at.ensures.known i (get_or values i Bad) (found ∙ is) (ap (λ vs. slice_get vs i) c.deref.ensures.value ∙ here))) (are.each i (get_or values i Bad) here));
      unknown = λ none. c.value_at.ensures.unknown (found ∙ none);
    }
