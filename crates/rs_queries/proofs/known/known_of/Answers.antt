use Rattle.std.proofs.Common.{ap, map, subst, ◌∙◌}
use Rattle.std.specs.List.{filter_map}
use Rattle.rs_const.specs.Constants.{AreValues}
use Rattle.rs_queries.specs.Known.{answered, entry_of, sig_of}
use Rattle.rs_queries.proofs.known.known_of.Goals as goal

pub returns : goal.returns
returns c =
    let names = c.in_ok-names.ensures in
    let answers = c.in_ok-answered.ensures ∙ ap (λ items. map (answered items) c.args.placed.now) names in
    record {
      answers = answers;
      sigs = c.in_ok-sigs.ensures ∙ ap (λ items. map (sig_of items) c.args.placed.now) names;
      constants = c.in_ok-constants.ensures ∙ ap (filter_map entry_of) (c.deref.ensures.value ∙ answers);
      values = subst (λ es. AreValues es c.in_ok-values.values.items) c.as_slice.ensures.value c.in_ok-values.ensures;
    }
