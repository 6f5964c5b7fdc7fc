use Rattle.std.proofs.Common.{◌≡◌, ℕ, ◌+◌, ◌<◌, List, [], ◌∷◌, ◌++◌, length, get_or, take, sym, ap, ◌∙◌}
use Rattle.std.specs.Prelude.{slice_get}
use Rattle.std.specs.List.{cons_option, filter_map}
use Rattle.std.proofs.lemmas.List.{take_more}
use Rattle.std.proofs.lemmas.List.Elements.{filter_map-append}
use Rattle.rs_queries.proofs.objects.forms_at.Goals as goal

more : {Y : Type 0} (forms : List Y) (ns : List ℕ) (i : ℕ) (fs gs : List Y) → i < length ns → gs ≡ fs ++ cons_option (slice_get forms (get_or ns i 0)) []
    → fs ≡ filter_map (slice_get forms) (take i ns) → gs ≡ filter_map (slice_get forms) (take (i + 1) ns)
more forms ns i fs gs l is was =
    is ∙ ap (λ xs. xs ++ cons_option (slice_get forms (get_or ns i 0)) []) was
    ∙ sym (ap (filter_map (slice_get forms)) (take_more ns i 0 l) ∙ filter_map-append (slice_get forms) (take i ns) (get_or ns i 0 ∷ []))

pub loop-number-preserved : goal.loop-number-preserved
loop-number-preserved c =
    more c.args.forms.now c.args.numbers.now c.loop-number.number-index c.loop-number.found c.push_form.new.to c.loop-number-test.true (c.in_ok-push_form.ensures {u = tt}) c.loop-number.invariant
