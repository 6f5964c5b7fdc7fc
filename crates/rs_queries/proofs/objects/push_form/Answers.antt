use Rattle.std.proofs.Common.{◌≡◌, ◌++◌, [], None, sym, ◌∙◌, append-nil}
use Rattle.std.specs.Prelude.{slice_get}
use Rattle.std.specs.List.{cons_option}
use Rattle.std.proofs.lemmas.Option.{slice_get_past}
use Rattle.rs_queries.proofs.objects.push_form.Goals as goal

pub returns-in-None : goal.returns-in-None
returns-in-None c =
    let to = c.args.to.now in
    let none : slice_get c.args.forms.now c.args.number ≡ None = slice_get_past c.args.forms.now c.args.number c.in-None.ensures.lookup.3 in
    sym (append-nil to) ∙ (λ j. to ++ cons_option (sym none j) [])
