use Rattle.std.proofs.Common.{List, ap, sym, ◌∙◌}
use Rattle.std.specs.Prelude.{option_and_then}
use Rattle.std.specs.Coded.{Coded-set, coded_option}
use Rattle.std.proofs.Math.Logic.{∥∥₁_elim}
use Rattle.std.proofs.lemmas.Result.{IfOk-weaker}
use Rattle.rs_tree.specs.contracts.place.Place as row
use Rattle.rs_tree.specs.declared.index.IndexItem.{IndexItem}
use Rattle.rs_units.specs.Members.{place_numbered}
use Rattle.rs_provider.specs.Searches.{next_by}
use Rattle.rs_provider.proofs.Going.{next_one}
use Rattle.rs_provider.proofs.Searched.{wanted_is}
use Rattle.rs_provider.proofs.search.next.Goals as goal

pub returns-then-left-eq0 : goal.returns-then-left-eq0
returns-then-left-eq0 c = λ s calls there. sym (ap (next_by s c.args.index.now calls) c.if-left-eq0.true)

pub returns : goal.returns
returns c =
    let index = c.args.index.now in
    IfOk-weaker c.place_at.result _ _
    (λ p is s calls there. ∥∥₁_elim there (Coded-set (coded_option row.the_row.coded) _ _)
    (λ t.
    is ∙ ap (λ (xs : List IndexItem). option_and_then (place_numbered xs) c.next.result) c.as_slice.ensures.value
    ∙ ap (option_and_then (place_numbered index.items)) c.next.ensures
    ∙ wanted_is s index calls c.args.walk.now t ∙ next_one s index calls c.args.left c.if-left-eq0.false)) c.place_at.ensures
