use Rattle.std.proofs.Common.{◌≡◌, set, Some, ap, sym, ◌∙◌}
use Rattle.rs_tree.specs.Plain.{definition}
use Rattle.rs_const.specs.Constants.{given_by, worth}
use Rattle.rs_const.specs.State.{number_at}
use Rattle.rs_const.proofs.Lists.{got}
use Rattle.rs_const.proofs.settle.settle.Goals as goal

pub returns : goal.returns
returns c = λ e is inside.
    (let known = c.args.known.now in
    let entry = c.in-Some.entry.now in
    let l = c.in-Some.ensures.lookup.3 in
    let both : Some entry ≡ Some e = sym (got known c.args.at entry l.0 l.1) ∙ is in
    let same : entry ≡ e = cc in
    c.put.ensures inside
    ∙ ap (λ v. set c.args.values.now.items c.args.at (Some v))
    (c.in_ok-value.ensures
    ∙ (λ j. worth (c.requires.sigs j) (definition (same j).1.body) (same j).2 (given_by (number_at (c.deref.ensures.value j)) (c.requires.places j) (same j).2))))
