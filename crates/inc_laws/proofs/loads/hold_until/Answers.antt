use Rattle.std.proofs.Common.{◌∙◌, ◌<◌, ap, sym, subst}
use Rattle.std.specs.BTreeMap.{insert_entry}
use Rattle.inc_fs.specs.Paths.{text_cmp}
use Rattle.inc_fs.proofs.Results.{on_ok}
use Rattle.inc_laws.specs.Places.{IsUntil}
use Rattle.inc_laws.proofs.Sought.{until_put}
use Rattle.inc_laws.proofs.loads.hold_until.Goals as goal

pub returns-in_ok-entry : goal.returns-in_ok-entry
returns-in_ok-entry c =
    let until = c.args.until.now in
    let entry = c.args.entry.now in
    let far = c.args.far in
    on_ok c.insert.result
    (λ done. subst (IsUntil entry far until) (sym (done ∙ ap (λ e. insert_entry text_cmp until e far) c.in_ok-entry.ensures))
    (until_put until entry far (subst (λ u. u < far) c.until_of.ensures c.if-until_of-far.true)))
    c.insert.ensures.ok
