use Rattle.std.proofs.Common.{◌∙◌, ap}
use Rattle.std.specs.Map.{set_value}
use Rattle.std.specs.BTreeMap.{is_at}
use Rattle.inc_fs.specs.State.{path_cmp, text_cmp, remove_entry}
use Rattle.inc_fs.specs.declared.state.Entry.TheVariants.{LockFile, Folder}
use Rattle.inc_fs.specs.Lookups.{path_cmp_total}
use Rattle.inc_fs.proofs.Tables.{folder_changed}
use Rattle.inc_fs.proofs.Results.{some_same}
use Rattle.inc_fs.proofs.fs.names.remove_name.Goals as goal

pub returns : goal.returns
returns c = λ names is.
    let test = is_at (path_cmp c.args.path.now) in
    c.replace.ensures.rest
    ∙ ap (λ es. set_value test es (Folder c.remove.new.self)) c.take_names-names.ensures.rest
    ∙ ap (λ l. set_value test (set_value test c.args.entries.now (LockFile 0)) (Folder l))
    (c.remove.ensures.rest ∙ ap (remove_entry (is_at (text_cmp c.args.name.now))) (some_same _ c.take_names-names.result names c.take_names-names.ensures.value is))
    ∙ folder_changed path_cmp path_cmp_total c.args.entries.now c.args.path.now names (remove_entry (is_at (text_cmp c.args.name.now)) names) (LockFile 0) c.take_names-names.ensures.ordered is
