use Rattle.std.proofs.Common.{◌≡◌, ◌∙◌, ap}
use Rattle.std.specs.Map.{set_value}
use Rattle.std.specs.BTreeMap.{insert_entry, is_at}
use Rattle.inc_fs.specs.State.{path_cmp, text_cmp}
use Rattle.inc_fs.specs.declared.state.Entry.TheVariants.{LockFile, Folder}
use Rattle.inc_fs.specs.Lookups.{path_cmp_total}
use Rattle.inc_fs.proofs.Tables.{folder_put_back, folder_changed}
use Rattle.inc_fs.proofs.Results.{on_ok, on_err, some_same}
use Rattle.inc_fs.proofs.fs.names.insert_name.Goals as goal

-- the entries after the two replacements
change : (c : goal.Joined-replace) → c.replace.new.self ≡ set_value (is_at (path_cmp c.args.path.now)) (set_value (is_at (path_cmp c.args.path.now)) c.args.entries.now (LockFile 0)) (Folder c.insert-inserted.new.self)
change c = c.replace.ensures.rest ∙ ap (λ es. set_value (is_at (path_cmp c.args.path.now)) es (Folder c.insert-inserted.new.self)) c.take_names-names.ensures.rest

pub returns-clause-ok : goal.returns-clause-ok
returns-clause-ok c = on_ok c.insert-inserted.result
    (λ done names is. change c
    ∙ ap (λ l. set_value (is_at (path_cmp c.args.path.now)) (set_value (is_at (path_cmp c.args.path.now)) c.args.entries.now (LockFile 0)) (Folder l))
    (done ∙ ap (λ l. insert_entry text_cmp l c.args.name c.args.number) (some_same _ c.take_names-names.result names c.take_names-names.ensures.value is))
    ∙ folder_changed path_cmp path_cmp_total c.args.entries.now c.args.path.now names (insert_entry text_cmp names c.args.name c.args.number) (LockFile 0) c.take_names-names.ensures.ordered is)
    c.insert-inserted.ensures.ok

pub returns-clause-err : goal.returns-clause-err
returns-clause-err c = on_err c.insert-inserted.result
    (λ kept. change c
    ∙ ap (λ l. set_value (is_at (path_cmp c.args.path.now)) (set_value (is_at (path_cmp c.args.path.now)) c.args.entries.now (LockFile 0)) (Folder l)) kept
    ∙ folder_put_back path_cmp c.args.entries.now c.args.path.now c.take_names-names.result (LockFile 0) c.take_names-names.ensures.value)
    c.insert-inserted.ensures.err
