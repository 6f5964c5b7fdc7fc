use Rattle.std.proofs.Common.{◌∙◌, ap, sym}
use Rattle.std.specs.Map.{set_value}
use Rattle.std.specs.BTreeMap.{is_at}
use Rattle.inc_fs.specs.Paths.{text_cmp}
use Rattle.inc_fs.proofs.Results.{on_ok}
use Rattle.inc_fs.proofs.Tables.{set_value-none, set_value-set_value}
use Rattle.inc_proto.specs.Views.{put}
use Rattle.inc_proto.specs.OwnDirs.{change_by}
use Rattle.inc_proto.proofs.own_dir.change_at.Goals as goal

pub returns-in-None : goal.returns-in-None
returns-in-None c =
    let file = c.args.file.now in
    let files = c.args.files.now in
    let none = sym c.replace.ensures.value ∙ c.in-None.is in
    c.replace.ensures.rest ∙ set_value-none (is_at (text_cmp file)) files _ none ∙ ap (λ found. put file (change_by c.args.by) found files) (sym none)

pub returns-in-Some : goal.returns-in-Some
returns-in-Some c =
    let file = c.args.file.now in
    let files = c.args.files.now in
    let at = is_at (text_cmp file) in
    let some = sym c.replace.ensures.value ∙ c.in-Some.is in
    on_ok c.change_known-done.result
    (λ done. c.replace-in-Some.ensures.rest ∙ ap (λ fs. set_value at fs c.change_known-done.new.known) c.replace.ensures.rest ∙ set_value-set_value at files _ _
    ∙ ap (set_value at files) done ∙ ap (λ found. put file (change_by c.args.by) found files) (sym some))
    c.change_known-done.ensures.ok
