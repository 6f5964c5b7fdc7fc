use Rattle.std.proofs.Common.{◌≡◌, ◌∙◌, ap, None}
use Rattle.std.specs.Map.{lookup, remove_entry}
use Rattle.std.specs.BTreeMap.{is_at}
use Rattle.inc_fs.proofs.Tables.{remove_entry-first}
use Rattle.inc_fs.specs.Lists.{remove_entry as remove_all}
use Rattle.inc_fs.proofs.table.Table.remove.Goals as goal

pub returns-clause-rest : goal.returns-clause-rest
returns-clause-rest g c =
    let test = is_at (g.K.Ord.cmp c.args.key.now) in
    let gone : lookup test (remove_entry test c.self.inside.pairs.entries) ≡ None = rw c.remove.ensures.entries at c.remove.ensures.updates.1 in
    c.remove.ensures.entries ∙ remove_entry-first test c.self.inside.pairs.entries gone ∙ ap (remove_all test) c.self.view_is
