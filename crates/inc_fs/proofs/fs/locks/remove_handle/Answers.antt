use Rattle.std.proofs.Common.{◌≡◌, ◌∙◌, None}
use Rattle.std.specs.Map.{lookup, remove_entry}
use Rattle.std.specs.BTreeMap.{is_at}
use Rattle.std.specs.Ordering.{nat_cmp}
use Rattle.inc_fs.proofs.Tables.{remove_entry-first}
use Rattle.inc_fs.proofs.fs.locks.remove_handle.Goals as goal

pub returns : goal.returns
returns c =
    let test = is_at (nat_cmp c.args.handle) in
    let gone : lookup test (remove_entry test c.args.handles.now.entries) ≡ None = rw c.remove.ensures.entries at c.remove.ensures.updates.1 in
    c.remove.ensures.entries ∙ remove_entry-first test c.args.handles.now.entries gone
