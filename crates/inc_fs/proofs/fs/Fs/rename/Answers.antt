use Rattle.std.proofs.Common.{rules, ◌≡◌, None, IsSome}
use Rattle.std.specs.BTreeMap.{insert_entry}
use Rattle.inc_fs.specs.Lists.{below}
use Rattle.inc_fs.specs.State.{path_cmp, folder_at, entry_at}
use Rattle.inc_fs.specs.declared.state.Entry.TheVariants.{LockFile}
use Rattle.inc_fs.proofs.Renaming.{renamed}
use Rattle.inc_fs.proofs.fs.Fs.rename.Goals as goal

pub returns-clause-renames : goal.returns-clause-renames
returns-clause-renames c =
    let stands : IsSome (folder_at c.args.self.now c.args.krate.now c.args.from.now) = search rules in
    let free : entry_at c.args.self.now c.args.krate.now c.args.to.now ≡ None = search rules in
    let room : c.insert.new.self ≡ insert_entry path_cmp c.self.inside.entries (c.args.krate.now, c.args.to.now) (LockFile 0) = search rules in
    let puts = rw (room, c.in_ok-from.ensures, c.in_ok-to.ensures) at c.move_entry.ensures in
    rw (← c.self.view_is) (renamed
    (record { files = c.self.inside.files.items; entries = c.self.inside.entries; handles = c.self.inside.handles.entries; given = below c.self.inside.given; drawn = c.self.inside.drawn })
    c.args.krate.now c.args.from.now c.args.to.now (LockFile 0) c.move_entry.new.entries (rw (← c.self.view_is) at stands) (rw (← c.self.view_is) at free) puts)
