-- The session's own directory as two folds: where it is, and which files it has.
use Rattle.std.specs.Prelude.{List, [], if◌then◌else◌, Some, None}
use Rattle.std.specs.BTreeMap.{insert_entry, is_at}
use Rattle.inc_fs.specs.Lists.{remove_entry}
use Rattle.inc_fs.specs.Paths.{Text, text_cmp}
use Rattle.inc_fs.specs.declared.op.Op.{Op}
use Rattle.inc_fs.specs.declared.op.Op.TheVariants.{MakeDir, Link, Read, Create, Append, Unlink, RemoveDir, Rename}
use Rattle.inc_fs.specs.declared.op.Reply.{Reply}
use Rattle.inc_fs.specs.declared.op.Reply.TheVariants.{Bytes, Done, Fault}
use Rattle.inc_proto.specs.declared.own.Known.{Known}
use Rattle.inc_proto.specs.declared.own_dir.Site.{Site}
use Rattle.inc_proto.specs.declared.own_dir.Site.TheVariants.{Nowhere, At, Gone, Out}
use Rattle.inc_proto.specs.declared.own_dir.Change.{Change}
use Rattle.inc_proto.specs.declared.own_dir.Change.TheVariants.{Appended, Forgotten, Read as ReadAs}
use Rattle.inc_proto.specs.Views.{Dir, changed, appended, forgotten, read_as, is_here}
use Rattle.inc_proto.specs.Views.Dir.{Unmade, Stands, Removed, Published}

-- the directory that a site and its files are
abbrev pub dir_of : Site → List (Text × Known) → Dir
dir_of Nowhere files = Unmade
dir_of (At krate entry) files = Stands krate entry files
dir_of Gone files = Removed
dir_of (Out krate entry) files = Published krate entry files

abbrev pub made_site : Op × Reply → Site
made_site (MakeDir krate entry, Done) = At krate entry
made_site step = Nowhere

abbrev pub left_site : Op × Reply → Text → Text → Site
left_site (RemoveDir k e, Done) krate entry = if is_here krate entry k e then Gone else At krate entry
left_site (Rename k from to, Done) krate entry = if is_here krate entry k from then Out k to else At krate entry
left_site step krate entry = At krate entry

-- where it is after a step
abbrev pub next_site : Op × Reply → Site → Site
next_site step Nowhere = made_site step
next_site step (At krate entry) = left_site step krate entry
next_site step Gone = Gone
next_site step (Out krate entry) = Out krate entry

abbrev pub files_in : Op × Reply → Text → Text → List (Text × Known) → List (Text × Known)
files_in (Link k from to file, Done) krate entry files = insert_entry text_cmp files file (record { linked = Some from; bytes = None })
files_in (Create k e file, Done) krate entry files = insert_entry text_cmp files file (record { linked = None; bytes = Some [] })
files_in (Append k e file piece, Done) krate entry files = changed file (appended piece) files
files_in (Append k e file piece, Fault) krate entry files = changed file forgotten files
files_in (Read k e file, Bytes bytes) krate entry files = changed file (read_as bytes) files
files_in (Unlink k e file, Done) krate entry files = if is_here krate entry k e then remove_entry (is_at (text_cmp file)) files else files
files_in step krate entry files = files

-- its files after a step that was made when it was there
abbrev pub next_files : Op × Reply → Site → List (Text × Known) → List (Text × Known)
next_files step Nowhere files = []
next_files step (At krate entry) files = files_in step krate entry files
next_files step Gone files = files
next_files step (Out krate entry) files = files

abbrev pub change_by : Change → Known → Known
change_by (Appended piece) = appended piece.now
change_by Forgotten = forgotten
change_by (ReadAs bytes) = read_as bytes.now
