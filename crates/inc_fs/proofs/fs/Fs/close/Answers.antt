use Rattle.std.proofs.Common.{rules, []}
use Rattle.std.specs.Prelude.{slice_index_or}
use Rattle.inc_fs.specs.declared.state.File.{File}
use Rattle.inc_fs.specs.declared.state.Lock.TheVariants.{Free}
use Rattle.inc_fs.proofs.fs.Fs.close.Goals as goal

pub returns-clause-closes : goal.returns-clause-closes
returns-clause-closes c =
    let none : File = record { bytes = []; lock = Free } in
    let found = c.in-Some.ensures.found none in
    let freed = c.free.ensures none in
    let handles = c.remove_handle.ensures in
    ((c.in-Some.number, slice_index_or c.self.inside.files.items c.in-Some.number none), search (rules, found), rw (← c.self.view_is) (search (rules, freed, handles)))
