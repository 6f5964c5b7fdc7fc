use Rattle.std.proofs.Common.{rules, ◌≡◌, [], Some}
use Rattle.std.specs.Prelude.{slice_index_or}
use Rattle.inc_fs.specs.State.{file_at}
use Rattle.inc_fs.specs.declared.state.File.{File}
use Rattle.inc_fs.specs.declared.state.Lock.TheVariants.{Free}
use Rattle.inc_fs.proofs.fs.Fs.append.Goals as goal

pub returns-clause-appends : goal.returns-clause-appends
returns-clause-appends c =
    let none : File = record { bytes = []; lock = Free } in
    let found = c.in-Some.ensures.found none in
    let appended = c.in_ok-append_to.ensures.ok none in
    let at : file_at c.args.self.now c.args.krate.now c.args.entry.now c.args.file.now ≡ Some (c.in-Some.number, slice_index_or c.args.self.now.files c.in-Some.number none) = search (rules, found) in
    rw at (search rules, search (rules, appended))
