use Rattle.inc_fs.specs.Locks.{alone_in, locked_here, locked_there, freed_here, freed_there}
use Rattle.inc_fs.proofs.laws.locks_change_for_one_handle.Goals as goal

pub returns : goal.returns
returns c = record {
  got = λ lock h exclusive. locked_here lock h exclusive;
  got_alone = λ h g lock exclusive off free. locked_there h g off lock exclusive free;
  freed = λ lock h. freed_here h lock;
  freed_alone = λ h g lock off. freed_there h g off lock;
  exclusive = λ lock h g e s. alone_in lock h g e s;
}
