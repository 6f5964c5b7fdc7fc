use Rattle.inc_fs.specs.Readings.{new_handle, gone_handle}
use Rattle.inc_fs.proofs.laws.handles_change_at_one_number.Goals as goal

pub returns : goal.returns
returns c = record { opened = λ F h who file. new_handle F h who file; closed = λ F h found. gone_handle F h found }
