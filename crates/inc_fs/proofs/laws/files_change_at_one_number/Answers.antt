use Rattle.std.proofs.Common.{refl}
use Rattle.inc_fs.specs.Readings.{new_file, set_file, same_file}
use Rattle.inc_fs.proofs.laws.files_change_at_one_number.Goals as goal

pub returns : goal.returns
returns c = record {
  new_bytes = λ F. new_file (λ file. file.bytes) F;
  new_lock = λ F. new_file (λ file. file.lock) F;
  bytes = λ F found bytes is. set_file (λ file. file.bytes) F found.0 found.1 (record { bytes = bytes; lock = found.1.lock }) is;
  bytes_alone = λ F found bytes is. same_file (λ file. file.lock) F found.0 found.1 (record { bytes = bytes; lock = found.1.lock }) is refl;
  lock = λ F found lock is. set_file (λ file. file.lock) F found.0 found.1 (record { bytes = found.1.bytes; lock = lock }) is;
  lock_alone = λ F found lock is. same_file (λ file. file.bytes) F found.0 found.1 (record { bytes = found.1.bytes; lock = lock }) is refl;
}
