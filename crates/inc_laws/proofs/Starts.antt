-- The empty history meets the laws.
use Rattle.std.proofs.Common.{[], refl}
use Rattle.inc_proto.specs.Files.{Files}
use Rattle.inc_fs.specs.State.{start}
use Rattle.inc_laws.specs.Laws.{Laws}

pub start_laws : (files : Files) → Laws files [] start
start_laws files = record {
  numbers = record { fresh = λ who h. (refl, refl) };
  names_once = record { known = λ who n h. absurd h; once = λ v w n g h. absurd g };
  own_names = λ who. tt;
  counted = record { is = refl; below = λ f m is. cc };
  lock_files = record { entry = λ k e f is. cc; one = λ k e f g p q. cc; tried = λ k e f is. cc };
  handles = record { taken = λ h o is. cc; seen = λ h o is. cc; there = λ who h job by r s. cc; held = λ h o is. cc; only = λ f h s. cc; unopened = λ who h is. refl };
  own_locks = record { handle = λ who h job r s. cc; lock = λ who h s. cc };
  settled = record { not_open = λ who h k e at. cc; has_tried = λ who k e n at c. cc };
  own_dir = λ who h k e names r s d. cc;
  dirs = record { whose = λ k e folder is. cc; apart = λ k n hash x y a b. cc };
  file_names = λ k e x folder f is at. cc;
  sole_names = λ v k e x y folder f at is m p q. cc;
  wholes = λ k n hash folder is. cc;
  newest = λ who k n hash is. cc;
  looked = λ who k n hash h. absurd h;
}
