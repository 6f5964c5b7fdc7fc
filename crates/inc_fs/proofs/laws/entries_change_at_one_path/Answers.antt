use Rattle.inc_fs.specs.Readings.{entries_put, entries_cut, folders_put, folders_cut, locks_put, locks_cut}
use Rattle.inc_fs.proofs.laws.entries_change_at_one_path.Goals as goal

pub returns : goal.returns
returns c = record {
  put = λ F krate entry what. entries_put F krate entry what;
  cut = λ F krate entry. entries_cut F krate entry;
  folder_put = λ F krate entry what. folders_put F krate entry what;
  folder_cut = λ F krate entry. folders_cut F krate entry;
  lock_put = λ F krate entry what. locks_put F krate entry what;
  lock_cut = λ F krate entry. locks_cut F krate entry;
}
