use Rattle.inc_names.specs.EntryLaws.{entry_is_label, same_entry, lock_is_no_working, lock_is_no_final, working_is_no_final, same_final_name}
use Rattle.inc_names.proofs.laws.entries_differ.Goals as goal

pub returns : goal.returns
returns c = record {
  label = entry_is_label;
  same = same_entry;
  lock_working = lock_is_no_working;
  lock_final = lock_is_no_final;
  working_final = working_is_no_final;
  same_final = same_final_name;
}
