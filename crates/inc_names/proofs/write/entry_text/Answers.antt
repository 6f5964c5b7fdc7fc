use Rattle.inc_names.specs.EntryLaws.{entry_is_label}
use Rattle.inc_names.proofs.write.entry_text.Goals as goal

pub label-requires : goal.label-requires
label-requires c =
    rw (c.as_slice-2.ensures.value, c.in_ok-text_of.ensures.text) (entry_is_label c.args.e.now c.text_of.ensures.entry)
