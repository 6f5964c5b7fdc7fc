use Rattle.std.proofs.Common.{ap, sym, ◌∙◌}
use Rattle.inc_names.specs.Entries.{final_text}
use Rattle.inc_names.specs.EntryLaws.{same_final_text}
use Rattle.inc_proto.proofs.sought.is_final_dir_of.Goals as goal

pub returns-in-Some : goal.returns-in-Some
returns-in-Some c =
    let is = c.in-Some.ensures.some in (
      λ yes. (c.in-Some.hash, is.1, c.is_final_of.ensures.0 yes),
      λ w. c.is_final_of.ensures.1 (w.2 ∙ ap (final_text c.args.n) (same_final_text c.args.n c.in-Some.field-0-0 w.0 c.in-Some.hash w.1 is.1 (sym w.2 ∙ is.2)).1),
    )
