use Rattle.std.proofs.Common.{sym, ◌∙◌, subst}
use Rattle.inc_names.specs.Entries.{IsNewer}
use Rattle.inc_names.specs.EntryLaws.{same_final_text}
use Rattle.inc_proto.proofs.sought.is_newer_final.Goals as goal

pub returns-in-Some : goal.returns-in-Some
returns-in-Some c =
    let is = c.in-Some.ensures.some in (
      λ yes. (c.in-Some.name, c.in-Some.field-0-1, is.0, is.1, is.2, c.newer.ensures.0 yes),
      λ w. c.newer.ensures.1 (subst (λ m. IsNewer m c.args.n) (same_final_text w.0 c.in-Some.name w.1 c.in-Some.field-0-1 w.3 is.1 (sym w.4 ∙ is.2)).0 w.5),
    )
