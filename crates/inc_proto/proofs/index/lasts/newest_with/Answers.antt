use Rattle.std.proofs.Common.{sym, subst, ◌∙◌, inl, inr}
use Rattle.inc_names.specs.Entries.{IsNewer}
use Rattle.inc_names.specs.EntryLaws.{same_final_name}
use Rattle.inc_proto.proofs.Tells.{one_more}
use Rattle.inc_proto.proofs.index.lasts.newest_with.Goals as goal

pub returns-in-Some : goal.returns-in-Some
returns-in-Some c = λ n.
    let m = c.in-Some.m in
    let hash = c.in-Some.field-0-1 in
    let is = c.in-Some.ensures.some in
    let of = c.newer_of.ensures n in (
      λ newer. one_more inl (λ its. inr (m, hash, is.0, is.1, is.2, its)) (of.0 newer),
      λ any. of.1 (one_more inl (λ w. inr (subst (λ k. IsNewer k n) (same_final_name w.0 m w.1 hash (sym w.4 ∙ is.2)) w.5)) any),
    )
