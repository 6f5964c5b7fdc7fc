use Rattle.std.proofs.Common.{◌≡◌, ◌∙◌, ◌<◌, None, Some, sym, subst}
use Rattle.std.proofs.lemmas.Bool.{false≢true}
use Rattle.inc_fs.specs.declared.op.Op.TheVariants.{ListDir}
use Rattle.inc_fs.specs.declared.op.Reply.TheVariants.{Names}
use Rattle.inc_names.specs.Entries.{lock_text}
use Rattle.inc_names.specs.EntryLaws.{same_final_name}
use Rattle.inc_laws.specs.Newest.{IsFinal}
use Rattle.inc_laws.specs.Places.{until_in, IsBegun}
use Rattle.inc_laws.proofs.loads.begun.Goals as goal

pub returns-else-branch : goal.returns-else-branch
returns-else-branch c =
    let until = c.args.until.now in
    let far = c.args.far in
    let entry = c.in-ListDir-Names.entry in
    let its : IsFinal entry (Some (c.in-Some.name, c.in-Some.hash)) = subst (IsFinal entry) c.in-Some.is c.final_name.ensures in
    let none : IsBegun until far (ListDir c.in-ListDir-Names.krate-0 entry, Names c.in-ListDir-Names.field-0-1) None = λ n hash named hashed is held.
    let same : n ≡ c.in-Some.name = same_final_name n c.in-Some.name hash c.in-Some.hash (sym is ∙ its.2) in
    false≢true (sym c.if-branch.false ∙ c.in_ok-is_held_past-in-Some.ensures.1 (subst (λ m. far < until_in until (lock_text m)) same held)) in
    subst (λ o. IsBegun until far (o, c.args.step.now.1) None) (sym c.in-ListDir-Names.is-0)
    (subst (λ r. IsBegun until far (ListDir c.in-ListDir-Names.krate-0 entry, r) None) (sym c.in-ListDir-Names.is-1) none)
