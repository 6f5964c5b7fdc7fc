use Rattle.std.proofs.Common.{◌∙◌}
use Rattle.std.proofs.lemmas.Bool.Decides.{Decides-at}
use Rattle.rs_object.specs.Grammar.{are_relocs}
use Rattle.rs_object.proofs.Relocations.{relocs_decide}
use Rattle.rs_object.proofs.grammar.has_relocs.Goals as goal

pub returns : goal.returns
returns c =
    let f = c.args.func.now in
    let test = c.are_relocs.ensures ∙ (λ j. are_relocs 0 (c.as_slice.ensures.value j) (c.as_slice-2.ensures.value j)) in
    Decides-at c.are_relocs.result (are_relocs 0 f.code f.relocs) test (relocs_decide 0 f.code f.relocs)
