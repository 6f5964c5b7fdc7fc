use Rattle.std.proofs.Common.{◌++◌, length, ap, ◌∙◌, append_assoc}
use Rattle.std.proofs.lemmas.Result.{on_ok_weaker}
use Rattle.inc_wire.specs.Forms.{text_form, number_form}
use Rattle.inc_wire.proofs.put.put_text.Goals as goal

pub returns-clause-ok : goal.returns-clause-ok
unfolding text_form number_form
returns-clause-ok c =
    let b = c.args.b.now in
    on_ok_weaker c.append_two.result (λ is. is ∙ ap (λ t. c.args.to.now ++ t ++ b) c.write_u32.ensures ∙ append_assoc c.args.to.now (number_form 4 (length b)) b) c.append_two.ensures.ok
