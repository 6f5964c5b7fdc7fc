use Rattle.std.proofs.Common.{◌++◌, ap, ◌∙◌}
use Rattle.std.proofs.lemmas.Result.{on_ok_weaker}
use Rattle.inc_wire.specs.Forms.{number_form}
use Rattle.inc_wire.proofs.put.put_u32.Goals as goal

pub returns-clause-ok : goal.returns-clause-ok
unfolding number_form
returns-clause-ok c =
    on_ok_weaker c.append.result (λ is. is ∙ ap (λ t. c.args.to.now ++ t) c.write_u32.ensures) c.append.ensures.ok
