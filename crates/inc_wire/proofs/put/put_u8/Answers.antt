use Rattle.std.proofs.Common.{◌≡◌, ◌++◌, [], ◌∷◌, ap, sym, ◌∙◌}
use Rattle.std.proofs.Math.Nat.{mod-eq_of_lt}
use Rattle.std.proofs.lemmas.Result.{on_ok_weaker}
use Rattle.inc_wire.specs.Forms.{number_form}
use Rattle.inc_wire.proofs.put.put_u8.Goals as goal

pub returns-clause-ok : goal.returns-clause-ok
unfolding number_form
returns-clause-ok c =
    on_ok_weaker c.append.result (λ is. is ∙ ap (λ b. c.args.to.now ++ b ∷ []) (sym (mod-eq_of_lt c.ranges.v.fits))) c.append.ensures.ok
