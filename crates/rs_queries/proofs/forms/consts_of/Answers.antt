use Rattle.std.proofs.Common.{ap, ◌∙◌, map}
use Rattle.rs_queries.specs.Built.{const_by}
use Rattle.rs_queries.proofs.forms.consts_of.Goals as goal

pub returns : goal.returns
returns c = c.in_ok-consts.ensures ∙ ap (λ ns. map (const_by ns c.args.values.now) c.args.constants.now) c.in_ok-places.ensures
