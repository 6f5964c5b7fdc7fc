use Rattle.std.proofs.lemmas.Result.{IfOk-weaker}
use Rattle.rs_provider.proofs.Taken.{anew_fits}
use Rattle.rs_provider.proofs.resuming.resumed.Goals as goal

pub returns-in-None : goal.returns-in-None
returns-in-None c = IfOk-weaker c.new.result _ _ (λ b h. anew_fits c.args.level c.args.q.now c.args.known.now b h) c.new.ensures
