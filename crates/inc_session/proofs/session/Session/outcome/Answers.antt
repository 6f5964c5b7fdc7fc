use Rattle.inc_session.proofs.Asks.{outcome_is}
use Rattle.inc_session.proofs.session.Session.outcome.Goals as goal

pub returns : goal.returns
returns c = outcome_is c.args.self.now _ c.outcome_in.ensures
