use Rattle.std.proofs.Common.{rules, ◌≤◌, length, sym}
use Rattle.inc_proto.proofs.Kept.{past_rests}
use Rattle.inc_proto.proofs.ground.Ground.runs.Goals as goal

pub returns-in-None : goal.returns-in-None
returns-in-None g c =
    let past : length c.self.inside.sessions.items ≤ c.args.who = search rules in
    rw (← c.self.view_is) (sym (past_rests c.args.who c.self.invariant past))
