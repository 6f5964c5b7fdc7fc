use Rattle.std.proofs.Common.{subst}
use Rattle.inc_proto.specs.Indexes.{IsTold}
use Rattle.inc_proto.specs.Sought.{IsSought}
use Rattle.inc_proto.specs.Views.{HasAny}
use Rattle.inc_proto.proofs.Lasts.{either_told}
use Rattle.inc_proto.proofs.index.Index.last_of_either.Goals as goal

pub returns-in-At-2 : goal.returns-in-At-2
returns-in-At-2 c = λ steps index.
    let one = HasAny (IsSought c.args.one) in
    let other = HasAny (IsSought c.args.other) in
    either_told one other steps c.in-At.x c.in-At-2.y c.later.result c.later.ensures
    (subst (IsTold one steps) c.in-At.is (c.in_ok-x.ensures steps index)) (subst (IsTold other steps) c.in-At-2.is (c.in_ok-y-in-At.ensures steps index))
