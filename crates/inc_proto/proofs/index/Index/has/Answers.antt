use Rattle.std.proofs.Common.{subst}
use Rattle.inc_proto.specs.Indexes.{IsTold}
use Rattle.inc_proto.specs.Sought.{IsSought}
use Rattle.inc_proto.specs.Views.{HasAny}
use Rattle.inc_proto.proofs.Lasts.{ever_told}
use Rattle.inc_proto.proofs.index.Index.has.Goals as goal

pub returns-in-At : goal.returns-in-At
returns-in-At c = λ steps index.
    let told = subst (IsTold (HasAny (IsSought c.args.sought)) steps) c.in-At.is (c.in_ok-at.ensures steps index) in
    ever_told (HasAny (IsSought c.args.sought)) steps c.in-At.at told c.is_some.result c.is_some.ensures
