use Rattle.std.proofs.Common.{sym, subst, IfOk}
use Rattle.inc_proto.specs.Events.{Steps}
use Rattle.inc_proto.specs.Indexes.{Indexes, IsTold}
use Rattle.inc_proto.specs.Sought.{Answers}
use Rattle.inc_proto.specs.declared.index.Told.TheVariants.{Surely}
use Rattle.inc_proto.proofs.index.Index.told.Goals as goal

pub returns-in-Has : goal.returns-in-Has
returns-in-Has c =
    subst (λ q. IfOk c.last_of.result (λ told. (steps : Steps) → Indexes steps c.args.self.now → IsTold (Answers q) steps told)) (sym c.in-Has.is) c.last_of.ensures

pub returns-in-Either : goal.returns-in-Either
returns-in-Either c =
    subst (λ q. IfOk c.last_of_either.result (λ told. (steps : Steps) → Indexes steps c.args.self.now → IsTold (Answers q) steps told)) (sym c.in-Either.is) c.last_of_either.ensures

pub returns-in_ok-at-in-Clear : goal.returns-in_ok-at-in-Clear
returns-in_ok-at-in-Clear c = λ steps index.
    let at = c.in_ok-at-in-Clear.at in
    subst (λ q. IsTold (Answers q) steps (Surely at)) (sym c.in-Clear.is) (c.in_ok-at-in-Clear.ensures steps index)
