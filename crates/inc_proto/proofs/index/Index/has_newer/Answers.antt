use Rattle.std.proofs.Common.{sym, subst, ◌↔◌}
use Rattle.inc_proto.specs.Asked.{HasNewer}
use Rattle.inc_proto.specs.Indexes.{IsNewerOf}
use Rattle.inc_proto.proofs.Mays.{never}
use Rattle.inc_proto.proofs.index.Index.has_newer.Goals as goal

pub returns-in-Some : goal.returns-in-Some
returns-in-Some c = λ steps index.
    let krate = c.args.krate.now in
    let n = c.args.n in
    let told = subst (λ o. HasNewer krate n steps ↔ IsNewerOf o n) (sym c.in-Some.ensures) (index.newest krate n) in
    (λ yes. told.1 (c.newer.ensures.0 yes), λ has. c.newer.ensures.1 (told.0 has))

pub returns-in-None : goal.returns-in-None
returns-in-None c = λ steps index.
    let krate = c.args.krate.now in
    let n = c.args.n in
    let told = subst (λ o. HasNewer krate n steps ↔ IsNewerOf o n) (sym c.in-None.ensures) (index.newest krate n) in
    never told.0
