use Rattle.std.proofs.Common.{subst, IsTrue, ◌↔◌}
use Rattle.std.specs.Map.{lookup}
use Rattle.std.specs.BTreeMap.{is_at}
use Rattle.inc_fs.specs.Paths.{path_cmp}
use Rattle.inc_proto.specs.Indexes.{IsTold, IsAnyHeld, handles_of}
use Rattle.inc_proto.specs.Sought.{Answers}
use Rattle.inc_proto.proofs.Holding.{any_holds, any_surely}
use Rattle.inc_proto.proofs.Mays.{always}
use Rattle.inc_proto.proofs.index.Index.holds_so.Goals as goal

pub returns-in-At : goal.returns-in-At
returns-in-At c = λ steps is.
    let index = c.args.self.now in
    let way = c.args.way in
    let at = c.in-At.at in
    let told = subst (IsTold (Answers c.args.question) steps) c.in-At.is (c.in_ok-at.ensures steps is) in
    let any = any_holds index steps (Answers c.args.question) c.args.krate.now c.args.n way at is told in
    let held = subst (λ path. IsTrue c.is_held_since.result ↔ IsAnyHeld way path at index.holds (handles_of (lookup (is_at (path_cmp path)) index.given)))
    c.in_ok-path-in-At.ensures c.is_held_since.ensures in
    (λ yes. any.0 (held.0 yes), λ w. held.1 (any.1 w))

pub returns-then-is_held_since : goal.returns-then-is_held_since
returns-then-is_held_since c = λ steps is.
    let index = c.args.self.now in
    let way = c.args.way in
    let at = c.in-Surely.at in
    let told = subst (IsTold (Answers c.args.question) steps) c.in-Surely.is (c.in_ok-at.ensures steps is) in
    let held = subst (λ path. IsAnyHeld way path at index.holds (handles_of (lookup (is_at (path_cmp path)) index.given))) c.in_ok-path-in-Surely.ensures
    (c.is_held_since-in-Surely.ensures.0 c.if-is_held_since.true) in
    always (any_surely index steps (Answers c.args.question) c.args.krate.now c.args.n way at is told held)
