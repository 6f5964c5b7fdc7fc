use Rattle.std.proofs.Common.{sym, ◌∙◌, reverse}
use Rattle.std.proofs.lemmas.Bool.{false≢true}
use Rattle.inc_proto.specs.Views.{name}
use Rattle.inc_proto.specs.Permits.{MayMakeDirectory}
use Rattle.inc_proto.proofs.Mays.{answers_as, never, unnamed, HasStandingLock, may_make_dir, dir_is_first, dir_stands}
use Rattle.inc_proto.proofs.may.may_make_dir.Goals as goal

pub returns-then-branch : goal.returns-then-branch
returns-then-branch c =
    let job = c.args.job.now in
    let steps = reverse c.args.steps.now in
    let krate = c.args.krate.now in
    let entry = c.args.entry.now in
    let n = c.in-Some.n in
    let lock = c.args.lock in
    let named = sym c.requires.drawn ∙ c.in-Some.is in
    answers_as (HasStandingLock lock krate n steps) (MayMakeDirectory job steps krate entry) c.has_standing_lock.result
    (may_make_dir job steps krate entry n lock named c.requires.lock (c.in_ok-is_first_dir-in-Some.ensures.0 c.if-branch.true))
    (dir_stands job steps krate entry n lock named c.requires.lock) c.has_standing_lock.ensures

pub returns-else-branch : goal.returns-else-branch
returns-else-branch c =
    let named = sym c.requires.drawn ∙ c.in-Some.is in
    never (λ w. false≢true (sym c.if-branch.false
    ∙ c.in_ok-is_first_dir-in-Some.ensures.1 (dir_is_first c.args.job.now (reverse c.args.steps.now) c.args.krate.now c.args.entry.now c.in-Some.n named w)))

pub returns-in-None : goal.returns-in-None
returns-in-None c = never (λ w. unnamed c.args.drawn (name (reverse c.args.steps.now)) c.in-None.is c.requires.drawn w.3)
