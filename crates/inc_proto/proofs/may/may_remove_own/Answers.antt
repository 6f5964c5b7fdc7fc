use Rattle.std.proofs.Common.{sym, ◌∙◌}
use Rattle.std.proofs.lemmas.Bool.{false≢true}
use Rattle.inc_proto.specs.Views.{name}
use Rattle.inc_proto.proofs.Mays.{never, never_if, unnamed, may_remove_own, remove_is_own, remove_nowhere}
use Rattle.inc_proto.proofs.may.may_remove_own.Goals as goal

pub returns-then-is_own_file : goal.returns-then-is_own_file
returns-then-is_own_file c = λ steps named d l.
    let job = c.args.job.now in
    let krate = c.args.krate.now in
    let entry = c.args.entry.now in (
      λ t. may_remove_own job steps krate entry c.in-Some.n c.args.its.now c.args.lock (sym named ∙ c.in-Some.is) d l
          (c.is_own_file.ensures.0 c.if-is_own_file.true) (c.is_nowhere.ensures.0 t),
      λ w. c.is_nowhere.ensures.1 (remove_nowhere job steps krate entry c.args.its.now d w),
    )

pub returns-else-is_own_file : goal.returns-else-is_own_file
returns-else-is_own_file c = λ steps named d l.
    never_if c.if-is_own_file.false (λ w. false≢true (sym c.if-is_own_file.false
    ∙ c.is_own_file.ensures.1 (remove_is_own c.args.job.now steps c.args.krate.now c.args.entry.now c.in-Some.n c.args.lock (sym named ∙ c.in-Some.is) l w)))

pub returns-in-None : goal.returns-in-None
returns-in-None c = λ steps named d l. never (λ w. unnamed c.args.drawn (name steps) c.in-None.is named w.1)
