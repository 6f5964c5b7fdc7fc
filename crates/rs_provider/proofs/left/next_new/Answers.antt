use Rattle.std.proofs.Common.{sym, ap, ◌∙◌}
use Rattle.rs_plans.specs.Plans.{first_new}
use Rattle.rs_provider.proofs.Settles.{known_next, new_next}
use Rattle.rs_provider.proofs.left.next_new.Goals as goal

pub returns-then-not-has : goal.returns-then-not-has
returns-then-not-has c =
    sym (new_next c.args.known.now c.in-Some.place c.pop_front.new.self.items (sym c.has.ensures ∙ c.if-not-has.true))
    ∙ sym (ap (first_new c.args.known.now) (c.in-Some.ensures {u = tt}).items) ∙ c.loop-place.invariant

pub loop-place-preserved-else-not-has : goal.loop-place-preserved-else-not-has
loop-place-preserved-else-not-has c =
    sym (known_next c.args.known.now c.in-Some.place c.pop_front.new.self.items (sym c.has.ensures ∙ c.if-not-has.false))
    ∙ sym (ap (first_new c.args.known.now) (c.in-Some.ensures {u = tt}).items) ∙ c.loop-place.invariant

pub loop-place-preserved : goal.loop-place-preserved
loop-place-preserved c =
    sym (known_next c.args.known.now c.in-Some.place c.pop_front.new.self.items (sym c.has.ensures ∙ c.if-not-has.false))
    ∙ sym (ap (first_new c.args.known.now) (c.in-Some.ensures {u = tt}).items) ∙ c.loop-place.invariant
