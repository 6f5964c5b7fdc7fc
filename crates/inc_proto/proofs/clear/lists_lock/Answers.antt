use Rattle.std.proofs.Common.{refl, sym, ◌∙◌, arith}
use Rattle.std.proofs.lemmas.Bool.{false≢true}
use Rattle.inc_names.specs.Entries.{lock_text}
use Rattle.inc_proto.proofs.Anys.{in_at, not_in_more}
use Rattle.inc_proto.proofs.clear.lists_lock.Goals as goal

pub returns-then-is_lock_of : goal.returns-then-is_lock_of
returns-then-is_lock_of c =
    (λ yes. in_at c.args.names.now c.loop-name.name-index c.name-item.result (lock_text c.args.n) (omega arith) (sym c.name-item.is ∙ c.is_lock_of.ensures.0 c.if-is_lock_of.true), λ is. refl)

pub loop-name-preserved : goal.loop-name-preserved
loop-name-preserved c =
    not_in_more c.args.names.now c.loop-name.name-index c.name-item.result (lock_text c.args.n) (omega arith) c.name-item.is c.loop-name.invariant
    (λ same. false≢true (sym c.if-is_lock_of.false ∙ c.is_lock_of.ensures.1 same))
