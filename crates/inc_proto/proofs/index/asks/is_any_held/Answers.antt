use Rattle.std.proofs.Common.{refl, sym, ◌∙◌, subst, arith, get_or}
use Rattle.std.proofs.lemmas.Grind.{get_or_default_zero}
use Rattle.std.specs.Map.{lookup}
use Rattle.std.specs.Ordering.{nat_cmp}
use Rattle.std.specs.BTreeMap.{is_at}
use Rattle.std.proofs.lemmas.Bool.{false≢true}
use Rattle.inc_proto.specs.Indexes.{kept_hold, IsHeldSince}
use Rattle.inc_proto.proofs.Anys.{in_at, not_in_more}
use Rattle.inc_proto.proofs.index.asks.is_any_held.Goals as goal

pub returns-then-is_held : goal.returns-then-is_held
returns-then-is_held c =
    let handles = c.args.handles.now in
    let i = c.loop-h.h-index in
    (λ yes. (get_or handles i 0, in_at handles i 0 (get_or handles i 0) (omega arith) refl, c.is_held.ensures.0 c.if-is_held.true), λ w. refl)

pub loop-h-preserved : goal.loop-h-preserved
loop-h-preserved c = λ h holds.
    let handles = c.args.handles.now in
    let i = c.loop-h.h-index in
    let item = get_or handles i 0 in
    not_in_more handles i item h (omega arith) (sym (get_or_default_zero handles i item (omega arith))) (c.loop-h.invariant h holds)
    (λ same. false≢true (sym c.if-is_held.false ∙ c.is_held.ensures.1
    (subst (λ k. IsHeldSince c.args.way c.args.path.now c.args.at (kept_hold (lookup (is_at (nat_cmp k)) c.args.holds.now))) (sym same) holds)))
