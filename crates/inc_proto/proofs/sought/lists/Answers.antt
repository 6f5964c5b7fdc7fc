use Rattle.std.proofs.Common.{◌≡◌, refl, sym, ◌∙◌, arith}
use Rattle.std.proofs.lemmas.Bool.{false≢true}
use Rattle.std.proofs.lemmas.Bool.Decides.{Decides-eqb}
use Rattle.std.proofs.lemmas.Slice.Eq.{slice_eq-Decides}
use Rattle.inc_proto.proofs.Anys.{in_at, not_in_more}
use Rattle.inc_proto.proofs.sought.lists.Goals as goal

pub returns-then-eq : goal.returns-then-eq
returns-then-eq c =
    let same : c.name-item.result ≡ c.args.entry.now = (slice_eq-Decides Decides-eqb c.name-item.result c.args.entry.now c.eq.result c.eq.ensures).0 c.if-eq.true in
    (λ yes. in_at c.args.names.now c.loop-name.name-index c.name-item.result c.args.entry.now (omega arith) (sym c.name-item.is ∙ same), λ is. refl)

pub loop-name-preserved : goal.loop-name-preserved
loop-name-preserved c =
    not_in_more c.args.names.now c.loop-name.name-index c.name-item.result c.args.entry.now (omega arith) c.name-item.is c.loop-name.invariant
    (λ same. false≢true (sym c.if-eq.false ∙ (slice_eq-Decides Decides-eqb c.name-item.result c.args.entry.now c.eq.result c.eq.ensures).1 same))
