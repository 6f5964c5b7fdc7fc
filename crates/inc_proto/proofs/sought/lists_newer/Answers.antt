use Rattle.std.proofs.Common.{refl, sym, ◌∙◌, arith}
use Rattle.std.proofs.lemmas.Bool.{false≢true}
use Rattle.inc_names.specs.Entries.{final_text}
use Rattle.inc_proto.proofs.Anys.{in_at, not_in_more}
use Rattle.inc_proto.proofs.sought.lists_newer.Goals as goal

pub returns-then-is_newer_final : goal.returns-then-is_newer_final
returns-then-is_newer_final c =
    let w = c.is_newer_final.ensures.0 c.if-is_newer_final.true in
    (λ yes. (w.0, w.1, w.2, w.3, in_at c.args.names.now c.loop-name.name-index c.name-item.result (final_text w.0 w.1) (omega arith) (sym c.name-item.is ∙ w.4), w.5), λ is. refl)

pub loop-name-preserved : goal.loop-name-preserved
loop-name-preserved c = λ m hash is small newer.
    not_in_more c.args.names.now c.loop-name.name-index c.name-item.result (final_text m hash) (omega arith) c.name-item.is (c.loop-name.invariant m hash is small newer)
    (λ same. false≢true (sym c.if-is_newer_final.false ∙ c.is_newer_final.ensures.1 (m, hash, is, small, same, newer)))
