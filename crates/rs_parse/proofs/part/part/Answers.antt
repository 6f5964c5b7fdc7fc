use Rattle.std.proofs.Common.{sym, ap, ◌∙◌, inl, inr, refl, List, ℕ}
use Rattle.rs_grammar.specs.Grammar.{Nt, Part, Alone, Contents}
use Rattle.rs_grammar.specs.Parses.{r-nt, r-no_nt, r-seq, r-first, r-second, r-ahead, r-no_ahead, r-other_way, r-no_other_way, r-left, r-right, r-no_left, r-no_right}
use Rattle.rs_parse.specs.Building.{with_item}
use Rattle.rs_parse.proofs.Adds.{adds, add_passes, add_hands}
use Rattle.rs_parse.proofs.part.part.Goals as goal

pub returns-in_err-expect : goal.returns-in_err-expect
returns-in_err-expect c = add_passes c.in_err-expect.field-0.0 c.from_residual.result c.from_residual.ensures.1 c.in_err-expect.ensures (λ r. r-no_nt {n = Part} (r-no_ahead (sym c.if-sees_pub_mod.ensures) (r-first r)))

pub returns-in_err-expect-2 : goal.returns-in_err-expect-2
returns-in_err-expect-2 c = add_passes c.in_err-expect-2.field-0.0 c.from_residual-in_err-expect-2.result c.from_residual-in_err-expect-2.ensures.1 c.in_err-expect-2.ensures
    (λ r. r-no_nt {n = Part} (r-no_ahead (sym c.if-sees_pub_mod.ensures) (r-second c.in_ok-expect.ensures.is (r-first r))))

pub returns-then-sees_pub_mod : goal.returns-then-sees_pub_mod
returns-then-sees_pub_mod c = add_hands {g = Nt Contents} c.contents.result c.contents.ensures
    (λ r. r-no_nt {n = Part} (r-no_ahead (sym c.if-sees_pub_mod.ensures) (r-second c.in_ok-expect.ensures.is (r-second c.in_ok-expect-2.ensures.is r))))
    (λ x r. r-nt {n = Part} {x = inl (c.in_ok-expect.field-0, (c.in_ok-expect-2.field-0, x))} (r-ahead (sym c.if-sees_pub_mod.ensures) (r-seq c.in_ok-expect.ensures.is (r-seq c.in_ok-expect-2.ensures.is r))))
    (λ b x. refl)

pub returns-then-sees : goal.returns-then-sees
returns-then-sees c = add_hands {g = Nt Contents} c.contents-then-sees.result c.contents-then-sees.ensures
    (λ r. r-no_nt {n = Part} (r-no_other_way (sym c.if-sees_pub_mod.ensures) (r-no_left (sym c.if-sees.ensures) (r-second c.take.ensures.is r))))
    (λ x r. r-nt {n = Part} {x = inr (inl (c.take.result, x))} (r-other_way (sym c.if-sees_pub_mod.ensures) (r-left (sym c.if-sees.ensures) (r-seq c.take.ensures.is r))))
    (λ b x. refl)

pub returns-in_err-sited : goal.returns-in_err-sited
returns-in_err-sited c = add_passes c.in_err-sited.field-0.0 c.from_residual-in_err-sited.result c.from_residual-in_err-sited.ensures.1 c.in_err-sited.ensures
    (λ r. r-no_nt {n = Part} (r-no_other_way (sym c.if-sees_pub_mod.ensures) (r-no_right (sym c.if-sees.ensures) r)))

pub returns : goal.returns
returns c = adds (Alone _) (r-nt {n = Part} {x = inr (inr _)} (r-other_way (sym c.if-sees_pub_mod.ensures) (r-right (sym c.if-sees.ensures) c.in_ok-sited.ensures.is)))
    (c.in_ok-add_item.ensures ∙ ap (λ (m : List ℕ). with_item m c.args.into.now c.in_ok-sited.sited) c.new.ensures)
