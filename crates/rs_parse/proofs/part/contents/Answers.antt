use Rattle.std.proofs.Common.{◌∙◌}
use Rattle.rs_grammar.specs.Grammar.{Contents, Module}
use Rattle.rs_grammar.specs.Parses.{r-nt, r-no_nt, r-seq, r-first, r-second}
use Rattle.rs_parse.specs.Building.{with_items, with_name}
use Rattle.rs_parse.proofs.Adds.{adds, add_passes, add_passes_on}
use Rattle.rs_parse.proofs.part.contents.Goals as goal

pub returns-in_err-name : goal.returns-in_err-name
returns-in_err-name c = add_passes c.in_err-name.field-0.0 c.from_residual.result c.from_residual.ensures.1 c.in_err-name.ensures (λ r. r-no_nt {n = Contents} (r-first r))

pub returns-in_err-expect : goal.returns-in_err-expect
returns-in_err-expect c = add_passes c.in_err-expect.field-0.0 c.from_residual-in_err-expect.result c.from_residual-in_err-expect.ensures.1 c.in_err-expect.ensures (λ r. r-no_nt {n = Contents} (r-second c.in_ok-name.ensures.is (r-first r)))

pub returns-in_err-items : goal.returns-in_err-items
returns-in_err-items c = add_passes_on c.in_err-items.field-0.0 c.from_residual-in_err-items.result c.from_residual-in_err-items.ensures.1 c.in_err-items.ensures (λ r. r-no_nt {n = Contents} (r-second c.in_ok-name.ensures.is (r-second c.in_ok-expect.ensures.is (r-first r))))

pub returns-in_err-expect-2 : goal.returns-in_err-expect-2
returns-in_err-expect-2 c = add_passes c.in_err-expect-2.field-0.0 c.from_residual-in_err-expect-2.result c.from_residual-in_err-expect-2.ensures.1 c.in_err-expect-2.ensures
    (λ r. r-no_nt {n = Contents} (r-second c.in_ok-name.ensures.is (r-second c.in_ok-expect.ensures.is (r-second c.in_ok-items.ensures.is.1 r))))

pub returns : goal.returns
returns c = adds (Module c.in_ok-name.name.at c.in_ok-name.name.text c.in_ok-items.ensures.is.0)
    (r-nt {n = Contents} {x = (c.in_ok-name.name, (c.in_ok-expect.field-0, (c.in_ok-items.ensures.is.0, c.in_ok-expect-2.field-0)))}
    (r-seq c.in_ok-name.ensures.is (r-seq c.in_ok-expect.ensures.is (r-seq c.in_ok-items.ensures.is.1 c.in_ok-expect-2.ensures.is))))
    (c.in_ok-items.ensures.is.2 ∙ (λ i. with_items (c.in_ok-module.ensures i) (c.in_ok-add_module.ensures i) c.in_ok-items.ensures.is.0)
    ∙ (λ i. with_items c.in_ok-name.name.text (with_name c.args.into.now (c.at.ensures i) (c.in_ok-module.ensures i)) c.in_ok-items.ensures.is.0))
