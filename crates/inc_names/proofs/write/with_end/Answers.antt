use Rattle.std.proofs.Common.{◌≡◌, sym, ap, ◌∙◌}
use Rattle.inc_base.specs.Base36.{text36}
use Rattle.inc_base.specs.Base36Laws.{text36_spells}
use Rattle.inc_names.proofs.Parts.{stem_appended}
use Rattle.inc_names.proofs.write.with_end.Goals as goal

pub returns : goal.returns
returns c =
    let name = c.args.name in
    let moment = ap text36 (sym c.from.ensures) ∙ c.in_ok-to36.ensures.only (text36 c.from.result) (text36_spells c.from.result) ∙ sym c.as_slice.ensures.value in
    let random = ap text36 (sym c.from-2.ensures) ∙ c.in_ok-to36-2.ensures.only (text36 c.from-2.result) (text36_spells c.from-2.result) ∙ sym c.as_slice-2.ensures.value in
    stem_appended name c.args.end.now _ _ _ _ _ _ _ c.in_ok-text.ensures c.in_ok-append.ensures.ok moment c.in_ok-append-2.ensures.ok c.in_ok-append-3.ensures.ok random c.in_ok-append-4.ensures.ok
