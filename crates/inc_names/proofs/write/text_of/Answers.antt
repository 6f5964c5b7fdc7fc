use Rattle.std.proofs.Common.{◌≡◌, ◌<◌, ◌^◌, sym, ◌∙◌, rules}
use Rattle.inc_base.specs.Base36.{wide36}
use Rattle.inc_base.specs.Base36Laws.{wide36_spells}
use Rattle.inc_names.specs.Entries.{lock_text, working_text}
use Rattle.inc_names.proofs.Parts.{final_appended}
use Rattle.inc_names.proofs.write.text_of.Goals as goal

pub returns-in-Lock-clause-text : goal.returns-in-Lock-clause-text
unfolding lock_text
returns-in-Lock-clause-text c = rw c.in-Lock.is c.with_end.ensures

pub returns-in-Working-clause-text : goal.returns-in-Working-clause-text
unfolding working_text
returns-in-Working-clause-text c = rw c.in-Working.is c.with_end-in-Working.ensures

pub returns-in_ok-append-in-Final-clause-text : goal.returns-in_ok-append-in-Final-clause-text
returns-in_ok-append-in-Final-clause-text c =
    let hash = c.in-Final.hash in
    let small : hash < 2 ^ 128 = search rules in
    let wide = c.in_ok-to36_wide-in-Final.ensures.only (wide36 hash) (wide36_spells hash small) ∙ sym c.as_slice.ensures.value in
    rw c.in-Final.is (final_appended c.in-Final.name hash _ _ _ c.in_ok-text-in-Final.ensures c.in_ok-append-in-Final.ensures.ok wide)
