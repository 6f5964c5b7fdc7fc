use Rattle.std.proofs.Common.{◌≡◌, ◌<◌, ◌-◌, [], ◌∙◌, arith, drop, false, length, subst, sym, take, true}
use Rattle.inc_products.specs.Starts.{IsWell}
use Rattle.inc_products.specs.Walks.{IsFound}
use Rattle.inc_products.proofs.Walking.{empty_is, step_extra, step_extra_last, step_missing, step_missing_last, step_on, step_unwell, uncons}
use Rattle.inc_products.proofs.walk.first_step.Goals as goal

pub returns-in_ok-copy-in-empty-len1-up : goal.returns-in_ok-copy-in-empty-len1-up
returns-in_ok-copy-in-empty-len1-up c =
    let Well = IsWell c.args.want.now c.args.nodes.now in
    let ps = c.args.parts.now in
    let fs = c.args.files.now in
    let f = c.file-item.result in
    let none : ps ≡ [] = empty_is ps (grind arith) in
    let some : 0 < length fs = grind arith in
    subst (IsFound Well ps fs) (sym c.in_ok-copy-in-empty-len1-up.ensures) (step_extra_last Well ps fs c.requires.parts c.requires.files f (take (length fs - 1) (drop 1 fs)) none (uncons fs f some c.file-item.is))

pub returns-in_ok-copy-in-len1-up-empty : goal.returns-in_ok-copy-in-len1-up-empty
returns-in_ok-copy-in-len1-up-empty c =
    let Well = IsWell c.args.want.now c.args.nodes.now in
    let ps = c.args.parts.now in
    let fs = c.args.files.now in
    let p = c.part-item.result in
    let none : fs ≡ [] = empty_is fs (grind arith) in
    let some : 0 < length ps = grind arith in
    subst (IsFound Well ps fs) (sym c.in_ok-copy-in-len1-up-empty.ensures) (step_missing_last Well ps fs c.requires.parts c.requires.files p (take (length ps - 1) (drop 1 ps)) (uncons ps p some c.part-item.is) none)

pub returns-in_ok-copy-in-Less : goal.returns-in_ok-copy-in-Less
returns-in_ok-copy-in-Less c =
    let Well = IsWell c.args.want.now c.args.nodes.now in
    let ps = c.args.parts.now in
    let fs = c.args.files.now in
    let p = c.part-item-2.result in
    let f = c.file-item-2.result in
    let parts : 0 < length ps = grind arith in
    let files : 0 < length fs = grind arith in
    subst (IsFound Well ps fs) (sym c.in_ok-copy-in-Less.ensures)
    (step_missing Well ps fs c.requires.parts c.requires.files p (take (length ps - 1) (drop 1 ps)) f (take (length fs - 1) (drop 1 fs)) (uncons ps p parts c.part-item-2.is) (uncons fs f files c.file-item-2.is) (sym c.cmp.ensures ∙ c.in-Less.is))

pub returns-in_ok-copy-in-Greater : goal.returns-in_ok-copy-in-Greater
returns-in_ok-copy-in-Greater c =
    let Well = IsWell c.args.want.now c.args.nodes.now in
    let ps = c.args.parts.now in
    let fs = c.args.files.now in
    let p = c.part-item-2.result in
    let f = c.file-item-2.result in
    let parts : 0 < length ps = grind arith in
    let files : 0 < length fs = grind arith in
    subst (IsFound Well ps fs) (sym c.in_ok-copy-in-Greater.ensures)
    (step_extra Well ps fs c.requires.parts c.requires.files p (take (length ps - 1) (drop 1 ps)) f (take (length fs - 1) (drop 1 fs)) (uncons ps p parts c.part-item-2.is) (uncons fs f files c.file-item-2.is) (sym c.cmp.ensures ∙ c.in-Greater.is))

pub returns-then-not-branch : goal.returns-then-not-branch
returns-then-not-branch c =
    let Well = IsWell c.args.want.now c.args.nodes.now in
    let ps = c.args.parts.now in
    let fs = c.args.files.now in
    let p = c.part-item-2.result in
    let f = c.file-item-2.result in
    let parts : 0 < length ps = grind arith in
    let files : 0 < length fs = grind arith in
    subst (IsFound Well ps fs) (sym c.in_ok-copy-in-Equal.ensures)
    (step_unwell Well ps fs c.requires.parts c.requires.files p (take (length ps - 1) (drop 1 ps)) f (take (length fs - 1) (drop 1 fs)) (uncons ps p parts c.part-item-2.is) (uncons fs f files c.file-item-2.is) (sym c.cmp.ensures ∙ c.in-Equal.is)
    (λ well. (let two : false ≡ true = sym c.if-not-branch.true ∙ c.in_ok-is_well-in-Equal.ensures.1 well in cc)))

pub returns-else-not-branch : goal.returns-else-not-branch
returns-else-not-branch c =
    let Well = IsWell c.args.want.now c.args.nodes.now in
    let ps = c.args.parts.now in
    let fs = c.args.files.now in
    let p = c.part-item-2.result in
    let f = c.file-item-2.result in
    let parts : 0 < length ps = grind arith in
    let files : 0 < length fs = grind arith in
    step_on Well ps fs c.requires.parts c.requires.files p (take (length ps - 1) (drop 1 ps)) f (take (length fs - 1) (drop 1 fs)) (uncons ps p parts c.part-item-2.is) (uncons fs f files c.file-item-2.is) (sym c.cmp.ensures ∙ c.in-Equal.is)
    (c.in_ok-is_well-in-Equal.ensures.0 c.if-not-branch.false)
