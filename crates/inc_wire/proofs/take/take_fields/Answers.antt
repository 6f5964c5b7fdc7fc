use Rattle.std.proofs.Common.{◌≡◌, ◌<◌, ◌++◌, length, sym, ap, ◌∙◌, arith, codes}
use Rattle.inc_wire.specs.Forms.{number_form, text_form}
use Rattle.inc_wire.proofs.FieldSteps.{after_format, after_version, too_few, mark_read, next_number, fields_made}
use Rattle.inc_wire.specs.FormLaws.{fields_form-parts}
use Rattle.inc_wire.proofs.take.take_fields.Goals as goal

pub returns-in_err-after_mark-clause-none : goal.returns-in_err-after_mark-clause-none
returns-in_err-after_mark-clause-none c =
    rw c.from_residual.ensures (λ format compiler name rest f v n same.
    c.in_err-after_mark.ensures (number_form 2 format ++ after_format compiler name rest) (same ∙ fields_form-parts format compiler name rest))

pub returns-in_err-format-clause-none : goal.returns-in_err-format-clause-none
returns-in_err-format-clause-none c =
    rw c.from_residual-in_err-format.ensures (λ format compiler name rest f v n same.
    let fields = c.new-cursor.ensures ∙ mark_read c.args.b.now c.in_ok-after_mark.field-0.now format compiler name rest c.in_ok-after_mark.ensures same in
    too_few 2 format c.new-cursor.result (after_format compiler name rest) fields c.in_err-format.ensures.none.0)

pub returns-in_err-version-clause-none : goal.returns-in_err-version-clause-none
returns-in_err-version-clause-none c =
    rw c.from_residual-in_err-version.ensures (λ format compiler name rest f v n same.
    let fields = c.new-cursor.ensures ∙ mark_read c.args.b.now c.in_ok-after_mark.field-0.now format compiler name rest c.in_ok-after_mark.ensures same in
    let first = c.in_ok-format.ensures.some in
    let after = next_number 2 c.in_ok-format.field-0 format c.new-cursor.result c.number.new.self (after_format compiler name rest) first.1 first.0 fields f in
    too_few 4 compiler.version c.number.new.self (after_version compiler name rest) after.1 c.in_err-version.ensures.none.0)

pub returns-in_err-level-clause-none : goal.returns-in_err-level-clause-none
returns-in_err-level-clause-none c =
    rw c.from_residual-in_err-level.ensures (λ format compiler name rest f v n same.
    let fields = c.new-cursor.ensures ∙ mark_read c.args.b.now c.in_ok-after_mark.field-0.now format compiler name rest c.in_ok-after_mark.ensures same in
    let first = c.in_ok-format.ensures.some in
    let second = c.in_ok-version.ensures.some in
    let after = next_number 2 c.in_ok-format.field-0 format c.new-cursor.result c.number.new.self (after_format compiler name rest) first.1 first.0 fields f in
    let later = next_number 4 c.in_ok-version.field-0 compiler.version c.number.new.self c.number-2.new.self (after_version compiler name rest) second.1 second.0 after.1 v in
    too_few 1 compiler.level c.number-2.new.self (text_form name ++ rest) later.1 c.in_err-level.ensures.none.0)

pub returns-in_err-name-clause-none : goal.returns-in_err-name-clause-none
returns-in_err-name-clause-none c =
    rw c.from_residual-in_err-name.ensures (λ format compiler name rest f v n same.
    let fields = c.new-cursor.ensures ∙ mark_read c.args.b.now c.in_ok-after_mark.field-0.now format compiler name rest c.in_ok-after_mark.ensures same in
    let first = c.in_ok-format.ensures.some in
    let second = c.in_ok-version.ensures.some in
    let third = c.in_ok-level.ensures.some in
    let after = next_number 2 c.in_ok-format.field-0 format c.new-cursor.result c.number.new.self (after_format compiler name rest) first.1 first.0 fields f in
    let later = next_number 4 c.in_ok-version.field-0 compiler.version c.number.new.self c.number-2.new.self (after_version compiler name rest) second.1 second.0 after.1 v in
    let last = next_number 1 c.in_ok-level.field-0 compiler.level c.number-2.new.self c.number-3.new.self (text_form name ++ rest) third.1 third.0 later.1 (omega (arith, compiler.level_is)) in
    c.in_err-name.ensures.none.0 (name, rest, n, last.1))

pub returns-then-level-gt1-clause-none : goal.returns-then-level-gt1-clause-none
returns-then-level-gt1-clause-none c = λ format compiler name rest f v n same.
    let fields = c.new-cursor.ensures ∙ mark_read c.args.b.now c.in_ok-after_mark.field-0.now format compiler name rest c.in_ok-after_mark.ensures same in
    let first = c.in_ok-format.ensures.some in
    let second = c.in_ok-version.ensures.some in
    let third = c.in_ok-level.ensures.some in
    let after = next_number 2 c.in_ok-format.field-0 format c.new-cursor.result c.number.new.self (after_format compiler name rest) first.1 first.0 fields f in
    let later = next_number 4 c.in_ok-version.field-0 compiler.version c.number.new.self c.number-2.new.self (after_version compiler name rest) second.1 second.0 after.1 v in
    let last = next_number 1 c.in_ok-level.field-0 compiler.level c.number-2.new.self c.number-3.new.self (text_form name ++ rest) third.1 third.0 later.1 (omega (arith, compiler.level_is)) in
    absurd (omega (arith, last.0, compiler.level_is, c.if-level-gt1.true))

pub returns-clause-some : goal.returns-clause-some
returns-clause-some c =
    let first = c.in_ok-format.ensures.some in
    let second = c.in_ok-version.ensures.some in
    let third = c.in_ok-level.ensures.some in
    let last = c.in_ok-name.ensures.some in
    let mark = c.in_ok-after_mark.ensures ∙ ap (λ t. codes "INCC" ++ t) (sym c.new-cursor.ensures) in
    let end = last.1 ∙ ap (λ t. text_form c.in_ok-name.name.now ++ t) (sym c.rest.ensures) in
    (first.0, second.0, last.0, fields_made c.args.b.now c.new-cursor.result c.number.new.self c.number-2.new.self c.number-3.new.self c.rest.result.now c.in_ok-name.name.now c.in_ok-format.field-0 _ mark first.1 second.1 third.1 end)
