use Rattle.std.proofs.Common.{◌≡◌, ◌<◌, ◌≤◌, ◌++◌, length, refl, sym, ◌∙◌, ap, subst, arith}
use Rattle.inc_wire.specs.Forms.{BeginsWithText, number_form}
use Rattle.inc_wire.proofs.FieldSteps.{no_text_length, no_text_bytes, text_read}
use Rattle.inc_wire.proofs.cursor.Cursor.text.Goals as goal

pub returns-in_err-len-clause-none : goal.returns-in_err-len-clause-none
returns-in_err-len-clause-none c =
    rw c.from_residual.ensures (λ begins. no_text_length c.self.inside.rest.now c.in_err-len.ensures.none.0 (subst BeginsWithText (sym c.self.view_is) begins), refl)

pub returns-then-ahead-len-clause-none : goal.returns-then-ahead-len-clause-none
returns-then-ahead-len-clause-none c =
    let len = c.in_ok-len.ensures.some in
    let few : length c.number.new.self < c.in_ok-len.len = subst (λ t. length t < c.in_ok-len.len) c.ahead.view_is c.if-ahead-len.true in
    (λ begins. no_text_bytes c.self.inside.rest.now c.number.new.self c.in_ok-len.len len.0 len.1 few (subst BeginsWithText (sym c.self.view_is) begins), refl)

pub returns-clause-some : goal.returns-clause-some
returns-clause-some c =
    let len = c.in_ok-len.len in
    let read = c.in_ok-len.ensures.some in
    let cut = c.split_at.ensures in
    let whole = sym c.self.view_is ∙ (read.1 ∙ ap (λ t. number_form 4 len ++ t) (sym c.ahead.view_is)) in
    (omega (arith, cut.front_len, read.0), text_read c.args.self.now c.ahead.inside.rest.now _ _ len whole cut.front cut.back cut.front_len)
