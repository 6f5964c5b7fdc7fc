use Rattle.std.proofs.Common.{◌++◌, ap, ◌∙◌}
use Rattle.inc_wire.specs.Forms.{text_form}
use Rattle.inc_wire.proofs.FieldSteps.{fields_appended}
use Rattle.inc_wire.proofs.put.fields.Goals as goal

pub returns : goal.returns
returns c =
    fields_appended c.args.format c.args.compiler c.args.krate.now _ _ _ _ _ c.in_ok-fields.ensures c.in_ok-put_u16.ensures.ok c.in_ok-put_u32.ensures.ok c.in_ok-put_u8.ensures.ok (c.in_ok-put_text.ensures.ok ∙ ap (λ t. c.put_u8.new.to ++ text_form t) c.bytes.ensures.value)
