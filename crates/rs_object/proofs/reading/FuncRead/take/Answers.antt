use Rattle.inc_wire.specs.Narrow.{narrow_none, narrow_kept, narrow_refused, took_some, took_none}
use Rattle.rs_object.specs.Fits.{FitsFields}
use Rattle.rs_object.specs.Forms.{func_form}
use Rattle.rs_object.specs.Grammar.{HasRelocs}
use Rattle.std.proofs.Common.{◌≡◌, true, false, sym, ◌∙◌}
use Rattle.rs_object.proofs.reading.FuncRead.take.Goals as goal

pub returns : goal.returns
returns c =
    narrow_kept FitsFields HasRelocs func_form c.args.from.now c.take_fields.new.from c.in-Some.func
    (took_some FitsFields func_form c.args.from.now c.take_fields.new.from c.in_ok-func.field-0 c.in-Some.func c.in-Some.is c.in_ok-func.ensures)
    (c.has_relocs.ensures.0 c.if-not-has_relocs.false)

pub returns-then-not-has_relocs : goal.returns-then-not-has_relocs
returns-then-not-has_relocs c =
    narrow_refused FitsFields HasRelocs func_form c.args.from.now c.take_fields.new.from c.in-Some.func
    (took_some FitsFields func_form c.args.from.now c.take_fields.new.from c.in_ok-func.field-0 c.in-Some.func c.in-Some.is c.in_ok-func.ensures)
    (λ has. (let yes = c.has_relocs.ensures.1 has in let bad : true ≡ false = sym yes ∙ c.if-not-has_relocs.true in cc))

pub returns-in_default : goal.returns-in_default
returns-in_default c =
    narrow_none FitsFields HasRelocs func_form c.args.from.now
    (took_none FitsFields func_form c.args.from.now c.take_fields.new.from c.in_ok-func.field-0 c.in_default.is c.in_ok-func.ensures)
