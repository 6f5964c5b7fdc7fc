use Rattle.std.proofs.Common.{sym, subst, refl}
use Rattle.inc_wire.specs.Readings.{IsTaken}
use Rattle.inc_wire.specs.Narrow.{as_taken, as_none, took_some, took_none}
use Rattle.rs_object.specs.declared.object.Func.{Func}
use Rattle.rs_object.specs.Fits.{FitsFields, parts_of, of_parts}
use Rattle.rs_object.specs.Forms.{func_form}
use Rattle.rs_object.proofs.Fronts.{PartsFit, parts_form, parts_fit}
use Rattle.rs_object.proofs.reading.take_fields.Goals as goal

pub returns : goal.returns
returns c =
    let before = c.args.from.now in
    let after = c.take.new.from in
    let parts = c.in-Some.parts in
    subst (λ (f : Func). IsTaken FitsFields func_form before after f) (sym c.func_of.ensures)
    (as_taken PartsFit parts_form FitsFields func_form of_parts parts_of
    (λ p h. record { symbol = h.0; params = h.1.0; slots = h.1.1.0; code = h.1.1.1.0; relocs = h.1.1.1.1 }) parts_fit (λ p. refl) (λ f. refl) (λ f. refl)
    before after parts (took_some PartsFit parts_form before after c.in_ok-parts.field-0 parts c.in-Some.is c.in_ok-parts.ensures))

pub returns-in_default : goal.returns-in_default
returns-in_default c =
    as_none PartsFit parts_form FitsFields func_form of_parts parts_of parts_fit (λ f. refl) c.args.from.now
    (took_none PartsFit parts_form c.args.from.now c.take.new.from c.in_ok-parts.field-0 c.in_default.is c.in_ok-parts.ensures)
