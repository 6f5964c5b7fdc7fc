use Rattle.std.proofs.Common.{◌≡◌, ◌<◌, ◌^◌, length, sym, subst, ◌∙◌, None, arith}
use Rattle.std.specs.Prelude.{IfNone}
use Rattle.inc_base.specs.Texts.{IsName}
use Rattle.inc_wire.specs.FormLaws.{same_fields_front}
use Rattle.inc_wire.proofs.take.take_header.Goals as goal

pub returns-in_default-2-clause-none : goal.returns-in_default-2-clause-none
returns-in_default-2-clause-none c = λ begins.
    let h = begins.0 in
    let is = begins.2 in
    let fields = c.in-Some.fields in
    let read = c.in-Some.ensures.some in
    let few : length h.krate < 2 ^ 32 = omega (arith, is.krate.few) in
    let parts = same_fields_front fields.format h.format fields.compiler h.compiler fields.name.now h.krate fields.rest.now begins.1 read.0 is.format read.1 is.version read.2 few (sym read.3 ∙ begins.3) in
    let none = subst (λ o. IfNone o (¬ IsName fields.name.now)) c.in_default-2.is c.in_ok-krate.ensures.none in
    none (subst IsName (sym parts.2) is.krate)
