use Rattle.std.proofs.Common.{◌≡◌, ◌≢◌, ◌++◌, sym, ap, ◌∙◌, subst, arith}
use Rattle.std.proofs.lemmas.Bool.Decides.{nat_tests}
use Rattle.inc_wire.specs.Forms.{header_form}
use Rattle.inc_wire.specs.Readings.{IsReadAs}
use Rattle.inc_graph.proofs.Files.{front_none, front_there, no_header, no_value, ok_there, other_format, whole_file}
use Rattle.inc_graph.proofs.file.read_file.Goals as goal

pub returns-in_default : goal.returns-in_default
returns-in_default g c = no_header g.T.Read.fits g.T.Read.form c.args.b.now (front_none c.args.b.now c.in_ok-header.field-0 c.in_default.is c.in_ok-header.ensures.none)

pub returns-then-header-ne-FILE_FORMAT : goal.returns-then-header-ne-FILE_FORMAT
returns-then-header-ne-FILE_FORMAT g c =
    let b = c.args.b.now in
    let h = c.in-Some.header in
    let front = front_there b c.in_ok-header.field-0 h c.in-Some.at c.in-Some.is c.in_ok-header.ensures.some in
    let other : h.format ≢ 1 = λ e. grind (arith, nat_tests) in
    other_format g.T.Read.fits g.T.Read.form b _ h front.0 front.2 other

pub returns-in-Ok-Some : goal.returns-in-Ok-Some
returns-in-Ok-Some g c =
    let P = g.T.Read.fits in
    let form = g.T.Read.form in
    let b = c.args.b.now in
    let h = c.in-Some.header in
    let rest = c.rest_of.result.now in
    let front = front_there b c.in_ok-header.field-0 h c.in-Some.at c.in-Some.is c.in_ok-header.ensures.some in
    let is : b ≡ header_form h ++ rest = front.2 ∙ ap (λ r. header_form h ++ r) (sym c.rest_of.ensures) in
    let format : h.format ≡ 1 = grind (arith, nat_tests) in
    let read = ok_there (IsReadAs P form rest) c.read_whole.result c.in-Ok-Some.field-0 c.in-Ok-Some.is c.read_whole.ensures in
    whole_file P form b rest h c.in-Ok-Some.value front.0 is format (subst (IsReadAs P form rest) c.in-Ok-Some.field-0-is read)

pub returns-in-Ok-None : goal.returns-in-Ok-None
returns-in-Ok-None g c =
    let P = g.T.Read.fits in
    let form = g.T.Read.form in
    let b = c.args.b.now in
    let h = c.in-Some.header in
    let rest = c.rest_of.result.now in
    let front = front_there b c.in_ok-header.field-0 h c.in-Some.at c.in-Some.is c.in_ok-header.ensures.some in
    let is : b ≡ header_form h ++ rest = front.2 ∙ ap (λ r. header_form h ++ r) (sym c.rest_of.ensures) in
    let read = ok_there (IsReadAs P form rest) c.read_whole.result c.in-Ok-None.field-0 c.in-Ok-None.is c.read_whole.ensures in
    no_value P form b rest h front.0 is (subst (IsReadAs P form rest) c.in-Ok-None.field-0-is read)
