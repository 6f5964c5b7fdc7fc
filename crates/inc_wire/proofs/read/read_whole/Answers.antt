use Rattle.std.proofs.Common.{◌<◌, ◌≤◌, length, arith}
use Rattle.inc_wire.proofs.Taking.{begins_whole, is_whole, not_whole}
use Rattle.inc_wire.specs.Narrow.{took_none, took_some}
use Rattle.inc_wire.proofs.read.read_whole.Goals as goal

pub returns-in_default : goal.returns-in_default
returns-in_default g c =
    let P = g.T.Read.fits in
    let form = g.T.Read.form in
    rw (← c.new-from.ensures) (begins_whole P form c.new-from.result (took_none P form c.new-from.result c.take.new.from c.in_ok-value.field-0 c.in_default.is c.in_ok-value.ensures))

pub returns-then-left-gt0 : goal.returns-then-left-gt0
returns-then-left-gt0 g c =
    let P = g.T.Read.fits in
    let form = g.T.Read.form in
    let more : 0 < length c.take.new.from = omega (arith, c.left.ensures, c.if-left-gt0.true) in
    rw (← c.new-from.ensures) (not_whole P form c.new-from.result c.take.new.from c.in-Some.value (took_some P form c.new-from.result c.take.new.from c.in_ok-value.field-0 c.in-Some.value c.in-Some.is c.in_ok-value.ensures) more)

pub returns : goal.returns
returns g c =
    let P = g.T.Read.fits in
    let form = g.T.Read.form in
    let none : length c.take.new.from ≤ 0 = omega (arith, c.left.ensures, c.if-left-gt0.false) in
    rw (← c.new-from.ensures) (is_whole P form c.new-from.result c.take.new.from c.in-Some.value (took_some P form c.new-from.result c.take.new.from c.in_ok-value.field-0 c.in-Some.value c.in-Some.is c.in_ok-value.ensures) none)
