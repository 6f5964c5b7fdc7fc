use Rattle.std.proofs.Common.{◌<◌, ◌≤◌, length, arith}
use Rattle.inc_wire.proofs.Taking.{begun, further, list_taken, no_count, no_list}
use Rattle.inc_wire.specs.Narrow.{took_none, took_some}
use Rattle.inc_wire.proofs.read.take_list.Goals as goal

pub each-init : goal.each-init
each-init g c = rw c.new-items.ensures (begun g.T.Read.fits g.T.Read.form c.in-Some.count c.take_u32.new.from)

pub each-preserved : goal.each-preserved
each-preserved g c =
    let P = g.T.Read.fits in
    let form = g.T.Read.form in
    let short : length c.each.items < c.in-Some.count = omega (arith, c.len.ensures.value, c.each-test.true) in
    let took = took_some P form c.each.from c.take.new.from c.in_ok-item.field-0 c.in-Some-2.item c.in-Some-2.is c.in_ok-item.ensures in
    rw c.in_ok-push.ensures.ok (further P form c.in-Some.count c.take_u32.new.from c.each.from c.take.new.from c.each.items c.in-Some-2.item c.each.invariant short took)

pub returns : goal.returns
returns g c =
    let enough : c.in-Some.count ≤ length c.each.items = omega (arith, c.len.ensures.value, c.each-test.false) in
    list_taken g.T.Read.fits g.T.Read.form c.in-Some.count c.args.from.now c.take_u32.new.from c.each.from c.each.items c.in-Some.ensures c.each.invariant enough

pub returns-in_default : goal.returns-in_default
returns-in_default g c = no_count g.T.Read.fits g.T.Read.form c.args.from.now c.in_default.ensures

pub returns-in_default-2 : goal.returns-in_default-2
returns-in_default-2 g c =
    let P = g.T.Read.fits in
    let form = g.T.Read.form in
    let short : length c.each.items < c.in-Some.count = omega (arith, c.len.ensures.value, c.each-test.true) in
    let none = took_none P form c.each.from c.take.new.from c.in_ok-item.field-0 c.in_default-2.is c.in_ok-item.ensures in
    no_list P form c.in-Some.count c.args.from.now c.take_u32.new.from c.each.from c.each.items c.in-Some.ensures c.each.invariant short none
