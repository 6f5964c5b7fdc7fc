use Rattle.std.proofs.Common.{◌<◌, ◌^◌, Bor, length, sym, subst, arith}
use Rattle.std.proofs.lemmas.List.{length-map}
use Rattle.rs_object.specs.declared.object.Func.{Func}
use Rattle.rs_object.specs.Grammar.{HasRelocs}
use Rattle.rs_link.proofs.Tables.{seen, at_seen, body_more}
use Rattle.rs_link.proofs.image.image_of.Goals as goal

pub put_body-requires : goal.put_body-requires
put_body-requires c =
    let f = c.func-item.result in
    let at = at_seen c.args.funcs.now c.loop-func.func-index f c.loop-func-test.true c.func-item.is in
    subst HasRelocs (sym at.1) (c.requires.relocs c.loop-func.func-index f.now at.0)

pub loop-func-preserved : goal.loop-func-preserved
loop-func-preserved c =
    let f = c.func-item.result in
    let fs = c.args.funcs.now in
    let at = at_seen fs c.loop-func.func-index f c.loop-func-test.true c.func-item.is in
    let few : length (seen fs) < 2 ^ 32 = omega (arith, c.requires.few, length-map fs (λ (f : Bor Func). f.now)) in
    body_more (seen fs) (seen fs) c.put_number-3.new.to c.loop-func.image c.put_body.new.to c.loop-func.func-index f.now at.0 at.1 c.loop-func.invariant (c.in_ok-put_body.ensures (seen fs) few c.requires.numbers)
