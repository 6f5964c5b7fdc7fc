use Rattle.std.proofs.Common.{◌≡◌, ◌≢◌, Some, true, false, subst, drop, arith}
use Rattle.std.proofs.lemmas.Bool.Decides.{nat_tests}
use Rattle.std.proofs.lemmas.Result.{IfOk-weaker}
use Rattle.inc_products.specs.Fronts.{BeginsWith, IsFront, IsFrontOf}
use Rattle.inc_products.proofs.Fronting.{header_missing, header_there, no_header, other_format, other_header, wanted_front}
use Rattle.inc_products.proofs.front.read_graph.Goals as goal

pub returns-in_default : goal.returns-in_default
returns-in_default c = no_header c.args.want.now c.args.bytes.now (header_missing c.args.bytes.now c.in_ok-header.field-0 c.in_default.is c.in_ok-header.ensures.none)

pub returns-then-format-ne-FILE_FORMAT : goal.returns-then-format-ne-FILE_FORMAT
returns-then-format-ne-FILE_FORMAT c =
    let bytes = c.args.bytes.now in
    let h = c.in-Some.header in
    let there = header_there bytes c.in_ok-header.field-0 h c.in-Some.field-0-1 c.in-Some.is c.in_ok-header.ensures.some in
    let other : h.format ≢ 1 = λ e. grind (arith, nat_tests) in
    other_format c.args.want.now bytes h (drop c.in-Some.field-0-1 bytes) there.0 there.2 other

pub returns-then-branch : goal.returns-then-branch
returns-then-branch c =
    let want = c.args.want.now in
    let bytes = c.args.bytes.now in
    let begins : BeginsWith want bytes true = subst (BeginsWith want bytes) c.if-branch.true c.in_ok-begins_with.ensures.is in
    IfOk-weaker c.read_nodes.result (IsFrontOf bytes) (IsFront want (Some bytes)) (wanted_front want bytes c.in_ok-begins_with.ensures.header begins) c.read_nodes.ensures

pub returns : goal.returns
returns c =
    let want = c.args.want.now in
    let bytes = c.args.bytes.now in
    let h = c.in-Some.header in
    let there = header_there bytes c.in_ok-header.field-0 h c.in-Some.field-0-1 c.in-Some.is c.in_ok-header.ensures.some in
    let format : h.format ≡ 1 = grind (arith, nat_tests) in
    let not : BeginsWith want bytes false = subst (BeginsWith want bytes) c.if-branch.false c.in_ok-begins_with.ensures.is in
    other_header want bytes h (drop c.in-Some.field-0-1 bytes) there.0 there.2 format c.requires not
