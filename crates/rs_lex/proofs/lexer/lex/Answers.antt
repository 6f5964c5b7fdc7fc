use Rattle.std.proofs.Common.{◌∙◌, sym, arith}
use Rattle.std.proofs.lemmas.Bool.Decides.{nat_tests}
use Rattle.rs_lex.proofs.Ranges.{read_ranges}
use Rattle.rs_lex.proofs.Found.{nothing_left}
use Rattle.rs_lex.proofs.Texts.{kept, left_some, step_read, read_near, read_stuck, read_whole}
use Rattle.rs_lex.proofs.lexer.lex.Goals as goal

pub returns-in_default-clause-fault : goal.returns-in_default-clause-fault
returns-in_default-clause-fault c =
    read_stuck c.args.text.now c.loop-rest.rest.now c.loop-rest.tokens c.loop-rest.at c.loop-rest.invariant (left_some c.loop-rest.rest.now (grind (arith, nat_tests))) c.in_default.ensures

pub split_at-requires : goal.split_at-requires
split_at-requires c = (step_read c.args.text.now c.loop-rest.rest.now c.loop-rest.tokens c.loop-rest.at c.in-Some.step c.in-Some.ensures c.loop-rest.invariant).within

pub place_after-at-requires-clause-column : goal.place_after-at-requires-clause-column
place_after-at-requires-clause-column c =
    let near = read_near c.args.text.now c.loop-rest.rest.now c.loop-rest.tokens c.loop-rest.at c.loop-rest.invariant in
    omega (arith, near.column)

pub loop-rest-smaller : goal.loop-rest-smaller
loop-rest-smaller c =
    let step = step_read c.args.text.now c.loop-rest.rest.now c.loop-rest.tokens c.loop-rest.at c.in-Some.step c.in-Some.ensures c.loop-rest.invariant in
    omega (arith, step.some, step.within)

pub loop-rest-preserved : goal.loop-rest-preserved
loop-rest-preserved c =
    let step = step_read c.args.text.now c.loop-rest.rest.now c.loop-rest.tokens c.loop-rest.at c.in-Some.step c.in-Some.ensures c.loop-rest.invariant in
    let tokens = kept c.keep.result _ (sym c.is_err.ensures.value ∙ c.if-is_err.false) c.keep.ensures in
    rw (tokens, c.place_after-at.ensures, c.split_at.ensures.front, c.split_at.ensures.back) step.read

pub returns-clause-tokens : goal.returns-clause-tokens
returns-clause-tokens c =
    read_whole c.args.text.now c.loop-rest.rest.now c.loop-rest.tokens c.loop-rest.at c.loop-rest.invariant (nothing_left c.loop-rest.rest.now (grind (arith, nat_tests)))

pub returns-clause-ranges : goal.returns-clause-ranges
returns-clause-ranges c = read_ranges c.args.text.now c.loop-rest.rest.now c.loop-rest.tokens c.loop-rest.at c.loop-rest.invariant (omega arith)
