use Rattle.std.proofs.Common.{◌∙◌, sym, arith}
use Rattle.rs_lex.specs.Pieces.{is_mark}
use Rattle.rs_lex.proofs.Fronts.{longest_front-down, longest_front-here, longest_front-none}
use Rattle.rs_lex.proofs.length.mark_length.Goals as goal

pub loop-count-preserved : goal.loop-count-preserved
loop-count-preserved c =
    longest_front-down is_mark c.loop-count.count c.args.rest.now c.loop-count-test.true (sym c.begins_with_mark.ensures ∙ c.if-not-begins_with_mark.true) ∙ c.loop-count.invariant

pub returns-else-not-begins_with_mark : goal.returns-else-not-begins_with_mark
returns-else-not-begins_with_mark c =
    sym (longest_front-here is_mark c.loop-count.count c.args.rest.now c.loop-count-test.true (sym c.begins_with_mark.ensures ∙ c.if-not-begins_with_mark.false)) ∙ c.loop-count.invariant

pub returns-after-loop-count : goal.returns-after-loop-count
returns-after-loop-count c = sym (longest_front-none is_mark c.loop-count.count c.args.rest.now (omega arith)) ∙ c.loop-count.invariant
