use Rattle.std.proofs.Common.{[], ◌++◌, Some, None, sym, ap, append-nil, arith, inl, inr}
use Rattle.rs_grammar.specs.Grammar.{Nt, Worded, Statement, Loop, Choice, Arm, OtherArms, Block}
use Rattle.rs_grammar.specs.Parses.{r-nt, r-no_nt, r-seq, r-first, r-second, r-left, r-right, r-no_left, r-no_right, r-stop, r-no_turn, r-tail_stop, r-ahead, r-no_ahead, r-other_way, r-no_other_way}
use Rattle.rs_reader.specs.Reading.{Reading}
use Rattle.rs_reader.proofs.Exits.{passes, read, read_as, hands, as_is, turns_more, tail_more, tail_last, tail_no_turn}
use Rattle.rs_reader.proofs.Makes.{hands_made}
use Rattle.rs_tree.specs.Kinds.{code}
use Rattle.rs_parse.specs.Blocks.{assignment, assigned, evaluation, evaluated}
use Rattle.rs_parse.proofs.Blocks.{tail_no_last}
use Rattle.rs_parse.proofs.statement.+statement.Goals as goal

pub worded-returns-then-sees : goal.worded-returns-then-sees
unfolding code
worded-returns-then-sees t c = as_is (λ q. Reading (Nt Worded) c.args.tokens.now q c.binding.new.tokens) c.binding.result
    (hands {h = (Nt Worded)} c.binding.result c.binding.ensures (λ x. x) (λ r. r-no_nt {n = Worded} (r-no_left (sym c.if-sees.ensures) r)) (λ x r. r-nt {n = Worded} (r-left (sym c.if-sees.ensures) r)))

pub worded-returns-then-sees-2 : goal.worded-returns-then-sees-2
unfolding code
worded-returns-then-sees-2 t c = as_is (λ q. Reading (Nt Worded) c.args.tokens.now q c.returning.new.tokens) c.returning.result
    (hands {h = (Nt Worded)} c.returning.result c.returning.ensures (λ x. x) (λ r. r-no_nt {n = Worded} (r-no_right (sym c.if-sees.ensures) (r-no_left (sym c.if-sees-2.ensures) r))) (λ x r. r-nt {n = Worded} (r-right (sym c.if-sees.ensures) (r-left (sym c.if-sees-2.ensures) r))))

pub worded-returns-then-sees-3 : goal.worded-returns-then-sees-3
unfolding code
worded-returns-then-sees-3 t c = as_is (λ q. Reading (Nt Worded) c.args.tokens.now q c.repeated.new.tokens) c.repeated.result
    (hands {h = (Nt Worded)} c.repeated.result c.repeated.ensures (λ x. x) (λ r. r-no_nt {n = Worded} (r-no_right (sym c.if-sees.ensures) (r-no_right (sym c.if-sees-2.ensures) (r-no_left (sym c.if-sees-3.ensures) r)))) (λ x r. r-nt {n = Worded} (r-right (sym c.if-sees.ensures) (r-right (sym c.if-sees-2.ensures) (r-left (sym c.if-sees-3.ensures) r)))))

pub worded-returns-then-sees-4 : goal.worded-returns-then-sees-4
unfolding code
worded-returns-then-sees-4 t c = as_is (λ q. Reading (Nt Worded) c.args.tokens.now q c.choice.new.tokens) c.choice.result
    (hands {h = (Nt Worded)} c.choice.result c.choice.ensures (λ x. x) (λ r. r-no_nt {n = Worded} (r-no_right (sym c.if-sees.ensures) (r-no_right (sym c.if-sees-2.ensures) (r-no_right (sym c.if-sees-3.ensures) (r-no_left (sym c.if-sees-4.ensures) r))))) (λ x r. r-nt {n = Worded} (r-right (sym c.if-sees.ensures) (r-right (sym c.if-sees-2.ensures) (r-right (sym c.if-sees-3.ensures) (r-left (sym c.if-sees-4.ensures) r))))))

pub worded-returns : goal.worded-returns
unfolding code
worded-returns t c = as_is (λ q. Reading (Nt Worded) c.args.tokens.now q c.printing.new.tokens) c.printing.result
    (hands {h = (Nt Worded)} c.printing.result c.printing.ensures (λ x. x) (λ r. r-no_nt {n = Worded} (r-no_right (sym c.if-sees.ensures) (r-no_right (sym c.if-sees-2.ensures) (r-no_right (sym c.if-sees-3.ensures) (r-no_right (sym c.if-sees-4.ensures) r))))) (λ x r. r-nt {n = Worded} (r-right (sym c.if-sees.ensures) (r-right (sym c.if-sees-2.ensures) (r-right (sym c.if-sees-3.ensures) (r-right (sym c.if-sees-4.ensures) r))))))

pub statement-returns-then-sees_worded : goal.statement-returns-then-sees_worded
statement-returns-then-sees_worded t c = as_is (λ q. Reading (Nt Statement) c.args.tokens.now q c.worded.new.tokens) c.worded.result
    (hands {h = (Nt Statement)} c.worded.result c.worded.ensures (λ x. x) (λ r. r-no_nt {n = Statement} (r-no_left (sym c.if-sees_worded.ensures) r)) (λ x r. r-nt {n = Statement} {x = inl x} (r-left (sym c.if-sees_worded.ensures) r)))

pub statement-returns-then-sees_assignment : goal.statement-returns-then-sees_assignment
statement-returns-then-sees_assignment t c = hands_made {g = assignment} {h = Nt Statement} {f = assigned} c.assignment.result c.assignment.ensures (λ r. r-no_nt {n = Statement} (r-no_right (sym c.if-sees_worded.ensures) (r-no_ahead (sym c.if-sees_assignment.ensures) r))) (λ y r. r-nt {n = Statement} {x = inr (inl y)} (r-right (sym c.if-sees_worded.ensures) (r-ahead (sym c.if-sees_assignment.ensures) r)))

pub statement-returns : goal.statement-returns
statement-returns t c = hands_made {g = evaluation} {h = Nt Statement} {f = evaluated} c.evaluation.result c.evaluation.ensures (λ r. r-no_nt {n = Statement} (r-no_right (sym c.if-sees_worded.ensures) (r-no_other_way (sym c.if-sees_assignment.ensures) r))) (λ y r. r-nt {n = Statement} {x = inr (inr y)} (r-right (sym c.if-sees_worded.ensures) (r-other_way (sym c.if-sees_assignment.ensures) r)))

pub statements-returns-in_err-statement : goal.statements-returns-in_err-statement
statements-returns-in_err-statement t c = passes c.from_residual.result c.from_residual.ensures.1 c.in_err-statement.ensures (λ r. c.turns.invariant.fails _ (r-no_turn (sym c.turns-test.ensures) r))

pub statements-turns-preserved : goal.statements-turns-preserved
statements-turns-preserved t c = rw c.in_ok-push.ensures.ok (turns_more c.turns.invariant (sym c.turns-test.ensures) c.in_ok-statement.ensures.is)

pub statements-returns : goal.statements-returns
statements-returns t c = read_as (sym (append-nil c.turns.found)) (c.turns.invariant.ends [] _ (r-stop (sym c.turns-test.ensures)))

pub statements-statement-requires : goal.statements-statement-requires
statements-statement-requires t c = omega (arith, c.turns.invariant.on)

pub block-returns-in_err-expect : goal.block-returns-in_err-expect
block-returns-in_err-expect t c = passes c.from_residual.result c.from_residual.ensures.1 c.in_err-expect.ensures (λ r. r-no_nt {n = Block} (r-first r))

pub block-returns-in_err-found : goal.block-returns-in_err-found
block-returns-in_err-found t c = passes c.from_residual-in_err-found.result c.from_residual-in_err-found.ensures.1 c.in_err-found.ensures (λ r. r-no_nt {n = Block} (r-second c.in_ok-expect.ensures.is (r-first r)))

pub block-returns-in_err-expect-2 : goal.block-returns-in_err-expect-2
block-returns-in_err-expect-2 t c = passes c.from_residual-in_err-expect-2.result c.from_residual-in_err-expect-2.ensures.1 c.in_err-expect-2.ensures (λ r. r-no_nt {n = Block} (r-second c.in_ok-expect.ensures.is (r-second c.in_ok-found.ensures.is r)))

pub block-returns : goal.block-returns
block-returns t c = read_as c.in_ok-fitted.ensures (r-nt {n = Block} {x = (c.in_ok-expect.field-0, (c.in_ok-found.found, c.in_ok-expect-2.field-0))} (r-seq c.in_ok-expect.ensures.is (r-seq c.in_ok-found.ensures.is c.in_ok-expect-2.ensures.is)))

pub repeated-returns-in_err-expect : goal.repeated-returns-in_err-expect
repeated-returns-in_err-expect t c = passes c.from_residual.result c.from_residual.ensures.1 c.in_err-expect.ensures (λ r. r-no_nt {n = Loop} (r-first r))

pub repeated-returns-in_err-cond : goal.repeated-returns-in_err-cond
repeated-returns-in_err-cond t c = passes c.from_residual-in_err-cond.result c.from_residual-in_err-cond.ensures.1 c.in_err-cond.ensures (λ r. r-no_nt {n = Loop} (r-second c.in_ok-expect.ensures.is (r-first r)))

pub repeated-returns-in_err-body : goal.repeated-returns-in_err-body
repeated-returns-in_err-body t c = passes c.from_residual-in_err-body.result c.from_residual-in_err-body.ensures.1 c.in_err-body.ensures (λ r. r-no_nt {n = Loop} (r-second c.in_ok-expect.ensures.is (r-second c.in_ok-cond.ensures.is r)))

pub repeated-returns : goal.repeated-returns
repeated-returns t c = read (r-nt {n = Loop} {x = (c.in_ok-expect.field-0, (c.in_ok-cond.cond, c.in_ok-body.body))} (r-seq c.in_ok-expect.ensures.is (r-seq c.in_ok-cond.ensures.is c.in_ok-body.ensures.is)))

pub arm-returns-in_err-expect : goal.arm-returns-in_err-expect
arm-returns-in_err-expect t c = passes c.from_residual.result c.from_residual.ensures.1 c.in_err-expect.ensures (λ r. r-no_nt {n = Arm} (r-first r))

pub arm-returns-in_err-cond : goal.arm-returns-in_err-cond
arm-returns-in_err-cond t c = passes c.from_residual-in_err-cond.result c.from_residual-in_err-cond.ensures.1 c.in_err-cond.ensures (λ r. r-no_nt {n = Arm} (r-second c.in_ok-expect.ensures.is (r-first r)))

pub arm-returns-in_err-body : goal.arm-returns-in_err-body
arm-returns-in_err-body t c = passes c.from_residual-in_err-body.result c.from_residual-in_err-body.ensures.1 c.in_err-body.ensures (λ r. r-no_nt {n = Arm} (r-second c.in_ok-expect.ensures.is (r-second c.in_ok-cond.ensures.is r)))

pub arm-returns : goal.arm-returns
arm-returns t c = read (r-nt {n = Arm} {x = (c.in_ok-expect.field-0, (c.in_ok-cond.cond, c.in_ok-body.body))} (r-seq c.in_ok-expect.ensures.is (r-seq c.in_ok-cond.ensures.is c.in_ok-body.ensures.is)))

pub choice-returns-in_err-first : goal.choice-returns-in_err-first
choice-returns-in_err-first t c = passes c.from_residual.result c.from_residual.ensures.1 c.in_err-first.ensures (λ r. r-no_nt {n = Choice} (r-first r))

pub choice-returns-in_err-others : goal.choice-returns-in_err-others
choice-returns-in_err-others t c = passes c.from_residual-in_err-others.result c.from_residual-in_err-others.ensures.1 c.in_err-others.ensures (λ r. r-no_nt {n = Choice} (r-second c.in_ok-first.ensures.is r))

pub choice-returns : goal.choice-returns
choice-returns t c = read_as (c.in_ok-chosen.ensures) (r-nt {n = Choice} {x = (c.in_ok-first.first, c.in_ok-others.others)} (r-seq c.in_ok-first.ensures.is c.in_ok-others.ensures.is))

pub other_arms-returns-in_err-last : goal.other_arms-returns-in_err-last
unfolding code
other_arms-returns-in_err-last t c = passes c.from_residual.result c.from_residual.ensures.1 c.in_err-last.ensures (λ r. r-no_nt {n = OtherArms} (c.turns.invariant.fails _ (tail_no_last c.take.ensures.is (sym c.if-not-sees.ensures) r)))

pub other_arms-returns-then-not-sees : goal.other_arms-returns-then-not-sees
unfolding code
other_arms-returns-then-not-sees t c = read_as (ap (λ l. (l, Some c.in_ok-last.last)) (sym (append-nil c.turns.found))) (r-nt {n = OtherArms} {x = (c.turns.found ++ [], Some c.in_ok-last.last)} (c.turns.invariant.ends [] (Some c.in_ok-last.last) _ (tail_last c.take.ensures.is (sym c.if-not-sees.ensures) c.in_ok-last.ensures.is)))

pub other_arms-returns-in_err-arm : goal.other_arms-returns-in_err-arm
unfolding code
other_arms-returns-in_err-arm t c = passes c.from_residual-in_err-arm.result c.from_residual-in_err-arm.ensures.1 c.in_err-arm.ensures (λ r. r-no_nt {n = OtherArms} (c.turns.invariant.fails _ (tail_no_turn c.take.ensures.is (sym c.if-not-sees.ensures) r)))

pub other_arms-turns-preserved : goal.other_arms-turns-preserved
unfolding code
other_arms-turns-preserved t c = rw c.in_ok-push.ensures.ok (tail_more c.turns.invariant c.take.ensures.is (sym c.if-not-sees.ensures) c.in_ok-arm.ensures.is)

pub other_arms-returns : goal.other_arms-returns
unfolding code
other_arms-returns t c = read_as (ap (λ l. (l, None)) (sym (append-nil c.turns.found))) (r-nt {n = OtherArms} {x = (c.turns.found ++ [], None)} (c.turns.invariant.ends [] None _ (r-tail_stop (sym c.turns-test.ensures))))

pub other_arms-arm-requires : goal.other_arms-arm-requires
other_arms-arm-requires t c = omega (arith, c.turns.invariant.on, c.take.ensures.on)

pub other_arms-block-requires : goal.other_arms-block-requires
other_arms-block-requires t c = omega (arith, c.turns.invariant.on, c.take.ensures.on)
