use Rattle.std.proofs.Common.{[], ◌++◌, Some, None, inl, inr, sym, append-nil, arith}
use Rattle.rs_tree.specs.Kinds.{code}
use Rattle.rs_grammar.specs.Grammar.{AndNext, Args, Arguments, Compared, Comparison, Conjunction, Expression, Group, OrNext, OtherArgs, Primary, Product, ProductNext, Sum, SumNext, Unary, Use}
use Rattle.rs_grammar.specs.Parses.{r-nt, r-no_nt, r-seq, r-first, r-second, r-left, r-right, r-no_left, r-no_right, r-none, r-some, r-held, r-stop, r-no_turn, r-tail_stop, r-empty}
use Rattle.rs_reader.proofs.Exits.{passes, read, read_as, turns_more, tail_more, tail_last, tail_no_turn}
use Rattle.rs_parse.proofs.expression.+expression.Goals as goal

pub expression-returns-in_err-first : goal.expression-returns-in_err-first
expression-returns-in_err-first t c = passes c.from_residual.result c.from_residual.ensures.1 c.in_err-first.ensures (λ r. r-no_nt {n = Expression} (r-first r))

pub expression-returns-in_err-more : goal.expression-returns-in_err-more
expression-returns-in_err-more t c = passes c.from_residual-in_err-more.result c.from_residual-in_err-more.ensures.1 c.in_err-more.ensures (λ r. r-no_nt {n = Expression} (r-second c.in_ok-first.ensures.is r))

pub expression-returns : goal.expression-returns
expression-returns t c = read_as c.in_ok-e.ensures (r-nt {n = Expression} {x = (c.in_ok-first.first, c.in_ok-more.more)} (r-seq c.in_ok-first.ensures.is c.in_ok-more.ensures.is))

pub or_nexts-returns-in_err-next : goal.or_nexts-returns-in_err-next
unfolding code
or_nexts-returns-in_err-next t c = passes c.from_residual.result c.from_residual.ensures.1 c.in_err-next.ensures (λ r. c.turns.invariant.fails _ (r-no_turn (sym c.turns-test.ensures) (r-no_nt {n = OrNext} (r-second c.take.ensures.is r))))

pub or_nexts-conjunction-requires : goal.or_nexts-conjunction-requires
unfolding code
or_nexts-conjunction-requires t c = omega (arith, c.turns.invariant.on, c.take.ensures.on)

pub or_nexts-turns-preserved : goal.or_nexts-turns-preserved
unfolding code
or_nexts-turns-preserved t c = rw c.in_ok-push.ensures.ok (turns_more c.turns.invariant (sym c.turns-test.ensures) (r-nt {n = OrNext} {x = (c.take.result, c.in_ok-next.next)} (r-seq c.take.ensures.is c.in_ok-next.ensures.is)))

pub or_nexts-returns : goal.or_nexts-returns
unfolding code
or_nexts-returns t c = read_as (sym (append-nil c.turns.more)) (c.turns.invariant.ends [] _ (r-stop (sym c.turns-test.ensures)))

pub conjunction-returns-in_err-first : goal.conjunction-returns-in_err-first
conjunction-returns-in_err-first t c = passes c.from_residual.result c.from_residual.ensures.1 c.in_err-first.ensures (λ r. r-no_nt {n = Conjunction} (r-first r))

pub conjunction-returns-in_err-more : goal.conjunction-returns-in_err-more
conjunction-returns-in_err-more t c = passes c.from_residual-in_err-more.result c.from_residual-in_err-more.ensures.1 c.in_err-more.ensures (λ r. r-no_nt {n = Conjunction} (r-second c.in_ok-first.ensures.is r))

pub conjunction-returns : goal.conjunction-returns
conjunction-returns t c = read_as c.in_ok-e.ensures (r-nt {n = Conjunction} {x = (c.in_ok-first.first, c.in_ok-more.more)} (r-seq c.in_ok-first.ensures.is c.in_ok-more.ensures.is))

pub and_nexts-returns-in_err-next : goal.and_nexts-returns-in_err-next
unfolding code
and_nexts-returns-in_err-next t c = passes c.from_residual.result c.from_residual.ensures.1 c.in_err-next.ensures (λ r. c.turns.invariant.fails _ (r-no_turn (sym c.turns-test.ensures) (r-no_nt {n = AndNext} (r-second c.take.ensures.is r))))

pub and_nexts-comparison-requires : goal.and_nexts-comparison-requires
unfolding code
and_nexts-comparison-requires t c = omega (arith, c.turns.invariant.on, c.take.ensures.on)

pub and_nexts-turns-preserved : goal.and_nexts-turns-preserved
unfolding code
and_nexts-turns-preserved t c = rw c.in_ok-push.ensures.ok (turns_more c.turns.invariant (sym c.turns-test.ensures) (r-nt {n = AndNext} {x = (c.take.result, c.in_ok-next.next)} (r-seq c.take.ensures.is c.in_ok-next.ensures.is)))

pub and_nexts-returns : goal.and_nexts-returns
unfolding code
and_nexts-returns t c = read_as (sym (append-nil c.turns.more)) (c.turns.invariant.ends [] _ (r-stop (sym c.turns-test.ensures)))

pub comparison-returns-in_err-left : goal.comparison-returns-in_err-left
comparison-returns-in_err-left t c = passes c.from_residual.result c.from_residual.ensures.1 c.in_err-left.ensures (λ r. r-no_nt {n = Comparison} (r-first r))

pub comparison-returns-then-not-sees_comparison : goal.comparison-returns-then-not-sees_comparison
comparison-returns-then-not-sees_comparison t c = read (r-nt {n = Comparison} {x = (c.in_ok-left.left, None)} (r-seq c.in_ok-left.ensures.is (r-none (sym c.if-not-sees_comparison.ensures))))

pub comparison-returns-in_err-sign : goal.comparison-returns-in_err-sign
comparison-returns-in_err-sign t c = passes c.from_residual-in_err-sign.result c.from_residual-in_err-sign.ensures.1 c.in_err-sign.ensures (λ r. r-no_nt {n = Comparison} (r-second c.in_ok-left.ensures.is (r-held (sym c.if-not-sees_comparison.ensures) (r-no_nt {n = Compared} (r-first r)))))

pub comparison-returns-in_err-right : goal.comparison-returns-in_err-right
comparison-returns-in_err-right t c = passes c.from_residual-in_err-right.result c.from_residual-in_err-right.ensures.1 c.in_err-right.ensures (λ r. r-no_nt {n = Comparison} (r-second c.in_ok-left.ensures.is (r-held (sym c.if-not-sees_comparison.ensures) (r-no_nt {n = Compared} (r-second c.in_ok-sign.ensures.is r)))))

pub comparison-returns : goal.comparison-returns
comparison-returns t c = read_as c.in_ok-e.ensures (r-nt {n = Comparison} {x = (c.in_ok-left.left, Some (c.in_ok-sign.sign, c.in_ok-right.right))} (r-seq c.in_ok-left.ensures.is (r-some (sym c.if-not-sees_comparison.ensures) (r-nt {n = Compared} {x = (c.in_ok-sign.sign, c.in_ok-right.right)} (r-seq c.in_ok-sign.ensures.is c.in_ok-right.ensures.is)))))

pub sum-returns-in_err-first : goal.sum-returns-in_err-first
sum-returns-in_err-first t c = passes c.from_residual.result c.from_residual.ensures.1 c.in_err-first.ensures (λ r. r-no_nt {n = Sum} (r-first r))

pub sum-returns-in_err-more : goal.sum-returns-in_err-more
sum-returns-in_err-more t c = passes c.from_residual-in_err-more.result c.from_residual-in_err-more.ensures.1 c.in_err-more.ensures (λ r. r-no_nt {n = Sum} (r-second c.in_ok-first.ensures.is r))

pub sum-returns : goal.sum-returns
sum-returns t c = read_as c.in_ok-e.ensures (r-nt {n = Sum} {x = (c.in_ok-first.first, c.in_ok-more.more)} (r-seq c.in_ok-first.ensures.is c.in_ok-more.ensures.is))

pub sum_nexts-returns-in_err-sign : goal.sum_nexts-returns-in_err-sign
unfolding code
sum_nexts-returns-in_err-sign t c = passes c.from_residual.result c.from_residual.ensures.1 c.in_err-sign.ensures (λ r. c.turns.invariant.fails _ (r-no_turn (sym c.turns-test.ensures) (r-no_nt {n = SumNext} (r-first r))))

pub sum_nexts-returns-in_err-next : goal.sum_nexts-returns-in_err-next
unfolding code
sum_nexts-returns-in_err-next t c = passes c.from_residual-in_err-next.result c.from_residual-in_err-next.ensures.1 c.in_err-next.ensures (λ r. c.turns.invariant.fails _ (r-no_turn (sym c.turns-test.ensures) (r-no_nt {n = SumNext} (r-second c.in_ok-sign.ensures.is r))))

pub sum_nexts-product-requires : goal.sum_nexts-product-requires
unfolding code
sum_nexts-product-requires t c = omega (arith, c.turns.invariant.on, c.in_ok-sign.ensures.on)

pub sum_nexts-turns-preserved : goal.sum_nexts-turns-preserved
unfolding code
sum_nexts-turns-preserved t c = rw c.in_ok-push.ensures.ok (turns_more c.turns.invariant (sym c.turns-test.ensures) (r-nt {n = SumNext} {x = (c.in_ok-sign.sign, c.in_ok-next.next)} (r-seq c.in_ok-sign.ensures.is c.in_ok-next.ensures.is)))

pub sum_nexts-returns : goal.sum_nexts-returns
unfolding code
sum_nexts-returns t c = read_as (sym (append-nil c.turns.more)) (c.turns.invariant.ends [] _ (r-stop (sym c.turns-test.ensures)))

pub product-returns-in_err-first : goal.product-returns-in_err-first
product-returns-in_err-first t c = passes c.from_residual.result c.from_residual.ensures.1 c.in_err-first.ensures (λ r. r-no_nt {n = Product} (r-first r))

pub product-returns-in_err-more : goal.product-returns-in_err-more
product-returns-in_err-more t c = passes c.from_residual-in_err-more.result c.from_residual-in_err-more.ensures.1 c.in_err-more.ensures (λ r. r-no_nt {n = Product} (r-second c.in_ok-first.ensures.is r))

pub product-returns : goal.product-returns
product-returns t c = read_as c.in_ok-e.ensures (r-nt {n = Product} {x = (c.in_ok-first.first, c.in_ok-more.more)} (r-seq c.in_ok-first.ensures.is c.in_ok-more.ensures.is))

pub product_nexts-returns-in_err-sign : goal.product_nexts-returns-in_err-sign
unfolding code
product_nexts-returns-in_err-sign t c = passes c.from_residual.result c.from_residual.ensures.1 c.in_err-sign.ensures (λ r. c.turns.invariant.fails _ (r-no_turn (sym c.turns-test.ensures) (r-no_nt {n = ProductNext} (r-first r))))

pub product_nexts-returns-in_err-next : goal.product_nexts-returns-in_err-next
unfolding code
product_nexts-returns-in_err-next t c = passes c.from_residual-in_err-next.result c.from_residual-in_err-next.ensures.1 c.in_err-next.ensures (λ r. c.turns.invariant.fails _ (r-no_turn (sym c.turns-test.ensures) (r-no_nt {n = ProductNext} (r-second c.in_ok-sign.ensures.is r))))

pub product_nexts-unary-requires : goal.product_nexts-unary-requires
unfolding code
product_nexts-unary-requires t c = omega (arith, c.turns.invariant.on, c.in_ok-sign.ensures.on)

pub product_nexts-turns-preserved : goal.product_nexts-turns-preserved
unfolding code
product_nexts-turns-preserved t c = rw c.in_ok-push.ensures.ok (turns_more c.turns.invariant (sym c.turns-test.ensures) (r-nt {n = ProductNext} {x = (c.in_ok-sign.sign, c.in_ok-next.next)} (r-seq c.in_ok-sign.ensures.is c.in_ok-next.ensures.is)))

pub product_nexts-returns : goal.product_nexts-returns
unfolding code
product_nexts-returns t c = read_as (sym (append-nil c.turns.more)) (c.turns.invariant.ends [] _ (r-stop (sym c.turns-test.ensures)))

pub unary-returns-in_err-operand : goal.unary-returns-in_err-operand
unary-returns-in_err-operand t c = passes c.from_residual.result c.from_residual.ensures.1 c.in_err-operand.ensures (λ r. r-no_nt {n = Unary} (r-second (r-none (sym c.if-not-sees_unary_sign.ensures)) r))

pub unary-returns-then-not-sees_unary_sign : goal.unary-returns-then-not-sees_unary_sign
unary-returns-then-not-sees_unary_sign t c = read (r-nt {n = Unary} {x = (None, c.in_ok-operand.operand)} (r-seq (r-none (sym c.if-not-sees_unary_sign.ensures)) c.in_ok-operand.ensures.is))

pub unary-returns-in_err-sign : goal.unary-returns-in_err-sign
unary-returns-in_err-sign t c = passes c.from_residual-in_err-sign.result c.from_residual-in_err-sign.ensures.1 c.in_err-sign.ensures (λ r. r-no_nt {n = Unary} (r-first (r-held (sym c.if-not-sees_unary_sign.ensures) r)))

pub unary-returns-in_err-operand-2 : goal.unary-returns-in_err-operand-2
unary-returns-in_err-operand-2 t c = passes c.from_residual-in_err-operand-2.result c.from_residual-in_err-operand-2.ensures.1 c.in_err-operand-2.ensures (λ r. r-no_nt {n = Unary} (r-second (r-some (sym c.if-not-sees_unary_sign.ensures) c.in_ok-sign.ensures.is) r))

pub unary-returns : goal.unary-returns
unary-returns t c = read_as c.in_ok-e.ensures (r-nt {n = Unary} {x = (Some c.in_ok-sign.sign, c.in_ok-operand-2.operand)} (r-seq (r-some (sym c.if-not-sees_unary_sign.ensures) c.in_ok-sign.ensures.is) c.in_ok-operand-2.ensures.is))

pub primary-returns-in_err-value : goal.primary-returns-in_err-value
primary-returns-in_err-value t c = passes c.from_residual.result c.from_residual.ensures.1 c.in_err-value.ensures (λ r. r-no_nt {n = Primary} (r-no_left (sym c.if-sees_literal.ensures) r))

pub primary-returns-then-sees_literal : goal.primary-returns-then-sees_literal
primary-returns-then-sees_literal t c = read (r-nt {n = Primary} {x = (inl c.in_ok-value.value)} (r-left (sym c.if-sees_literal.ensures) c.in_ok-value.ensures.is))

pub primary-returns-in_err-value-2 : goal.primary-returns-in_err-value-2
primary-returns-in_err-value-2 t c = passes c.from_residual-in_err-value-2.result c.from_residual-in_err-value-2.ensures.1 c.in_err-value-2.ensures (λ r. r-no_nt {n = Primary} (r-no_right (sym c.if-sees_literal.ensures) (r-no_left (sym c.if-sees_path.ensures) r)))

pub primary-returns-then-sees_path : goal.primary-returns-then-sees_path
primary-returns-then-sees_path t c = read (r-nt {n = Primary} {x = (inr (inl c.in_ok-value-2.value))} (r-right (sym c.if-sees_literal.ensures) (r-left (sym c.if-sees_path.ensures) c.in_ok-value-2.ensures.is)))

pub primary-returns-in_err-value-3 : goal.primary-returns-in_err-value-3
primary-returns-in_err-value-3 t c = passes c.from_residual-in_err-value-3.result c.from_residual-in_err-value-3.ensures.1 c.in_err-value-3.ensures (λ r. r-no_nt {n = Primary} (r-no_right (sym c.if-sees_literal.ensures) (r-no_right (sym c.if-sees_path.ensures) r)))

pub primary-returns : goal.primary-returns
primary-returns t c = read (r-nt {n = Primary} {x = (inr (inr c.in_ok-value-3.value))} (r-right (sym c.if-sees_literal.ensures) (r-right (sym c.if-sees_path.ensures) c.in_ok-value-3.ensures.is)))

pub path_use-returns-in_err-path : goal.path_use-returns-in_err-path
unfolding code
path_use-returns-in_err-path t c = passes c.from_residual.result c.from_residual.ensures.1 c.in_err-path.ensures (λ r. r-no_nt {n = Use} (r-first r))

pub path_use-returns-then-not-sees : goal.path_use-returns-then-not-sees
unfolding code
path_use-returns-then-not-sees t c = read_as c.path_of.ensures (r-nt {n = Use} {x = (c.in_ok-path.path, None)} (r-seq c.in_ok-path.ensures.is (r-none (sym c.if-not-sees.ensures))))

pub path_use-returns-in_err-args : goal.path_use-returns-in_err-args
unfolding code
path_use-returns-in_err-args t c = passes c.from_residual-in_err-args.result c.from_residual-in_err-args.ensures.1 c.in_err-args.ensures (λ r. r-no_nt {n = Use} (r-second c.in_ok-path.ensures.is (r-held (sym c.if-not-sees.ensures) r)))

pub path_use-returns : goal.path_use-returns
unfolding code
path_use-returns t c = read_as c.call_of-e.ensures (r-nt {n = Use} {x = (c.in_ok-path.path, Some c.in_ok-args.args)} (r-seq c.in_ok-path.ensures.is (r-some (sym c.if-not-sees.ensures) c.in_ok-args.ensures.is)))

pub arguments-returns-in_err-expect : goal.arguments-returns-in_err-expect
arguments-returns-in_err-expect t c = passes c.from_residual.result c.from_residual.ensures.1 c.in_err-expect.ensures (λ r. r-no_nt {n = Arguments} (r-first r))

pub arguments-returns-in_err-found : goal.arguments-returns-in_err-found
arguments-returns-in_err-found t c = passes c.from_residual-in_err-found.result c.from_residual-in_err-found.ensures.1 c.in_err-found.ensures (λ r. r-no_nt {n = Arguments} (r-second c.in_ok-expect.ensures.is (r-first r)))

pub arguments-returns-in_err-expect-2 : goal.arguments-returns-in_err-expect-2
arguments-returns-in_err-expect-2 t c = passes c.from_residual-in_err-expect-2.result c.from_residual-in_err-expect-2.ensures.1 c.in_err-expect-2.ensures (λ r. r-no_nt {n = Arguments} (r-second c.in_ok-expect.ensures.is (r-second c.in_ok-found.ensures.is r)))

pub arguments-returns : goal.arguments-returns
arguments-returns t c = read_as c.or_none-all.ensures (r-nt {n = Arguments} {x = (c.in_ok-expect.field-0, (c.in_ok-found.found, c.in_ok-expect-2.field-0))} (r-seq c.in_ok-expect.ensures.is (r-seq c.in_ok-found.ensures.is c.in_ok-expect-2.ensures.is)))

pub given-returns-then-not-sees_expression : goal.given-returns-then-not-sees_expression
given-returns-then-not-sees_expression t c = read (r-none (sym c.if-not-sees_expression.ensures))

pub given-returns-in_err-found : goal.given-returns-in_err-found
given-returns-in_err-found t c = passes c.from_residual.result c.from_residual.ensures.1 c.in_err-found.ensures (λ r. r-held (sym c.if-not-sees_expression.ensures) r)

pub given-returns : goal.given-returns
given-returns t c = read (r-some (sym c.if-not-sees_expression.ensures) c.in_ok-found.ensures.is)

pub args-returns-in_err-first : goal.args-returns-in_err-first
args-returns-in_err-first t c = passes c.from_residual.result c.from_residual.ensures.1 c.in_err-first.ensures (λ r. r-no_nt {n = Args} (r-first r))

pub args-returns-in_err-more : goal.args-returns-in_err-more
args-returns-in_err-more t c = passes c.from_residual-in_err-more.result c.from_residual-in_err-more.ensures.1 c.in_err-more.ensures (λ r. r-no_nt {n = Args} (r-second c.in_ok-first.ensures.is r))

pub args-returns : goal.args-returns
args-returns t c = read_as c.in_ok-all.ensures (r-nt {n = Args} {x = (c.in_ok-first.first, c.in_ok-more.more)} (r-seq c.in_ok-first.ensures.is c.in_ok-more.ensures.is))

pub other_args-returns-then-not-sees_expression : goal.other_args-returns-then-not-sees_expression
other_args-returns-then-not-sees_expression t c = read_as (sym (append-nil c.turns.more)) (r-nt {n = OtherArgs} {x = (c.turns.more ++ [], Some tt)} (c.turns.invariant.ends [] (Some tt) _ (tail_last c.take.ensures.is (sym c.if-not-sees_expression.ensures) r-empty)))

pub other_args-returns-in_err-next : goal.other_args-returns-in_err-next
other_args-returns-in_err-next t c = passes c.from_residual.result c.from_residual.ensures.1 c.in_err-next.ensures (λ r. r-no_nt {n = OtherArgs} (c.turns.invariant.fails _ (tail_no_turn c.take.ensures.is (sym c.if-not-sees_expression.ensures) r)))

pub other_args-expression-requires : goal.other_args-expression-requires
other_args-expression-requires t c = omega (arith, c.turns.invariant.on, c.take.ensures.on)

pub other_args-turns-preserved : goal.other_args-turns-preserved
other_args-turns-preserved t c = rw c.in_ok-push.ensures.ok (tail_more c.turns.invariant c.take.ensures.is (sym c.if-not-sees_expression.ensures) c.in_ok-next.ensures.is)

pub other_args-returns : goal.other_args-returns
other_args-returns t c = read_as (sym (append-nil c.turns.more)) (r-nt {n = OtherArgs} {x = (c.turns.more ++ [], None)} (c.turns.invariant.ends [] None _ (r-tail_stop (sym c.turns-test.ensures))))

pub group-returns-in_err-left : goal.group-returns-in_err-left
group-returns-in_err-left t c = passes c.from_residual.result c.from_residual.ensures.1 c.in_err-left.ensures (λ r. r-no_nt {n = Group} (r-first r))

pub group-returns-in_err-inner : goal.group-returns-in_err-inner
group-returns-in_err-inner t c = passes c.from_residual-in_err-inner.result c.from_residual-in_err-inner.ensures.1 c.in_err-inner.ensures (λ r. r-no_nt {n = Group} (r-second c.in_ok-left.ensures.is (r-first r)))

pub group-returns-in_err-expect : goal.group-returns-in_err-expect
group-returns-in_err-expect t c = passes c.from_residual-in_err-expect.result c.from_residual-in_err-expect.ensures.1 c.in_err-expect.ensures (λ r. r-no_nt {n = Group} (r-second c.in_ok-left.ensures.is (r-second c.in_ok-inner.ensures.is r)))

pub group-returns : goal.group-returns
group-returns t c = read_as (c.in_ok-e.ensures c.in_ok-expect.field-0) (r-nt {n = Group} {x = (c.in_ok-left.left, (c.in_ok-inner.inner, c.in_ok-expect.field-0))} (r-seq c.in_ok-left.ensures.is (r-seq c.in_ok-inner.ensures.is c.in_ok-expect.ensures.is)))
