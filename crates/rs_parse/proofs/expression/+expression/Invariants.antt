use Rattle.std.proofs.Common.{◌+◌, ◌*◌, length}
use Rattle.rs_grammar.specs.Grammar.{Nt, AndNext, Empty, Expression, OrNext, ProductNext, SumNext}
use Rattle.rs_tree.specs.declared.kind.Kind.TheVariants as k
use Rattle.rs_reader.specs.Reading.{Turns, TailTurns}
use Rattle.rs_parse.proofs.expression.+expression.Given as goal

abbrev pub decreases-expression : goal.decreases-expression
decreases-expression l = 20 * length l.tokens.now + 9

abbrev pub decreases-conjunction : goal.decreases-conjunction
decreases-conjunction l = 20 * length l.tokens.now + 8

abbrev pub decreases-comparison : goal.decreases-comparison
decreases-comparison l = 20 * length l.tokens.now + 7

abbrev pub decreases-sum : goal.decreases-sum
decreases-sum l = 20 * length l.tokens.now + 6

abbrev pub decreases-product : goal.decreases-product
decreases-product l = 20 * length l.tokens.now + 5

abbrev pub decreases-unary : goal.decreases-unary
decreases-unary l = 20 * length l.tokens.now + 4

abbrev pub decreases-primary : goal.decreases-primary
decreases-primary l = 20 * length l.tokens.now + 3

abbrev pub decreases-path_use : goal.decreases-path_use
decreases-path_use l = 20 * length l.tokens.now + 2

abbrev pub decreases-group : goal.decreases-group
decreases-group l = 20 * length l.tokens.now + 2

abbrev pub decreases-arguments : goal.decreases-arguments
decreases-arguments l = 20 * length l.tokens.now + 1

abbrev pub decreases-given : goal.decreases-given
decreases-given l = 20 * length l.tokens.now + 11

abbrev pub decreases-args : goal.decreases-args
decreases-args l = 20 * length l.tokens.now + 10

abbrev pub decreases-or_nexts : goal.decreases-or_nexts
decreases-or_nexts l = 20 * length l.tokens.now + 1

abbrev pub decreases-and_nexts : goal.decreases-and_nexts
decreases-and_nexts l = 20 * length l.tokens.now + 1

abbrev pub decreases-sum_nexts : goal.decreases-sum_nexts
decreases-sum_nexts l = 20 * length l.tokens.now + 1

abbrev pub decreases-product_nexts : goal.decreases-product_nexts
decreases-product_nexts l = 20 * length l.tokens.now + 1

abbrev pub decreases-other_args : goal.decreases-other_args
decreases-other_args l = 20 * length l.tokens.now + 1

abbrev pub invariant-or_nexts-turns : goal.invariant-or_nexts-turns
invariant-or_nexts-turns l = Turns (Nt OrNext) l.fn.tokens l.more l.tokens

abbrev pub decreases-or_nexts-turns : goal.decreases-or_nexts-turns
decreases-or_nexts-turns l = length l.tokens

abbrev pub invariant-and_nexts-turns : goal.invariant-and_nexts-turns
invariant-and_nexts-turns l = Turns (Nt AndNext) l.fn.tokens l.more l.tokens

abbrev pub decreases-and_nexts-turns : goal.decreases-and_nexts-turns
decreases-and_nexts-turns l = length l.tokens

abbrev pub invariant-sum_nexts-turns : goal.invariant-sum_nexts-turns
invariant-sum_nexts-turns l = Turns (Nt SumNext) l.fn.tokens l.more l.tokens

abbrev pub decreases-sum_nexts-turns : goal.decreases-sum_nexts-turns
decreases-sum_nexts-turns l = length l.tokens

abbrev pub invariant-product_nexts-turns : goal.invariant-product_nexts-turns
invariant-product_nexts-turns l = Turns (Nt ProductNext) l.fn.tokens l.more l.tokens

abbrev pub decreases-product_nexts-turns : goal.decreases-product_nexts-turns
decreases-product_nexts-turns l = length l.tokens

abbrev pub invariant-other_args-turns : goal.invariant-other_args-turns
invariant-other_args-turns l = TailTurns k.Comma (Nt Expression) Empty l.fn.tokens l.more l.tokens

abbrev pub decreases-other_args-turns : goal.decreases-other_args-turns
decreases-other_args-turns l = length l.tokens
