use Rattle.std.proofs.Common.{[], ◌∷◌, ◌++◌, Some, None, sym, ap, ◌∙◌, append-nil}
use Rattle.rs_grammar.specs.Grammar.{Nt, OtherParams}
use Rattle.rs_grammar.specs.Parses.{r-nt, r-no_nt, r-tail_stop, r-empty}
use Rattle.rs_reader.proofs.Exits.{tail_none, tail_more, tail_last, tail_no_turn}
use Rattle.rs_reader.proofs.Makes.{makes, passes_as}
use Rattle.rs_tree.specs.Kinds.{code}
use Rattle.rs_reader.proofs.params.with_others.Goals as goal

pub turns-init : goal.turns-init
unfolding code
turns-init c = ([], c.in_ok-push.ensures.ok ∙ ap (λ l. l ++ c.args.first ∷ []) c.new-found.ensures, tail_none)

pub turns-preserved : goal.turns-preserved
unfolding code
turns-preserved c = (c.turns.invariant.0 ++ c.in_ok-param.field-0 ∷ [], c.in_ok-push-2.ensures.ok ∙ ap (λ l. l ++ c.in_ok-param.field-0 ∷ []) c.turns.invariant.1, tail_more c.turns.invariant.2 c.take.ensures.is (sym c.if-not-sees.ensures) c.in_ok-param.ensures.is)

pub returns-then-not-sees : goal.returns-then-not-sees
unfolding code
returns-then-not-sees c = makes {g = Nt OtherParams} (c.turns.invariant.0 ++ []) (c.turns.invariant.1 ∙ ap (λ l. c.args.first ∷ l) (sym (append-nil c.turns.invariant.0))) (r-nt {n = OtherParams} {x = (c.turns.invariant.0 ++ [], Some tt)} (c.turns.invariant.2.ends [] (Some tt) _ (tail_last c.take.ensures.is (sym c.if-not-sees.ensures) r-empty)))

pub returns-in_err-param : goal.returns-in_err-param
unfolding code
returns-in_err-param c = passes_as c.from_residual-in_err-param.result c.from_residual-in_err-param.ensures.1 c.in_err-param.ensures (λ r. r-no_nt {n = OtherParams} (c.turns.invariant.2.fails _ (tail_no_turn c.take.ensures.is (sym c.if-not-sees.ensures) r)))

pub returns : goal.returns
unfolding code
returns c = makes {g = Nt OtherParams} (c.turns.invariant.0 ++ []) (c.turns.invariant.1 ∙ ap (λ l. c.args.first ∷ l) (sym (append-nil c.turns.invariant.0))) (r-nt {n = OtherParams} {x = (c.turns.invariant.0 ++ [], None)} (c.turns.invariant.2.ends [] None _ (r-tail_stop (sym c.turns-test.ensures))))
