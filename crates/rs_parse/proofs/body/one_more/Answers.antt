use Rattle.std.proofs.Common.{sym}
use Rattle.rs_grammar.specs.Grammar.{Nt, Rest, Body}
use Rattle.rs_grammar.specs.Parses.{r-no_nt, r-first, r-no_left, r-no_right, r-no_ahead, r-no_other_way}
use Rattle.rs_parse.specs.Blocks.{assignment, assigned}
use Rattle.rs_parse.proofs.Blocks.{passes_one, passes_one_made, none_more, worded_turn, assign_turn, eval_turn, last_turn}
use Rattle.rs_parse.proofs.body.one_more.Goals as goal

pub returns-in_err-found : goal.returns-in_err-found
returns-in_err-found c = passes_one c.from_residual.result c.from_residual.ensures.1 c.in_err-found.ensures (λ r. r-no_nt {n = Rest} (r-no_left (sym c.if-sees_worded.ensures) (r-first r)))

pub returns-then-sees_worded : goal.returns-then-sees_worded
returns-then-sees_worded c = worded_turn (sym c.if-sees_worded.ensures) c.in_ok-found.ensures

pub returns-in_err-found-2 : goal.returns-in_err-found-2
returns-in_err-found-2 c = passes_one_made {g = assignment} {f = assigned} c.from_residual-in_err-found-2.result c.from_residual-in_err-found-2.ensures.1 c.in_err-found-2.ensures (λ r. r-no_nt {n = Rest} (r-no_right (sym c.if-sees_worded.ensures) (r-no_ahead (sym c.if-sees_assignment.ensures) (none_more (Nt Body) r))))

pub returns-then-sees_assignment : goal.returns-then-sees_assignment
returns-then-sees_assignment c = assign_turn (sym c.if-sees_worded.ensures) (sym c.if-sees_assignment.ensures) c.in_ok-found-2.ensures

pub returns-in_err-value : goal.returns-in_err-value
returns-in_err-value c = passes_one c.from_residual-in_err-value.result c.from_residual-in_err-value.ensures.1 c.in_err-value.ensures (λ r. r-no_nt {n = Rest} (r-no_right (sym c.if-sees_worded.ensures) (r-no_other_way (sym c.if-sees_assignment.ensures) (r-first r))))

pub returns-then-not-sees : goal.returns-then-not-sees
returns-then-not-sees c = last_turn (sym c.if-sees_worded.ensures) (sym c.if-sees_assignment.ensures) c.in_ok-value.ensures (sym c.if-not-sees.ensures)

pub returns : goal.returns
returns c = eval_turn (sym c.if-sees_worded.ensures) (sym c.if-sees_assignment.ensures) c.in_ok-value.ensures (sym c.if-not-sees.ensures) c.take.ensures
