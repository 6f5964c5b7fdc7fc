use Rattle.rs_tree.specs.Equations.{at_is, exp_and, exp_arith, exp_call, exp_compare, exp_group, exp_number, exp_or, exp_path, exp_truth, exp_unary}
use Rattle.rs_tree.specs.Equations.{sta_assign, sta_eval, sta_if, sta_let, sta_print, sta_return, sta_while}
use Rattle.rs_tree.proofs.laws.mirrors_have_parts.Goals as goal

pub returns-clause-expressions : goal.returns-clause-expressions
returns-clause-expressions c = record {
  number = exp_number;
  truth = exp_truth;
  named = exp_path;
  call = exp_call;
  group = exp_group;
  unary = exp_unary;
  arith = exp_arith;
  compare = exp_compare;
  both = exp_and;
  either = exp_or;
  place = at_is;
}

pub returns-clause-statements : goal.returns-clause-statements
returns-clause-statements c = record {
  binding = sta_let;
  assign = sta_assign;
  leave = sta_return;
  eval = sta_eval;
  loop = sta_while;
  choice = sta_if;
  print = sta_print;
}
