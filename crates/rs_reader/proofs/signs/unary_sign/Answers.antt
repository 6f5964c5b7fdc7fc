use Rattle.std.proofs.Common.{inl, inr, sym, ap}
use Rattle.rs_grammar.specs.Grammar.{UnarySign}
use Rattle.rs_grammar.specs.Parses.{r-nt, r-no_nt, r-left, r-right, r-no_right}
use Rattle.rs_reader.proofs.Exits.{passes, read_as}
use Rattle.rs_reader.proofs.signs.unary_sign.Goals as goal
use Rattle.rs_tree.specs.declared.tree.UnaryOp.TheVariants as u

pub returns-then-sees : goal.returns-then-sees
returns-then-sees c = read_as (ap (λ a. (a, u.Negate)) c.at.ensures) (r-nt {n = UnarySign} {x = (inl c.take-sign.result)} (r-left (sym c.if-sees.ensures) c.take-sign.ensures.is))

pub returns-in_err-sign : goal.returns-in_err-sign
returns-in_err-sign c = passes c.from_residual.result c.from_residual.ensures.1 c.in_err-sign.ensures (λ r. r-no_nt {n = UnarySign} (r-no_right (sym c.if-sees.ensures) r))

pub returns : goal.returns
returns c = read_as (ap (λ a. (a, u.Not)) c.at-2.ensures) (r-nt {n = UnarySign} {x = (inr (c.in_ok-sign.sign))} (r-right (sym c.if-sees.ensures) c.in_ok-sign.ensures.is))
