use Rattle.std.proofs.Common.{inl, inr, sym}
use Rattle.rs_grammar.specs.Grammar.{Literal}
use Rattle.rs_grammar.specs.Parses.{r-nt, r-no_nt, r-left, r-right, r-no_right}
use Rattle.rs_reader.proofs.Exits.{passes, read_as}
use Rattle.rs_reader.proofs.signs.literal.Goals as goal
use Rattle.rs_reader.proofs.Steps.{read_kind}

pub returns-then-sees : goal.returns-then-sees
returns-then-sees c = read_as c.number_of.ensures (r-nt {n = Literal} {x = (inl c.take-number.result)} (r-left (sym c.if-sees.ensures) c.take-number.ensures.is))

pub returns-then-sees-2 : goal.returns-then-sees-2
returns-then-sees-2 c = read_as c.truth_of.ensures (r-nt {n = Literal} {x = (inr (inl c.take-word.result))} (r-right (sym c.if-sees.ensures) (r-left (sym c.if-sees-2.ensures) c.take-word.ensures.is)))

pub returns-in_err-word : goal.returns-in_err-word
returns-in_err-word c = passes c.from_residual.result c.from_residual.ensures.1 c.in_err-word.ensures (λ r. r-no_nt {n = Literal} (r-no_right (sym c.if-sees.ensures) (r-no_right (sym c.if-sees-2.ensures) r)))

pub returns : goal.returns
returns c = read_as c.truth_of-2.ensures (r-nt {n = Literal} {x = (inr (inr (c.in_ok-word.word)))} (r-right (sym c.if-sees.ensures) (r-right (sym c.if-sees-2.ensures) c.in_ok-word.ensures.is)))

pub number_of-requires : goal.number_of-requires
number_of-requires c = read_kind c.take-number.ensures.is
