use Rattle.std.proofs.Common.{sym}
use Rattle.rs_grammar.specs.Parses.{r-none, r-some, r-held}
use Rattle.rs_reader.proofs.Exits.{passes, read}
use Rattle.rs_tree.specs.Kinds.{code}
use Rattle.rs_reader.proofs.typing.optional_gives.Goals as goal

pub returns-then-not-sees : goal.returns-then-not-sees
unfolding code
returns-then-not-sees c = read (r-none (sym c.if-not-sees.ensures))

pub returns-in_err-typ : goal.returns-in_err-typ
unfolding code
returns-in_err-typ c = passes c.from_residual.result c.from_residual.ensures.1 c.in_err-typ.ensures (λ r. r-held (sym c.if-not-sees.ensures) r)

pub returns : goal.returns
unfolding code
returns c = read (r-some (sym c.if-not-sees.ensures) c.in_ok-typ.ensures.is)
