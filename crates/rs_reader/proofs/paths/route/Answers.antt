use Rattle.std.proofs.Common.{inl, inr, sym}
use Rattle.rs_grammar.specs.Grammar.{Route}
use Rattle.rs_grammar.specs.Parses.{r-nt, r-no_nt, r-seq, r-first, r-second, r-left, r-right, r-no_left, r-no_right}
use Rattle.rs_reader.proofs.Exits.{passes, read_as}
use Rattle.rs_reader.proofs.paths.route.Goals as goal

pub returns-in_err-other : goal.returns-in_err-other
returns-in_err-other c = passes c.from_residual.result c.from_residual.ensures.1 c.in_err-other.ensures (λ r. r-no_nt {n = Route} (r-no_left (sym c.if-sees.ensures) (r-second c.take-first.ensures.is r)))

pub returns-then-sees : goal.returns-then-sees
returns-then-sees c = read_as c.in_ok-path.ensures (r-nt {n = Route} {x = (inl (c.take-first.result, c.in_ok-other.other))} (r-left (sym c.if-sees.ensures) (r-seq c.take-first.ensures.is c.in_ok-other.ensures.is)))

pub returns-in_err-root : goal.returns-in_err-root
returns-in_err-root c = passes c.from_residual-in_err-root.result c.from_residual-in_err-root.ensures.1 c.in_err-root.ensures (λ r. r-no_nt {n = Route} (r-no_right (sym c.if-sees.ensures) (r-first r)))

pub returns-in_err-first : goal.returns-in_err-first
returns-in_err-first c = passes c.from_residual-in_err-first.result c.from_residual-in_err-first.ensures.1 c.in_err-first.ensures (λ r. r-no_nt {n = Route} (r-no_right (sym c.if-sees.ensures) (r-second c.in_ok-root.ensures.is (r-first r))))

pub returns-in_err-other-2 : goal.returns-in_err-other-2
returns-in_err-other-2 c = passes c.from_residual-in_err-other-2.result c.from_residual-in_err-other-2.ensures.1 c.in_err-other-2.ensures (λ r. r-no_nt {n = Route} (r-no_right (sym c.if-sees.ensures) (r-second c.in_ok-root.ensures.is (r-second c.in_ok-first.ensures.is r))))

pub returns : goal.returns
returns c = read_as c.rooted_path-path.ensures (r-nt {n = Route} {x = (inr (c.in_ok-root.root, (c.in_ok-first.first, c.in_ok-other-2.other)))} (r-right (sym c.if-sees.ensures) (r-seq c.in_ok-root.ensures.is (r-seq c.in_ok-first.ensures.is c.in_ok-other-2.ensures.is))))
