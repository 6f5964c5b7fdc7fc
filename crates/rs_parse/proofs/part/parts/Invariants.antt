use Rattle.std.proofs.Common.{length}
use Rattle.rs_grammar.specs.Grammar.{Nt, Part}
use Rattle.rs_parse.specs.Building.{AddTurns, with_sections}
use Rattle.rs_parse.proofs.part.parts.Given as goal

abbrev pub invariant-turns : goal.invariant-turns
invariant-turns l = AddTurns (Nt Part) with_sections l.fn.tokens l.tokens l.fn.into l.into

abbrev pub decreases-turns : goal.decreases-turns
decreases-turns l = length l.tokens
