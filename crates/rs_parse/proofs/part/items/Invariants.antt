use Rattle.std.proofs.Common.{length}
use Rattle.rs_grammar.specs.Grammar.{Nt, Item}
use Rattle.rs_parse.specs.Building.{AddTurns, with_items}
use Rattle.rs_parse.proofs.part.items.Given as goal

abbrev pub invariant-turns : goal.invariant-turns
invariant-turns l = AddTurns (Nt Item) (with_items l.name) l.fn.tokens l.tokens l.fn.into l.into

abbrev pub decreases-turns : goal.decreases-turns
decreases-turns l = length l.tokens
