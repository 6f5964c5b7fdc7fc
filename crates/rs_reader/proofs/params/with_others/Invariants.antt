use Rattle.std.proofs.Common.{◌≡◌, ◌∷◌, List, length}
use Rattle.rs_tree.specs.declared.kind.Kind.TheVariants as k
use Rattle.rs_tree.specs.declared.tree.Param as param
use Rattle.rs_grammar.specs.Grammar as grammar
use Rattle.rs_grammar.specs.Grammar.{Nt, Empty}
use Rattle.rs_reader.specs.Reading.{TailTurns}
use Rattle.rs_reader.proofs.params.with_others.Given as goal

abbrev pub invariant-turns : goal.invariant-turns
invariant-turns l = (more : List param.Param) × (l.found ≡ l.fn.first ∷ more) × TailTurns k.Comma (Nt grammar.Param) Empty l.fn.tokens more l.tokens

abbrev pub decreases-turns : goal.decreases-turns
decreases-turns l = length l.tokens
