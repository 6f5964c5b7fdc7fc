-- Whether statements end, one statement on.
use Rattle.rs_tree.specs.Equations.{turns as tree_turns, known_statements}
use Rattle.rs_tree.specs.Weight.{weighs}

pub ruleset turns = (tree_turns, known_statements, weighs)
