-- Every list of tokens is answered.
use Rattle.std.specs.Prelude.{◌≡◌, ◌⊎◌, List}
use Rattle.rs_tree.specs.declared.place.At.{At}
use Rattle.rs_tree.specs.declared.token.Token.{Token}
use Rattle.rs_tree.specs.declared.tree.Crate.{Crate}
use Rattle.rs_grammar.specs.declared.fault.SyntaxFault.{SyntaxFault}
use Rattle.rs_grammar.specs.declared.fault.SyntaxFault.TheVariants as f
use Rattle.rs_grammar.specs.Correct.{HasTree, IsSyntaxRefusal}

-- tokens have a tree or a fault
abbrev pub AnswersAreThere : Type 0
AnswersAreThere = (tokens : List Token) (end : At) → ((tree : Crate) × HasTree tokens tree) ⊎ ((fault : SyntaxFault) × IsSyntaxRefusal tokens end fault × (fault ≡ f.Memory → ⊥))
