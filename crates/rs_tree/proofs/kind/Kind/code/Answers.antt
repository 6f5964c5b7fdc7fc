use Rattle.std.proofs.Common.{◌∙◌}
use Rattle.rs_tree.proofs.Codes.{code_injective}
use Rattle.rs_tree.proofs.kind.Kind.code.Goals as goal

pub returns-clause-distinct : goal.returns-clause-distinct
returns-clause-distinct c = λ other e. code_injective other c.args.self (e ∙ c.tag.ensures)
