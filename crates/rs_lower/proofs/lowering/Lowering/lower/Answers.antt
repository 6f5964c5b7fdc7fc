use Rattle.std.proofs.Common.{subst, sym}
use Rattle.rs_lower.specs.Laws.{IsForm}
use Rattle.rs_lower.proofs.Formed.{lowered_form}
use Rattle.rs_lower.proofs.lowering.Lowering.lower.Goals as goal

pub returns-clause-form : goal.returns-clause-form
returns-clause-form c = subst IsForm (sym c.in_ok-ir.ensures) (lowered_form c.args.level c.args.found.now c.args.self.now.sigs c.args.self.now.consts c.args.item.now)
