use Rattle.std.proofs.Common.{ap, ◌∙◌}
use Rattle.rs_lower.specs.Lowered.{lowered}
use Rattle.rs_lower.specs.Meanings.{Ready}
use Rattle.rs_lower.proofs.function.lower.Goals as goal

pub returns-clause-lowered : goal.returns-clause-lowered
returns-clause-lowered c = c.in_ok-ir.ensures.lowered ∙ ap (λ (r : Ready). lowered c.args.level c.args.found.now r.sigs r.consts c.args.item.now) c.in_ok-lowering.ensures
