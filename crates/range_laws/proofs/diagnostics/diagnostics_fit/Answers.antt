use Rattle.range_laws.proofs.Judged.{diags_fit}
use Rattle.range_laws.proofs.diagnostics.diagnostics_fit.Goals as goal

pub returns : goal.returns
returns c krate values bounded = diags_fit krate values bounded
