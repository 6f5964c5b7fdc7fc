use Rattle.inc_query.specs.PlanLaws.{law-of-reads}
use Rattle.inc_query.proofs.laws.law_of_reads.Goals as goal

pub returns : goal.returns
returns g c = λ setting. law-of-reads (g.P.Providers.plan setting) (λ q. g.met.P.Providers.fits setting q)
