use Rattle.rs_reach.proofs.Found.{ends, finds_reached, finds_once, reads_agree}
use Rattle.rs_reach.proofs.Numbered.{roots_differ}
use Rattle.rs_reach.proofs.laws.search_is_exact.Goals as goal

pub returns : goal.returns
returns c = record { ends = ends; reached = finds_reached; once = finds_once; reads = reads_agree; roots = roots_differ }
