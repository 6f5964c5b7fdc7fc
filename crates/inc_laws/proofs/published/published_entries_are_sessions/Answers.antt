use Rattle.inc_laws.proofs.Newest.{published_outs, outs_published}
use Rattle.inc_laws.proofs.published.published_entries_are_sessions.Goals as goal

pub returns : goal.returns
returns c = record { session = published_outs; listed = outs_published }
