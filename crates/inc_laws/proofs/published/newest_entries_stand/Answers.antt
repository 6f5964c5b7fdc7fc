use Rattle.inc_laws.proofs.Newest.{newest_whole}
use Rattle.inc_laws.proofs.published.newest_entries_stand.Goals as goal

pub returns : goal.returns
returns c = newest_whole
