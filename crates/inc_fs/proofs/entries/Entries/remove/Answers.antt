use Rattle.inc_fs.proofs.Listing.{named_left}
use Rattle.inc_fs.proofs.entries.Entries.remove.Goals as goal

pub invariant_of-self : goal.invariant_of-self
invariant_of-self c = rw c.remove.ensures.rest (named_left c.self.inside.by_path c.args.path.now c.self.invariant)
