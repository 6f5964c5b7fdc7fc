use Rattle.inc_fs.proofs.Listing.{named_replaced}
use Rattle.inc_fs.proofs.entries.Entries.replace.Goals as goal

pub invariant_of-self : goal.invariant_of-self
invariant_of-self c = rw c.replace.ensures.rest (named_replaced c.self.inside.by_path c.args.path.now c.args.what c.self.invariant)
