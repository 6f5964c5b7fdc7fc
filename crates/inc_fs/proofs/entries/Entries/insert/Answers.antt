use Rattle.inc_fs.proofs.Listing.{named_inserted, named_after}
use Rattle.inc_fs.proofs.entries.Entries.insert.Goals as goal

pub invariant_of-self : goal.invariant_of-self
invariant_of-self c =
    named_after c.insert.result c.self.inside.by_path _ c.insert.new.self c.insert.ensures.ok c.insert.ensures.err
    (named_inserted c.self.inside.by_path c.args.path c.args.what c.self.invariant c.bytes-label.ensures.label) c.self.invariant
