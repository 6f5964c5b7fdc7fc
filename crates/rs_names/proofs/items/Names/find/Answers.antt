use Rattle.std.proofs.Common.{ap, ◌∙◌}
use Rattle.rs_lookup.specs.Keys.{plain}
use Rattle.rs_names.specs.Resolved.{item_at}
use Rattle.rs_names.proofs.NamedItems.{found_by}
use Rattle.rs_names.proofs.items.Names.find.Goals as goal

pub returns : goal.returns
returns c =
    c.numbered.ensures
    ∙ found_by (plain c.args.key) c.self.inside.items.now c.self.inside.places c.find.result c.find.ensures c.self.invariant
    ∙ ap (item_at (plain c.args.key)) c.self.view_is
