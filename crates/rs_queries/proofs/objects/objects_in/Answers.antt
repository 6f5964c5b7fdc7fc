use Rattle.std.proofs.Common.{ap, ◌∙◌, List}
use Rattle.rs_tree.specs.declared.index.IndexItem.{IndexItem}
use Rattle.rs_tree.specs.declared.place.Place.{Place}
use Rattle.rs_queries.specs.Built.{objects_in}
use Rattle.rs_queries.proofs.objects.objects_in.Goals as goal

pub returns : goal.returns
returns c = record {
  makes = c.in_ok-objects.ensures.makes ∙ ap (λ (g : List IndexItem × List (Place × List Place)). objects_in g.0 g.1 c.args.forms.now c.args.units.now) c.in_ok-graph.ensures;
  grammar = c.in_ok-objects.ensures.grammar;
  emitted = c.in_ok-objects.ensures.emitted;
}
