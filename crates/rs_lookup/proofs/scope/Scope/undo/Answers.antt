use Rattle.std.proofs.Common.{◌≡◌, [], ◌∷◌, ◌++◌, length, reverse, None, Some, ◌∙◌}
use Rattle.std.specs.Option.{option_to_list}
use Rattle.std.specs.BTreeMap as map
use Rattle.rs_lookup.specs.Tracks.{name_cmp}
use Rattle.rs_lookup.proofs.ScopeLemmas.{undone, present, set_there}
use Rattle.rs_lookup.proofs.scope.Scope.undo.Goals as goal

pub invariant_of-self : goal.invariant_of-self
invariant_of-self c =
    let items = c.pop.new.self.items in
    let less : c.self.inside.entries.items ≡ items ++ c.unwrap-last.result ∷ [] = c.pop.ensures.items ∙ (λ i. items ++ option_to_list (c.unwrap-last.ensures i)) in
    undone c.self.inside.newest c.remove.new.self c.self.inside.entries.items items c.unwrap-last.result None c.self.invariant c.in-None.is c.remove.ensures.updates less

pub invariant_of-self-in-Some : goal.invariant_of-self-in-Some
invariant_of-self-in-Some c =
    let items = c.pop.new.self.items in
    let m = c.self.inside.newest in
    let e = c.unwrap-last.result in
    let less : c.self.inside.entries.items ≡ items ++ e ∷ [] = c.pop.ensures.items ∙ (λ i. items ++ option_to_list (c.unwrap-last.ensures i)) in
    let there = present m c.self.inside.entries.items items e c.self.invariant less in
    let up : map.Updates name_cmp m c.insert.new.self e.name (Some c.in-Some.at) = set_there c.insert.result (map.get name_cmp m e.name) (length (reverse items)) c.insert.ensures.updates c.insert.ensures.absent there in
    undone m c.insert.new.self c.self.inside.entries.items items e (Some c.in-Some.at) c.self.invariant c.in-Some.is up less
