use Rattle.std.proofs.Common.{◌≡◌, [], ◌∷◌, ◌++◌, length, ◌∙◌}
use Rattle.rs_lookup.specs.declared.scope.Entry.{Entry}
use Rattle.rs_lookup.proofs.ScopeLemmas.{declared}
use Rattle.rs_lookup.proofs.scope.Scope.declare.Goals as goal

pub invariant_of-self-2 : goal.invariant_of-self-2
invariant_of-self-2 c =
    let e : Entry = record { name = c.args.name; number = c.args.number; hidden = c.copied-hidden.result } in
    let at : c.len-at.result ≡ length c.self.inside.entries.items = c.len-at.ensures ∙ c.self.inside.entries.ok.0 in
    declared c.self.inside.newest c.insert.new.self c.self.inside.entries.items c.push.new.self.items e c.len-at.result c.self.invariant at
    (c.copied-hidden.ensures ∙ c.get.ensures.value) c.in_ok-insert.ensures.updates
    (c.in_ok-push.ensures.items ∙ (λ i. c.reserve.ensures.items i ++ e ∷ []))
