use Rattle.std.proofs.Common.{ap, ◌∙◌, ◌∷◌, not}
use Rattle.rs_plans.specs.Names.{is_among}
use Rattle.rs_provider.proofs.Seens.{has_is, more_is}
use Rattle.rs_provider.proofs.seen.Seen.add.Goals as goal

pub returns-clause-new : goal.returns-clause-new
returns-clause-new c =
    c.in_ok-insert.ensures.added ∙ ap not (has_is c.self.inside.places c.in_ok-copy.field-0 ∙ (λ i. is_among (c.self.view_is i) (c.in_ok-copy.ensures {u = tt} i)))

pub returns-clause-more : goal.returns-clause-more
returns-clause-more c = record {
  each = λ q.
      (more_is c.self.inside.places c.insert.new.self c.in_ok-copy.field-0 c.in_ok-insert.ensures.updates).each q
      ∙ (λ i. is_among (c.in_ok-copy.ensures {u = tt} i ∷ c.self.view_is i) q);
}
