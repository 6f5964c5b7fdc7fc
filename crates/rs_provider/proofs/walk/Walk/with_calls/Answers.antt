use Rattle.std.proofs.Common.{ℕ, ◌+◌, List, length, Option, Vec, Global, Some, ap, ◌∙◌}
use Rattle.std.specs.Prelude.{slice_get, slice_set, option_and_then}
use Rattle.std.specs.Option.{option_map_or}
use Rattle.rs_reach.specs.Search.{walk}
use Rattle.rs_provider.specs.Walks.{first_named, held, state_of}
use Rattle.rs_provider.proofs.Further.{with_one}
use Rattle.rs_provider.proofs.walk.Walk.with_calls.Goals as goal

pub returns : goal.returns
returns c = λ may roots calls p good is wanted.
    (let names = c.args.places.now in
    let self = c.args.self in
    let next = c.next.ensures ∙ ap (λ (xs : List ℕ). slice_get xs self.reached.asked) c.deref.ensures.value in
    let at = c.first_named-at.ensures ∙ ap (option_and_then (first_named names)) next in
    let gone = c.in_ok-reached.ensures {u = tt} may is.left in
    with_one names may roots calls p c.args.called.now self _ c.in_ok-numbers.numbers good is wanted c.in_ok-numbers.ensures
    (c.with_known-known.ensures ∙ ap (λ (o : Option ℕ). option_map_or (λ i. slice_set self.known.items i (Some c.in_ok-numbers.numbers)) o self.known.items) at)
    (gone.0 ∙ ap (λ (its : List (Option (Vec ℕ Global))). walk may (held names its) (state_of self.reached) (length its + 1)) c.deref-2.ensures.value)
    gone.1)
