use Rattle.std.proofs.Common.{◌≡◌, ℕ, ◌+◌, ◌-◌, ◌<◌, Some, length, map, drop, subst, arith, ◌∙◌}
use Rattle.std.specs.BTreeMap.{get, Updates}
use Rattle.rs_tree.specs.Order.{place_cmp}
use Rattle.rs_tree.specs.declared.place.Place.{Place}
use Rattle.rs_lookup.specs.Places.{place_from, place_name}
use Rattle.rs_lookup.proofs.Lookups.{place_is_eq, placed}
use Rattle.rs_lookup.proofs.order.first_places.Goals as goal

pub loop-i-preserved : goal.loop-i-preserved
loop-i-preserved c =
    let places = c.args.places.now in
    let m = c.loop-i.first in
    let P : ℕ → Type 0 = λ i. (q : Place) → get place_cmp m q ≡ place_from (place_name q) i (map place_name (drop i places)) in
    let at : c.loop-i.i ≡ (c.loop-i.i - 1) + 1 = omega arith in
    let l : c.loop-i.i - 1 < length places = omega arith in
    placed place_cmp place_name place_is_eq m c.insert.new.self places (c.loop-i.i - 1) c.index-places-i.result l
    (subst (λ k. Updates place_cmp m c.insert.new.self k (Some (c.loop-i.i - 1))) ((c.in_ok-copy.ensures {u = tt}) ∙ c.index-places-i.is) c.in_ok-insert.ensures.updates)
    (subst P at c.loop-i.invariant)
