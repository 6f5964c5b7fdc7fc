use Rattle.std.proofs.Common.{◌≡◌, ℕ, ◌+◌, ◌-◌, ◌<◌, [], length, map, drop, subst, arith}
use Rattle.std.specs.BTreeMap.{get}
use Rattle.rs_lookup.specs.Keys.{Held, plain, held_cmp}
use Rattle.rs_lookup.specs.Places.{place_from}
use Rattle.rs_lookup.proofs.Lookups.{held_is_eq, placed}
use Rattle.rs_lookup.proofs.places.first_places.Goals as goal

-- a key past the end
none : Held
none = (record { ref_ptr = (0, 0); now = [] }, record { ref_ptr = (0, 0); now = [] })

pub loop-i-preserved : goal.loop-i-preserved
unfolding none
loop-i-preserved c =
    let keys = c.args.keys.now in
    let m = c.loop-i.places in
    let P : ℕ → Type 0 = λ i. (q : Held) → get held_cmp m q ≡ place_from (plain q) i (map plain (drop i keys)) in
    let at : c.loop-i.i ≡ (c.loop-i.i - 1) + 1 = omega arith in
    let l : c.loop-i.i - 1 < length keys = omega arith in
    placed held_cmp plain held_is_eq m c.insert.new.self keys (c.loop-i.i - 1) none l c.in_ok-insert.ensures.updates (subst P at c.loop-i.invariant)
