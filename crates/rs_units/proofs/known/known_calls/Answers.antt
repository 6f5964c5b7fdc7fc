use Rattle.std.proofs.Common.{◌≡◌, ℕ, ◌<◌, List, length, map, ap, sym, subst, ◌∙◌}
use Rattle.std.proofs.lemmas.List.{length-map}
use Rattle.std.proofs.lemmas.Result.{IfOk-weaker}
use Rattle.rs_lookup.specs.Places.{Name, item_name}
use Rattle.rs_reach.specs.Places.{ask}
use Rattle.rs_units.specs.Ready.{kept}
use Rattle.rs_units.proofs.Kept.{kept_all}
use Rattle.rs_units.proofs.known.known_calls.Goals as goal

pub returns : goal.returns
returns c =
    let items = c.args.items.now in
    let calls = c.args.calls.now in
    let names = map item_name items in
    IfOk-weaker c.calls_of_all.result
    (λ v. (length v.items ≡ length items) × ((i : ℕ) → i < length items → kept v.items i ≡ ask c.in_ok-places.places calls i))
    (λ v. (i : ℕ) → kept v.items i ≡ ask names calls i)
    (λ v h. kept_all names calls v.items (h.0 ∙ sym (length-map items item_name)) (λ k l. h.1 k (subst (λ (n : ℕ). k < n) (length-map items item_name) l) ∙ ap (λ (ns : List Name). ask ns calls k) c.in_ok-places.ensures))
    c.calls_of_all.ensures
