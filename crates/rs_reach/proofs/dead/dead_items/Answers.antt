use Rattle.std.proofs.Common.{◌++◌, ◌&&◌, ℕ, List, false, not, nat_eq, ap, ◌∙◌}
use Rattle.std.specs.Prelude.{slice_index_or}
use Rattle.std.specs.List.{list_any}
use Rattle.rs_reach.specs.Dead.{places_where, is_function, is_silent, dead_of}
use Rattle.rs_reach.proofs.Kept.{left_where}
use Rattle.rs_reach.proofs.dead.dead_items.Goals as goal

pub returns : goal.returns
returns c =
    let items = c.as_slice-items.result.now in
    c.in_ok-push_left.ensures
    ∙ (λ j. c.new-places.ensures j ++ places_where (λ i x. is_function x && slice_index_or (c.deref.ensures.value j) i false && not (is_silent x)) 0 items)
    ∙ left_where is_function (λ x. not (is_silent x)) items c.in_ok-found.found.left.items c.in_ok-found.found.found.items c.in_ok-found.ensures.left
    ∙ ap (λ (found : List ℕ). places_where (λ i x. is_function x && not (list_any (nat_eq i) found) && not (is_silent x)) 0 items) c.in_ok-found.ensures.found
    ∙ (λ j. dead_of (c.as_slice-items.ensures.value j) (c.as_slice.ensures.value j))
