use Rattle.std.proofs.Common.{◌++◌, ◌&&◌, List, false, not, ap, ◌∙◌}
use Rattle.std.specs.Prelude.{filter, slice_index_or}
use Rattle.std.proofs.lemmas.Result.{IfOk-weaker}
use Rattle.rs_tree.specs.declared.index.IndexItem.{IndexItem}
use Rattle.rs_reach.specs.Calls.{places_at}
use Rattle.rs_reach.specs.Dead.{is_function, is_silent, numbers_where, places_where}
use Rattle.rs_units.specs.Members.{is_inline}
use Rattle.rs_provider.specs.Searches.{begins_with}
use Rattle.rs_provider.proofs.Searched.{dead_found, members_found}
use Rattle.rs_provider.proofs.state.Search.found.Goals as goal

pub returns-in-Dead : goal.returns-in-Dead
returns-in-Dead c =
    IfOk-weaker c.dead_left.result _ _
    (λ ps gives calls is.
    dead_found c.args.self.now c.args.index.now calls c.args.walk.now ps c.in-Dead.is is
    (gives ∙ (λ j. places_where (λ i x. is_function x && slice_index_or (c.deref.ensures.value j) i false && not (is_silent x)) 0 (c.as_slice-items.ensures.value j))))
    c.dead_left.ensures

pub returns-in_ok-push_found-in-Members : goal.returns-in_ok-push_found-in-Members
returns-in_ok-push_found-in-Members c =
    let s = c.args.self.now in
    let numbers = c.in_ok-push_found-in-Members.ensures {u = tt}
    ∙ (λ j. c.in_ok-numbers-in-Members.ensures {u = tt} j ++ filter (λ i. not (slice_index_or (c.deref-in-Members.ensures.value j) i false)) (numbers_where is_inline 0 c.as_slice-items.result.now))
    ∙ ap (λ (xs : List IndexItem). numbers_where (begins_with s) 0 xs ++ filter (λ i. not (slice_index_or c.args.walk.now.reached.left.items i false)) (numbers_where is_inline 0 xs)) c.as_slice-items.ensures.value in
    IfOk-weaker c.places_at.result _ _
    (λ ps gives calls is.
    gives ∙ (λ j. places_at (c.as_slice-items.ensures.value j) (c.deref-in-Members-2.ensures.value j))
    ∙ members_found s c.in-Members.field-0 c.args.index.now calls c.args.walk.now _ c.in-Members.is is numbers)
    c.places_at.ensures
