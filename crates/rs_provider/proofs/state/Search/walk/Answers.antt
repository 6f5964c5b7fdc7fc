use Rattle.std.proofs.Common.{ℕ, Bool, List, [], length, map, sym, ap, ◌∙◌}
use Rattle.std.proofs.lemmas.Result.{IfOk-weaker}
use Rattle.rs_tree.specs.declared.index.IndexItem.{IndexItem}
use Rattle.rs_lookup.specs.Places.{item_name}
use Rattle.rs_reach.specs.Dead.{numbers_where}
use Rattle.rs_provider.specs.Searches.{begins_with, may_find}
use Rattle.rs_provider.specs.Walks.{IsWalk}
use Rattle.rs_provider.proofs.Going.{as_long}
use Rattle.rs_provider.proofs.Together.{together}
use Rattle.rs_provider.proofs.state.Search.walk.Goals as goal

pub returns : goal.returns
returns c =
    let self = c.args.self.now in
    let items = c.args.index.now.items in
    let marks = c.deref.ensures.value ∙ c.in_ok-may.ensures ∙ ap (λ (xs : List IndexItem). map (may_find self) xs) c.as_slice.ensures.value in
    let roots = c.in_ok-roots.ensures ∙ ap (λ (xs : List IndexItem). numbers_where (begins_with self) 0 xs) c.as_slice-2.ensures.value in
    let long = as_long self items ∙ sym (ap length marks) in
    IfOk-weaker c.new.result _ _ (λ w is. together (λ (m : List Bool) (n : List ℕ) (u : List ℕ). IsWalk (map item_name items) m n [] w) marks roots (λ j. []) (is (map item_name items) long)) c.new.ensures
