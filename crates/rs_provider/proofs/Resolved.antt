-- Where an item is resolved, its plan goes on as it should.
use Rattle.std.proofs.Common.{◌≡◌, ℕ, List, [], ap, ◌∙◌}
use Rattle.rs_tree.specs.declared.place.Place.{Place}
use Rattle.rs_plans.specs.Plans.{answers, check_from, ir_from, named_items, use_in, use_query}
use Rattle.rs_plans.specs.Readings.{sig_in}
use Rattle.rs_plans.specs.Steps.{ask_each, query}
use Rattle.rs_provider.specs.Each.{turn_left, turn_of}
use Rattle.rs_provider.specs.Rests.{checked, form_left}
use Rattle.rs_provider.specs.declared.state.Resolved.{Resolved}
use Rattle.rs_provider.proofs.Turns.{turn_begins}

-- its paths lead to these
pub record IsResolved (r : Resolved) : Type 0 where
  pub is : r.found ≡ answers r.index.value r.at r.item.value

pub check_is : (r : Resolved) (left : List Place) → IsResolved r → left ≡ named_items r.found → turn_left (query 3) (λ p. sig_in) (turn_of [] left) (checked r) ≡ check_from r.at r.item.value r.index.value
check_is r left h e =
    turn_begins (query 3) (λ p. sig_in) (checked r) left
    ∙ ap (λ ps. ask_each (query 3) (λ p. sig_in) ps (checked r)) e
    ∙ ap (λ fs. ask_each (query 3) (λ p. sig_in) (named_items fs) (checked (record r { found = fs }))) h.is

pub form_is : (level : ℕ) (r : Resolved) (left : List Place) → IsResolved r → left ≡ named_items r.found → turn_left (use_query r.index.value) (use_in r.index.value) (turn_of [] left) (form_left level r) ≡ ir_from level r.at r.item.value r.index.value
form_is level r left h e =
    turn_begins (use_query r.index.value) (use_in r.index.value) (form_left level r) left
    ∙ ap (λ ps. ask_each (use_query r.index.value) (use_in r.index.value) ps (form_left level r)) e
    ∙ ap (λ fs. ask_each (use_query r.index.value) (use_in r.index.value) (named_items fs) (form_left level (record r { found = fs }))) h.is
