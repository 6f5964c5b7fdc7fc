-- What is left of a query's plan in each state (`specs/Plans.antt` of rs_plans).
use Rattle.std.specs.Prelude.{ℕ, Bool, true, not, List, [], ◌∷◌, ◌++◌, length, Option, Some, None, if◌then◌else◌}
use Rattle.std.proofs.Common.{zero, suc}
use Rattle.std.specs.List.{list_any}
use Rattle.inc_query.specs.Plans.{Plan, Give, Need}
use Rattle.inc_query.specs.declared.answer.Answer.{Answer}
use Rattle.inc_query.specs.declared.answer.Answer.TheVariants.{Read, Value}
use Rattle.inc_query.specs.declared.query.Query.{Query}
use Rattle.rs_tree.specs.declared.answers.Const.{Const}
use Rattle.rs_tree.specs.declared.answers.Diag.{Diag}
use Rattle.rs_tree.specs.declared.index.Index.{Index}
use Rattle.rs_tree.specs.declared.index.Sig.{Sig}
use Rattle.rs_tree.specs.declared.ir.Ir.{Ir}
use Rattle.rs_tree.specs.declared.place.Place.{Place}
use Rattle.rs_tree.specs.declared.tree.Item.{Item}
use Rattle.rs_tree.specs.Plain.{definition, plain_item}
use Rattle.rs_text.specs.Text.{text_of}
use Rattle.rs_forms.specs.Forms.{ir_form, sig_form}
use Rattle.rs_answers.specs.Forms.{const_form, diags_form, places_form}
use Rattle.rs_lookup.specs.Places.{place_name}
use Rattle.rs_check.specs.Items.{item_wrongs, lines}
use Rattle.rs_const.specs.Constants.{Entry}
use Rattle.rs_lower.specs.Lowered.{lowered}
use Rattle.rs_object.specs.Forms.{object_form}
use Rattle.rs_emit.specs.Objects.{object_of}
use Rattle.rs_plans.specs.Plans.{Use, answers, ask_constants, calls_by, check_from, const_at, const_from, constants_in, consts_used, entry, first_new, index_plan, ir_from, is_constant, is_wrong, item_value, sig_by, sigs_used, use_in, use_query}
use Rattle.rs_plans.specs.Readings.{const_in, index_in, ir_in, item_in, places_in, sig_in}
use Rattle.rs_plans.specs.Steps.{ask, ask_calls, ask_each, query, whole}
use Rattle.rs_provider.specs.Each.{each_left}
use Rattle.rs_provider.specs.Searches.{found_by, wanted_by}
use Rattle.rs_provider.specs.declared.state.Aim.{Aim}
use Rattle.rs_provider.specs.declared.state.Aim.TheVariants as aim
use Rattle.rs_provider.specs.declared.state.Resolved.{Resolved}
use Rattle.rs_provider.specs.declared.state.Search.{Search}
use Rattle.rs_provider.specs.declared.state.State.{State}
use Rattle.rs_provider.specs.declared.state.State.TheVariants as state

-- what a plan asks for, or gives
abbrev pub answer_of : Plan → Answer
answer_of (Give w) = Value w
answer_of (Need q more) = Read q

-- what is left of it after a value
abbrev pub after : Plan → List ℕ → Plan
after (Give w) v = Give w
after (Need q more) v = more v

-- ---- What follows the item, and the index.

abbrev pub from_index : Aim → Place → Item → Index → Plan
from_index aim.Const at item index = const_from at item index
from_index aim.Check at item index = check_from at item index
from_index aim.Calls at item index = Give (places_form (calls_by at item index))
from_index (aim.Form level) at item index = ir_from level at item index

abbrev pub resolving : Aim → Place → Item → Plan
resolving aim at item = ask (whole 1) index_in (from_index aim at item)

-- whether it is made of an item that is a constant, or isn't: a function has no value, and a constant no form
abbrev pub is_made : Aim → Bool → Bool
is_made aim.Const constant = constant
is_made aim.Check constant = true
is_made aim.Calls constant = true
is_made (aim.Form level) constant = not constant

abbrev pub from_item : Aim → Place → Item → Plan
from_item aim at item = if is_made aim (is_constant (definition item.body)) then resolving aim at item else Give []

-- ---- Searches.

abbrev pub searching : Search → Index → List (Place × List Place) → ℕ → Plan
searching search index calls left = ask_calls left (wanted_by search index) calls (λ known. Give (places_form (found_by search index known)))

-- ---- Constants.

abbrev pub settling : Place → Index → List Entry → List Place → ℕ → Plan
settling at index known more left = ask_constants left index known more (λ es. Give (const_form (const_at es at)))

abbrev pub settled : Place → Index → List Entry → Place → List Place → ℕ → Item → Plan
settled at index known next more left item = settling at index (known ++ entry index next item ∷ []) (constants_in index (answers index next item) ++ more) left

-- the first of those left that isn't known, while one more may be asked for
abbrev pub next_constant : List Entry → List Place → ℕ → Option (Place × List Place)
next_constant known more zero = None
next_constant known more (suc n) = first_new known more

-- ---- Checks and forms of an item that is resolved.

abbrev pub wrongs_by : Resolved → List (Place × Sig) → Option Const → List Diag
wrongs_by r sigs value = lines (item_wrongs r.index.value.items sigs r.at.«module» r.found value (plain_item r.item.value))

abbrev pub valuing : Resolved → List (Place × Sig) → Plan
valuing r sigs = ask (query 4 r.at) const_in (λ value. Give (diags_form (wrongs_by r sigs (Some value))))

abbrev pub checked : Resolved → List (Place × Sig) → Plan
checked r sigs = if is_constant (definition r.item.value.body) then valuing r sigs else Give (diags_form (wrongs_by r sigs None))

abbrev pub form_by : ℕ → Resolved → List (Place × Use) → List ℕ
form_by level r uses =
    if list_any is_wrong (wrongs_by r (sigs_used uses) None)
    then []
    else ir_form (lowered level r.found (sigs_used uses) (consts_used uses) r.item.value)

abbrev pub form_left : ℕ → Resolved → List (Place × Use) → Plan
form_left level r uses = Give (form_by level r uses)

-- ---- Objects.

abbrev pub members_query : List ℕ → Query
members_query unit = record { kind = 8; «module» = unit; name = [] }

abbrev pub object_by : List ℕ → List (Place × Ir) → Plan
object_by unit members = Give (object_form (object_of unit members))

-- ---- Each state.

abbrev pub rest : State → Plan
rest (state.Done value) = Give value
rest state.Index = index_plan
rest (state.Item at) = Need (whole 0) (λ v. Give (item_value (place_name at) (text_of v)))
rest (state.Sig at) = ask (query 2 at) item_in (λ item. Give (sig_form (sig_by at item)))
rest (state.Subject at aim) = ask (query 2 at) item_in (from_item aim at)
rest (state.Resolve s) = resolving s.aim s.at s.item.value
rest (state.Search search) = ask (whole 1) index_in (λ index. searching search index [] (length index.items))
rest (state.Calls c) = ask (query 6 c.wanted) places_in (λ ps. searching c.search c.index.value (c.calls ++ (c.wanted, ps) ∷ []) c.left)
rest (state.Const c) = ask (query 2 c.next) item_in (settled c.at c.index.value c.known c.next c.more c.left)
rest (state.Check c) = each_left (query 3) (λ p. sig_in) c.each (checked c.of)
rest (state.Value v) = valuing v.of v.sigs
rest (state.Form f) = each_left (use_query f.of.index.value) (use_in f.of.index.value) f.each (form_left f.level f.of)
rest (state.Members unit) = ask (members_query unit) places_in (λ ps. ask_each (query 9) (λ p. ir_in) ps (object_by unit))
rest (state.Object o) = each_left (query 9) (λ p. ir_in) o.each (object_by o.unit)
