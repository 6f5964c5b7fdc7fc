-- The values of items, of their signatures and of their calls.
use Rattle.std.proofs.Common.{◌≡◌, ℕ, Bool, true, false, List, [], ◌∷◌, ◌++◌, map, refl, sym, ap, subst, ◌∙◌, arith, if◌then◌else◌}
use Rattle.std.specs.Prelude.{Some, None, Ok, option_and_then}
use Rattle.std.specs.Option.{option_map_or}
use Rattle.std.proofs.lemmas.List.{map-append}
use Rattle.inc_wire.specs.Fits.{FitsList}
use Rattle.inc_wire.specs.Forms.{list_form}
use Rattle.inc_wire.specs.Narrow.{read_back}
use Rattle.inc_query.specs.Plans.{given}
use Rattle.rs_tree.specs.declared.index.IndexItem.{IndexItem}
use Rattle.rs_tree.specs.declared.place.Place.{Place}
use Rattle.rs_tree.specs.declared.tree.Crate.{Crate}
use Rattle.rs_tree.specs.declared.tree.Item.{Item}
use Rattle.rs_tree.specs.declared.tree.Placed.{Placed}
use Rattle.rs_tree.specs.Plain.{definition, plain_placed}
use Rattle.rs_grammar.specs.Again.{ItemsParseAgain, alone}
use Rattle.rs_grammar.specs.Correct.{HasTree}
use Rattle.rs_grammar.specs.Tidy.{Distinct, NamesArePlain, TreesAreTidy, place_in}
use Rattle.rs_text.specs.Laws.{ParsedIs, TextIs}
use Rattle.rs_text.specs.Text.{IsTextAs, parsed, text_of}
use Rattle.rs_forms.specs.Fits.{FitsToken}
use Rattle.rs_forms.specs.Forms.{item_form, sig_form, token_form}
use Rattle.rs_forms.proofs.Readers.{forms_are_answered}
use Rattle.rs_answers.specs.Forms.{places_form}
use Rattle.rs_lookup.specs.Places.{place_name, same}
use Rattle.rs_names.specs.Indexed.{index_item}
use Rattle.rs_names.specs.Resolved.{item_at}
use Rattle.rs_queries.specs.Built.{tree_index}
use Rattle.rs_queries.specs.Diagnosed.{calls_of}
use Rattle.rs_queries.specs.Known.{answered, gives_of, items_of, kind_at, params_of, place_of, sig_of}
use Rattle.rs_plans.specs.Plans.{calls_by, calls_plan, item_in_place, item_plan, item_value, plan_of, sig_by, sig_plan}
use Rattle.rs_plans.specs.Readings.{are_lexed, index_in, item_by, item_in, item_of, last_place}
use Rattle.rs_plans.specs.Steps.{ask, query, whole}
use Rattle.rs_plans.proofs.Fresh.{same_is, same_self}
use Rattle.inc_query.specs.Plans.{Give}
use Rattle.link_laws.proofs.Lists.{rest_distinct}
use Rattle.plan_laws.specs.Texts.{HasCrate, HasItem}
use Rattle.plan_laws.proofs.Given.{by_plan, given_ask, text_value, valued}
use Rattle.plan_laws.proofs.Index.{index_read, tidy_tree}

-- ---- An item is found by its place.

-- none before it stands at its place
pub others : (b : Placed) (before rest : List Placed) (p : Placed) → Distinct (map place_in (b ∷ before ++ p ∷ rest)) → same (place_in p) (place_in b) ≡ true → ⊥
others b before rest p d e = d (place_in b ∷ map place_in before) (place_in p) (map place_in rest) (ap (λ l. place_in b ∷ l) (map-append place_in before (p ∷ rest))) (0, omega arith, sym (same_is (place_in p) (place_in b) e))

item_there : (before rest : List Placed) (p : Placed) → Distinct (map place_in (before ++ p ∷ rest)) → item_in_place (place_in p) (before ++ p ∷ rest) ≡ Some p.item
item_there [] rest p d = ap (λ b. if b then Some p.item else item_in_place (place_in p) rest) (same_self (place_in p))
item_there (b ∷ before) rest p d = by (same (place_in p) (place_in b)) refl (item_there before rest p (rest_distinct (place_in b) (map place_in (before ++ p ∷ rest)) d))
  where
    by : (t : Bool) → same (place_in p) (place_in b) ≡ t → item_in_place (place_in p) (before ++ p ∷ rest) ≡ Some p.item → (if t then Some b.item else item_in_place (place_in p) (before ++ p ∷ rest)) ≡ Some p.item
    by true e more = absurd (others b before rest p d e)
    by false e more = more

abbrev pub indexed : List Placed → List IndexItem
indexed ps = map index_item (map plain_placed ps)

pub index_there : (before rest : List Placed) (p : Placed) → Distinct (map place_in (before ++ p ∷ rest)) → item_at (place_in p) (indexed (before ++ p ∷ rest)) ≡ Some (index_item (plain_placed p))
index_there [] rest p d = ap (λ b. if b then Some (index_item (plain_placed p)) else item_at (place_in p) (indexed rest)) (same_self (place_in p))
index_there (b ∷ before) rest p d = by (same (place_in p) (place_in b)) refl (index_there before rest p (rest_distinct (place_in b) (map place_in (before ++ p ∷ rest)) d))
  where
    by : (t : Bool) → same (place_in p) (place_in b) ≡ t → item_at (place_in p) (indexed (before ++ p ∷ rest)) ≡ Some (index_item (plain_placed p))
        → (if t then Some (index_item (plain_placed b)) else item_at (place_in p) (indexed (before ++ p ∷ rest))) ≡ Some (index_item (plain_placed p))
    by true e more = absurd (others b before rest p d e)
    by false e more = more

-- ---- Its value, and what that is read as.

item_planned : (setting : List ℕ) (at : Place) → plan_of setting (query 2 at) ≡ item_plan (query 2 at)
unfolding plan_of
item_planned setting at = refl

item_valued : (setting text : List ℕ) (at : Place) → valued setting text (query 2 at) ≡ item_value (place_name at) (text_of text)
item_valued setting text at = by_plan setting text (query 2 at) (omega arith) ∙ ap (given (valued setting text)) (item_planned setting at) ∙ ap (λ t. item_value (place_name at) (text_of t)) (text_value setting text)

reads : ParsedIs → (item : Item) → FitsList FitsToken item.tokens → are_lexed item.tokens ≡ true → HasTree item.tokens (alone item) → item_in (item_form item) ≡ Some item
unfolding item_in
reads parses item fits lexed tree =
    ap (option_and_then item_of) (read_back (FitsList FitsToken) (list_form token_form) item.tokens (forms_are_answered.tokens (item_form item)).0 fits (forms_are_answered.tokens (item_form item)).1)
    ∙ ap (λ b. if b then item_by (parsed item.tokens last_place) else None) lexed
    ∙ ap item_by (sym (parses.only item.tokens last_place (Ok (alone item)) tree))

module _ (texts : TextIs) (trees : TreesAreTidy) (setting text : List ℕ) (krate : Crate) (has : HasCrate text krate) (p : Placed) (it : HasItem krate p) where
  distinct : Distinct (map place_in (it.before ++ p ∷ it.rest))
  distinct = subst (λ ps. Distinct (map place_in ps)) it.is (tidy_tree texts trees text krate has.is).items

  pub item_given : valued setting text (query 2 (place_of p)) ≡ item_form p.item
  item_given =
      item_valued setting text (place_of p) ∙ ap (item_value (place_in p)) has.is ∙ ap (λ ps. option_map_or item_form (item_in_place (place_in p) ps) []) it.is
      ∙ ap (λ o. option_map_or item_form o []) (item_there it.before it.rest p distinct)

  kind_there : kind_at (items_of krate) (place_of p) ≡ (index_item (plain_placed p)).kind
  kind_there =
      ap (λ ps. option_map_or (λ (x : IndexItem). x.kind) (item_at (place_in p) (indexed ps)) 0) it.is
      ∙ ap (λ o. option_map_or (λ (x : IndexItem). x.kind) o 0) (index_there it.before it.rest p distinct)

  module _ (parses : ParsedIs) (again : ItemsParseAgain) where
    tree : HasTree p.item.tokens (alone p.item)
    tree = (let read : IsTextAs text (Ok krate) = subst (IsTextAs text) has.is (texts.is text) in again read.tokens krate it.before it.rest p read.holds it.is)

    pub item_read : item_in (valued setting text (query 2 (place_of p))) ≡ Some p.item
    item_read = ap item_in item_given ∙ reads parses p.item it.tokens it.lexed tree

    sig_planned : plan_of setting (query 3 (place_of p)) ≡ sig_plan (query 3 (place_of p))
    unfolding plan_of
    sig_planned = refl

    pub sig_given : valued setting text (query 3 (place_of p)) ≡ sig_form (sig_of (items_of krate) p).1
    sig_given =
        by_plan setting text (query 3 (place_of p)) (omega arith) ∙ ap (given (valued setting text)) sig_planned
        ∙ given_ask (valued setting text) (query 2 (place_of p)) item_in (λ item. Give (sig_form (sig_by (place_of p) item))) p.item item_read
        ∙ ap (λ k. sig_form (record { kind = k; public = p.item.public; params = params_of (definition p.item.body); gives = gives_of (definition p.item.body) })) (sym kind_there)

    calls_planned : plan_of setting (query 6 (place_of p)) ≡ calls_plan (query 6 (place_of p))
    unfolding plan_of
    calls_planned = refl

    pub calls_given : NamesArePlain → valued setting text (query 6 (place_of p)) ≡ places_form (calls_of (items_of krate) (answered (items_of krate) p)).1
    calls_given plain =
        by_plan setting text (query 6 (place_of p)) (omega arith) ∙ ap (given (valued setting text)) calls_planned
        ∙ given_ask (valued setting text) (query 2 (place_of p)) item_in (λ item. ask (whole 1) index_in (λ index. Give (places_form (calls_by (place_of p) item index)))) p.item item_read
        ∙ given_ask (valued setting text) (whole 1) index_in (λ index. Give (places_form (calls_by (place_of p) p.item index))) (tree_index krate) (index_read plain texts trees setting text krate has)
