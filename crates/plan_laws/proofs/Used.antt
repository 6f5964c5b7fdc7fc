-- The functions that are never used, and the members of a unit.
use Rattle.std.proofs.Common.{◌≡◌, ℕ, zero, suc, ◌<◌, ◌&&◌, not, nat_eq, List, [], ◌∷◌, ◌++◌, length, map, refl, sym, ap, ◌∙◌, arith}
use Rattle.std.specs.Prelude.{Option, Some, None, slice_get, filter}
use Rattle.std.specs.List.{cons_option, filter_map, list_any}
use Rattle.std.specs.Option.{option_map, option_to_list}
use Rattle.std.proofs.lemmas.List.{length-map}
use Rattle.inc_query.specs.Plans.{Give, given}
use Rattle.inc_query.specs.declared.query.Query.{Query}
use Rattle.rs_tree.specs.declared.answers.Const.{Const}
use Rattle.rs_tree.specs.declared.index.IndexItem.{IndexItem}
use Rattle.rs_tree.specs.declared.ir.Ir.{Ir}
use Rattle.rs_tree.specs.declared.place.Place.{Place}
use Rattle.rs_tree.specs.declared.tree.Crate.{Crate}
use Rattle.rs_tree.specs.declared.tree.Placed.{Placed}
use Rattle.rs_tree.specs.Plain.{plain_placed}
use Rattle.rs_grammar.specs.Again.{ItemsParseAgain}
use Rattle.rs_grammar.specs.Tidy.{IsTidyCrate, NamesArePlain, TreesAreTidy}
use Rattle.rs_text.specs.Laws.{ParsedIs, TextIs}
use Rattle.rs_answers.specs.Forms.{places_form}
use Rattle.rs_lookup.specs.Places.{item_name}
use Rattle.rs_names.specs.Indexed.{index_item}
use Rattle.rs_reach.specs.Calls.{places_at}
use Rattle.rs_reach.specs.Dead.{dead_of, is_function, is_main, is_silent, numbers_where, places_where}
use Rattle.rs_reach.specs.Dead as dead
use Rattle.rs_reach.specs.Places.{calls_at, numbers}
use Rattle.rs_reach.specs.Search.{State, added}
use Rattle.rs_reach.proofs.Found.{all_added, distinct_added, may_below}
use Rattle.rs_units.specs.Laws.{AreNumbers, MembersOnce}
use Rattle.rs_units.specs.Members.{is_among, is_inline, member_numbers, members_of}
use Rattle.rs_units.specs.Units.{is_own}
use Rattle.rs_queries.specs.Built.{consts_of, form_of, members_in, tree_index}
use Rattle.rs_queries.specs.Known.{answered, constants_of, items_of, sigs_of}
use Rattle.rs_plans.specs.Plans.{dead_from, dead_plan, members_from, members_plan, plan_of}
use Rattle.rs_plans.specs.Readings.{index_in, places_in}
use Rattle.rs_plans.specs.Steps.{query, whole}
use Rattle.link_laws.proofs.Lists.{at_number, none_distinct, split}
use Rattle.link_laws.proofs.Makes.{calls, forms}
use Rattle.link_laws.proofs.Members.{called_of, callees, calls_known}
use Rattle.link_laws.proofs.Places.{item_placed, names_differ, names_in}
use Rattle.plan_laws.specs.Texts.{HasCrate, HasItem}
use Rattle.plan_laws.specs.Whole.{HasItems}
use Rattle.plan_laws.proofs.Checks.{item_of}
use Rattle.plan_laws.proofs.Given.{by_plan, given_ask, valued}
use Rattle.plan_laws.proofs.Index.{index_passes, index_read, tidy_tree}
use Rattle.plan_laws.proofs.Items.{calls_given}
use Rattle.plan_laws.proofs.Objects.{unit_query}
use Rattle.plan_laws.proofs.Places.{places_read}
use Rattle.plan_laws.proofs.Searched.{search_given}

-- the functions that an item calls have numbers that differ
numbers_added : (items : List IndexItem) (ns : List ℕ) → AreNumbers items (added (map is_function items) [] ns)
numbers_added items ns = record {
  below = all_added (λ i. i < length items) (map is_function items) ns [] (λ k d l. absurd (omega (arith, l))) (λ c has may. (let l = may_below (map is_function items) c may in omega (arith, l, length-map items is_function)));
  once = distinct_added (map is_function items) ns [] (none_distinct nat_eq);
}

-- ---- Members, and their forms.

module _ (krate : Crate) (level : ℕ) (values : List Const) where
  placed_form : (ps : List Placed) (n : ℕ)
      → option_map dead.place_of (slice_get (map index_item (map plain_placed ps)) n)
      ≡ option_map (λ (m : Place × Ir). m.0) (slice_get (map (form_of level (sigs_of krate) (consts_of (constants_of krate) values)) (map (answered (items_of krate)) ps)) n)
  placed_form [] n = refl
  placed_form (p ∷ ps) zero = refl
  placed_form (p ∷ ps) (suc n) = placed_form ps n

  places_formed : (ns : List ℕ) → places_at (items_of krate) ns ≡ map (λ (m : Place × Ir). m.0) (filter_map (slice_get (forms krate level values)) ns)
  places_formed [] = refl
  places_formed (n ∷ ns) = ap (λ o. option_to_list o ++ places_at (items_of krate) ns) (placed_form krate.items n) ∙ by (slice_get (forms krate level values) n) (places_formed ns)
    where
      by : (o : Option (Place × Ir)) → places_at (items_of krate) ns ≡ map (λ (m : Place × Ir). m.0) (filter_map (slice_get (forms krate level values)) ns)
          → option_to_list (option_map (λ (m : Place × Ir). m.0) o) ++ places_at (items_of krate) ns ≡ map (λ (m : Place × Ir). m.0) (cons_option o (filter_map (slice_get (forms krate level values)) ns))
      by None more = more
      by (Some m) more = ap (λ ps. m.0 ∷ ps) more

  -- the members of a unit are those of whose forms its object is made
  pub members_formed : (unit : List ℕ) → members_of unit (items_of krate) (calls krate) ≡ map (λ (m : Place × Ir). m.0) (members_in (items_of krate) (calls krate) (forms krate level values) unit)
  members_formed unit = places_formed (member_numbers unit (items_of krate) (calls krate))

-- ---- What their queries give.

module _ (texts : TextIs) (plain : NamesArePlain) (trees : TreesAreTidy) (parses : ParsedIs) (again : ItemsParseAgain) (setting text : List ℕ) (krate : Crate) (has : HasCrate text krate) (fits : HasItems krate) where
  abbrev v : Query → List ℕ
  v = valued setting text

  abbrev items : List IndexItem
  items = items_of krate

  tidy : IsTidyCrate krate
  tidy = tidy_tree texts trees text krate has.is

  read_at : (ns : List ℕ) → AreNumbers items ns → places_in (places_form (places_at items ns)) ≡ Some (places_at items ns)
  read_at ns are = places_read (tree_index krate) has.index (index_passes plain krate tidy) (names_differ krate tidy) ns are

  item_numbered : (i : ℕ) (p : Placed) → slice_get krate.items i ≡ Some p → HasItem krate p
  item_numbered i p e = (let cut = split krate.items p (at_number krate.items i p e) in item_of texts plain trees parses again setting text krate has fits p cut.0 cut.1 cut.2)

  -- the query of an item's calls gives those that are known of it
  knows : (i : ℕ) (x : IndexItem) → slice_get items i ≡ Some x → (ps : List Place) × (calls_at (calls krate) (item_name x) ≡ Some ps) × (places_in (v (query 6 (dead.place_of x))) ≡ Some ps)
  knows i x e =
      let its = item_placed krate tidy i x e in
      let ps = callees krate its.0 in (
        ps,
        ap (λ y. calls_at (calls krate) (item_name y)) (sym its.2) ∙ calls_known krate tidy i its.0 its.1,
        ap (λ y. places_in (v (query 6 (dead.place_of y)))) (sym its.2)
            ∙ ap places_in (calls_given texts trees setting text krate has its.0 (item_numbered i its.0 its.1) parses again plain)
            ∙ read_at (added (map is_function items) [] (numbers (names_in krate) (called_of krate its.0))) (numbers_added items (numbers (names_in krate) (called_of krate its.0))),
      )

  index_there : index_in (v (whole 1)) ≡ Some (tree_index krate)
  index_there = index_read plain texts trees setting text krate has

  dead_planned : plan_of setting (whole 7) ≡ dead_plan
  unfolding plan_of
  dead_planned = refl

  -- those that a search didn't find
  abbrev unused_by : State → List Place
  unused_by s = places_where (λ i x. is_function x && not (list_any (nat_eq i) s.found) && not (is_silent x)) 0 items

  pub dead_given : v (whole 7) ≡ places_form (dead_of items (calls krate))
  dead_given =
      by_plan setting text (whole 7) (omega arith) ∙ ap (given v) dead_planned
      ∙ given_ask v (whole 1) index_in dead_from (tree_index krate) index_there
      ∙ search_given is_main is_function items v (calls krate) knows (λ known. Give (places_form (dead_of items known))) (λ known same. ap (λ s. places_form (unused_by s)) same)

  members_planned : (unit : List ℕ) → plan_of setting (unit_query 8 unit) ≡ members_plan (unit_query 8 unit)
  unfolding plan_of
  members_planned unit = refl

  -- own ones, and those of kind 2 that a search found
  abbrev members_by : List ℕ → State → List Place
  members_by unit s = places_at items (numbers_where (is_own unit) 0 items ++ filter (is_among s.found) (numbers_where is_inline 0 items))

  pub members_given : (unit : List ℕ) → v (unit_query 8 unit) ≡ places_form (members_of unit items (calls krate))
  members_given unit =
      by_plan setting text (unit_query 8 unit) (omega arith) ∙ ap (given v) (members_planned unit)
      ∙ given_ask v (whole 1) index_in (members_from unit) (tree_index krate) index_there
      ∙ search_given (is_own unit) is_inline items v (calls krate) knows (λ known. Give (places_form (members_of unit items known))) (λ known same. ap (λ s. places_form (members_by unit s)) same)

  -- which are read back
  pub members_read : MembersOnce → (unit : List ℕ) → places_in (v (unit_query 8 unit)) ≡ Some (members_of unit items (calls krate))
  members_read once unit = ap places_in (members_given unit) ∙ read_at (member_numbers unit items (calls krate)) (once unit items (calls krate))
