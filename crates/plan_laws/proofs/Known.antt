-- What is known of constants by their queries, where all have their values.
use Rattle.std.proofs.Common.{◌≡◌, ℕ, true, false, List, refl, ap, sym, ◌∙◌}
use Rattle.std.specs.Prelude.{Option, Some, None, slice_get, option_and_then}
use Rattle.std.specs.List.{AllByRecursion, list_any}
use Rattle.inc_query.specs.declared.query.Query.{Query}
use Rattle.rs_tree.specs.declared.answers.Const.{Const as Value}
use Rattle.rs_tree.specs.declared.place.Place.{Place}
use Rattle.rs_tree.specs.declared.tree.Crate.{Crate}
use Rattle.rs_tree.specs.declared.tree.Path as path
use Rattle.rs_tree.specs.declared.tree.Placed.{Placed}
use Rattle.rs_tree.specs.Plain.{Definition, Const, Func, definition, plain_item}
use Rattle.rs_grammar.specs.Again.{ItemsParseAgain}
use Rattle.rs_grammar.specs.Tidy.{NamesArePlain, TreesAreTidy}
use Rattle.rs_text.specs.Laws.{ParsedIs, TextIs}
use Rattle.rs_answers.specs.Fits.{FitsConst}
use Rattle.rs_answers.specs.Forms.{diags_form}
use Rattle.rs_forms.specs.Forms.{ir_form}
use Rattle.rs_lookup.specs.Places.{place_from, place_name}
use Rattle.rs_check.specs.Items.{item_wrongs, lines}
use Rattle.rs_const.specs.Constants.{AreValues, Entry, names}
use Rattle.rs_queries.specs.Built.{consts_of, form_of}
use Rattle.rs_queries.specs.Known.{answered, constants_of, entry_by, items_of, place_of, sigs_of, value_at}
use Rattle.rs_plans.specs.Plans.{is_constant, is_wrong, level_of, named_items}
use Rattle.rs_plans.specs.Readings.{const_in}
use Rattle.rs_plans.specs.Steps.{query}
use Rattle.plan_laws.specs.Agree.{entry_at}
use Rattle.plan_laws.specs.Texts.{HasCrate, HasItem}
use Rattle.plan_laws.specs.Whole.{HasItems, HaveValues, IsUsable}
use Rattle.plan_laws.proofs.Checks.{IsKnown, check_given, item_of}
use Rattle.plan_laws.proofs.Constants.{constant_back, constant_given, entry_own}
use Rattle.plan_laws.proofs.Forms.{all_with, form_given, numbered}
use Rattle.plan_laws.proofs.Given.{valued}
use Rattle.plan_laws.proofs.Index.{tidy_tree}
use Rattle.plan_laws.proofs.Lookups.{IsItem, IsPlaced, entry_known, found_placed, named_there}
use Rattle.plan_laws.proofs.Restricted.{at_all, got}

-- the values of constants are in the ranges of their types
fits_at : (known : List Entry) (values : List Value) → AllByRecursion FitsConst values → (q : Place) (c : Value) → value_at known values q ≡ Some c → FitsConst c
fits_at known values fits q c is = by (place_from (place_name q) 0 (names known)) is
  where
    by : (o : Option ℕ) → option_and_then (slice_get values) o ≡ Some c → FitsConst c
    by None h = absurd (cc)
    by (Some n) h = at_all FitsConst values n c fits h

-- where there is a value there is a constant
entry_of_value : (known : List Entry) (values : List Value) (q : Place) (c : Value) → value_at known values q ≡ Some c → (e : Entry) × (entry_at (place_name q) known ≡ Some e)
entry_of_value known values q c is = by (place_from (place_name q) 0 (names known)) refl is
  where
    by : (o : Option ℕ) → place_from (place_name q) 0 (names known) ≡ o → option_and_then (slice_get values) o ≡ Some c → (e : Entry) × (entry_at (place_name q) known ≡ Some e)
    by None at h = absurd (cc)
    by (Some n) at h = (let e = got known (place_name q) n at in (e.0, ap (option_and_then (slice_get known)) at ∙ e.1))

module _ (texts : TextIs) (plain : NamesArePlain) (trees : TreesAreTidy) (parses : ParsedIs) (again : ItemsParseAgain) (setting text : List ℕ) (krate : Crate) (has : HasCrate text krate) (whole_tree : HasItems krate) (values : List Value) (are : AreValues (constants_of krate) values) (fits : AllByRecursion FitsConst values) where
  abbrev v : Query → List ℕ
  v = valued setting text

  -- its query gives the value of a constant
  constant_read : (p : Placed) (it : HasItem krate p) (c : Value) → is_constant (definition p.item.body) ≡ true → value_at (constants_of krate) values (place_of p) ≡ Some c → const_in (v (query 4 (place_of p))) ≡ Some c
  constant_read p it c constant is =
      ap const_in (constant_given texts plain trees parses again setting text krate has whole_tree p it values are c constant is) ∙ constant_back c (fits_at (constants_of krate) values fits (place_of p) c is)

  read_at : (q : Place) (is : IsPlaced krate.items (place_name q)) (c : Value) → value_at (constants_of krate) values q ≡ Some c → const_in (v (query 4 q)) ≡ Some c
  read_at q is c has_value = by (definition is.placed.item.body) refl
    where
      at : place_of is.placed ≡ q
      at = ap (λ n. record { «module» = n.0; name = n.1 }) is.at

      by : (d : Definition path.Path) → definition is.placed.item.body ≡ d → const_in (v (query 4 q)) ≡ Some c
      by (Const typ ex) body =
          ap (λ r. const_in (v (query 4 r))) (sym at)
          ∙ constant_read is.placed (item_of texts plain trees parses again setting text krate has whole_tree is.placed is.before is.rest is.is) c (ap is_constant body) (ap (value_at (constants_of krate) values) at ∙ has_value)
      by (Func inlined params gives stmts tail) body =
          absurd (let e = entry_of_value (constants_of krate) values q c has_value in
          let none : entry_at (place_name q) (constants_of krate) ≡ None = entry_known krate (tidy_tree texts trees text krate has.is).items (place_name q) is ∙ ap (entry_by (answered (items_of krate) is.placed)) body in
          let bad : Some e.0 ≡ None = sym e.1 ∙ none in cc)

  usable_at : (q : Place) → IsItem (items_of krate) q → ((c : Value) → value_at (constants_of krate) values q ≡ Some c → IsUsable c) → (c : Value) → value_at (constants_of krate) values q ≡ Some c → IsUsable c × (const_in (v (query 4 q)) ≡ Some c)
  usable_at q item usable c is = (usable c is, read_at q (found_placed (place_name q) krate.items item.0 item.1) c is)

  module _ (p : Placed) (it : HasItem krate p) where
    known : IsKnown v (place_of p) (value_at (constants_of krate) values (place_of p)) (definition p.item.body)
    known = by (definition p.item.body) refl
      where
        by : (d : Definition path.Path) → definition p.item.body ≡ d → IsKnown v (place_of p) (value_at (constants_of krate) values (place_of p)) d
        by (Const typ ex) body =
            let constant : is_constant (definition p.item.body) ≡ true = ap is_constant body in
            let e = entry_own texts plain trees parses again setting text krate has whole_tree p it constant in
            let n = numbered (constants_of krate) values are.all (place_name (place_of p)) _ e in
            let is : value_at (constants_of krate) values (place_of p) ≡ Some n.value = ap (option_and_then (slice_get values)) n.at ∙ n.valued in
            (n.value, is, constant_read p it n.value constant is)
        by (Func inlined params gives stmts tail) body = tt

    -- the diagnostics
    pub check_whole : valued setting text (query 5 (place_of p)) ≡ diags_form (lines (item_wrongs (items_of krate) (sigs_of krate) p.«module» (answered (items_of krate) p).1 (value_at (constants_of krate) values (place_of p)) (plain_item p.item)))
    check_whole = check_given texts plain trees parses again setting text krate has whole_tree p it (value_at (constants_of krate) values (place_of p)) known

    -- the form
    pub form_whole : HaveValues (constants_of krate) values (named_items (answered (items_of krate) p).1) → is_constant (definition p.item.body) ≡ false
        → list_any is_wrong (lines (item_wrongs (items_of krate) (sigs_of krate) p.«module» (answered (items_of krate) p).1 None (plain_item p.item))) ≡ false
        → valued setting text (query 9 (place_of p)) ≡ ir_form (form_of (level_of setting) (sigs_of krate) (consts_of (constants_of krate) values) (answered (items_of krate) p)).1
    form_whole have function right =
        let named = named_items (answered (items_of krate) p).1 in
        form_given texts plain trees parses again setting text krate has whole_tree values are p it (all_with usable_at named (named_there (items_of krate) p.«module» (definition p.item.body)) have) function right
