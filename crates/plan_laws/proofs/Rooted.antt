-- The roots of a build give what the clean build says.
use Rattle.std.proofs.Common.{◌≡◌, ◌⊎◌, inl, inr, ℕ, ◌==◌, ◌&&◌, Bool, true, false, List, map, refl, sym, ap, ◌∙◌, subst}
use Rattle.std.specs.Prelude.{Option, Some, None, slice_get}
use Rattle.std.specs.List.{AllByRecursion, Contains, list_any}
use Rattle.std.proofs.lemmas.Option.{same_Some, slice_get-map}
use Rattle.inc_query.specs.declared.query.Query.{Query}
use Rattle.rs_tree.specs.declared.answers.Const.{Const as Value}
use Rattle.rs_tree.specs.declared.answers.Found.{Found}
use Rattle.rs_tree.specs.declared.index.IndexItem.{IndexItem}
use Rattle.rs_tree.specs.declared.ir.Ir.{Ir}
use Rattle.rs_tree.specs.declared.place.At.{At}
use Rattle.rs_tree.specs.declared.place.Place.{Place}
use Rattle.rs_tree.specs.declared.index.Sig.{Sig}
use Rattle.rs_tree.specs.declared.tree.Crate.{Crate}
use Rattle.rs_tree.specs.declared.tree.Path as path
use Rattle.rs_tree.specs.declared.tree.Placed.{Placed}
use Rattle.rs_tree.specs.Plain.{Definition, Const, Func, definition}
use Rattle.rs_grammar.specs.Again.{ItemsParseAgain}
use Rattle.rs_grammar.specs.Tidy.{IsTidyCrate, NamesArePlain, TreesAreTidy}
use Rattle.rs_text.specs.Laws.{ParsedIs, TextIs}
use Rattle.rs_names.specs.Indexed.{is_root_main, kind_of}
use Rattle.rs_reach.specs.Laws.{RootsDiffer}
use Rattle.rs_check.specs.Items.{body_wrongs, lines}
use Rattle.rs_const.specs.Constants.{AreValues}
use Rattle.rs_units.specs.Laws.{IsMember, MembersOnce, MembersReached, NoneMissing}
use Rattle.rs_units.specs.Members.{member_numbers}
use Rattle.rs_units.specs.Units.{is_own, units_of}
use Rattle.rs_queries.specs.Built.{consts_of, form_of, members_in, tree_index}
use Rattle.rs_queries.specs.Known.{Answered, answered, constants_of, items_of, sigs_of, value_at}
use Rattle.rs_plans.specs.Plans.{is_constant, is_wrong, level_of, named_items}
use Rattle.rs_plans.specs.Readings.{ir_in, places_in}
use Rattle.rs_plans.specs.Steps.{query}
use Rattle.link_laws.proofs.Errors.{lines_warn}
use Rattle.link_laws.proofs.Lists.{at_number, each_at, each_filter_map, each_from, split}
use Rattle.link_laws.proofs.Makes.{calls, forms}
use Rattle.link_laws.proofs.Members.{member}
use Rattle.link_laws.proofs.Places.{item_numbered, map_some, the_item}
use Rattle.plan_laws.specs.Roots.{FitsClean, GiveRoots, GivesDiags, GivesObject, has_wrong}
use Rattle.plan_laws.specs.Texts.{HasCrate, HasItem}
use Rattle.plan_laws.specs.Whole.{HasItems, IsUsable}
use Rattle.plan_laws.proofs.Checks.{item_of}
use Rattle.plan_laws.proofs.Forms.{lowered_back}
use Rattle.plan_laws.proofs.Given.{valued}
use Rattle.plan_laws.proofs.Index.{tidy_tree}
use Rattle.plan_laws.proofs.Known.{check_whole, form_whole}
use Rattle.plan_laws.proofs.Objects.{object_given, unit_query}
use Rattle.plan_laws.proofs.Usable.{usable}
use Rattle.plan_laws.proofs.Used.{members_formed, members_read}

-- what is of kind 1 or 2 is no constant
function_by : (main x : Bool) (d : Definition path.Path) → ((((kind_of main d == 1) && x) ≡ true) ⊎ ((kind_of main d == 2) ≡ true)) → is_constant d ≡ false
function_by main x (Const typ e) (inl h) = absurd (cc)
function_by main x (Const typ e) (inr h) = absurd (cc)
function_by main x (Func inlined params gives stmts tail) h = refl

-- what is wrong with a function hangs on no value
without_value : (items : List IndexItem) (sigs : List (Place × Sig)) (home : List ℕ) (found : List Found) (value : Option Value) (at : At) (name : List ℕ) (d : Definition path.Path) → is_constant d ≡ false
    → list_any is_wrong (lines (body_wrongs items sigs home found value at name d)) ≡ false → list_any is_wrong (lines (body_wrongs items sigs home found None at name d)) ≡ false
without_value items sigs home found value at name (Const typ e) function h = absurd (cc)
without_value items sigs home found value at name (Func inlined params gives stmts tail) function h = h

module _ (texts : TextIs) (plain : NamesArePlain) (trees : TreesAreTidy) (parses : ParsedIs) (again : ItemsParseAgain) (setting text : List ℕ) (krate : Crate) (has : HasCrate text krate) (whole_tree : HasItems krate) (values : List Value) (are : AreValues (constants_of krate) values) (fits : FitsClean krate (level_of setting) values) where
  abbrev v : Query → List ℕ
  v = valued setting text

  abbrev items : List IndexItem
  items = items_of krate

  tidy : IsTidyCrate krate
  tidy = tidy_tree texts trees text krate has.is

  there : (p : Placed) → Contains krate.items p → HasItem krate p
  there p has_item = (let cut = split krate.items p has_item in item_of texts plain trees parses again setting text krate has whole_tree p cut.0 cut.1 cut.2)

  checks : AllByRecursion (GivesDiags v krate values) krate.items
  checks = each_from (GivesDiags v krate values) krate.items (λ p has_item. record {
    is = check_whole texts plain trees parses again setting text krate has whole_tree values are fits.constants p (there p has_item);
    fits = each_at _ krate.items p fits.diags has_item;
  })

  module _ (right : has_wrong krate values ≡ false) where
    -- the form of a function
    form_read : (i : ℕ) (p : Placed) → slice_get krate.items i ≡ Some p → is_constant (definition p.item.body) ≡ false
        → ir_in (v (query 9 (form_of (level_of setting) (sigs_of krate) (consts_of (constants_of krate) values) (answered items p)).0)) ≡ Some (form_of (level_of setting) (sigs_of krate) (consts_of (constants_of krate) values) (answered items p)).1
    form_read i p at function =
        let has_item = at_number krate.items i p at in
        let found = (answered items p).1 in
        let warns = without_value items (sigs_of krate) p.«module» found (value_at (constants_of krate) values (record { «module» = p.«module»; name = p.item.name })) p.item.at p.item.name (definition p.item.body) function (lines_warn krate values right i p at) in
        ap ir_in (form_whole texts plain trees parses again setting text krate has whole_tree values are fits.constants p (there p has_item) (each_from (λ q. (c : Value) → value_at (constants_of krate) values q ≡ Some c → IsUsable c) (named_items found) (λ q listed. usable krate tidy values are right q)) function warns)
        ∙ lowered_back (level_of setting) found (sigs_of krate) (consts_of (constants_of krate) values) p (each_at _ krate.items p (fits.forms right) has_item function)

    module _ (roots : RootsDiffer) (reached : MembersReached) (once : MembersOnce) (missing : NoneMissing) (unit : List ℕ) where
      abbrev members : List (Place × Ir)
      members = members_in items (calls krate) (forms krate (level_of setting) values) unit

      -- a member is a function
      member_function : (i : ℕ) (p : Placed) → slice_get krate.items i ≡ Some p → Contains (member_numbers unit items (calls krate)) i → is_constant (definition p.item.body) ≡ false
      member_function i p at listed =
          let m : IsMember unit items (calls krate) i = member krate tidy roots unit reached once missing i listed in
          let same : the_item p ≡ m.item = same_Some (the_item p) m.item (sym (item_numbered krate tidy i p at) ∙ m.numbered) in
          function_by (is_root_main p.«module» p.item.name) _ (definition p.item.body) (elim m.either [ inl own ↦ inl (ap (is_own unit) same ∙ own) | inr copy ↦ inr (ap (λ (x : IndexItem). x.kind == 2) same ∙ copy.0) ])

      member_read : (i : ℕ) → Contains (member_numbers unit items (calls krate)) i → (m : Place × Ir) → slice_get (forms krate (level_of setting) values) i ≡ Some m → ir_in (v (query 9 m.0)) ≡ Some m.1
      member_read i listed m e =
          let make : Answered → Place × Ir = form_of (level_of setting) (sigs_of krate) (consts_of (constants_of krate) values) in
          let outer = map_some make (slice_get (map (answered items) krate.items) i) m (sym (slice_get-map make (map (answered items) krate.items) i) ∙ e) in
          let inner = map_some (answered items) (slice_get krate.items i) outer.0 (sym (slice_get-map (answered items) krate.items i) ∙ outer.1) in
          let same : make (answered items inner.0) ≡ m = ap make inner.2 ∙ outer.2 in
          subst (λ (x : Place × Ir). ir_in (v (query 9 x.0)) ≡ Some x.1) same (form_read i inner.0 inner.1 (member_function i inner.0 inner.1 listed))

      places : places_in (v (unit_query 8 unit)) ≡ Some (map (λ (m : Place × Ir). m.0) members)
      places = members_read texts plain trees parses again setting text krate has whole_tree once unit ∙ ap Some (members_formed krate (level_of setting) values unit)

      gives : Contains (units_of (tree_index krate)) unit → GivesObject v krate (level_of setting) values unit
      gives has_unit = record {
        is = object_given setting text unit members places
            (each_filter_map (λ (m : Place × Ir). ir_in (v (query 9 m.0)) ≡ Some m.1) (slice_get (forms krate (level_of setting) values)) (member_numbers unit items (calls krate))
            (each_from (λ i. (m : Place × Ir) → slice_get (forms krate (level_of setting) values) i ≡ Some m → ir_in (v (query 9 m.0)) ≡ Some m.1) (member_numbers unit items (calls krate)) member_read));
        fits = each_at _ (units_of (tree_index krate)) unit (fits.objects right) has_unit;
      }

  pub roots_given : RootsDiffer → MembersReached → MembersOnce → NoneMissing → GiveRoots v krate (level_of setting) values
  roots_given roots reached once missing = record {
    are = are;
    checks = checks;
    objects = λ right. each_from (GivesObject v krate (level_of setting) values) (units_of (tree_index krate)) (λ unit has_unit. gives right roots reached once missing unit has_unit);
  }
