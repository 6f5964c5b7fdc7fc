-- The intermediate forms of functions.
use Rattle.std.proofs.Common.{◌≡◌, ℕ, zero, suc, ◌==◌, ◌||◌, ◌&&◌, Bool, true, false, not, List, [], ◌∷◌, length, map, refl, sym, ap, subst, ◌∙◌, arith, inl, inr, if◌then◌else◌}
use Rattle.std.specs.Prelude.{Option, Some, None, Ok, Err, is_none, slice_get, option_and_then, unwrap_or}
use Rattle.std.specs.List.{AllByRecursion, Contains, cons_option, list_any}
use Rattle.std.specs.Option.{option_map, option_map_or}
use Rattle.std.proofs.lemmas.Bool.Decides.{Decides-eqb}
use Rattle.std.proofs.lemmas.Option.{slice_get_cases, slice_get_within}
use Rattle.inc_wire.specs.Narrow.{read_back}
use Rattle.inc_query.specs.Plans.{Give, given}
use Rattle.inc_query.specs.declared.query.Query.{Query}
use Rattle.rs_tree.specs.Labels.{LabelsHavePlaces, count_of_places}
use Rattle.rs_tree.specs.declared.answers.Const.{Const as Value}
use Rattle.rs_tree.specs.declared.answers.Const.TheVariants as k
use Rattle.rs_tree.specs.declared.answers.Diag.{Diag}
use Rattle.rs_tree.specs.declared.answers.Found.{Found}
use Rattle.rs_tree.specs.declared.answers.Found.TheVariants as f
use Rattle.rs_tree.specs.declared.index.Index.{Index}
use Rattle.rs_tree.specs.declared.index.IndexItem.{IndexItem}
use Rattle.rs_tree.specs.declared.index.Sig.{Sig}
use Rattle.rs_tree.specs.declared.ir.Instr.{Instr}
use Rattle.rs_tree.specs.declared.ir.Instr.TheVariants as i
use Rattle.rs_tree.specs.declared.ir.Ir.{Ir}
use Rattle.rs_tree.specs.declared.place.Place.{Place}
use Rattle.rs_tree.specs.declared.tree.Crate.{Crate}
use Rattle.rs_tree.specs.declared.tree.Path as path
use Rattle.rs_tree.specs.declared.tree.Placed.{Placed}
use Rattle.rs_tree.specs.declared.tree.Typ.{Typ}
use Rattle.rs_tree.specs.declared.tree.Typ.TheVariants as t
use Rattle.rs_tree.specs.Plain.{Exp, Definition, Const, Func, definition, plain_item, plain_placed}
use Rattle.rs_grammar.specs.Again.{ItemsParseAgain}
use Rattle.rs_grammar.specs.Tidy.{NamesArePlain, TreesAreTidy}
use Rattle.rs_text.specs.Laws.{ParsedIs, TextIs}
use Rattle.rs_forms.specs.Fits.{FitsIr}
use Rattle.rs_forms.specs.Forms.{ir_form}
use Rattle.rs_forms.proofs.Readers.{forms_are_answered}
use Rattle.rs_lookup.specs.Places.{Name, place_from, place_name, same}
use Rattle.rs_names.specs.Indexed.{index_item, is_root_main, kind_of}
use Rattle.rs_names.specs.Resolved.{item_at}
use Rattle.rs_tree.specs.Leaves.{filled}
use Rattle.rs_value.specs.Value.{Outcome, value}
use Rattle.rs_value.specs.declared.trap.Trap.TheVariants.{Overflow, DivZero, NoValue}
use Rattle.rs_check.specs.Items.{item_wrongs, lines}
use Rattle.rs_const.specs.Constants.{AreValues, Entry, IsValue, const_of, const_wrongs, given_by, is_some_wrong, names, number, sigs_of as const_sigs, value_at as value_to, worth, worth_by}
use Rattle.rs_lower.specs.Lowered.{lowered}
use Rattle.rs_lower.specs.Meanings.{const_at}
use Rattle.rs_lower.proofs.Formed.{lowered_form}
use Rattle.rs_queries.specs.Built.{const_by, consts_of, form_of, tree_index}
use Rattle.rs_queries.specs.Known.{answered, constants_of, entry_by, entry_of, gives_of, items_of, params_of, place_of, sig_of, sigs_of, value_at}
use Rattle.rs_plans.specs.Names.{is_among}
use Rattle.rs_plans.specs.Plans.{Use, constant_use, consts_used, diags_by, ir_from, ir_of, ir_plan, is_constant, is_constant_at, is_public_at, is_wrong, level_of, named_items, plan_of, sigs_used, typ_of, use_in, use_query}
use Rattle.rs_plans.specs.Readings.{const_in, has_label, has_labels, index_in, ir_in, item_in, sig_in}
use Rattle.rs_plans.specs.Steps.{ask, query, whole}
use Rattle.rs_plans.proofs.Fresh.{all_weaker, same_is}
use Rattle.plan_laws.specs.Agree.{Agrees, ValuesAgree}
use Rattle.plan_laws.specs.Texts.{HasCrate, HasItem}
use Rattle.plan_laws.specs.Whole.{HasItems, IsUsable}
use Rattle.plan_laws.proofs.Checks.{AllRead, HasSig, all_agree, all_read, given_reads, sig_known, sig_of_item}
use Rattle.plan_laws.proofs.Given.{by_plan, given_ask, valued}
use Rattle.plan_laws.proofs.Index.{index_read, passes, tidy_tree}
use Rattle.plan_laws.proofs.Items.{item_read}
use Rattle.plan_laws.proofs.Lookups.{IsIn, IsItem, IsPlaced, entry_known, entry_name, first_at, found_in, found_next, found_placed, named_in, named_there, next_at}
use Rattle.plan_laws.proofs.Lowering.{form_same}
use Rattle.plan_laws.proofs.Tests.{all_pass}
use Rattle.plan_laws.proofs.Wrong.{wrong_same}

-- ---- A form is read back.

each_from : {X : Type 0} (P : X → Type 0) (xs : List X) → ((x : X) → Contains xs x → P x) → AllByRecursion P xs
each_from P [] h = tt
each_from P (x ∷ xs) h = (h x (0, omega arith, refl), each_from P xs (λ y has. h y (suc has.0, omega (arith, has.1), has.2)))

label_there : (code : List Instr) (x : Instr) → LabelsHavePlaces code → Contains code x → has_label code x ≡ true
label_there code (i.Push value) h has = refl
label_there code (i.Load slot) h has = refl
label_there code (i.Store slot) h has = refl
label_there code (i.Plain c) h has = refl
label_there code (i.Jump c label) h has = (Decides-eqb (count_of_places label code) 1).1 (h c label has)
label_there code (i.Label label) h has = refl
label_there code (i.Call inline place) h has = refl

labels_there : (ir : Ir) → LabelsHavePlaces ir.code → has_labels ir ≡ true
labels_there ir h = all_pass (has_label ir.code) ir.code (each_from (λ x. has_label ir.code x ≡ true) ir.code (λ x has. label_there ir.code x h has))

form_back : (ir : Ir) → FitsIr ir → LabelsHavePlaces ir.code → ir_in (ir_form ir) ≡ Some ir
unfolding ir_in
form_back ir fits labels = passes has_labels (forms_are_answered.ir (ir_form ir)).0 ir (read_back FitsIr ir_form ir (forms_are_answered.ir (ir_form ir)).0 fits (forms_are_answered.ir (ir_form ir)).1) (labels_there ir labels)

-- that of a function
pub lowered_back : (level : ℕ) (fs : List Found) (sigs : List (Place × Sig)) (consts : List (Place × Value)) (p : Placed) → FitsIr (lowered level fs sigs consts p.item) → ir_in (ir_form (lowered level fs sigs consts p.item)) ≡ Some (lowered level fs sigs consts p.item)
lowered_back level fs sigs consts p fits = form_back (lowered level fs sigs consts p.item) fits (lowered_form level fs sigs consts p.item).labels

-- ---- A constant has a value of its type.

const_typed : (typ : Typ) (o : Outcome) (x : Typ) → typ_of (const_of typ o) ≡ Some x → typ ≡ x
const_typed t.Unit (Ok v) x e = absurd (cc)
const_typed t.Int (Ok v) x e = cc
const_typed t.Bool (Ok v) x e = cc
const_typed typ (Err Overflow) x e = absurd (cc)
const_typed typ (Err DivZero) x e = absurd (cc)
const_typed typ (Err NoValue) x e = absurd (cc)

worth_typed : (wrong : Bool) (typ : Typ) (o : Outcome) (x : Typ) → typ_of (if wrong then k.Bad else const_of typ o) ≡ Some x → typ ≡ x
worth_typed true typ o x e = absurd (cc)
worth_typed false typ o x e = const_typed typ o x e

definition_typed : (known : List Entry) (n : ℕ) (e : Entry) (d : Definition path.Path) (typ : Typ) (ex : Exp path.Path) (x : Typ) → d ≡ Const typ ex
    → typ_of (worth (const_sigs known) d e.2 (given_by (λ j. number (value_to known n j)) (names known) e.2)) ≡ Some x → typ ≡ x
definition_typed known n e d typ ex x is h =
    let given = given_by (λ j. number (value_to known n j)) (names known) e.2 in
    worth_typed (is_some_wrong (const_wrongs (const_sigs known) typ ex e.2) || list_any is_none given) typ (value (filled None given ex)) x (sym (ap (λ d. typ_of (worth (const_sigs known) d e.2 given)) is) ∙ h)

value_typed : (known : List Entry) (n j : ℕ) (e : Entry) (typ : Typ) (ex : Exp path.Path) (x : Typ) → slice_get known j ≡ Some e → definition e.1.body ≡ Const typ ex → typ_of (value_to known n j) ≡ Some x → typ ≡ x
value_typed known zero j e typ ex x at is h = absurd (cc)
value_typed known (suc n) j e typ ex x at is h =
    definition_typed known n e (definition e.1.body) typ ex x is (sym (ap (λ o. typ_of (option_map_or (worth_by (λ j. number (value_to known n j)) known) o k.Bad)) at) ∙ h)

not_cycle : (c : Value) → IsUsable c → c ≡ k.Cycle → ⊥
not_cycle c h e = subst IsUsable e h

pub typed : (known : List Entry) (j : ℕ) (c : Value) (e : Entry) (typ : Typ) (ex : Exp path.Path) (x : Typ) → IsValue known j c → IsUsable c → slice_get known j ≡ Some e → definition e.1.body ≡ Const typ ex → typ_of c ≡ Some x → typ ≡ x
typed known j c e typ ex x is usable at body of = value_typed known (length known) j e typ ex x at body (sym (ap typ_of (is.value (λ cycle. not_cycle c usable (is.cycle cycle)))) ∙ of)

-- ---- What is known of a constant by its value.

used : (public : Bool) (c : Value) → IsUsable c → (typ : Typ) × (typ_of c ≡ Some typ) × (constant_use public c ≡ Some (record { kind = 0; public = public; params = []; gives = typ }, Some c))
used public (k.Int v) h = (t.Int, refl, refl)
used public (k.Bool b) h = (t.Bool, refl, refl)
used public k.Cycle h = absurd h
used public k.Overflow h = absurd h
used public k.DivZero h = absurd h
used public k.Bad h = absurd h

-- the values of constants by their places
const_found : (q : Name) (ns : List Name) (values : List Value) (es : List Entry)
    → found_in q (map (const_by ns values) es) ≡ option_map (λ (e : Entry). unwrap_or (option_and_then (slice_get values) (place_from q 0 ns)) k.Bad) (first_at entry_name q es)
const_found q ns values [] = refl
const_found q ns values (e ∷ es) =
    found_next q (const_by ns values e) (map (const_by ns values) es) ∙ by (same q (entry_name e)) refl (const_found q ns values es)
    ∙ sym (ap (option_map (λ (e : Entry). unwrap_or (option_and_then (slice_get values) (place_from q 0 ns)) k.Bad)) (next_at entry_name q e es))
  where
    by : (b : Bool) → same q (entry_name e) ≡ b → found_in q (map (const_by ns values) es) ≡ option_map (λ (e : Entry). unwrap_or (option_and_then (slice_get values) (place_from q 0 ns)) k.Bad) (first_at entry_name q es)
        → (if b then Some (const_by ns values e).1 else found_in q (map (const_by ns values) es)) ≡ option_map (λ (e : Entry). unwrap_or (option_and_then (slice_get values) (place_from q 0 ns)) k.Bad) (if b then Some e else first_at entry_name q es)
    by true is more = ap (λ n. Some (unwrap_or (option_and_then (slice_get values) (place_from n 0 ns)) k.Bad)) (sym (same_is q (entry_name e) is))
    by false is more = more

-- a constant has its value at the number of its entry
pub record HasNumber (known : List Entry) (values : List Value) (q : Name) (e : Entry) : Type 0 where
  pub number : ℕ
  pub value : Value
  pub at : place_from q 0 (names known) ≡ Some number
  pub entry : slice_get known number ≡ Some e
  pub valued : slice_get values number ≡ Some value

pub numbered : (known : List Entry) (values : List Value) → length values ≡ length known → (q : Name) (e : Entry) → first_at entry_name q known ≡ Some e → HasNumber known values q e
numbered known values long q e h = by (place_from q 0 (names known)) refl h
  where
    by : (o : Option ℕ) → place_from q 0 (names known) ≡ o → option_and_then (slice_get known) o ≡ Some e → HasNumber known values q e
    by None at h = absurd (cc)
    by (Some n) at h = elim (slice_get_cases values n).1 [
      | inl got ↦ record { number = n; value = got.0; at = at; entry = h; valued = got.2 }
      | inr past ↦ absurd (let inside = slice_get_within known n e h in omega (arith, past.0, inside, long))
    ]

-- ---- What a function uses.

-- each of these places that is a constant's has a value, which its query gives
abbrev pub AreUsable : (Query → List ℕ) → List Entry → List Value → List Place → Type 0
AreUsable v constants values ps = AllByRecursion (λ q. (c : Value) → value_at constants values q ≡ Some c → IsUsable c × (const_in (v (query 4 q)) ≡ Some c)) ps

-- of an item, as the index has it
pub kind_known : (index : Index) (q : Place) (p : Placed) → item_at (place_name q) index.items ≡ Some (index_item (plain_placed p)) → is_constant_at index q ≡ (kind_of (is_root_main p.«module» p.item.name) (definition p.item.body) == 0)
kind_known index q p at = ap (λ o. option_map_or (λ (x : IndexItem). x.kind == 0) o false) at

public_known : (index : Index) (q : Place) (p : Placed) → item_at (place_name q) index.items ≡ Some (index_item (plain_placed p)) → is_public_at index q ≡ p.item.public
public_known index q p at = ap (λ o. option_map_or (λ (x : IndexItem). x.public) o false) at

pub function_kind : (inlined main : Bool) → ((if inlined && not main then 2 else 1) == 0) ≡ false
function_kind true true = refl
function_kind true false = refl
function_kind false main = refl

module _ (krate : Crate) (values : List Value) where
  abbrev constants : List Entry
  constants = constants_of krate

  abbrev consts : List (Place × Value)
  consts = consts_of constants values

  -- a signature and a value, as the tree has them
  pub record HasUse (q : Place) (u : Use) : Type 0 where
    pub sig : HasSig krate q u.0
    pub value : const_at (place_name q) consts ≡ u.1

  sigs_had : (us : List (Place × Use)) → AllByRecursion (λ (u : Place × Use). HasUse u.0 u.1) us → AllByRecursion (λ (x : Place × Sig). HasSig krate x.0 x.1) (sigs_used us)
  sigs_had [] h = tt
  sigs_had (u ∷ us) h = (h.0.sig, sigs_had us h.1)

  firsts : (us : List (Place × Use)) → map (λ (x : Place × Sig). x.0) (sigs_used us) ≡ map (λ (u : Place × Use). u.0) us
  firsts [] = refl
  firsts (u ∷ us) = ap (λ l. u.0 ∷ l) (firsts us)

  none_either : (b : Bool) (o : Option Value) → o ≡ None → (if b then o else None) ≡ None
  none_either true o e = e
  none_either false o e = refl

  -- the values of those that are used, at any place
  consts_had : (us : List (Place × Use)) → AllByRecursion (λ (u : Place × Use). HasUse u.0 u.1) us → (q : Place)
      → const_at (place_name q) (consts_used us) ≡ (if is_among (map (λ (u : Place × Use). u.0) us) q then const_at (place_name q) consts else None)
  consts_had [] h q = refl
  consts_had (u ∷ us) h q = by u.1.1 h.0.value (same (place_name q) (place_name u.0)) refl (consts_had us h.1 q)
    where
      by : (o : Option Value) → const_at (place_name u.0) consts ≡ o → (b : Bool) → same (place_name q) (place_name u.0) ≡ b
          → const_at (place_name q) (consts_used us) ≡ (if is_among (map (λ (u : Place × Use). u.0) us) q then const_at (place_name q) consts else None)
          → const_at (place_name q) (cons_option (option_map (λ c. (u.0, c)) o) (consts_used us)) ≡ (if b || is_among (map (λ (u : Place × Use). u.0) us) q then const_at (place_name q) consts else None)
      by (Some c) has true is more =
          found_next (place_name q) (u.0, c) (consts_used us) ∙ ap (λ b. if b then Some c else const_at (place_name q) (consts_used us)) is
          ∙ sym has ∙ ap (λ n. const_at n consts) (sym (same_is (place_name q) (place_name u.0) is))
      by (Some c) has false is more = found_next (place_name q) (u.0, c) (consts_used us) ∙ ap (λ b. if b then Some c else const_at (place_name q) (consts_used us)) is ∙ more
      by None has true is more =
          let none : const_at (place_name q) consts ≡ None = ap (λ n. const_at n consts) (same_is (place_name q) (place_name u.0) is) ∙ has in
          more ∙ none_either (is_among (map (λ (u : Place × Use). u.0) us) q) (const_at (place_name q) consts) none ∙ sym none
      by None has false is more = more

  value_agrees : (us : List (Place × Use)) → AllByRecursion (λ (u : Place × Use). HasUse u.0 u.1) us → (b : Found) → IsIn (map (λ (u : Place × Use). u.0) us) b → ValuesAgree (consts_used us) consts b
  value_agrees us h f.Local e = tt
  value_agrees us h (f.Item q) e = consts_had us h q ∙ ap (λ b. if b then const_at (place_name q) consts else None) e
  value_agrees us h f.Private e = tt
  value_agrees us h f.Absent e = tt

pub all_with : {X : Type 0} {P Q R : X → Type 0} → ((x : X) → P x → Q x → R x) → (xs : List X) → AllByRecursion P xs → AllByRecursion Q xs → AllByRecursion R xs
all_with f [] h k = tt
all_with f (x ∷ xs) h k = (f x h.0 k.0, all_with f xs h.1 k.1)

module _ (texts : TextIs) (plain : NamesArePlain) (trees : TreesAreTidy) (parses : ParsedIs) (again : ItemsParseAgain) (setting text : List ℕ) (krate : Crate) (has : HasCrate text krate) (whole_tree : HasItems krate) (values : List Value) (are : AreValues (constants_of krate) values) where
  abbrev v : Query → List ℕ
  v = valued setting text

  abbrev index : Index
  index = tree_index krate

  -- what its query gives of an item, as one that is used
  abbrev IsUsed : Place → Type 0
  IsUsed q = (u : Use) × (use_in index q (v (use_query index q)) ≡ Some u) × HasUse krate values q u

  abbrev Usable : Place → Type 0
  Usable q = (c : Value) → value_at (constants_of krate) values q ≡ Some c → IsUsable c × (const_in (v (query 4 q)) ≡ Some c)

  -- by whether it is a constant
  abbrev read_by : Place → Bool → Option Use
  read_by q b =
      if b then option_and_then (constant_use (is_public_at index q)) (const_in (v (if b then query 4 q else query 3 q))) else option_map (λ sig. (sig, None)) (sig_in (v (if b then query 4 q else query 3 q)))

  entry_at : (q : Place) (is : IsPlaced krate.items (place_name q)) → first_at entry_name (place_name q) (constants_of krate) ≡ entry_of (answered (items_of krate) is.placed)
  entry_at q is = entry_known krate (tidy_tree texts trees text krate has.is).items (place_name q) is

  const_of_item : (q : Place) (is : IsPlaced krate.items (place_name q)) → const_at (place_name q) (consts_of (constants_of krate) values)
      ≡ option_map (λ (e : Entry). unwrap_or (value_at (constants_of krate) values q) k.Bad) (entry_of (answered (items_of krate) is.placed))
  const_of_item q is = const_found (place_name q) (names (constants_of krate)) values (constants_of krate) ∙ ap (option_map (λ (e : Entry). unwrap_or (value_at (constants_of krate) values q) k.Bad)) (entry_at q is)

  sig_is : (q : Place) (is : IsPlaced krate.items (place_name q)) (typ : Typ) (ex : Exp path.Path) → definition is.placed.item.body ≡ Const typ ex
      → (sig_of (items_of krate) is.placed).1 ≡ record { kind = 0; public = is.placed.item.public; params = []; gives = typ }
  sig_is q is typ ex body =
      let p = is.placed in
      let at : item_at (place_name (place_of p)) (items_of krate) ≡ Some (index_item (plain_placed p)) = ap (λ n. item_at n (items_of krate)) is.at ∙ is.item in
      ap (λ o. record { kind = option_map_or (λ (x : IndexItem). x.kind) o 0; public = p.item.public; params = params_of (definition p.item.body); gives = gives_of (definition p.item.body) }) at
      ∙ ap (λ (d : Definition path.Path). record { kind = kind_of (is_root_main p.«module» p.item.name) d; public = p.item.public; params = params_of d; gives = gives_of d }) body

  constant_used : (q : Place) (is : IsPlaced krate.items (place_name q)) (typ : Typ) (ex : Exp path.Path) → definition is.placed.item.body ≡ Const typ ex → Usable q → IsUsed q
  constant_used q is typ ex body usable =
      let p = is.placed in
      let e : Entry = (place_of p, p.item, (answered (items_of krate) p).1) in
      let entry : entry_of (answered (items_of krate) p) ≡ Some e = ap (entry_by (answered (items_of krate) p)) body in
      let n = numbered (constants_of krate) values are.all (place_name q) e (entry_at q is ∙ entry) in
      let its : value_at (constants_of krate) values q ≡ Some n.value = ap (option_and_then (slice_get values)) n.at ∙ n.valued in
      let ok = usable n.value its in
      let by = used p.item.public n.value ok.0 in
      let same : typ ≡ by.0 = typed (constants_of krate) n.number n.value e typ ex by.0 (are.each n.number n.value n.valued) ok.0 n.entry body by.1 in
      let kind : is_constant_at index q ≡ true = kind_known index q p is.item ∙ ap (λ (d : Definition path.Path). kind_of (is_root_main p.«module» p.item.name) d == 0) body in (
        (record { kind = 0; public = p.item.public; params = []; gives = by.0 }, Some n.value),
        ap (read_by q) kind ∙ ap (option_and_then (constant_use (is_public_at index q))) ok.1 ∙ ap (λ b. constant_use b n.value) (public_known index q p is.item) ∙ by.2,
        record {
          sig = sig_known texts plain trees parses again setting text krate has whole_tree q is ∙ ap Some (sig_is q is typ ex body) ∙ ap (λ typ. Some (record { kind = 0; public = p.item.public; params = []; gives = typ })) same;
          value = const_of_item q is ∙ ap (option_map (λ (e : Entry). unwrap_or (value_at (constants_of krate) values q) k.Bad)) entry ∙ ap (λ o. Some (unwrap_or o k.Bad)) its;
        },
      )

  function_used : (q : Place) (is : IsPlaced krate.items (place_name q)) → entry_of (answered (items_of krate) is.placed) ≡ None → is_constant_at index q ≡ false → IsUsed q
  function_used q is entry kind = (
    ((sig_of (items_of krate) is.placed).1, None),
    ap (read_by q) kind ∙ ap (option_map (λ sig. (sig, None))) (sig_of_item texts plain trees parses again setting text krate has whole_tree q is),
    record {
      sig = sig_known texts plain trees parses again setting text krate has whole_tree q is;
      value = const_of_item q is ∙ ap (option_map (λ (e : Entry). unwrap_or (value_at (constants_of krate) values q) k.Bad)) entry;
    },
  )

  use_of : (q : Place) (is : IsPlaced krate.items (place_name q)) → Usable q → IsUsed q
  use_of q is usable = by (definition is.placed.item.body) refl
    where
      by : (d : Definition path.Path) → definition is.placed.item.body ≡ d → IsUsed q
      by (Const typ ex) body = constant_used q is typ ex body usable
      by (Func inlined params gives stmts tail) body =
          function_used q is (ap (entry_by (answered (items_of krate) is.placed)) body)
          (kind_known index q is.placed is.item ∙ ap (λ (d : Definition path.Path). kind_of (is_root_main is.placed.«module» is.placed.item.name) d == 0) body ∙ function_kind inlined (is_root_main is.placed.«module» is.placed.item.name))

  use_read : (q : Place) → IsItem (items_of krate) q → Usable q → IsUsed q
  use_read q item usable = use_of q (found_placed (place_name q) krate.items item.0 item.1) usable

  -- ---- The form.

  module _ (p : Placed) (it : HasItem krate p) (usable : AreUsable (valued setting text) (constants_of krate) values (named_items (answered (items_of krate) p).1)) where
    abbrev found : List Found
    found = (answered (items_of krate) p).1

    uses : AllRead v (use_query index) (use_in index) (HasUse krate values) (named_items found)
    uses = all_read v (use_query index) (use_in index) (HasUse krate values) (named_items found) (all_with use_read (named_items found) (named_there (items_of krate) p.«module» (definition p.item.body)) usable)

    sigs_agree : AllByRecursion (Agrees (sigs_used uses.reads) (sigs_of krate)) found
    sigs_agree = all_agree krate (sigs_used uses.reads) found (firsts krate values uses.reads ∙ uses.places) (sigs_had krate values uses.reads uses.so)

    values_agree : AllByRecursion (ValuesAgree (consts_used uses.reads) (consts_of (constants_of krate) values)) found
    values_agree = all_weaker (value_agrees krate values uses.reads uses.so) found (subst (λ ps. AllByRecursion (IsIn ps) found) (sym uses.places) (named_in found))

    -- what is wrong with it, by all signatures
    abbrev told : List Diag
    told = lines (item_wrongs (items_of krate) (sigs_of krate) p.«module» found None (plain_item p.item))

    told_same : diags_by index (place_of p) p.item (sigs_used uses.reads) None ≡ told
    told_same = ap lines (wrong_same (items_of krate) (sigs_used uses.reads) (sigs_of krate) p.«module» found None (plain_item p.item) sigs_agree)

    planned : plan_of setting (query 9 (place_of p)) ≡ ir_plan (level_of setting) (query 9 (place_of p))
    unfolding plan_of
    planned = refl

    pub form_given : is_constant (definition p.item.body) ≡ false → list_any is_wrong (lines (item_wrongs (items_of krate) (sigs_of krate) p.«module» (answered (items_of krate) p).1 None (plain_item p.item))) ≡ false
        → valued setting text (query 9 (place_of p)) ≡ ir_form (form_of (level_of setting) (sigs_of krate) (consts_of (constants_of krate) values) (answered (items_of krate) p)).1
    form_given function right =
        let level = level_of setting in
        let us = uses.reads in
        by_plan setting text (query 9 (place_of p)) (omega arith) ∙ ap (given v) planned
        ∙ given_ask v (query 2 (place_of p)) item_in (λ item. if is_constant (definition item.body) then Give [] else ask (whole 1) index_in (ir_from level (place_of p) item)) p.item (item_read texts trees setting text krate has p it parses again)
        ∙ ap (λ b. given v (if b then Give [] else ask (whole 1) index_in (ir_from level (place_of p) p.item))) function
        ∙ given_ask v (whole 1) index_in (ir_from level (place_of p) p.item) index (index_read plain texts trees setting text krate has)
        ∙ given_reads v (use_query index) (use_in index) (HasUse krate values) (named_items found) (λ us. Give (ir_of level (place_of p) p.item index us)) uses
        ∙ ap (λ ds. if list_any is_wrong ds then [] else ir_form (lowered level found (sigs_used us) (consts_used us) p.item)) told_same
        ∙ ap (λ b. if b then [] else ir_form (lowered level found (sigs_used us) (consts_used us) p.item)) right
        ∙ ap ir_form (form_same level (sigs_used us) (sigs_of krate) (consts_used us) (consts_of (constants_of krate) values) found p.item sigs_agree values_agree)
