-- The values of constants.
use Rattle.std.proofs.Common.{◌≡◌, ◌⊎◌, inl, inr, ℕ, zero, suc, ◌+◌, ◌<◌, ◌≤◌, ◌==◌, ◌||◌, nat_eq, Bool, true, false, List, [], ◌∷◌, ◌++◌, length, map, refl, sym, ap, subst, ◌∙◌, arith, append-nil, filter, if◌then◌else◌}
use Rattle.std.specs.Prelude.{Option, Some, None, slice_get, option_and_then, unwrap_or}
use Rattle.std.specs.List.{AllByRecursion, IsDistinct, cons_option, filter_map, list_any}
use Rattle.std.specs.Option.{option_map_or}
use Rattle.std.proofs.lemmas.Bool.Decides.{Decides-eqb}
use Rattle.std.proofs.lemmas.Cmp.{nat_eq_equiv}
use Rattle.std.proofs.lemmas.List.{length-append, length-map, map-append}
use Rattle.std.proofs.lemmas.Map.Keys.{IsDistinct-push}
use Rattle.std.proofs.lemmas.Map.Steps.{length-le_from_distinct_below}
use Rattle.std.proofs.lemmas.Option.{slice_get_within}
use Rattle.inc_wire.specs.Narrow.{read_back}
use Rattle.inc_query.specs.Plans.{Give, Plan, given}
use Rattle.inc_query.specs.declared.query.Query.{Query}
use Rattle.rs_tree.specs.declared.answers.Const.{Const as Value}
use Rattle.rs_tree.specs.declared.answers.Const.TheVariants as k
use Rattle.rs_tree.specs.declared.answers.Found.{Found}
use Rattle.rs_tree.specs.declared.answers.Found.TheVariants as f
use Rattle.rs_tree.specs.declared.index.Index.{Index}
use Rattle.rs_tree.specs.declared.index.IndexItem.{IndexItem}
use Rattle.rs_tree.specs.declared.place.Place.{Place}
use Rattle.rs_tree.specs.declared.tree.Crate.{Crate}
use Rattle.rs_tree.specs.declared.tree.Item.{Item}
use Rattle.rs_tree.specs.declared.tree.Path as path
use Rattle.rs_tree.specs.declared.tree.Placed.{Placed}
use Rattle.rs_tree.specs.Plain.{Definition, Const, Func, definition, plain_placed}
use Rattle.rs_grammar.specs.Again.{ItemsParseAgain}
use Rattle.rs_grammar.specs.Tidy.{Distinct, NamesArePlain, TreesAreTidy, place_in}
use Rattle.rs_text.specs.Laws.{ParsedIs, TextIs}
use Rattle.rs_answers.specs.Fits.{FitsConst}
use Rattle.rs_answers.specs.Forms.{const_form}
use Rattle.rs_answers.proofs.Seeks.{answers_are_answered}
use Rattle.rs_lookup.specs.Places.{Name, place_from, place_name, same}
use Rattle.rs_names.specs.Indexed.{index_item, is_root_main, kind_of}
use Rattle.rs_names.specs.Resolved.{item_at}
use Rattle.rs_reach.proofs.Found.{ends, finds_once, finds_reached}
use Rattle.rs_const.specs.Constants.{AreValues, Entry, names}
use Rattle.rs_queries.specs.Built.{tree_index}
use Rattle.rs_queries.specs.Known.{answered, constants_of, entry_by, entry_of, items_of, place_of, value_at}
use Rattle.rs_queries.proofs.Values.{there}
use Rattle.rs_plans.specs.Names.{is_among}
use Rattle.rs_plans.specs.Plans.{answers, ask_constant, ask_constants, const_at, const_from, const_plan, constants_in, entry, first_new, is_constant, is_constant_at, places_found, places_known, plan_of, values_of}
use Rattle.rs_plans.specs.Readings.{const_in, index_in, item_in}
use Rattle.rs_plans.specs.Steps.{ask, query, whole}
use Rattle.rs_plans.proofs.Fresh.{all_weaker, among_front, among_last, same_is, same_self}
use Rattle.plan_laws.specs.Agree.{EntriesAgree, entry_at}
use Rattle.plan_laws.specs.Texts.{HasCrate, HasItem}
use Rattle.plan_laws.specs.Whole.{HasItems}
use Rattle.plan_laws.proofs.Checks.{item_of}
use Rattle.plan_laws.proofs.Forms.{function_kind, kind_known}
use Rattle.plan_laws.proofs.Given.{by_plan, given_ask, valued}
use Rattle.plan_laws.proofs.Index.{index_read, tidy_tree}
use Rattle.plan_laws.proofs.Items.{index_there, indexed, item_read}
use Rattle.plan_laws.proofs.Lookups.{IsPlaced, IsThere, answers_there, entry_known, entry_name, found_placed, next_at}
use Rattle.plan_laws.proofs.Restricted.{value_same}

-- ---- Places among places.

among_left : (xs ys : List Place) (p : Place) → is_among xs p ≡ true → is_among (xs ++ ys) p ≡ true
among_left xs ys p e = among_front xs ys p e

among_right : (xs ys : List Place) (p : Place) → is_among ys p ≡ true → is_among (xs ++ ys) p ≡ true
among_right [] ys p e = e
among_right (x ∷ xs) ys p e = by (same (place_name p) (place_name x)) (among_right xs ys p e)
  where
    by : (b : Bool) → is_among (xs ++ ys) p ≡ true → (b || is_among (xs ++ ys) p) ≡ true
    by true h = refl
    by false h = h

known_more : (es : List Entry) (e : Entry) → places_known (es ++ e ∷ []) ≡ places_known es ++ e.0 ∷ []
known_more es e = map-append (λ (e : Entry). e.0) es (e ∷ [])

all_push : {X : Type 0} (P : X → Type 0) (xs : List X) (x : X) → AllByRecursion P xs → P x → AllByRecursion P (xs ++ x ∷ [])
all_push P [] x h k = (k, tt)
all_push P (y ∷ xs) x h k = (h.0, all_push P xs x h.1 k)

all_join : {X : Type 0} (P : X → Type 0) (xs ys : List X) → AllByRecursion P xs → AllByRecursion P ys → AllByRecursion P (xs ++ ys)
all_join P [] ys h k = k
all_join P (x ∷ xs) ys h k = (h.0, all_join P xs ys h.1 k)

-- what passes a filter is in it
filtered : (test : Place → Bool) (ps : List Place) → AllByRecursion (λ p. test p ≡ true) (filter test ps)
filtered test [] = tt
filtered test (p ∷ ps) = by (test p) refl (filtered test ps)
  where
    by : (b : Bool) → test p ≡ b → AllByRecursion (λ p. test p ≡ true) (filter test ps) → AllByRecursion (λ p. test p ≡ true) (if b then p ∷ filter test ps else filter test ps)
    by true is rest = (is, rest)
    by false is rest = rest

in_filter : (test : Place → Bool) (ps : List Place) (q : Place) → is_among ps q ≡ true → test q ≡ true → is_among (filter test ps) q ≡ true
in_filter test [] q e pass = absurd (cc)
in_filter test (p ∷ ps) q e pass = by (same (place_name q) (place_name p)) refl (test p) refl e (λ m. in_filter test ps q m pass)
  where
    by : (b : Bool) → same (place_name q) (place_name p) ≡ b → (t : Bool) → test p ≡ t → (b || is_among ps q) ≡ true → (is_among ps q ≡ true → is_among (filter test ps) q ≡ true) → is_among (if t then p ∷ filter test ps else filter test ps) q ≡ true
    by true is true t e rest = ap (λ b. b || is_among (filter test ps) q) is
    by true is false t e rest = absurd (let at : q ≡ p = ap (λ (n : Name). record { «module» = n.0; name = n.1 }) (same_is (place_name q) (place_name p) is) in let bad : true ≡ false = sym pass ∙ ap test at ∙ t in cc)
    by false is true t e rest = ap (λ b. b || is_among (filter test ps) q) is ∙ rest e
    by false is false t e rest = rest e

-- the items that answers lead to are among those found
in_found : (fs : List Found) → AllByRecursion (λ (b : Found). (q : Place) → b ≡ f.Item q → is_among (places_found fs) q ≡ true) fs
in_found fs = go fs (λ q e. e)
  where
    go : (gs : List Found) → ((q : Place) → is_among (places_found gs) q ≡ true → is_among (places_found fs) q ≡ true) → AllByRecursion (λ (b : Found). (q : Place) → b ≡ f.Item q → is_among (places_found fs) q ≡ true) gs
    go [] h = tt
    go (f.Local ∷ gs) h = (λ q e. absurd (cc), go gs h)
    go (f.Item p ∷ gs) h = (
      λ q e. (let is : p ≡ q = cc in h q (ap (λ p. same (place_name q) (place_name p) || is_among (places_found gs) q) is ∙ ap (λ b. b || is_among (places_found gs) q) (same_self (place_name q)))),
      go gs (λ q e. h q (among_right (p ∷ []) (places_found gs) q e)),
    )
    go (f.Private ∷ gs) h = (λ q e. absurd (cc), go gs h)
    go (f.Absent ∷ gs) h = (λ q e. absurd (cc), go gs h)

-- ---- Entries that are those of all constants.

module _ (all : List Entry) where
  abbrev IsRight : Entry → Type 0
  IsRight e = entry_at (entry_name e) all ≡ Some e

  right_entry : (es : List Entry) → AllByRecursion IsRight es → (q : Name) (e : Entry) → entry_at q es ≡ Some e → entry_at q all ≡ Some e
  right_entry [] h q e is = absurd (cc)
  right_entry (x ∷ es) h q e is = by (same q (entry_name x)) refl (sym (next_at entry_name q x es) ∙ is) (right_entry es h.1 q e)
    where
      by : (b : Bool) → same q (entry_name x) ≡ b → (if b then Some x else entry_at q es) ≡ Some e → (entry_at q es ≡ Some e → entry_at q all ≡ Some e) → entry_at q all ≡ Some e
      by true same is rest = ap (λ n. entry_at n all) (same_is q (entry_name x) same) ∙ h.0 ∙ is
      by false same is rest = rest is

  among_entry : (es : List Entry) (q : Place) → is_among (places_known es) q ≡ true → (e : Entry) × (entry_at (place_name q) es ≡ Some e)
  among_entry [] q e = absurd (cc)
  among_entry (x ∷ es) q e = (let r = by (same (place_name q) (entry_name x)) e (among_entry es q) in (r.0, next_at entry_name (place_name q) x es ∙ r.1))
    where
      by : (b : Bool) → (b || is_among (places_known es) q) ≡ true → (is_among (places_known es) q ≡ true → (e : Entry) × (entry_at (place_name q) es ≡ Some e)) → (e : Entry) × ((if b then Some x else entry_at (place_name q) es) ≡ Some e)
      by true e rest = (x, refl)
      by false e rest = rest e

  -- those of all, or none
  either_agrees : (es : List Entry) → AllByRecursion IsRight es → (q : Place) → (entry_at (place_name q) all ≡ None) ⊎ (is_among (places_known es) q ≡ true) → entry_at (place_name q) es ≡ entry_at (place_name q) all
  either_agrees es right q (inl none) = by (entry_at (place_name q) es) refl
    where
      by : (o : Option Entry) → entry_at (place_name q) es ≡ o → o ≡ entry_at (place_name q) all
      by None is = sym none
      by (Some e) is = absurd (let bad : Some e ≡ None = sym (right_entry es right (place_name q) e is) ∙ none in cc)
  either_agrees es right q (inr known) = (let e = among_entry es q known in e.1 ∙ sym (right_entry es right (place_name q) e.0 e.1))

  -- ---- Their numbers differ, so they aren't more than all.

  number_of : Entry → ℕ
  number_of e = unwrap_or (place_from (entry_name e) 0 (names all)) 0

  numbered : (e : Entry) → IsRight e → slice_get all (number_of e) ≡ Some e
  unfolding number_of
  numbered e right = by (place_from (entry_name e) 0 (names all)) right
    where
      by : (o : Option ℕ) → option_and_then (slice_get all) o ≡ Some e → slice_get all (unwrap_or o 0) ≡ Some e
      by None h = absurd (cc)
      by (Some n) h = h

  numbers_apart : (es : List Entry) (e : Entry) → AllByRecursion IsRight es → IsRight e → is_among (places_known es) e.0 ≡ false → list_any (nat_eq (number_of e)) (map number_of es) ≡ false
  numbers_apart [] e h right new = refl
  numbers_apart (x ∷ es) e rights right new = by (nat_eq (number_of e) (number_of x)) refl (same (place_name e.0) (entry_name x)) refl new (numbers_apart es e rights.1 right)
    where
      by : (t : Bool) → nat_eq (number_of e) (number_of x) ≡ t → (b : Bool) → same (place_name e.0) (entry_name x) ≡ b → (b || is_among (places_known es) e.0) ≡ false
          → (is_among (places_known es) e.0 ≡ false → list_any (nat_eq (number_of e)) (map number_of es) ≡ false) → (t || list_any (nat_eq (number_of e)) (map number_of es)) ≡ false
      by t is true apart h rest = absurd (cc)
      by false is false apart h rest = rest h
      by true is false apart h rest =
          absurd (let at : number_of e ≡ number_of x = (Decides-eqb (number_of e) (number_of x)).0 is in
          let both : Some e ≡ Some x = sym (numbered e right) ∙ ap (slice_get all) at ∙ numbered x rights.0 in
          let it : e ≡ x = cc in
          let bad : true ≡ false = sym (same_self (entry_name e)) ∙ ap (λ y. same (entry_name e) (entry_name y)) it ∙ apart in cc)

  few : (es : List Entry) → AllByRecursion IsRight es → IsDistinct nat_eq (map number_of es) → length es ≤ length all
  few es right apart =
      let below = below_all es right in
      let long : length (map number_of es) ≡ length es = length-map es number_of in
      omega (arith, long, length-le_from_distinct_below (map number_of es) (length all) apart below)
    where
      below_all : (es : List Entry) → AllByRecursion IsRight es → (n : ℕ) → list_any (nat_eq n) (map number_of es) ≡ true → n < length all
      below_all [] h n e = absurd (cc)
      below_all (x ∷ es) h n e = by (nat_eq n (number_of x)) refl e (below_all es h.1 n)
        where
          by : (b : Bool) → nat_eq n (number_of x) ≡ b → (b || list_any (nat_eq n) (map number_of es)) ≡ true → (list_any (nat_eq n) (map number_of es) ≡ true → n < length all) → n < length all
          by true is e rest = (let at : n ≡ number_of x = (Decides-eqb n (number_of x)).0 is in subst (λ m. m < length all) (sym at) (slice_get_within all (number_of x) x (numbered x h.0)))
          by false is e rest = rest e

-- ---- The first that isn't known.

-- what is said of the first of these places whose constant isn't known
abbrev IsFirst : (Place → Type 0) → List Entry → List Place → Option (Place × List Place) → Type 0
IsFirst P es left None = (q : Place) → is_among left q ≡ true → is_among (places_known es) q ≡ true
IsFirst P es left (Some p) =
    (is_among (places_known es) p.0 ≡ false) × P p.0 × AllByRecursion P p.1
    × ((q : Place) → is_among left q ≡ true → (is_among (places_known es) q ≡ true) ⊎ ((same (place_name q) (place_name p.0) ≡ true) ⊎ (is_among p.1 q ≡ true)))

is_first : (P : Place → Type 0) (es : List Entry) (left : List Place) → AllByRecursion P left → IsFirst P es left (first_new es left)
is_first P es [] h = λ q e. absurd (cc)
is_first P es (p ∷ ps) h = by (is_among (places_known es) p) refl (is_first P es ps h.1)
  where
    same_known : (q : Place) → is_among (places_known es) p ≡ true → same (place_name q) (place_name p) ≡ true → is_among (places_known es) q ≡ true
    same_known q known is = ap (λ n. list_any (λ (o : Place). same n (place_name o)) (places_known es)) (same_is (place_name q) (place_name p) is) ∙ known

    wider : (o : Option (Place × List Place)) → is_among (places_known es) p ≡ true → IsFirst P es ps o → IsFirst P es (p ∷ ps) o
    wider None known s = λ q e. at q (same (place_name q) (place_name p)) refl e
      where
        at : (q : Place) (b : Bool) → same (place_name q) (place_name p) ≡ b → (b || is_among ps q) ≡ true → is_among (places_known es) q ≡ true
        at q true is e = same_known q known is
        at q false is e = s q e
    wider (Some x) known s = (s.0, s.1, s.2, λ q e. at q (same (place_name q) (place_name p)) refl e)
      where
        at : (q : Place) (b : Bool) → same (place_name q) (place_name p) ≡ b → (b || is_among ps q) ≡ true → (is_among (places_known es) q ≡ true) ⊎ ((same (place_name q) (place_name x.0) ≡ true) ⊎ (is_among x.1 q ≡ true))
        at q true is e = inl (same_known q known is)
        at q false is e = s.3 q e

    by : (b : Bool) → is_among (places_known es) p ≡ b → IsFirst P es ps (first_new es ps) → IsFirst P es (p ∷ ps) (if b then first_new es ps else Some (p, ps))
    by true known s = wider (first_new es ps) known s
    by false new s = (new, h.0, h.1, λ q e. at q (same (place_name q) (place_name p)) refl e)
      where
        at : (q : Place) (b : Bool) → same (place_name q) (place_name p) ≡ b → (b || is_among ps q) ≡ true → (is_among (places_known es) q ≡ true) ⊎ ((same (place_name q) (place_name p) ≡ true) ⊎ (is_among ps q ≡ true))
        at q true is e = inr (inl is)
        at q false is e = inr (inr e)

-- ---- A search that asks constants.

entries_few : (items : List IndexItem) (ps : List Placed) → length (filter_map entry_of (map (answered items) ps)) ≤ length ps
entries_few items [] = omega arith
entries_few items (p ∷ ps) = by (definition p.item.body) (entries_few items ps)
  where
    by : (d : Definition path.Path) → length (filter_map entry_of (map (answered items) ps)) ≤ length ps → length (cons_option (entry_by (answered items p) d) (filter_map entry_of (map (answered items) ps))) ≤ length (p ∷ ps)
    by (Const typ e) more = omega (arith, more)
    by (Func inlined params gives stmts tail) more = omega (arith, more)

module _ (texts : TextIs) (plain : NamesArePlain) (trees : TreesAreTidy) (parses : ParsedIs) (again : ItemsParseAgain) (setting text : List ℕ) (krate : Crate) (has : HasCrate text krate) (whole_tree : HasItems krate) where
  abbrev v : Query → List ℕ
  v = valued setting text

  abbrev index : Index
  index = tree_index krate

  abbrev all : List Entry
  all = constants_of krate

  abbrev IsConstantAt : Place → Type 0
  IsConstantAt q = is_constant_at index q ≡ true

  -- an answer's constant is known, or is still to be asked
  abbrev IsCovered : List Entry → List Place → Found → Type 0
  IsCovered es left f.Local = Unit {0}
  IsCovered es left (f.Item q) = (entry_at (place_name q) all ≡ None) ⊎ ((is_among (places_known es) q ≡ true) ⊎ (is_among left q ≡ true))
  IsCovered es left f.Private = Unit {0}
  IsCovered es left f.Absent = Unit {0}

  -- so far
  record IsUnderWay (at : Place) (n : ℕ) (es : List Entry) (left : List Place) : Type 0 where
    right : AllByRecursion (IsRight all) es
    constants : AllByRecursion IsConstantAt left
    covered : AllByRecursion (λ (e : Entry). AllByRecursion (IsCovered es left) e.2) es
    apart : IsDistinct nat_eq (map (number_of all) es)
    count : n + length es ≡ suc (length krate.items)
    first : is_among (places_known es) at ≡ true

  -- in the end
  record IsDone (at : Place) (es : List Entry) : Type 0 where
    right : AllByRecursion (IsRight all) es
    closed : AllByRecursion (λ (e : Entry). AllByRecursion (EntriesAgree es all) e.2) es
    first : is_among (places_known es) at ≡ true

  -- ---- A constant that is asked.

  record IsAsked (q : Place) : Type 0 where
    item : Item
    read : item_in (v (query 2 q)) ≡ Some item
    is : entry_at (place_name q) all ≡ Some (entry index q item)

  -- by the body of the item there
  known_by : (q : Place) (is : IsPlaced krate.items (place_name q)) (d : Definition path.Path) → definition is.placed.item.body ≡ d → is_constant_at index q ≡ is_constant d × (entry_at (place_name q) all ≡ entry_by (answered (items_of krate) is.placed) d)
  known_by q is (Const typ ex) body = (
    kind_known index q is.placed is.item ∙ ap (λ (d : Definition path.Path). kind_of (is_root_main is.placed.«module» is.placed.item.name) d == 0) body,
    entry_known krate (tidy_tree texts trees text krate has.is).items (place_name q) is ∙ ap (entry_by (answered (items_of krate) is.placed)) body,
  )
  known_by q is (Func inlined params gives stmts tail) body = (
    kind_known index q is.placed is.item ∙ ap (λ (d : Definition path.Path). kind_of (is_root_main is.placed.«module» is.placed.item.name) d == 0) body ∙ function_kind inlined (is_root_main is.placed.«module» is.placed.item.name),
    entry_known krate (tidy_tree texts trees text krate has.is).items (place_name q) is ∙ ap (entry_by (answered (items_of krate) is.placed)) body,
  )

  asked_of : (q : Place) (is : IsPlaced krate.items (place_name q)) → IsConstantAt q → IsAsked q
  asked_of q is constant = by (definition is.placed.item.body) refl
    where
      at : place_of is.placed ≡ q
      at = ap (λ n. record { «module» = n.0; name = n.1 }) is.at

      by : (d : Definition path.Path) → definition is.placed.item.body ≡ d → IsAsked q
      by (Const typ ex) body = record {
        item = is.placed.item;
        read = ap (λ r. item_in (v (query 2 r))) (sym at) ∙ item_read texts trees setting text krate has is.placed (item_of texts plain trees parses again setting text krate has whole_tree is.placed is.before is.rest is.is) parses again;
        is = (known_by q is (Const typ ex) body).1 ∙ ap (λ r. Some (entry index r is.placed.item)) at;
      }
      by (Func inlined params gives stmts tail) body = absurd (let bad : true ≡ false = sym constant ∙ (known_by q is (Func inlined params gives stmts tail) body).0 in cc)

  asked_at : (q : Place) → IsConstantAt q → IsAsked q
  asked_at q constant = by (item_at (place_name q) (items_of krate)) refl constant
    where
      by : (o : Option IndexItem) → item_at (place_name q) (items_of krate) ≡ o → option_map_or (λ (x : IndexItem). x.kind == 0) o false ≡ true → IsAsked q
      by None at h = absurd (cc)
      by (Some x) at h = asked_of q (found_placed (place_name q) krate.items x at) constant

  -- an item that isn't a constant has no entry
  no_entry : (q : Place) → (x : IndexItem) × (item_at (place_name q) (items_of krate) ≡ Some x) → is_constant_at index q ≡ false → entry_at (place_name q) all ≡ None
  no_entry q (x, at) other = by (definition is.placed.item.body) refl
    where
      is : IsPlaced krate.items (place_name q)
      is = found_placed (place_name q) krate.items x at

      by : (d : Definition path.Path) → definition is.placed.item.body ≡ d → entry_at (place_name q) all ≡ None
      by (Const typ ex) body = absurd (let bad : false ≡ true = sym other ∙ (known_by q is (Const typ ex) body).0 in cc)
      by (Func inlined params gives stmts tail) body = (known_by q is (Func inlined params gives stmts tail) body).1

  -- what its answers lead to is covered by the constants that they name
  covered_new : (es : List Entry) (more : List Place) (fs : List Found) → AllByRecursion (IsThere (items_of krate)) fs → AllByRecursion (IsCovered es (constants_in index fs ++ more)) fs
  covered_new es more fs h = go fs h (in_found fs)
    where
      one : (b : Found) → IsThere (items_of krate) b → ((q : Place) → b ≡ f.Item q → is_among (places_found fs) q ≡ true) → IsCovered es (constants_in index fs ++ more) b
      one f.Local h k = tt
      one (f.Item q) h k = by (is_constant_at index q) refl
        where
          by : (b : Bool) → is_constant_at index q ≡ b → (entry_at (place_name q) all ≡ None) ⊎ ((is_among (places_known es) q ≡ true) ⊎ (is_among (constants_in index fs ++ more) q ≡ true))
          by true is = inr (inr (among_left (constants_in index fs) more q (in_filter (is_constant_at index) (places_found fs) q (k q refl) is)))
          by false is = inl (no_entry q h is)
      one f.Private h k = tt
      one f.Absent h k = tt

      go : (gs : List Found) → AllByRecursion (IsThere (items_of krate)) gs → AllByRecursion (λ (b : Found). (q : Place) → b ≡ f.Item q → is_among (places_found fs) q ≡ true) gs → AllByRecursion (IsCovered es (constants_in index fs ++ more)) gs
      go [] h k = tt
      go (b ∷ gs) h k = (one b h.0 k.0, go gs h.1 k.1)

  -- ---- One more that is asked.

  module _ (at : Place) (n : ℕ) (es : List Entry) (left : List Place) (way : IsUnderWay at (suc n) es left) (q : Place) (rest : List Place) (next : IsFirst IsConstantAt es left (Some (q, rest))) (asked : IsAsked q) where
    abbrev it : Entry
    it = entry index q asked.item

    abbrev more : List Entry
    more = es ++ it ∷ []

    abbrev after : List Place
    after = constants_in index (answers index q asked.item) ++ rest

    known_later : (r : Place) → is_among (places_known es) r ≡ true → is_among (places_known more) r ≡ true
    known_later r e = ap (λ ps. is_among ps r) (known_more es it) ∙ among_left (places_known es) (q ∷ []) r e

    known_now : (r : Place) → same (place_name r) (place_name q) ≡ true → is_among (places_known more) r ≡ true
    known_now r e = ap (λ ps. is_among ps r) (known_more es it) ∙ among_right (places_known es) (q ∷ []) r (ap (λ b. b || false) e)

    still_covered : (b : Found) → IsCovered es left b → IsCovered more after b
    still_covered f.Local h = tt
    still_covered (f.Item r) (inl none) = inl none
    still_covered (f.Item r) (inr (inl known)) = inr (inl (known_later r known))
    still_covered (f.Item r) (inr (inr waits)) = elim (next.3 r waits) [
      | inl known ↦ inr (inl (known_later r known))
      | inr some ↦ elim some [
        | inl now ↦ inr (inl (known_now r now))
        | inr later ↦ inr (inr (among_right (constants_in index (answers index q asked.item)) rest r later))
      ]
    ]
    still_covered f.Private h = tt
    still_covered f.Absent h = tt

    went_on : IsUnderWay at n more after
    went_on = record {
      right = all_push (IsRight all) es it way.right asked.is;
      constants = all_join IsConstantAt (constants_in index (answers index q asked.item)) rest (filtered (is_constant_at index) (places_found (answers index q asked.item))) next.2;
      covered = all_push (λ (e : Entry). AllByRecursion (IsCovered more after) e.2) es it (all_weaker (λ (e : Entry) h. all_weaker still_covered e.2 h) es way.covered)
          (covered_new more rest (answers index q asked.item) (answers_there (items_of krate) q.«module» (definition asked.item.body)));
      apart = subst (IsDistinct nat_eq) (sym (map-append (number_of all) es (it ∷ []))) (IsDistinct-push nat_eq_equiv (map (number_of all) es) (number_of all it) way.apart (numbers_apart all es it way.right asked.is next.0));
      count = omega (arith, way.count, length-append es (it ∷ []));
      first = known_later at way.first;
    }

  -- ---- All that are asked.

  -- the plan goes on with constants that have all that they name
  record IsAnswered (at : Place) (n : ℕ) (es : List Entry) (left : List Place) (more : List Entry → Plan) : Type 0 where
    entries : List Entry
    done : IsDone at entries
    gives : given v (ask_constants n index es left more) ≡ given v (more entries)

  closed_by : (es : List Entry) (left : List Place) → AllByRecursion (IsRight all) es → ((q : Place) → is_among left q ≡ true → is_among (places_known es) q ≡ true) → (b : Found) → IsCovered es left b → EntriesAgree es all b
  closed_by es left right none f.Local h = tt
  closed_by es left right none (f.Item q) (inl other) = either_agrees all es right q (inl other)
  closed_by es left right none (f.Item q) (inr (inl known)) = either_agrees all es right q (inr known)
  closed_by es left right none (f.Item q) (inr (inr waits)) = either_agrees all es right q (inr (none q waits))
  closed_by es left right none f.Private h = tt
  closed_by es left right none f.Absent h = tt

  few_all : length all ≤ length krate.items
  few_all = entries_few (items_of krate) krate.items

  run : (at : Place) (n : ℕ) (es : List Entry) (left : List Place) (more : List Entry → Plan) → IsUnderWay at n es left → IsAnswered at n es left more
  run at zero es left more way = absurd (omega (arith, way.count, few all es way.right way.apart, few_all))
  run at (suc n) es left more way = by (first_new es left) refl (is_first IsConstantAt es left way.constants) (run at n)
    where
      by : (o : Option (Place × List Place)) → first_new es left ≡ o → IsFirst IsConstantAt es left o → ((es : List Entry) (left : List Place) (more : List Entry → Plan) → IsUnderWay at n es left → IsAnswered at n es left more) → IsAnswered at (suc n) es left more
      by None is none go = record {
        entries = es;
        done = record { right = way.right; closed = all_weaker (λ (e : Entry) h. all_weaker (closed_by es left way.right none) e.2 h) es way.covered; first = way.first };
        gives = ap (λ o. given v (ask_constant index (λ known rest. ask_constants n index known rest more) more es o)) is;
      }
      by (Some p) is here go =
          let asked = asked_at p.0 here.1 in
          let rest = go (es ++ entry index p.0 asked.item ∷ []) (constants_in index (answers index p.0 asked.item) ++ p.1) more (went_on at n es left way p.0 p.1 here asked) in
          record {
            entries = rest.entries;
            done = rest.done;
            gives = ap (λ o. given v (ask_constant index (λ known rest. ask_constants n index known rest more) more es o)) is
                ∙ given_ask v (query 2 p.0) item_in (λ item. ask_constants n index (es ++ entry index p.0 item ∷ []) (constants_in index (answers index p.0 item) ++ p.1) more) asked.item asked.read
                ∙ rest.gives;
          }

  -- ---- The value of a constant.

  values_are : (es : List Entry) → AreValues es (values_of es)
  unfolding values_of
  values_are es = (there ends finds_reached finds_once es).1

  constant_value : (at : Place) (es : List Entry) → IsDone at es → (values : List Value) → AreValues all values → (c : Value) → value_at all values at ≡ Some c → const_at es at ≡ c
  constant_value at es done values are c is =
      let e = among_entry all es at done.first in
      let same : entry_at (place_name at) es ≡ entry_at (place_name at) all = e.1 ∙ sym (right_entry all es done.right (place_name at) e.0 e.1) in
      ap (λ o. option_map_or (λ c. c) o k.Bad) (value_same es all (values_of es) values (values_are es) are done.closed at same ∙ is)

  module _ (p : Placed) (it : HasItem krate p) where
    placed : IsPlaced krate.items (place_name (place_of p))
    placed = record {
      placed = p;
      before = it.before;
      rest = it.rest;
      is = it.is;
      at = refl;
      item = ap (λ ps. item_at (place_in p) (indexed ps)) it.is ∙ index_there it.before it.rest p (subst (λ ps. Distinct (map place_in ps)) it.is (tidy_tree texts trees text krate has.is).items);
    }

    abbrev own : Entry
    own = entry index (place_of p) p.item

    pub entry_own : is_constant (definition p.item.body) ≡ true → entry_at (place_name (place_of p)) all ≡ Some own
    unfolding placed
    entry_own constant = by (definition p.item.body) refl constant
      where
        by : (d : Definition path.Path) → definition p.item.body ≡ d → is_constant d ≡ true → entry_at (place_name (place_of p)) all ≡ Some own
        by (Const typ ex) body h = (known_by (place_of p) placed (Const typ ex) body).1
        by (Func inlined params gives stmts tail) body h = absurd (cc)

    begun : is_constant (definition p.item.body) ≡ true → IsUnderWay (place_of p) (length index.items) (own ∷ []) (constants_in index (answers index (place_of p) p.item))
    unfolding IsDistinct
    begun constant = record {
      right = (entry_own constant, tt);
      constants = filtered (is_constant_at index) (places_found (answers index (place_of p) p.item));
      covered = (subst (λ left. AllByRecursion (IsCovered (own ∷ []) left) own.2) (append-nil (constants_in index (answers index (place_of p) p.item))) (covered_new (own ∷ []) [] own.2 (answers_there (items_of krate) p.«module» (definition p.item.body))), tt);
      apart = (tt, tt);
      count = omega (arith, length-map (map plain_placed krate.items) (index_item {A = path.Path}), length-map krate.items plain_placed);
      first = among_last [] (place_of p);
    }

    planned : plan_of setting (query 4 (place_of p)) ≡ const_plan (query 4 (place_of p))
    unfolding plan_of
    planned = refl

    pub constant_given : (values : List Value) → AreValues (constants_of krate) values → (c : Value) → is_constant (definition p.item.body) ≡ true → value_at (constants_of krate) values (place_of p) ≡ Some c → valued setting text (query 4 (place_of p)) ≡ const_form c
    constant_given values are c constant is =
        let at = place_of p in
        let more : List Entry → Plan = λ es. Give (const_form (const_at es at)) in
        let all_asked = run at (length index.items) (own ∷ []) (constants_in index (answers index at p.item)) more (begun constant) in
        by_plan setting text (query 4 at) (omega arith) ∙ ap (given v) planned
        ∙ given_ask v (query 2 at) item_in (λ item. if is_constant (definition item.body) then ask (whole 1) index_in (const_from at item) else Give []) p.item (item_read texts trees setting text krate has p it parses again)
        ∙ ap (λ b. given v (if b then ask (whole 1) index_in (const_from at p.item) else Give [])) constant
        ∙ given_ask v (whole 1) index_in (const_from at p.item) index (index_read plain texts trees setting text krate has)
        ∙ all_asked.gives
        ∙ ap const_form (constant_value at all_asked.entries all_asked.done values are c is)

-- it is read back
pub constant_back : (c : Value) → FitsConst c → const_in (const_form c) ≡ Some c
unfolding const_in
constant_back c fits = read_back FitsConst const_form c (answers_are_answered.constant (const_form c)).0 fits (answers_are_answered.constant (const_form c)).1
