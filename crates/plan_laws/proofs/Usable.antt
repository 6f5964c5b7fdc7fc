-- Where no line of a tree is an error's, each constant has a value.
use Rattle.std.proofs.Common.{◌≡◌, inl, inr, ℕ, ℤ, zero, suc, ◌<◌, ◌≤◌, ◌||◌, Bool, true, false, List, [], ◌∷◌, ◌++◌, length, map, refl, sym, ap, ◌∙◌, subst, arith, if◌then◌else◌}
use Rattle.std.specs.Prelude.{Option, Some, None, Ok, Err, is_none, slice_get, option_and_then}
use Rattle.std.specs.List.{AllByRecursion, Contains, cons_option, filter_map, list_any}
use Rattle.std.specs.Option.{option_map, option_map_or}
use Rattle.std.proofs.lemmas.Bool.{or_parts}
use Rattle.std.proofs.lemmas.List.{length-map}
use Rattle.std.proofs.lemmas.Option.{none-some, same_Some, slice_get_cases, slice_get_within}
use Rattle.rs_tree.specs.declared.answers.Const.{Const as Value}
use Rattle.rs_tree.specs.declared.answers.Const.TheVariants as k
use Rattle.rs_tree.specs.declared.answers.Diag.{Diag}
use Rattle.rs_tree.specs.declared.answers.Found.{Found}
use Rattle.rs_tree.specs.declared.answers.Found.TheVariants as f
use Rattle.rs_tree.specs.declared.index.IndexItem.{IndexItem}
use Rattle.rs_tree.specs.declared.index.Sig.{Sig}
use Rattle.rs_tree.specs.declared.place.At.{At}
use Rattle.rs_tree.specs.declared.place.Place.{Place}
use Rattle.rs_tree.specs.declared.tree.Crate.{Crate}
use Rattle.rs_tree.specs.declared.tree.Path as path
use Rattle.rs_tree.specs.declared.tree.Placed.{Placed}
use Rattle.rs_tree.specs.declared.tree.Typ.{Typ}
use Rattle.rs_tree.specs.declared.tree.Typ.TheVariants as t
use Rattle.rs_tree.specs.Plain.{at_of, Definition, Exp, Const, Func, definition, plain_placed}
use Rattle.rs_tree.specs.Leaves.{answered as answered_leaves, filled, leaves}
use Rattle.rs_tree.specs.LeafLaws.{of_expression}
use Rattle.rs_grammar.specs.Tidy.{Distinct, IsTidyCrate, place_in}
use Rattle.rs_lookup.specs.Places.{Name, place_from, place_name}
use Rattle.rs_names.specs.Indexed.{index_item, is_root_main, kind_of}
use Rattle.rs_names.specs.Resolved.{answer_by, answers_of, is_visible, item_at, leads_to, module_answer, path_answer}
use Rattle.rs_diag.specs.Faults.{path_text}
use Rattle.rs_diag.specs.Faults.Wrong.{Function}
use Rattle.rs_value.specs.Value.{Outcome, value}
use Rattle.rs_value.specs.declared.trap.Trap.TheVariants.{DivZero, NoValue, Overflow}
use Rattle.rs_types.specs.Types.{Leaf, function_as_value, is_typ, item_typ, need, path_wrongs, same_typ, sig_at, type_of, wrong, wrongs}
use Rattle.rs_check.specs.Items.{body_wrongs, value_wrongs}
use Rattle.rs_const.specs.Constants.{AreValues, Entry, IsInCycle, const_of, const_wrongs, given_by, is_some_wrong, named, named_by, names, number, worth, worth_by}
use Rattle.rs_const.specs.Constants.{sig_of as const_sig, sigs_of as const_sigs, typ_of as const_typ, value_at as value_to}
use Rattle.rs_queries.specs.Known.{answered, constants_of, entry_by, entry_of, gives_of, items_of, params_of, place_of, sig_of, sigs_of, value_at}
use Rattle.link_laws.proofs.Calls.{Warns, is_fault, left, right}
use Rattle.link_laws.proofs.Errors.{item_warns}
use Rattle.plan_laws.specs.Roots.{has_wrong}
use Rattle.plan_laws.specs.Whole.{IsUsable}
use Rattle.plan_laws.proofs.Agree.{type_same, with_sigs, wrongs_same}
use Rattle.plan_laws.proofs.Chains.{Goes, none_so}
use Rattle.plan_laws.proofs.Fine.{HasValue, IsFine, IsSound, IsValueTyp, Zipped, c, empty, fine, needed, never_needed}
use Rattle.plan_laws.proofs.Forms.{function_kind, numbered}
use Rattle.plan_laws.proofs.Lookups.{IsPlaced, IsThere, answers_there, entry_known, entry_name, first_at, found_placed, sig_there}
use Rattle.plan_laws.proofs.Places.{neither}
use Rattle.plan_laws.proofs.Restricted.{got, named_so, sig_known}
use Rattle.plan_laws.proofs.Steady.{settled}

-- ---- Values and types.

same_value : (x y : Typ) → same_typ x y ≡ true → IsValueTyp y → IsValueTyp x
same_value t.Unit t.Unit e h = h
same_value t.Unit t.Int e h = absurd (cc)
same_value t.Unit t.Bool e h = absurd (cc)
same_value t.Int y e h = tt
same_value t.Bool y e h = tt

typed : (x : Typ) (o : Option Typ) (y : Typ) → o ≡ Some y → is_typ x o ≡ true → IsValueTyp y → IsValueTyp x
typed x None y is e h = absurd (cc)
typed x (Some z) y is e h = (let same : y ≡ z = sym (same_Some z y is) in same_value x z e (subst IsValueTyp same h))

-- a number is of a type of values
number_of_type : (typ : Typ) (o : Outcome) (x : ℤ) → number (const_of typ o) ≡ Some x → IsValueTyp typ
number_of_type t.Unit (Ok v) x e = absurd (cc)
number_of_type t.Unit (Err Overflow) x e = absurd (cc)
number_of_type t.Unit (Err DivZero) x e = absurd (cc)
number_of_type t.Unit (Err NoValue) x e = absurd (cc)
number_of_type t.Int o x e = tt
number_of_type t.Bool o x e = tt

unless_bad : (b : Bool) (typ : Typ) (o : Outcome) (x : ℤ) → number (if b then k.Bad else const_of typ o) ≡ Some x → IsValueTyp typ
unless_bad true typ o x e = absurd (cc)
unless_bad false typ o x e = number_of_type typ o x e

-- a fault of numbers is told, and no other keeps a value away
faulty : (typ : Typ) (o : Outcome) → IsValueTyp typ → HasValue o → number (const_of typ o) ≡ None → (at : At) (name : List ℕ) → Warns (value_wrongs at name (Some (const_of typ o))) → ⊥
faulty t.Unit (Ok v) kind has none at name w = kind
faulty t.Int (Ok v) kind has none at name w = absurd (cc)
faulty t.Bool (Ok v) kind has none at name w = absurd (cc)
faulty typ (Err Overflow) kind has none at name w = absurd (let bad : true ≡ false = w.none in cc)
faulty typ (Err DivZero) kind has none at name w = absurd (let bad : true ≡ false = w.none in cc)
faulty typ (Err NoValue) kind has none at name w = has refl

-- what isn't told to be wrong is a number or a truth value, or Bad
told_value : (v : Value) (at : At) (name : List ℕ) → Warns (value_wrongs at name (Some v)) → (v ≡ k.Bad → ⊥) → IsUsable v
told_value (k.Int v) at name w h = tt
told_value (k.Bool b) at name w h = tt
told_value k.Cycle at name w h = absurd (let bad : true ≡ false = w.none in cc)
told_value k.Overflow at name w h = absurd (let bad : true ≡ false = w.none in cc)
told_value k.DivZero at name w h = absurd (let bad : true ≡ false = w.none in cc)
told_value k.Bad at name w h = h refl

no_cycle : (v : Value) (at : At) (name : List ℕ) → Warns (value_wrongs at name (Some v)) → v ≡ k.Cycle → ⊥
no_cycle v at name w e = (let told : Warns (value_wrongs at name (Some k.Cycle)) = subst (λ x. Warns (value_wrongs at name (Some x))) e w in let bad : true ≡ false = told.none in cc)

none_wrong : (ds : List Diag) → ds ≡ [] → is_some_wrong ds ≡ false
none_wrong ds e = ap is_some_wrong e

-- ---- Lists of answers.

-- no local
abbrev NotLocal : Found → Type 0
NotLocal f.Local = ⊥
NotLocal (f.Item q) = Unit {0}
NotLocal f.Private = Unit {0}
NotLocal f.Absent = Unit {0}

leads_elsewhere : (m : List ℕ) (q : Name) (o : Option IndexItem) → NotLocal (leads_to m q o)
leads_elsewhere m q None = tt
leads_elsewhere m q (Some x) = by (is_visible m q.0 x)
  where
    by : (b : Bool) → NotLocal (if b then f.Item (record { «module» = q.0; name = q.1 }) else f.Private)
    by true = tt
    by false = tt

module_elsewhere : (items : List IndexItem) (m : List ℕ) (q : Name) → NotLocal (module_answer items m q)
module_elsewhere items [] q = leads_elsewhere [] q (item_at q items)
module_elsewhere items (b ∷ m) q = tt

elsewhere : (items : List IndexItem) (m : List ℕ) (rooted : Bool) (of : Option (List ℕ)) (name : List ℕ) → NotLocal (answer_by items m [] rooted of name)
elsewhere items m true None name = leads_elsewhere m ([], name) (item_at ([], name) items)
elsewhere items m true (Some of) name = leads_elsewhere m (of, name) (item_at (of, name) items)
elsewhere items m false (Some of) name = module_elsewhere items m (of, name)
elsewhere items m false None name = leads_elsewhere m (m, name) (item_at (m, name) items)

all_elsewhere : (items : List IndexItem) (m : List ℕ) (ps : List path.Path) → AllByRecursion NotLocal (map (path_answer items m []) ps)
all_elsewhere items m [] = tt
all_elsewhere items m (p ∷ ps) = (elsewhere items m p.rooted p.«module» p.name, all_elsewhere items m ps)

-- where each path has a number, none is missing
none_missing : (gs : List (Option ℤ)) (ps : List path.Path) → length gs ≤ length ps → AllByRecursion (λ (l : path.Path × Option ℤ). is_none l.1 ≡ false) (answered_leaves None gs ps) → list_any is_none gs ≡ false
none_missing [] ps l h = refl
none_missing (g ∷ gs) [] l h = absurd (omega (arith, l))
none_missing (g ∷ gs) (p ∷ ps) l h = neither (is_none g) (list_any is_none gs) h.0 (none_missing gs ps (omega (arith, l)) h.1)

some_lacks : (lacks : ℕ → Bool) (ns : List ℕ) → list_any lacks ns ≡ true → (n : ℕ) × Contains ns n × (lacks n ≡ true)
some_lacks lacks [] e = absurd (cc)
some_lacks lacks (n ∷ ns) e = by (lacks n) refl e (some_lacks lacks ns)
  where
    by : (b : Bool) → lacks n ≡ b → (b || list_any lacks ns) ≡ true → (list_any lacks ns ≡ true → (n : ℕ) × Contains ns n × (lacks n ≡ true)) → (m : ℕ) × Contains (n ∷ ns) m × (lacks m ≡ true)
    by true is h rest = (n, (0, omega arith, refl), is)
    by false is h rest = (let r = rest h in (r.0, (suc r.1.0, omega (arith, r.1.1), r.1.2), r.2))

is_none_is : (o : Option ℤ) → is_none o ≡ true → o ≡ None
is_none_is None e = refl
is_none_is (Some x) e = absurd (cc)

not_none : (o : Option ℤ) → is_none o ≡ false → (x : ℤ) × (o ≡ Some x)
not_none None e = absurd (cc)
not_none (Some x) e = (x, refl)

at_within : {X : Type 0} (xs : List X) (i : ℕ) → i < length xs → (x : X) × (slice_get xs i ≡ Some x)
at_within xs i l = elim (slice_get_cases xs i).1 [ inl h ↦ (h.0, h.2) | inr h ↦ absurd (omega (arith, h.0, l)) ]

-- the item of an entry
entry_from : (items : List IndexItem) (ps : List Placed) (j : ℕ) (e : Entry) → slice_get (filter_map entry_of (map (answered items) ps)) j ≡ Some e → (p : Placed) × (i : ℕ) × (slice_get ps i ≡ Some p) × (entry_of (answered items p) ≡ Some e)
entry_from items [] j e h = absurd (none-some e h)
entry_from items (p ∷ ps) j e h = by (entry_of (answered items p)) refl j h (λ n at. entry_from items ps n e at)
  where
    further : ((r : Placed) × (i : ℕ) × (slice_get ps i ≡ Some r) × (entry_of (answered items r) ≡ Some e)) → (r : Placed) × (i : ℕ) × (slice_get (p ∷ ps) i ≡ Some r) × (entry_of (answered items r) ≡ Some e)
    further r = (r.0, suc r.1, r.2, r.3)

    by : (o : Option Entry) → entry_of (answered items p) ≡ o → (n : ℕ) → slice_get (cons_option o (filter_map entry_of (map (answered items) ps))) n ≡ Some e
        → ((n : ℕ) → slice_get (filter_map entry_of (map (answered items) ps)) n ≡ Some e → (r : Placed) × (i : ℕ) × (slice_get ps i ≡ Some r) × (entry_of (answered items r) ≡ Some e))
        → (r : Placed) × (i : ℕ) × (slice_get (p ∷ ps) i ≡ Some r) × (entry_of (answered items r) ≡ Some e)
    by None is n at rest = further (rest n at)
    by (Some x) is zero at rest = (p, zero, refl, is ∙ at)
    by (Some x) is (suc n) at rest = further (rest n at)

-- ---- A tree of which no line is an error's.

module _ (krate : Crate) (tidy : IsTidyCrate krate) (values : List Value) (are : AreValues (constants_of krate) values) (clean : has_wrong krate values ≡ false) where
  abbrev items : List IndexItem
  items = items_of krate

  abbrev known : List Entry
  known = constants_of krate

  abbrev sigs : List (Place × Sig)
  sigs = sigs_of krate

  -- the value of a constant by as many steps as there are constants, and its number
  abbrev whole : ℕ → Value
  whole j = value_to known (length known) j

  abbrev numbers : ℕ → Option ℤ
  numbers j = number (whole j)

  abbrev lacks : ℕ → Bool
  lacks j = is_none (numbers j)

  step : (j : ℕ) → whole j ≡ option_map_or (worth_by numbers known) (slice_get known j) k.Bad
  step j = sym (settled known (suc (length known)) (omega arith) j)

  -- the constant at a position, with its item
  record Entered (j : ℕ) : Type 0 where
    placed : Placed
    item : ℕ
    there : slice_get krate.items item ≡ Some placed
    typ : Typ
    exp : Exp path.Path
    body : definition placed.item.body ≡ Const typ exp
    entry : slice_get known j ≡ Some (place_of placed, placed.item, (answered items placed).1)
    first : place_from (place_in placed) 0 (names known) ≡ Some j
    value : Value
    valued : slice_get values j ≡ Some value

  abbrev First : ℕ → Type 0
  First j = (q : Name) × (place_from q 0 (names known) ≡ Some j)

  enter : (j : ℕ) (q : Name) → place_from q 0 (names known) ≡ Some j → (e : Entry) → slice_get known j ≡ Some e → (p : Placed) (i : ℕ) → slice_get krate.items i ≡ Some p
      → (d : Definition path.Path) → definition p.item.body ≡ d → entry_by (answered items p) d ≡ Some e → Entered j
  enter j q at e here p i there (Const typ exp) is h =
      let same : (place_of p, p.item, (answered items p).1) ≡ e = same_Some (place_of p, p.item, (answered items p).1) e h in
      let name : place_in p ≡ q = ap entry_name same ∙ named_so q known e (ap (option_and_then (slice_get known)) at ∙ here) in
      let inside : j < length values = (let l = slice_get_within known j e here in omega (arith, l, are.all)) in
      let its = at_within values j inside in
      record { placed = p; item = i; there = there; typ = typ; exp = exp; body = is; entry = here ∙ ap Some (sym same); first = ap (λ n. place_from n 0 (names known)) name ∙ at; value = its.0; valued = its.1 }
  enter j q at e here p i there (Func inlined params gives stmts tail) is h = absurd (none-some e h)

  entered : (j : ℕ) → First j → Entered j
  entered j (q, at) =
      let g = got known q j at in
      let its = entry_from items krate.items j g.0 g.1 in
      enter j q at g.0 g.1 its.0 its.1 its.2 (definition its.0.item.body) refl its.3

  -- ---- Where its paths lead.

  sig_placed : (q : Place) (is : IsPlaced krate.items (place_name q)) → sig_at (place_name q) sigs ≡ Some (sig_of items is.placed).1
  sig_placed q is =
      ap (λ n. sig_at n sigs) (sym is.at) ∙ ap (λ ps. sig_at (place_in is.placed) (map (sig_of items) ps)) is.is
      ∙ sig_there items is.before is.rest is.placed (subst (λ ps. Distinct (map place_in ps)) is.is tidy.items)

  sig_body : (q : Place) (is : IsPlaced krate.items (place_name q)) (d : Definition path.Path) → definition is.placed.item.body ≡ d
      → sig_at (place_name q) sigs ≡ Some (record { kind = kind_of (is_root_main is.placed.«module» is.placed.item.name) d; public = is.placed.item.public; params = params_of d; gives = gives_of d })
  sig_body q is d body =
      let p = is.placed in
      let at : item_at (place_name (place_of p)) items ≡ Some (index_item (plain_placed p)) = ap (λ n. item_at n items) is.at ∙ is.item in
      sig_placed q is
      ∙ ap (λ o. Some (record { kind = option_map_or (λ (x : IndexItem). x.kind) o 0; public = p.item.public; params = params_of (definition p.item.body); gives = gives_of (definition p.item.body) })) at
      ∙ ap (λ (d : Definition path.Path). Some (record { kind = kind_of (is_root_main p.«module» p.item.name) d; public = p.item.public; params = params_of d; gives = gives_of d })) body

  abbrev Numbered : Found → Type 0
  Numbered b = (j : ℕ) → named (names known) b ≡ Some j → (x : ℤ) × (numbers j ≡ Some x)

  value_kind : (j : ℕ) (e : Entry) (typ : Typ) (ex : Exp path.Path) (x : ℤ) → slice_get known j ≡ Some e → definition e.1.body ≡ Const typ ex → numbers j ≡ Some x → IsValueTyp typ
  value_kind j e typ ex x at body is =
      let gs = given_by numbers (names known) e.2 in
      unless_bad (is_some_wrong (const_wrongs (const_sigs known) typ ex e.2) || list_any is_none gs) typ (value (filled None gs ex)) x
      (sym (ap number (step j ∙ ap (λ o. option_map_or (worth_by numbers known) o k.Bad) at ∙ ap (λ d. worth (const_sigs known) d e.2 gs) body)) ∙ is)

  item_sound : (q : Place) → Numbered (f.Item q) → (p : path.Path) → Warns (path_wrongs (c sigs (const_sigs known)) p (f.Item q)) → (is : IsPlaced krate.items (place_name q)) (d : Definition path.Path) → definition is.placed.item.body ≡ d
      → IsFine sigs (const_sigs known) p (f.Item q) (option_and_then numbers (place_from (place_name q) 0 (names known)))
  item_sound q num p w is (Const typ ex) body =
      let e : Entry = (place_of is.placed, is.placed.item, (answered items is.placed).1) in
      let entry : first_at entry_name (place_name q) known ≡ Some e = entry_known krate tidy.items (place_name q) is ∙ ap (entry_by (answered items is.placed)) body in
      let n = numbered known values are.all (place_name q) e entry in
      let x = num n.number n.at in
      let sig = sig_body q is (Const typ ex) body in
      let own : sig_at (place_name q) (const_sigs known) ≡ Some (record { kind = 0; public = is.placed.item.public; params = []; gives = typ }) =
      sig_known (place_name q) known ∙ ap (option_map (λ (e : Entry). (const_sig e).1)) entry ∙ ap (λ d. Some (record { kind = 0; public = is.placed.item.public; params = []; gives = const_typ d })) body in
      record {
        none = ap (function_as_value p) sig;
        number = x.0;
        some = ap (option_and_then numbers) n.at ∙ x.1;
        typ = typ;
        is = ap item_typ sig;
        kind = value_kind n.number e typ ex x.0 n.entry body x.1;
        agrees = sig ∙ sym own;
      }
  item_sound q num p w is (Func inlined params gives stmts tail) body =
      let sig = sig_body q is (Func inlined params gives stmts tail) body in
      let told : list_any is_fault (function_as_value p (sig_at (place_name q) sigs)) ≡ true =
      ap (λ o. list_any is_fault (function_as_value p o)) sig
      ∙ ap (λ b. list_any is_fault (if b then [] else wrong p.at (Function (path_text p)))) (function_kind inlined (is_root_main is.placed.«module» is.placed.item.name)) in
      absurd (let bad : true ≡ false = sym told ∙ w.none in cc)

  leaf_sound : (b : Found) → NotLocal b → IsThere items b → Numbered b → IsSound sigs (const_sigs known) b (option_and_then numbers (named (names known) b))
  leaf_sound f.Local away there num p w = absurd away
  leaf_sound f.Private away there num p w = absurd (let bad : true ≡ false = w.none in cc)
  leaf_sound f.Absent away there num p w = absurd (let bad : true ≡ false = w.none in cc)
  leaf_sound (f.Item q) away there num p w = (let is = found_placed (place_name q) krate.items there.0 there.1 in item_sound q num p w is (definition is.placed.item.body) refl)

  all_sound : (fs : List Found) → AllByRecursion NotLocal fs → AllByRecursion (IsThere items) fs → list_any lacks (named_by (names known) fs) ≡ false → Zipped sigs (const_sigs known) fs (given_by numbers (names known) fs)
  all_sound [] away there none = tt
  all_sound (b ∷ fs) away there none = by (named (names known) b) refl none (all_sound fs away.1 there.1)
    where
      by : (o : Option ℕ) → named (names known) b ≡ o → list_any lacks (cons_option o (named_by (names known) fs)) ≡ false
          → (list_any lacks (named_by (names known) fs) ≡ false → Zipped sigs (const_sigs known) fs (given_by numbers (names known) fs)) → Zipped sigs (const_sigs known) (b ∷ fs) (given_by numbers (names known) (b ∷ fs))
      by None is h rest = (leaf_sound b away.0 there.0 (λ j e. absurd (none-some j (sym is ∙ e))), rest h)
      by (Some i) is h rest =
          let parts = or_parts (lacks i) (list_any lacks (named_by (names known) fs)) h in
          (leaf_sound b away.0 there.0 (λ j e. (let same : i ≡ j = same_Some i j (sym is ∙ e) in subst (λ n. (x : ℤ) × (numbers n ≡ Some x)) same (not_none (numbers i) parts.0))), rest parts.1)

  named_first : (fs : List Found) (j : ℕ) → Contains (named_by (names known) fs) j → First j
  named_first [] j has = absurd (omega (arith, has.1))
  named_first (b ∷ fs) j has = by b has (named_first fs j)
    where
      of_place : (q : Place) (o : Option ℕ) → place_from (place_name q) 0 (names known) ≡ o → Contains (cons_option o (named_by (names known) fs)) j → (Contains (named_by (names known) fs) j → First j) → First j
      of_place q None is h rest = rest h
      of_place q (Some i) is (zero, l, e) rest = (place_name q, is ∙ ap Some e)
      of_place q (Some i) is (suc n, l, e) rest = rest (n, omega (arith, l), e)

      by : (b : Found) → Contains (cons_option (named (names known) b) (named_by (names known) fs)) j → (Contains (named_by (names known) fs) j → First j) → First j
      by f.Local h rest = rest h
      by (f.Item q) h rest = of_place q (place_from (place_name q) 0 (names known)) refl h rest
      by f.Private h rest = rest h
      by f.Absent h rest = rest h

  -- ---- One constant.

  module _ (j : ℕ) (e : Entered j) where
    abbrev p : Placed
    p = e.placed

    abbrev found : List Found
    found = (answered items p).1

    abbrev it : Exp Leaf
    it = filled f.Absent found e.exp

    abbrev given : List (Option ℤ)
    given = given_by numbers (names known) found

    abbrev expression : List Diag
    expression = wrongs (c sigs (const_sigs known)) it ++ need (at_of it) e.typ (type_of (c sigs (const_sigs known)) it)

    warns : Warns (expression ++ value_wrongs p.item.at p.item.name (Some e.value))
    warns =
        let value_is : value_at known values (place_of p) ≡ Some e.value = ap (option_and_then (slice_get values)) e.first ∙ e.valued in
        subst (λ d. Warns (body_wrongs items sigs p.«module» found (Some e.value) p.item.at p.item.name d)) e.body
        (subst (λ o. Warns (body_wrongs items sigs p.«module» found o p.item.at p.item.name (definition p.item.body))) value_is (item_warns krate values clean e.item p e.there))

    value_warns : Warns (value_wrongs p.item.at p.item.name (Some e.value))
    value_warns = right expression (value_wrongs p.item.at p.item.name (Some e.value)) warns

    straight : IsInCycle known j → ⊥
    straight cycle = no_cycle e.value p.item.at p.item.name value_warns ((are.each j e.value e.valued).cycle cycle)

    value_whole : e.value ≡ whole j
    value_whole = (are.each j e.value e.valued).value straight

    found_is : found ≡ map (path_answer items p.«module» []) (leaves e.exp)
    found_is = ap (answers_of items p.«module») e.body

    -- each constant that it names has a number, so it has a value, or a fault of numbers
    never : numbers j ≡ None → list_any lacks (named_by (names known) found) ≡ false → ⊥
    never none all =
        let away = subst (AllByRecursion NotLocal) (sym found_is) (all_elsewhere items p.«module» (leaves e.exp)) in
        let z = all_sound found away (answers_there items p.«module» (definition p.item.body)) all in
        let front = left expression (value_wrongs p.item.at p.item.name (Some e.value)) warns in
        let wanted = need (at_of it) e.typ (type_of (c sigs (const_sigs known)) it) in
        let i = fine sigs (const_sigs known) e.exp found given z (left (wrongs (c sigs (const_sigs known)) it) wanted front) in
        let n = needed (at_of it) e.typ (type_of (c sigs (const_sigs known)) it) i.typ i.is (right (wrongs (c sigs (const_sigs known)) it) wanted front) in
        let kind = typed e.typ (type_of (c sigs (const_sigs known)) it) i.typ i.is n.is i.kind in
        let seen : type_of (c sigs (const_sigs known)) it ≡ type_of (with_sigs (const_sigs known) (c sigs (const_sigs known))) it = type_same (const_sigs known) (c sigs (const_sigs known)) it i.agree in
        let own : const_wrongs (const_sigs known) e.typ e.exp found ≡ [] =
        empty _ _ (sym (wrongs_same (const_sigs known) (c sigs (const_sigs known)) it i.agree) ∙ i.none)
        (ap (need (at_of e.exp) e.typ) (sym seen) ∙ never_needed (at_of e.exp) e.typ (type_of (c sigs (const_sigs known)) it) n.is) in
        let few : length given ≤ length (leaves e.exp) = omega (arith, length-map found (λ (x : Found). option_and_then numbers (named (names known) x)), ap length found_is, length-map (leaves e.exp) (path_answer items p.«module» [])) in
        let some : list_any is_none given ≡ false = none_missing given (leaves e.exp) few (subst (AllByRecursion (λ (l : path.Path × Option ℤ). is_none l.1 ≡ false)) (of_expression None given e.exp) i.some) in
        let is : whole j ≡ const_of e.typ (value (filled None given e.exp)) =
        step j ∙ ap (λ o. option_map_or (worth_by numbers known) o k.Bad) e.entry
        ∙ ap (λ d. worth (const_sigs known) d found given) e.body
        ∙ ap (λ b. if b then k.Bad else const_of e.typ (value (filled None given e.exp))) (neither _ _ (none_wrong _ own) some) in
        faulty e.typ (value (filled None given e.exp)) kind i.value (sym (ap number is) ∙ none) p.item.at p.item.name (subst (λ v. Warns (value_wrongs p.item.at p.item.name (Some v))) (value_whole ∙ is) value_warns)

  -- ---- All of them.

  abbrev IsBad : ℕ → Type 0
  IsBad j = First j × (numbers j ≡ None)

  below : (j : ℕ) → IsBad j → j < length known
  below j bad = (let e = entered j bad.0 in slice_get_within known j (place_of e.placed, e.placed.item, (answered items e.placed).1) e.entry)

  goes_by : (j : ℕ) (e : Entered j) → numbers j ≡ None → (b : Bool) → list_any lacks (named_by (names known) (answered items e.placed).1) ≡ b → Goes known IsBad j
  goes_by j e none true is =
      let fs = (answered items e.placed).1 in
      let r = some_lacks lacks (named_by (names known) fs) is in
      record { to = r.0; so = (named_first fs r.0 r.1, is_none_is (numbers r.0) r.2); names = (named_by (names known) fs, ap (option_map (λ (e : Entry). named_by (names known) e.2)) e.entry, r.1) }
  goes_by j e none false is = absurd (never j e none is)

  goes : (j : ℕ) → IsBad j → Goes known IsBad j
  goes j bad = (let e = entered j bad.0 in goes_by j e bad.1 (list_any lacks (named_by (names known) (answered items e.placed).1)) refl)

  pub usable : (q : Place) (v : Value) → value_at known values q ≡ Some v → IsUsable v
  usable q v is = by (place_from (place_name q) 0 (names known)) refl is
    where
      by : (o : Option ℕ) → place_from (place_name q) 0 (names known) ≡ o → option_and_then (slice_get values) o ≡ Some v → IsUsable v
      by None at h = absurd (none-some v h)
      by (Some j) at h =
          let e = entered j (place_name q, at) in
          let same : e.value ≡ v = same_Some e.value v (sym e.valued ∙ h) in
          let bad : e.value ≡ k.Bad → ⊥ = λ b. none_so known IsBad below goes (λ a b. straight a (entered a b.0)) j ((place_name q, at), ap number (sym (value_whole j e) ∙ b)) in
          subst IsUsable same (told_value e.value e.placed.item.at e.placed.item.name (value_warns j e) bad)
