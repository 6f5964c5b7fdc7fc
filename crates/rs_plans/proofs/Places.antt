-- The places that a plan reads are those of items of an index, whose names fit.
use Rattle.std.proofs.Common.{◌≡◌, ℕ, zero, suc, ◌+◌, ◌||◌, Bool, true, false, List, [], ◌∷◌, ◌++◌, map, refl, sym, ap, subst, ◌∙◌, arith, if◌then◌else◌, filter}
use Rattle.std.specs.Prelude.{Option, Some, None, slice_get, option_and_then}
use Rattle.std.specs.Option.{option_map}
use Rattle.std.specs.List.{AllByRecursion, list_all, list_any}
use Rattle.rs_tree.specs.declared.answers.Found.{Found}
use Rattle.rs_tree.specs.declared.answers.Found.TheVariants.{Local, Item, Private, Absent}
use Rattle.rs_tree.specs.declared.index.Index.{Index}
use Rattle.rs_tree.specs.declared.index.IndexItem.{IndexItem}
use Rattle.rs_tree.specs.declared.place.Place.{Place}
use Rattle.rs_tree.specs.declared.tree.Item as tree
use Rattle.rs_tree.specs.declared.tree.Path as path
use Rattle.rs_tree.specs.Plain.{Sta, Stas, Arms, Let, Assign, Return, Eval, While, If, Print, Bare, Else, Arm, Definition, Const, Func}
use Rattle.rs_tree.specs.Plain.{definition}
use Rattle.rs_tree.specs.Leaves.{leaves, leaves_in}
use Rattle.std.specs.Str.{bytes_eq}
use Rattle.rs_tree.proofs.Both.{left_of, right_of}
use Rattle.rs_lookup.specs.Places.{Name, same, item_name, place_name, place_from}
use Rattle.rs_names.specs.Resolved.{Locals, after, after_all, answer_by, arms_answers, definition_answers, is_visible, item_answer, item_at, leads_to, module_answer, path_answer, sta_answers, stas_answers, with_params}
use Rattle.rs_reach.specs.Dead.{place_of, search}
use Rattle.rs_reach.specs.Places.{ask, call_names, calls_at, numbers}
use Rattle.rs_reach.specs.Search.{next}
use Rattle.rs_reach.proofs.Found.{ends}
use Rattle.rs_reach.proofs.Numbered.{roots_differ}
use Rattle.rs_units.specs.Members.{place_numbered}
use Rattle.rs_plans.specs.Names.{is_among, is_index, is_item_place, is_module, is_place, is_placed}
use Rattle.rs_plans.specs.Plans.{answers, constants_in, is_constant_at, named_items, places_found}
use Rattle.rs_plans.proofs.Fresh.{once_all, same_is}
use Rattle.rs_plans.proofs.Steps.{WantsNew, all_more, places_of}

-- ---- Answers.

-- where it leads to an item, the item's place fits
abbrev IsGood : Found → Type 0
IsGood Local = Unit {0}
IsGood (Item p) = is_place p ≡ true
IsGood Private = Unit {0}
IsGood Absent = Unit {0}

items_fit : (index : Index) → is_index index ≡ true → list_all is_item_place index.items ≡ true
items_fit index e = right_of (list_all is_module index.modules) (list_all is_item_place index.items) e

at_fits : (q : Name) (items : List IndexItem) (x : IndexItem) → list_all is_item_place items ≡ true → item_at q items ≡ Some x → is_placed q.0 q.1 ≡ true
at_fits q [] x all e = absurd (cc)
at_fits q (y ∷ ys) x all e = by (same q (item_name y)) refl (at_fits q ys x (right_of (is_item_place y) (list_all is_item_place ys) all)) e
  where
    by : (b : Bool) → same q (item_name y) ≡ b → (item_at q ys ≡ Some x → is_placed q.0 q.1 ≡ true) → (if b then Some y else item_at q ys) ≡ Some x → is_placed q.0 q.1 ≡ true
    by true is rest h = ap (λ (n : Name). is_placed n.0 n.1) (same_is q (item_name y) is) ∙ left_of (is_item_place y) (list_all is_item_place ys) all
    by false is rest h = rest h

leads_good : (m : List ℕ) (q : Name) (o : Option IndexItem) → ((x : IndexItem) → o ≡ Some x → is_placed q.0 q.1 ≡ true) → IsGood (leads_to m q o)
leads_good m q None h = tt
leads_good m q (Some x) h = by (is_visible m q.0 x)
  where
    by : (b : Bool) → IsGood (if b then Item (record { «module» = q.0; name = q.1 }) else Private)
    by true = h x refl
    by false = tt

item_good : (items : List IndexItem) → list_all is_item_place items ≡ true → (m : List ℕ) (q : Name) → IsGood (item_answer items m q)
item_good items all m q = leads_good m q (item_at q items) (λ x e. at_fits q items x all e)

module_good : (items : List IndexItem) → list_all is_item_place items ≡ true → (m : List ℕ) (q : Name) → IsGood (module_answer items m q)
module_good items all [] q = item_good items all [] q
module_good items all (b ∷ m) q = tt

by_good : (items : List IndexItem) → list_all is_item_place items ≡ true → (m : List ℕ) (locals : Locals) (rooted : Bool) (of : Option (List ℕ)) (name : List ℕ) → IsGood (answer_by items m locals rooted of name)
by_good items all m locals true None name = item_good items all m ([], name)
by_good items all m locals true (Some of) name = item_good items all m (of, name)
by_good items all m locals false (Some of) name = module_good items all m (of, name)
by_good items all m locals false None name = by (list_any (bytes_eq name) locals)
  where
    by : (b : Bool) → IsGood (if b then Local else item_answer items m (m, name))
    by true = tt
    by false = item_good items all m (m, name)

-- what each path leads to is so
abbrev Looks : (Locals → path.Path → Found) → Type 0
Looks look = (locals : Locals) (p : path.Path) → IsGood (look locals p)

each_good : (look : path.Path → Found) → ((p : path.Path) → IsGood (look p)) → (ps : List path.Path) → AllByRecursion IsGood (map look ps)
each_good look good [] = tt
each_good look good (p ∷ ps) = (good p, each_good look good ps)

mutual
  sta_good : (look : Locals → path.Path → Found) → Looks look → (s : Sta path.Path) (locals : Locals) → AllByRecursion IsGood (sta_answers look s locals)
  sta_good look good (Let mutable at name typ value) locals = each_good (look locals) (good locals) (leaves value)
  sta_good look good (Assign at name value) locals = each_good (look locals) (good locals) (leaves value)
  sta_good look good (Return at value) locals = each_good (look locals) (good locals) (leaves_in value)
  sta_good look good (Eval value) locals = each_good (look locals) (good locals) (leaves value)
  sta_good look good (While cond body) locals = all_more IsGood (map (look locals) (leaves cond)) (stas_answers look body locals) (each_good (look locals) (good locals) (leaves cond)) (stas_good look good body locals)
  sta_good look good (If arms) locals = arms_good look good arms locals
  sta_good look good (Print value) locals = each_good (look locals) (good locals) (leaves value)

  stas_good : (look : Locals → path.Path → Found) → Looks look → (ss : Stas path.Path) (locals : Locals) → AllByRecursion IsGood (stas_answers look ss locals)
  stas_good look good Stas.Empty locals = tt
  stas_good look good (Stas.Of s more) locals = all_more IsGood (sta_answers look s locals) (stas_answers look more (after s locals)) (sta_good look good s locals) (stas_good look good more (after s locals))

  arms_good : (look : Locals → path.Path → Found) → Looks look → (arms : Arms path.Path) (locals : Locals) → AllByRecursion IsGood (arms_answers look arms locals)
  arms_good look good Bare locals = tt
  arms_good look good (Else body) locals = stas_good look good body locals
  arms_good look good (Arm cond body more) locals =
      all_more IsGood (map (look locals) (leaves cond)) (stas_answers look body locals ++ arms_answers look more locals) (each_good (look locals) (good locals) (leaves cond))
      (all_more IsGood (stas_answers look body locals) (arms_answers look more locals) (stas_good look good body locals) (arms_good look good more locals))

pub answers_good : (look : Locals → path.Path → Found) → Looks look → (d : Definition path.Path) → AllByRecursion IsGood (definition_answers look d)
answers_good look good (Const typ value) = each_good (look []) (good []) (leaves value)
answers_good look good (Func inlined params gives stmts tail) =
    all_more IsGood (stas_answers look stmts (with_params params [])) (map (look (after_all stmts (with_params params []))) (leaves_in tail)) (stas_good look good stmts (with_params params []))
    (each_good (look (after_all stmts (with_params params []))) (good (after_all stmts (with_params params []))) (leaves_in tail))

found_fit : (fs : List Found) → AllByRecursion IsGood fs → AllByRecursion (λ p. is_place p ≡ true) (places_found fs)
found_fit [] h = tt
found_fit (Local ∷ fs) h = found_fit fs h.1
found_fit (Item p ∷ fs) h = (h.0, found_fit fs h.1)
found_fit (Private ∷ fs) h = found_fit fs h.1
found_fit (Absent ∷ fs) h = found_fit fs h.1

answers_fit : (index : Index) → is_index index ≡ true → (at : Place) (item : tree.Item) → AllByRecursion (λ p. is_place p ≡ true) (places_found (answers index at item))
answers_fit index fits at item = found_fit (answers index at item) (answers_good (path_answer index.items at.«module») (λ locals p. by_good index.items (items_fit index fits) at.«module» locals p.rooted p.module p.name) (definition item.body))

pub named_fit : (index : Index) → is_index index ≡ true → (at : Place) (item : tree.Item) → AllByRecursion (λ p. is_place p ≡ true) (named_items (answers index at item))
named_fit index fits at item = once_all (λ p. is_place p ≡ true) [] (places_found (answers index at item)) (answers_fit index fits at item)

filter_all : {X : Type 0} (P : X → Type 0) (test : X → Bool) (xs : List X) → AllByRecursion P xs → AllByRecursion P (filter test xs)
filter_all P test [] h = tt
filter_all {X} P test (x ∷ xs) h = by (test x) (filter_all P test xs h.1)
  where
    by : (b : Bool) → AllByRecursion P (filter test xs) → AllByRecursion P (if b then x ∷ filter test xs else filter test xs)
    by true rest = (h.0, rest)
    by false rest = rest

pub constants_fit : (index : Index) → is_index index ≡ true → (at : Place) (item : tree.Item) → AllByRecursion (λ p. is_place p ≡ true) (constants_in index (answers index at item))
constants_fit index fits at item = filter_all (λ p. is_place p ≡ true) (is_constant_at index) (places_found (answers index at item)) (answers_fit index fits at item)

-- ---- What is wanted.

got_all : (items : List IndexItem) → list_all is_item_place items ≡ true → (i : ℕ) (x : IndexItem) → slice_get items i ≡ Some x → is_item_place x ≡ true
got_all [] all i x e = absurd (cc)
got_all (y ∷ ys) all zero x e = (let is : y ≡ x = cc in ap is_item_place (sym is) ∙ left_of (is_item_place y) (list_all is_item_place ys) all)
got_all (y ∷ ys) all (suc i) x e = got_all ys (right_of (is_item_place y) (list_all is_item_place ys) all) i x e

got_named : (items : List IndexItem) (i : ℕ) (x : IndexItem) → slice_get items i ≡ Some x → slice_get (map item_name items) i ≡ Some (item_name x)
got_named [] i x e = absurd (cc)
got_named (y ∷ ys) zero x e = (let is : y ≡ x = cc in ap (λ z. Some (item_name z)) is)
got_named (y ∷ ys) (suc i) x e = got_named ys i x e

-- a place among those known is found there
found_at : (p : Place) (i : ℕ) (calls : List (Place × List Place)) → is_among (places_of calls) p ≡ true → (j : ℕ) × (c : Place × List Place) × (place_from (place_name p) i (call_names calls) ≡ Some (i + j)) × (slice_get calls j ≡ Some c)
found_at p i [] e = absurd (cc)
found_at p i (c ∷ cs) e = by (same (place_name p) (place_name c.0)) (found_at p (i + 1) cs) e
  where
    by : (b : Bool) → (is_among (places_of cs) p ≡ true → (j : ℕ) × (d : Place × List Place) × (place_from (place_name p) (i + 1) (call_names cs) ≡ Some (i + 1 + j)) × (slice_get cs j ≡ Some d)) → (b || is_among (places_of cs) p) ≡ true → (j : ℕ) × (d : Place × List Place) × ((if b then Some i else place_from (place_name p) (i + 1) (call_names cs)) ≡ Some (i + j)) × (slice_get (c ∷ cs) j ≡ Some d)
    by true rest h = (zero, c, ap Some (omega arith), refl)
    by false rest h = (let more = rest h in let is : i + 1 + more.0 ≡ i + suc more.0 = omega arith in (suc more.0, more.1, more.2 ∙ ap Some is, more.3))

none_more : (n : ℕ) → 0 + n ≡ n
none_more n = omega arith

-- so one whose calls aren't known isn't among them
unknown : (calls : List (Place × List Place)) (p : Place) → calls_at calls (place_name p) ≡ None → is_among (places_of calls) p ≡ false
unknown calls p none = by (is_among (places_of calls) p) refl
  where
    by : (b : Bool) → is_among (places_of calls) p ≡ b → b ≡ false
    by false is = refl
    by true is =
        let found = found_at p 0 calls is in
        let there : calls_at calls (place_name p) ≡ Some found.1.1 =
        ap (option_and_then (λ j. option_map (λ (c : Place × List Place). c.1) (slice_get calls j))) (found.2 ∙ ap Some (none_more found.0)) ∙ ap (option_map (λ (c : Place × List Place). c.1)) found.3 in
        absurd (cc)

nothing_told : {A B : Type 0} (f : A → B) (o : Option A) → option_map f o ≡ None → o ≡ None
nothing_told f None e = refl
nothing_told f (Some a) e = absurd (cc)

-- The next function of a search, whose calls are wanted, is an item whose calls aren't known.
pub wanted_new : (from may : IndexItem → Bool) (index : Index) → is_index index ≡ true → (calls : List (Place × List Place)) (p : Place)
    → option_and_then (place_numbered index.items) (next (search from may index.items calls)) ≡ Some p → WantsNew calls p
wanted_new from may index fits calls p e = by (next (search from may index.items calls)) refl e
  where
    items : List IndexItem
    items = index.items

    asked : option_and_then (ask (map item_name items) calls) (next (search from may items calls)) ≡ None
    asked = ends (map may items) (ask (map item_name items) calls) _ (roots_differ from may items)

    at : (i : ℕ) (o : Option IndexItem) → slice_get items i ≡ o → ask (map item_name items) calls i ≡ None → option_map place_of o ≡ Some p → WantsNew calls p
    at i None is none h = absurd (cc)
    at i (Some x) is none h =
        let its : place_of x ≡ p = cc in
        let asks : option_map (numbers (map item_name items)) (calls_at calls (item_name x)) ≡ None = ap (λ o. option_map (numbers (map item_name items)) (option_and_then (calls_at calls) o)) (sym (got_named items i x is)) ∙ none in
        subst (WantsNew calls) its (record { place = got_all items (items_fit index fits) i x is; new = unknown calls (place_of x) (nothing_told (numbers (map item_name items)) (calls_at calls (item_name x)) asks) })

    by : (o : Option ℕ) → next (search from may items calls) ≡ o → option_and_then (place_numbered items) o ≡ Some p → WantsNew calls p
    by None is h = absurd (cc)
    by (Some i) is h = at i (slice_get items i) refl (ap (option_and_then (ask (map item_name items) calls)) (sym is) ∙ asked) h
