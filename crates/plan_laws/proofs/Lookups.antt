-- What is known of items is found by their places.
use Rattle.std.proofs.Common.{◌≡◌, ℕ, zero, suc, ◌+◌, ◌^◌, ◌<◌, ◌||◌, Bool, true, false, List, [], ◌∷◌, ◌++◌, map, refl, sym, ap, subst, ◌∙◌, arith, if◌then◌else◌}
use Rattle.std.specs.Prelude.{Option, Some, None, slice_get, option_and_then}
use Rattle.std.specs.List.{AllByRecursion, Contains, cons_option, filter_map, list_any}
use Rattle.std.specs.Option.{option_map, option_map_or}
use Rattle.std.proofs.lemmas.Bool.{false_from_ne_true}
use Rattle.std.specs.Str.{bytes_eq}
use Rattle.inc_wire.specs.Fits.{Each}
use Rattle.rs_tree.specs.declared.answers.Found.{Found}
use Rattle.rs_tree.specs.declared.answers.Found.TheVariants as f
use Rattle.rs_tree.specs.declared.index.IndexItem.{IndexItem}
use Rattle.rs_tree.specs.declared.place.Place.{Place}
use Rattle.rs_tree.specs.declared.tree.Crate.{Crate}
use Rattle.rs_tree.specs.declared.tree.Path as path
use Rattle.rs_tree.specs.declared.tree.Placed.{Placed}
use Rattle.rs_tree.specs.Plain.{Sta, Stas, Arms, Let, Assign, Return, Eval, While, If, Print, Bare, Else, Arm, Definition, Const, Func}
use Rattle.rs_tree.specs.Leaves.{leaves, leaves_in}
use Rattle.rs_tree.specs.Plain.{definition, plain_placed}
use Rattle.rs_grammar.specs.Tidy.{Distinct, place_in}
use Rattle.rs_forms.specs.Fits.{FitsIndexItem}
use Rattle.rs_lookup.specs.Places.{Name, item_name, place_from, place_name, same}
use Rattle.rs_names.specs.Indexed.{index_item}
use Rattle.rs_names.specs.Resolved.{Locals, after, after_all, answer_by, answers_of, arms_answers, definition_answers, is_visible, item_answer, item_at, leads_to, module_answer, path_answer, sta_answers, stas_answers, with_params}
use Rattle.rs_types.specs.Types.{sig_at}
use Rattle.rs_const.specs.Constants.{Entry}
use Rattle.rs_queries.specs.Known.{Answered, answered, constants_of, entry_by, entry_of, items_of, kind_at, place_of, sig_of}
use Rattle.rs_plans.specs.Names.{is_among, once_from}
use Rattle.rs_plans.specs.Plans.{named_items, places_found}
use Rattle.rs_plans.proofs.Fresh.{among_later, once_all, same_is, same_self}
use Rattle.link_laws.proofs.Lists.{rest_distinct}
use Rattle.plan_laws.proofs.Items.{indexed, others}

-- ---- A list of places, each with what is known of it.

-- of equal places the first counts
abbrev pub found_in : {A : Type 0} → Name → List (Place × A) → Option A
found_in {A} q es = option_map (λ (e : Place × A). e.1) (option_and_then (slice_get es) (place_from q 0 (map (λ (e : Place × A). place_name e.0) es)))

pub shifted : (q : Name) (i : ℕ) (ks : List Name) → place_from q (i + 1) ks ≡ option_map (λ n. suc n) (place_from q i ks)
shifted q i [] = refl
shifted q i (k ∷ ks) = by (same q k) (shifted q (i + 1) ks)
  where
    by : (b : Bool) → place_from q (i + 1 + 1) ks ≡ option_map (λ n. suc n) (place_from q (i + 1) ks)
        → (if b then Some (i + 1) else place_from q (i + 1 + 1) ks) ≡ option_map (λ n. suc n) (if b then Some i else place_from q (i + 1) ks)
    by true h = (let next : i + 1 ≡ suc i = omega arith in ap Some next)
    by false h = h

-- the first element of a name
abbrev pub first_at : {X : Type 0} → (X → Name) → Name → List X → Option X
first_at f q xs = option_and_then (slice_get xs) (place_from q 0 (map f xs))

pub next_at : {X : Type 0} (f : X → Name) (q : Name) (x : X) (xs : List X) → first_at f q (x ∷ xs) ≡ (if same q (f x) then Some x else first_at f q xs)
next_at {X} f q x xs = by (same q (f x))
  where
    on : (o : Option ℕ) → option_and_then (slice_get (x ∷ xs)) (option_map (λ n. suc n) o) ≡ option_and_then (slice_get xs) o
    on None = refl
    on (Some n) = refl

    by : (b : Bool) → option_and_then (slice_get (x ∷ xs)) (if b then Some 0 else place_from q 1 (map f xs)) ≡ (if b then Some x else first_at f q xs)
    by true = refl
    by false = ap (option_and_then (slice_get (x ∷ xs))) (shifted q 0 (map f xs)) ∙ on (place_from q 0 (map f xs))

pub found_next : {A : Type 0} (q : Name) (e : Place × A) (es : List (Place × A)) → found_in q (e ∷ es) ≡ (if same q (place_name e.0) then Some e.1 else found_in q es)
found_next {A} q e es = ap (option_map (λ (x : Place × A). x.1)) (next_at (λ (x : Place × A). place_name x.0) q e es) ∙ by (same q (place_name e.0))
  where
    by : (b : Bool) → option_map (λ (x : Place × A). x.1) (if b then Some e else first_at (λ (x : Place × A). place_name x.0) q es) ≡ (if b then Some e.1 else found_in q es)
    by true = refl
    by false = refl

-- at a place among these, what is known of each of which is what the other list has, both have the same
pub same_found : {A : Type 0} (all reads : List (Place × A)) (q : Place) → is_among (map (λ (x : Place × A). x.0) reads) q ≡ true → AllByRecursion (λ (x : Place × A). found_in (place_name x.0) all ≡ Some x.1) reads
    → found_in (place_name q) reads ≡ found_in (place_name q) all
same_found all [] q e h = absurd (cc)
same_found {A} all (x ∷ xs) q e h = found_next (place_name q) x xs ∙ by (same (place_name q) (place_name x.0)) refl e (λ m. same_found all xs q m h.1)
  where
    by : (b : Bool) → same (place_name q) (place_name x.0) ≡ b → (b || is_among (map (λ (x : Place × A). x.0) xs) q) ≡ true → (is_among (map (λ (x : Place × A). x.0) xs) q ≡ true → found_in (place_name q) xs ≡ found_in (place_name q) all)
        → (if b then Some x.1 else found_in (place_name q) xs) ≡ found_in (place_name q) all
    by true is e more = sym (ap (λ n. found_in n all) (same_is (place_name q) (place_name x.0) is) ∙ h.0)
    by false is e more = more e

-- ---- The items of a tree.

-- the item at a place, and those before and after it
pub record IsPlaced (ps : List Placed) (q : Name) : Type 0 where
  pub placed : Placed
  pub before : List Placed
  pub rest : List Placed
  pub is : ps ≡ before ++ placed ∷ rest
  pub at : place_in placed ≡ q
  pub item : item_at q (indexed ps) ≡ Some (index_item (plain_placed placed))

pub found_placed : (q : Name) (ps : List Placed) (x : IndexItem) → item_at q (indexed ps) ≡ Some x → IsPlaced ps q
found_placed q [] x e = absurd (cc)
found_placed q (p ∷ ps) x e = by (same q (place_in p)) refl e (found_placed q ps x)
  where
    by : (b : Bool) → same q (place_in p) ≡ b → (if b then Some (index_item (plain_placed p)) else item_at q (indexed ps)) ≡ Some x → (item_at q (indexed ps) ≡ Some x → IsPlaced ps q) → IsPlaced (p ∷ ps) q
    by true is e more = record { placed = p; before = []; rest = ps; is = refl; at = sym (same_is q (place_in p) is); item = ap (λ b. if b then Some (index_item (plain_placed p)) else item_at q (indexed ps)) is }
    by false is e more =
        (let m = more e in
        record { placed = m.placed; before = p ∷ m.before; rest = m.rest; is = ap (λ l. p ∷ l) m.is; at = m.at; item = ap (λ b. if b then Some (index_item (plain_placed p)) else item_at q (indexed ps)) is ∙ m.item })

pub at_split : {X : Type 0} (P : X → Type 0) (before : List X) (x : X) (rest : List X) → AllByRecursion P (before ++ x ∷ rest) → P x
at_split P [] x rest h = h.0
at_split P (b ∷ before) x rest h = at_split P before x rest h.1

-- the signature of an item
pub sig_there : (items : List IndexItem) (before rest : List Placed) (p : Placed) → Distinct (map place_in (before ++ p ∷ rest)) → sig_at (place_in p) (map (sig_of items) (before ++ p ∷ rest)) ≡ Some (sig_of items p).1
sig_there items [] rest p d =
    found_next (place_in p) (sig_of items p) (map (sig_of items) rest) ∙ ap (λ b. if b then Some (sig_of items p).1 else found_in (place_in p) (map (sig_of items) rest)) (same_self (place_in p))
sig_there items (b ∷ before) rest p d =
    found_next (place_in p) (sig_of items b) (map (sig_of items) (before ++ p ∷ rest)) ∙ by (same (place_in p) (place_in b)) refl (sig_there items before rest p (rest_distinct (place_in b) (map place_in (before ++ p ∷ rest)) d))
  where
    by : (t : Bool) → same (place_in p) (place_in b) ≡ t → sig_at (place_in p) (map (sig_of items) (before ++ p ∷ rest)) ≡ Some (sig_of items p).1
        → (if t then Some (sig_of items b).1 else found_in (place_in p) (map (sig_of items) (before ++ p ∷ rest))) ≡ Some (sig_of items p).1
    by true e more = absurd (others b before rest p d e)
    by false e more = more

-- ---- Constants.

drop_second : {X : Type 0} (x y : X) (zs : List X) → Distinct (x ∷ y ∷ zs) → Distinct (x ∷ zs)
drop_second x y zs d [] z rest e has = absurd (omega (arith, has.1))
drop_second x y zs d (b ∷ before) z rest e has = (let head : x ≡ b = cc in let tail : zs ≡ before ++ z ∷ rest = cc in d (b ∷ y ∷ before) z rest (ap (λ h. h ∷ y ∷ zs) head ∙ ap (λ t. b ∷ y ∷ t) tail) (past has))
  where
    past : Contains (b ∷ before) z → Contains (b ∷ y ∷ before) z
    past (zero, l, is) = (0, omega arith, is)
    past (suc n, l, is) = (suc (suc n), omega (arith, l), is)

-- none after an item stands at its place
pub apart_rest : (p : Placed) (rest : List Placed) → Distinct (map place_in (p ∷ rest)) → AllByRecursion (λ y. same (place_in p) (place_in y) ≡ false) rest
apart_rest p [] d = tt
apart_rest p (y ∷ rest) d =
    (false_from_ne_true (same (place_in p) (place_in y)) (λ e. others p [] rest y d (ap (λ n. same (place_in y) n) (same_is (place_in p) (place_in y) e) ∙ same_self (place_in y))), apart_rest p rest (drop_second (place_in p) (place_in y) (map place_in rest) d))

abbrev pub entry_name : Entry → Name
entry_name e = place_name e.0

-- one that stands elsewhere is passed over
passed_over : (q : Name) (a : Answered) (d : Definition path.Path) (es : List Entry) → same q (place_name (place_of a.0)) ≡ false → first_at entry_name q (cons_option (entry_by a d) es) ≡ first_at entry_name q es
passed_over q a (Const typ e) es apart = next_at entry_name q (place_of a.0, a.0.item, a.1) es ∙ ap (λ b. if b then Some (place_of a.0, a.0.item, a.1) else first_at entry_name q es) apart
passed_over q a (Func inlined params gives stmts tail) es apart = refl

none_there : (items : List IndexItem) (q : Name) (ps : List Placed) → AllByRecursion (λ y. same q (place_in y) ≡ false) ps → first_at entry_name q (filter_map entry_of (map (answered items) ps)) ≡ None
none_there items q [] h = refl
none_there items q (p ∷ ps) h = passed_over q (answered items p) (definition p.item.body) (filter_map entry_of (map (answered items) ps)) h.0 ∙ none_there items q ps h.1

-- the entry of an item, where it is a constant
pub entry_there : (items : List IndexItem) (before rest : List Placed) (p : Placed) → Distinct (map place_in (before ++ p ∷ rest))
    → first_at entry_name (place_in p) (filter_map entry_of (map (answered items) (before ++ p ∷ rest))) ≡ entry_of (answered items p)
entry_there items [] rest p d = by (definition p.item.body)
  where
    by : (d : Definition path.Path) → first_at entry_name (place_in p) (cons_option (entry_by (answered items p) d) (filter_map entry_of (map (answered items) rest))) ≡ entry_by (answered items p) d
    by (Const typ e) =
        let it : Entry = (place_of p, p.item, (answered items p).1) in
        next_at entry_name (place_in p) it (filter_map entry_of (map (answered items) rest)) ∙ ap (λ b. if b then Some it else first_at entry_name (place_in p) (filter_map entry_of (map (answered items) rest))) (same_self (place_in p))
    by (Func inlined params gives stmts tail) = none_there items (place_in p) rest (apart_rest p rest d)
entry_there items (b ∷ before) rest p d =
    passed_over (place_in p) (answered items b) (definition b.item.body) (filter_map entry_of (map (answered items) (before ++ p ∷ rest))) (false_from_ne_true (same (place_in p) (place_in b)) (others b before rest p d))
    ∙ entry_there items before rest p (rest_distinct (place_in b) (map place_in (before ++ p ∷ rest)) d)

-- the constant at the place of an item
pub entry_known : (krate : Crate) → Distinct (map place_in krate.items) → (q : Name) (is : IsPlaced krate.items q) → first_at entry_name q (constants_of krate) ≡ entry_of (answered (items_of krate) is.placed)
entry_known krate distinct q is =
    ap (λ n. first_at entry_name n (constants_of krate)) (sym is.at)
    ∙ ap (λ ps. first_at entry_name (place_in is.placed) (filter_map entry_of (map (answered (items_of krate)) ps))) is.is
    ∙ entry_there (items_of krate) is.before is.rest is.placed (subst (λ ps. Distinct (map place_in ps)) is.is distinct)

-- a kind is one byte
pub kind_fits : (items : List IndexItem) (at : Place) → Each FitsIndexItem items → kind_at items at < 2 ^ 8
kind_fits [] at h = omega arith
kind_fits (x ∷ xs) at h = by (same (place_name at) (item_name x)) (kind_fits xs at h.1)
  where
    by : (b : Bool) → kind_at xs at < 2 ^ 8 → option_map_or (λ (x : IndexItem). x.kind) (if b then Some x else item_at (place_name at) xs) 0 < 2 ^ 8
    by true more = h.0.kind
    by false more = more

-- ---- What paths lead to.

module _ (items : List IndexItem) where
  abbrev pub IsItem : Place → Type 0
  IsItem q = (x : IndexItem) × (item_at (place_name q) items ≡ Some x)

  -- where it leads to an item, the index has one at its place
  abbrev pub IsThere : Found → Type 0
  IsThere f.Local = Unit {0}
  IsThere (f.Item q) = IsItem q
  IsThere f.Private = Unit {0}
  IsThere f.Absent = Unit {0}

  leads_there : (m : List ℕ) (q : Name) (o : Option IndexItem) → item_at q items ≡ o → IsThere (leads_to m q o)
  leads_there m q None h = tt
  leads_there m q (Some x) h = by (is_visible m q.0 x)
    where
      by : (b : Bool) → IsThere (if b then f.Item (record { «module» = q.0; name = q.1 }) else f.Private)
      by true = (x, h)
      by false = tt

  item_there : (m : List ℕ) (q : Name) → IsThere (item_answer items m q)
  item_there m q = leads_there m q (item_at q items) refl

  module_there : (m : List ℕ) (q : Name) → IsThere (module_answer items m q)
  module_there [] q = item_there [] q
  module_there (b ∷ m) q = tt

  by_there : (m : List ℕ) (locals : Locals) (rooted : Bool) (of : Option (List ℕ)) (name : List ℕ) → IsThere (answer_by items m locals rooted of name)
  by_there m locals true None name = item_there m ([], name)
  by_there m locals true (Some of) name = item_there m (of, name)
  by_there m locals false (Some of) name = module_there m (of, name)
  by_there m locals false None name = by (list_any (bytes_eq name) locals)
    where
      by : (b : Bool) → IsThere (if b then f.Local else item_answer items m (m, name))
      by true = tt
      by false = item_there m (m, name)

  module _ (look : Locals → path.Path → Found) (there : (locals : Locals) (p : path.Path) → IsThere (look locals p)) where
    each_there : (locals : Locals) (ps : List path.Path) → AllByRecursion IsThere (map (look locals) ps)
    each_there locals [] = tt
    each_there locals (p ∷ ps) = (there locals p, each_there locals ps)

    joined : (xs ys : List Found) → AllByRecursion IsThere xs → AllByRecursion IsThere ys → AllByRecursion IsThere (xs ++ ys)
    joined [] ys h k = k
    joined (x ∷ xs) ys h k = (h.0, joined xs ys h.1 k)

    mutual
      sta_there : (s : Sta path.Path) (locals : Locals) → AllByRecursion IsThere (sta_answers look s locals)
      sta_there (Let mutable at name typ value) locals = each_there locals (leaves value)
      sta_there (Assign at name value) locals = each_there locals (leaves value)
      sta_there (Return at value) locals = each_there locals (leaves_in value)
      sta_there (Eval value) locals = each_there locals (leaves value)
      sta_there (While cond body) locals = joined (map (look locals) (leaves cond)) (stas_answers look body locals) (each_there locals (leaves cond)) (stas_there body locals)
      sta_there (If arms) locals = arms_there arms locals
      sta_there (Print value) locals = each_there locals (leaves value)

      stas_there : (ss : Stas path.Path) (locals : Locals) → AllByRecursion IsThere (stas_answers look ss locals)
      stas_there Stas.Empty locals = tt
      stas_there (Stas.Of s more) locals = joined (sta_answers look s locals) (stas_answers look more (after s locals)) (sta_there s locals) (stas_there more (after s locals))

      arms_there : (arms : Arms path.Path) (locals : Locals) → AllByRecursion IsThere (arms_answers look arms locals)
      arms_there Bare locals = tt
      arms_there (Else body) locals = stas_there body locals
      arms_there (Arm cond body more) locals =
          joined (map (look locals) (leaves cond)) (stas_answers look body locals ++ arms_answers look more locals) (each_there locals (leaves cond))
          (joined (stas_answers look body locals) (arms_answers look more locals) (stas_there body locals) (arms_there more locals))

    definition_there : (d : Definition path.Path) → AllByRecursion IsThere (definition_answers look d)
    definition_there (Const typ value) = each_there [] (leaves value)
    definition_there (Func inlined params gives stmts tail) =
        joined (stas_answers look stmts (with_params params [])) (map (look (after_all stmts (with_params params []))) (leaves_in tail)) (stas_there stmts (with_params params []))
        (each_there (after_all stmts (with_params params [])) (leaves_in tail))

  pub answers_there : (m : List ℕ) (d : Definition path.Path) → AllByRecursion IsThere (answers_of items m d)
  answers_there m d = definition_there (path_answer items m) (λ locals p. by_there m locals p.rooted p.module p.name) d

  found_there : (fs : List Found) → AllByRecursion IsThere fs → AllByRecursion IsItem (places_found fs)
  found_there [] h = tt
  found_there (f.Local ∷ fs) h = found_there fs h.1
  found_there (f.Item q ∷ fs) h = (h.0, found_there fs h.1)
  found_there (f.Private ∷ fs) h = found_there fs h.1
  found_there (f.Absent ∷ fs) h = found_there fs h.1

  -- each named item is one of the index
  pub named_there : (m : List ℕ) (d : Definition path.Path) → AllByRecursion IsItem (named_items (answers_of items m d))
  named_there m d = once_all IsItem [] (places_found (answers_of items m d)) (found_there (answers_of items m d) (answers_there m d))

-- ---- Each item that paths lead to is among those named.

or_right : (a b : Bool) → b ≡ true → (a || b) ≡ true
or_right true b e = refl
or_right false b e = e

-- what stands in a list stands among those seen, or once behind them
kept_once : (seen ps : List Place) (q : Place) → is_among ps q ≡ true → (is_among seen q || is_among (once_from seen ps) q) ≡ true
kept_once seen [] q e = absurd (cc)
kept_once seen (p ∷ ps) q e = by (is_among seen p) refl (same (place_name q) (place_name p)) refl e (kept_once seen ps q) (kept_once (p ∷ seen) ps q)
  where
    by : (b : Bool) → is_among seen p ≡ b → (t : Bool) → same (place_name q) (place_name p) ≡ t → (t || is_among ps q) ≡ true
        → (is_among ps q ≡ true → (is_among seen q || is_among (once_from seen ps) q) ≡ true) → (is_among ps q ≡ true → (is_among (p ∷ seen) q || is_among (once_from (p ∷ seen) ps) q) ≡ true)
        → (is_among seen q || is_among (if b then once_from seen ps else p ∷ once_from (p ∷ seen) ps) q) ≡ true
    by true old true is h one two = ap (λ b. b || is_among (once_from seen ps) q) (ap (λ n. list_any (λ (o : Place). same n (place_name o)) seen) (same_is (place_name q) (place_name p) is) ∙ old)
    by true old false is h one two = one h
    by false new true is h one two = or_right (is_among seen q) (is_among (p ∷ once_from (p ∷ seen) ps) q) (ap (λ b. b || is_among (once_from (p ∷ seen) ps) q) is)
    by false new false is h one two =
        ap (λ b. is_among seen q || (b || is_among (once_from (p ∷ seen) ps) q)) is ∙ sym (ap (λ b. (b || is_among seen q) || is_among (once_from (p ∷ seen) ps) q) is) ∙ two h

-- an answer's item is among these
abbrev pub IsIn : List Place → Found → Type 0
IsIn ps f.Local = Unit {0}
IsIn ps (f.Item q) = is_among ps q ≡ true
IsIn ps f.Private = Unit {0}
IsIn ps f.Absent = Unit {0}

all_in : (ps : List Place) (fs : List Found) → ((q : Place) → is_among (places_found fs) q ≡ true → is_among ps q ≡ true) → AllByRecursion (IsIn ps) fs
all_in ps [] h = tt
all_in ps (f.Local ∷ fs) h = (tt, all_in ps fs h)
all_in ps (f.Item q ∷ fs) h = (h q (ap (λ b. b || is_among (places_found fs) q) (same_self (place_name q))), all_in ps fs (λ r e. h r (among_later q (places_found fs) r e)))
all_in ps (f.Private ∷ fs) h = (tt, all_in ps fs h)
all_in ps (f.Absent ∷ fs) h = (tt, all_in ps fs h)

pub named_in : (fs : List Found) → AllByRecursion (IsIn (named_items fs)) fs
named_in fs = all_in (named_items fs) fs (kept_once [] (places_found fs))
