-- The functions of a tree's objects: those of its units' members.
use Rattle.std.proofs.Common.{◌≡◌, ◌⊎◌, ℕ, ◌==◌, ◌&&◌, ◌||◌, inl, inr, Bool, true, false, not, cond, nat_eq, List, [], ◌∷◌, map, Option, Some, None, Ok, refl, sym, ap, ◌∙◌, subst, codes}
use Rattle.std.specs.Prelude.{slice_get}
use Rattle.std.specs.List.{AllByRecursion, Contains, IsDistinct, cons_option, filter_map}
use Rattle.std.specs.Str.{bytes_eq}
use Rattle.std.proofs.lemmas.Bool.{and_parts, eq-eqb, or_right}
use Rattle.std.proofs.lemmas.Slice.Eq.{bytes_eq-Decides}
use Rattle.std.proofs.lemmas.Map.Keys.{IsDistinct-head, IsDistinct-tail}
use Rattle.std.proofs.lemmas.Option.{same_Some}
use Rattle.rs_tree.specs.declared.answers.Const.{Const}
use Rattle.rs_tree.specs.declared.answers.Found.{Found}
use Rattle.rs_tree.specs.declared.index.IndexItem.{IndexItem}
use Rattle.rs_tree.specs.declared.index.Sig.{Sig}
use Rattle.rs_tree.specs.declared.ir.Ir.{Ir}
use Rattle.rs_tree.specs.declared.place.Place.{Place}
use Rattle.rs_tree.specs.declared.tree.Crate.{Crate}
use Rattle.rs_tree.specs.declared.tree.Path as path
use Rattle.rs_tree.specs.declared.tree.Placed.{Placed}
use Rattle.rs_tree.specs.Plain.{Definition, Const as Constant, Func, definition}
use Rattle.rs_grammar.specs.Tidy.{IsListed, IsNamed, IsNameOfLanguage, IsTidyCrate, NamesArePlain, place_in}
use Rattle.rs_names.specs.Indexed.{is_root_main, kind_of}
use Rattle.rs_reach.specs.Dead.{is_function}
use Rattle.rs_reach.specs.Laws.{RootsDiffer}
use Rattle.rs_lookup.specs.Places.{Name, item_name, place_name}
use Rattle.rs_lower.specs.Lowered.{is_within, lowered_definition, no_code}
use Rattle.rs_emit.specs.Objects.{func_of}
use Rattle.rs_emit.specs.Symbols.{is_copied, is_main, symbol_in, symbol_of, unit_text}
use Rattle.rs_link.specs.Linked.{linked}
use Rattle.rs_link.specs.Symbols.{funcs_of}
use Rattle.rs_object.specs.declared.object.Func.{Func as ObjectFunc}
use Rattle.rs_object.specs.declared.object.Object.{Object}
use Rattle.rs_types.specs.Types.{sig_at}
use Rattle.rs_units.specs.Laws.{IsMember, IsReached, MembersOnce, MembersReached, NoneMissing}
use Rattle.rs_units.specs.Members.{is_inline, member_numbers}
use Rattle.rs_units.specs.Units.{has_own, is_own, units_of}
use Rattle.rs_queries.specs.Built.{consts_of, form_of, tree_index}
use Rattle.rs_queries.specs.Known.{all_answered, answered, constants_of, items_of, place_of, sigs_of, value_at}
use Rattle.link_laws.proofs.Lists.{at_number, contains_filter_map, contains_flat_map, contains_map, each_at, each_filter, each_filter_map, each_flat_map, each_from, each_map, each_throughout, each_weaker, first, later}
use Rattle.link_laws.proofs.Makes.{calls, forms, is_wrong, objects, unit_object}
use Rattle.link_laws.proofs.Places.{found_item, got_map, item_numbered, item_placed, name_numbered, names_differ, signed, the_item}
use Rattle.link_laws.proofs.Lowered.{lowered_calls}
use Rattle.link_laws.proofs.Symbols.{Bytes, IsModule, copies_same, copy_text, module_bytes, name_bytes, no_copy, symbols_same}
use Rattle.link_laws.proofs.Members.{called_of, callee_member, found_of, member, numbered_member, own_member, own_unit}
use Rattle.link_laws.proofs.Errors.{item_warns, main_there}
use Rattle.link_laws.proofs.Linking.{Apart, Differs, Named, Symbol, apart_append, links, relocs_named, symbol_there}

-- ---- Kinds.

root_main : (m n : List ℕ) → (bytes_eq [] m && bytes_eq n (codes "main")) ≡ is_root_main m n
root_main [] n = refl
root_main (b ∷ m) n = refl

-- a function's form says that it is copied where its kind is 2
form_copied : (level : ℕ) (fs : List Found) (sigs : List (Place × Sig)) (consts : List (Place × Const)) (main : Bool) (d : Definition path.Path) → ((lowered_definition level fs sigs consts d).inline && not main) ≡ (kind_of main d == 2)
form_copied level fs sigs consts main (Constant typ value) = refl
form_copied level fs sigs consts main (Func inlined params gives stmts tail) = ap (λ b. b && not main) (flag (is_within params stmts tail) _ refl) ∙ kinds inlined main
  where
    flag : (b : Bool) (x : Ir) → x.inline ≡ inlined → (cond b x (no_code inlined)).inline ≡ inlined
    flag true x e = e
    flag false x e = refl

    kinds : (a b : Bool) → (a && not b) ≡ (cond (a && not b) 2 1 == 2)
    kinds true true = refl
    kinds true false = refl
    kinds false b = refl

-- and so does a call of it
kind_copied : (main : Bool) (d : Definition path.Path) → ((kind_of main d == 2) && not main) ≡ (kind_of main d == 2)
kind_copied main (Constant typ value) = refl
kind_copied main (Func inlined params gives stmts tail) = kinds inlined main
  where
    kinds : (a b : Bool) → ((cond (a && not b) 2 1 == 2) && not b) ≡ (cond (a && not b) 2 1 == 2)
    kinds true true = refl
    kinds true false = refl
    kinds false b = refl

-- what is no constant is of kind 1 or 2
kind_cases : (main : Bool) (d : Definition path.Path) → (kind_of main d == 0) ≡ false → ((kind_of main d == 1) ≡ true) × ((kind_of main d == 2) ≡ false) ⊎ ((kind_of main d == 2) ≡ true)
kind_cases main (Constant typ value) e = absurd cc
kind_cases main (Func inlined params gives stmts tail) e = by (inlined && not main)
  where
    by : (b : Bool) → ((cond b 2 1 == 1) ≡ true) × ((cond b 2 1 == 2) ≡ false) ⊎ ((cond b 2 1 == 2) ≡ true)
    by true = inr refl
    by false = inl (refl, refl)

-- the root's `main` is of kind 1
main_kind : (d : Definition path.Path) → (kind_of true d == 1 || kind_of true d == 2) ≡ true → ((kind_of true d == 1) ≡ true) × ((kind_of true d == 2) ≡ false)
main_kind (Constant typ value) e = absurd cc
main_kind (Func true params gives stmts tail) e = (refl, refl)
main_kind (Func false params gives stmts tail) e = (refl, refl)

-- ---- What is known of names, searches and members.

pub record Given : Type 0 where
  pub plain : NamesArePlain
  pub roots : RootsDiffer
  pub reached : MembersReached
  pub once : MembersOnce
  pub missing : NoneMissing

module _ (given : Given) (krate : Crate) (tidy : IsTidyCrate krate) (level : ℕ) (values : List Const) where
  abbrev items : List IndexItem
  items = items_of krate

  abbrev units : List (List ℕ)
  units = units_of (tree_index krate)

  abbrev Member : List ℕ → ℕ → Type 0
  Member u n = IsMember u items (calls krate) n

  abbrev numbers : List ℕ → List ℕ
  numbers u = member_numbers u items (calls krate)

  abbrev all : List ObjectFunc
  all = funcs_of (objects krate level values)

  -- an item's form, the function of it in a unit, and its symbol there
  abbrev form : Placed → Place × Ir
  form p = form_of level (sigs_of krate) (consts_of (constants_of krate) values) (answered items p)

  abbrev symbol : List ℕ → Placed → List ℕ
  symbol u p = symbol_in u (is_inline (the_item p)) (place_of p)

  func_symbol : (u : List ℕ) (p : Placed) → (func_of u (form p)).symbol ≡ symbol u p
  func_symbol u p = ap (λ b. symbol_in u b (place_of p))
      (ap (λ b. (form p).1.inline && not b) (root_main p.«module» p.item.name) ∙ form_copied level (found_of krate p) (sigs_of krate) (consts_of (constants_of krate) values) (is_root_main p.«module» p.item.name) (definition p.item.body))

  form_at : (n : ℕ) (p : Placed) → slice_get krate.items n ≡ Some p → slice_get (forms krate level values) n ≡ Some (form p)
  form_at n p e = got_map (form_of level (sigs_of krate) (consts_of (constants_of krate) values)) (all_answered krate) n (answered items p) (got_map (answered items) krate.items n p e)

  -- ---- Names.

  module_is : (m : List ℕ) → (m ≡ []) ⊎ Contains krate.modules m → IsModule m
  module_is m (inl root) = inl root
  module_is m (inr has) = inr (each_at IsNameOfLanguage krate.modules m (each_throughout IsNameOfLanguage krate.modules tidy.names) has)

  placed_module : (n : ℕ) (p : Placed) → slice_get krate.items n ≡ Some p → IsModule p.«module»
  placed_module n p e = module_is p.«module» (each_at (IsListed krate.modules) krate.items p (each_throughout (IsListed krate.modules) krate.items tidy.listed) (at_number krate.items n p e))

  placed_name : (n : ℕ) (p : Placed) → slice_get krate.items n ≡ Some p → Bytes p.item.name
  placed_name n p e = name_bytes given.plain p.item.name (each_at IsNamed krate.items p (each_throughout IsNamed krate.items tidy.named) (at_number krate.items n p e)).name

  units_named : AllByRecursion IsModule units
  units_named = each_filter IsModule (has_own items) ([] ∷ krate.modules) (inl refl, each_weaker IsNameOfLanguage IsModule krate.modules (λ m is. inr is) (each_throughout IsNameOfLanguage krate.modules tidy.names))

  -- ---- A function of a unit, and the item that it is of.

  record Origin (u : List ℕ) (n : ℕ) (f : ObjectFunc) : Type 0 where
    placed : Placed
    at : slice_get krate.items n ≡ Some placed
    member : Member u n
    is : f ≡ func_of u (form placed)

  origin : (u : List ℕ) (n : ℕ) → Member u n → (m : Place × Ir) → slice_get (forms krate level values) n ≡ Some m → Origin u n (func_of u m)
  origin u n mine m e =
      let p = item_placed krate tidy n mine.item mine.numbered in
      let same : form p.0 ≡ m = same_Some (form p.0) m (sym (form_at n p.0 p.1) ∙ e) in
      record { placed = p.0; at = p.1; member = mine; is = ap (func_of u) (sym same) }

  own_unit_is : (u : List ℕ) (n : ℕ) (p : Placed) → Member u n → slice_get krate.items n ≡ Some p → is_inline (the_item p) ≡ false → u ≡ p.«module»
  own_unit_is u n p mine at other = by mine.either
    where
      same : mine.item ≡ the_item p
      same = same_Some mine.item (the_item p) (sym mine.numbered ∙ item_numbered krate tidy n p at)

      by : (is_own u mine.item ≡ true) ⊎ ((is_inline mine.item ≡ true) × IsReached u items (calls krate) n) → u ≡ p.«module»
      by (inl own) = (bytes_eq-Decides u mine.item.«module»).0 (and_parts (mine.item.kind == 1) (bytes_eq u mine.item.«module») own).1 ∙ ap (λ (x : IndexItem). x.«module») same
      by (inr copy) = absurd (let bad : true ≡ false = sym copy.0 ∙ ap is_inline same ∙ other in cc)

  -- functions with one symbol are one function
  placed_same : (u v : List ℕ) → IsModule u → IsModule v → (n k : ℕ) (p q : Placed) → slice_get krate.items n ≡ Some p → slice_get krate.items k ≡ Some q → Member u n → Member v k → symbol u p ≡ symbol v q → (u ≡ v) × (n ≡ k)
  placed_same u v hu hv n k p q at there mine its e = (
    by (is_inline (the_item p)) (is_inline (the_item q)) refl refl both.1,
    names_differ krate tidy n k (place_in p) (name_numbered krate tidy n p at) (name_numbered krate tidy k q there ∙ ap (λ (x : Place). Some (place_name x)) (sym both.0)),
  )
    where
      both : (place_of p ≡ place_of q) × (copy_text u (is_inline (the_item p)) ≡ copy_text v (is_inline (the_item q)))
      both = symbols_same u v (is_inline (the_item p)) (is_inline (the_item q)) (place_of p) (place_of q)
          (module_bytes given.plain p.«module» (placed_module n p at)) (placed_name n p at) (module_bytes given.plain q.«module» (placed_module k q there)) (placed_name k q there) e

      by : (c d : Bool) → is_inline (the_item p) ≡ c → is_inline (the_item q) ≡ d → copy_text u c ≡ copy_text v d → u ≡ v
      by true true c d t = copies_same given.plain u v hu hv t
      by true false c d t = absurd (no_copy u v t)
      by false true c d t = absurd (no_copy v u (sym t))
      by false false c d t = own_unit_is u n p mine at c ∙ ap (λ (x : Place). x.«module») both.0 ∙ sym (own_unit_is v k q its there d)

  same_func : (u v : List ℕ) → IsModule u → IsModule v → (n k : ℕ) (f g : ObjectFunc) → Origin u n f → Origin v k g → f.symbol ≡ g.symbol → (u ≡ v) × (n ≡ k)
  same_func u v hu hv n k f g a b e = placed_same u v hu hv n k a.placed b.placed a.at b.at a.member b.member
      (sym (ap (λ (x : ObjectFunc). x.symbol) a.is ∙ func_symbol u a.placed) ∙ e ∙ (ap (λ (x : ObjectFunc). x.symbol) b.is ∙ func_symbol v b.placed))

  -- ---- The functions of a unit.

  abbrev funcs_at : List ℕ → List ℕ → List ObjectFunc
  funcs_at u ns = map (func_of u) (filter_map (slice_get (forms krate level values)) ns)

  abbrev funcs : List ℕ → List ObjectFunc
  funcs u = funcs_at u (numbers u)

  abbrev OriginIn : List ℕ → List ℕ → ObjectFunc → Type 0
  OriginIn u ns f = (n : ℕ) × Contains ns n × Origin u n f

  mine_at : (u : List ℕ) (n : ℕ) → Contains (numbers u) n → Member u n
  mine_at u n has = member krate tidy given.roots u given.reached given.once given.missing n has

  origins : (u : List ℕ) (ns : List ℕ) → ((n : ℕ) → Contains ns n → Member u n) → AllByRecursion (OriginIn u ns) (funcs_at u ns)
  origins u ns mine =
      each_map (OriginIn u ns) (func_of u) (filter_map (slice_get (forms krate level values)) ns)
      (each_filter_map (λ (m : Place × Ir). OriginIn u ns (func_of u m)) (slice_get (forms krate level values)) ns
      (each_from (λ n. (m : Place × Ir) → slice_get (forms krate level values) n ≡ Some m → OriginIn u ns (func_of u m)) ns (λ n has m e. (n, has, origin u n (mine n has) m e))))

  unit_apart : (u : List ℕ) → IsModule u → (ns : List ℕ) → IsDistinct nat_eq ns → ((n : ℕ) → Contains ns n → Member u n) → Apart (funcs_at u ns)
  unit_apart u hu [] d mine = tt
  unit_apart u hu (n ∷ ns) d mine = by (slice_get (forms krate level values) n) refl (unit_apart u hu ns (IsDistinct-tail nat_eq n ns d) rest)
    where
      rest : (k : ℕ) → Contains ns k → Member u k
      rest k has = mine k (later n ns k has)

      other : (k : ℕ) → Contains ns k → n ≡ k → ⊥
      other k has e =
          let no : nat_eq n k ≡ false = each_at (λ (y : ℕ). nat_eq n y ≡ false) ns k (IsDistinct-head nat_eq n ns d) has in
          let yes : nat_eq n k ≡ true = eq-eqb n k e in
          let bad : true ≡ false = sym yes ∙ no in cc

      by : (o : Option (Place × Ir)) → slice_get (forms krate level values) n ≡ o → Apart (funcs_at u ns) → Apart (map (func_of u) (cons_option o (filter_map (slice_get (forms krate level values)) ns)))
      by None e more = more
      by (Some m) e more = (
        each_weaker (OriginIn u ns) (Differs (func_of u m)) (funcs_at u ns)
            (λ g its same. other its.0 its.1 (same_func u u hu hu n its.0 (func_of u m) g (origin u n (mine n (first n ns)) m e) its.2 same).1) (origins u ns rest),
        more,
      )

  -- ---- The functions of all units.

  abbrev joined : List (List ℕ) → List ObjectFunc
  joined us = funcs_of (map (unit_object krate level values) us)

  units_apart : (us : List (List ℕ)) → AllByRecursion IsModule us → IsDistinct bytes_eq (map unit_text us) → Apart (joined us)
  units_apart [] named d = tt
  units_apart (u ∷ us) named d =
      apart_append (funcs u) (joined us) (unit_apart u named.0 (numbers u) (given.once u items (calls krate)).once (mine_at u)) (units_apart us named.1 (IsDistinct-tail bytes_eq (unit_text u) (map unit_text us) d))
      (each_weaker (OriginIn u (numbers u)) (λ f. AllByRecursion (Differs f) (joined us)) (funcs u) across (origins u (numbers u) (mine_at u)))
    where
      other : (v : List ℕ) → Contains us v → u ≡ v → ⊥
      other v has e =
          let no : bytes_eq (unit_text u) (unit_text v) ≡ false = each_at (λ (t : List ℕ). bytes_eq (unit_text u) t ≡ false) (map unit_text us) (unit_text v) (IsDistinct-head bytes_eq (unit_text u) (map unit_text us) d) (contains_map unit_text us v has) in
          let yes : bytes_eq (unit_text u) (unit_text v) ≡ true = (bytes_eq-Decides (unit_text u) (unit_text v)).1 (ap unit_text e) in
          let bad : true ≡ false = sym yes ∙ no in cc

      across : (f : ObjectFunc) → OriginIn u (numbers u) f → AllByRecursion (Differs f) (joined us)
      across f its =
          each_flat_map (Differs f) (λ (o : Object). o.funcs) (map (unit_object krate level values) us)
          (each_map (λ (o : Object). AllByRecursion (Differs f) o.funcs) (unit_object krate level values) us
          (each_from (λ v. AllByRecursion (Differs f) (funcs v)) us (λ v has.
          each_weaker (OriginIn v (numbers v)) (Differs f) (funcs v) (λ g theirs same. other v has (same_func u v named.0 (each_at IsModule us v named.1 has) its.0 theirs.0 f g its.2 theirs.2 same).0) (origins v (numbers v) (mine_at v)))))

  -- a member's function is there in each unit that it is a member of
  func_there : (u : List ℕ) → Contains units u → (n : ℕ) (p : Placed) → slice_get krate.items n ≡ Some p → Member u n → Symbol all (symbol u p)
  func_there u there n p at mine =
      let has = numbered_member krate tidy given.roots u given.reached given.once given.missing n mine in
      let formed = contains_filter_map (slice_get (forms krate level values)) (numbers u) n (form p) has (form_at n p at) in
      let made = contains_map (func_of u) (filter_map (slice_get (forms krate level values)) (numbers u)) (form p) formed in
      let object = contains_map (unit_object krate level values) units u there in
      symbol_there all (func_of u (form p)) (symbol u p) (contains_flat_map (λ (o : Object). o.funcs) (objects krate level values) (unit_object krate level values u) (func_of u (form p)) object made) (func_symbol u p)

  -- ---- Where no line is an error's.

  module _ (right : is_wrong krate values ≡ false) where
    -- what a member calls is there
    call_there : (u : List ℕ) → Contains units u → (n : ℕ) (p : Placed) → slice_get krate.items n ≡ Some p → Member u n
        → (k : ℕ) (q : Placed) → slice_get krate.items k ≡ Some q → ((the_item q).kind == 0) ≡ false → Contains (called_of krate p) (place_of q) → Symbol all (symbol u q)
    call_there u there n p at mine k q its kind has = elim (kind_cases (is_root_main q.«module» q.item.name) (definition q.item.body) kind) [
      | inl one ↦ subst (Symbol all) (ap (λ b. symbol_in q.«module» b (place_of q)) one.1 ∙ sym (ap (λ b. symbol_in u b (place_of q)) one.1)) (func_there q.«module» (own_unit krate tidy k q its one.0) k q its (own_member krate tidy k q its one.0))
      | inr two ↦ func_there u there k q its (callee_member krate tidy u n k p q at mine its two (or_right ((the_item q).kind == 1) ((the_item q).kind == 2) two) has)
    ]

    -- a call of a function of kind 2 says so
    call_copied : (q : Placed) (kind : ℕ) → kind ≡ (the_item q).kind → is_copied (kind == 2) (place_of q) ≡ is_inline (the_item q)
    call_copied q kind same =
        ap (λ (x : ℕ). (x == 2) && not (is_main (place_of q))) same
        ∙ ap (λ b. ((the_item q).kind == 2) && not b) (root_main q.«module» q.item.name)
        ∙ kind_copied (is_root_main q.«module» q.item.name) (definition q.item.body)

    named_there : (u : List ℕ) → Contains units u → (n : ℕ) (p : Placed) → slice_get krate.items n ≡ Some p → Member u n
        → (r : Place) (s : Sig) → Contains (called_of krate p) r → sig_at (place_name r) (sigs_of krate) ≡ Some s → (s.kind == 0) ≡ false → Named u (Symbol all) (s.kind == 2) r
    named_there u there n p at mine r s has known kind =
        let its = signed krate tidy (place_name r) s known in
        let place : place_of its.placed ≡ r = λ j. record { «module» = (its.named j).0; name = (its.named j).1 } in
        subst (λ (x : Place). Symbol all (symbol_in u (is_copied (s.kind == 2) x) x)) place
        (subst (λ b. Symbol all (symbol_in u b (place_of its.placed))) (sym (call_copied its.placed s.kind its.kind))
        (call_there u there n p at mine its.number its.placed its.at (ap (λ (x : ℕ). x == 0) (sym its.kind) ∙ kind) (subst (Contains (called_of krate p)) (sym place) has)))

    relocs_there : (u : List ℕ) → Contains units u → (n : ℕ) (p : Placed) → slice_get krate.items n ≡ Some p → Member u n → AllByRecursion (λ (r : ℕ × List ℕ). Symbol all r.1) (func_of u (form p)).relocs
    relocs_there u there n p at mine = relocs_named u (Symbol all) 0 (form p).1.code
        (lowered_calls (Named u (Symbol all)) items level (sigs_of krate) (consts_of (constants_of krate) values) p.«module» (found_of krate p) (value_at (constants_of krate) values (place_of p)) p.item.at p.item.name (definition p.item.body)
        (item_warns krate values right n p at) (named_there u there n p at mine))

    all_relocs : AllByRecursion (λ (f : ObjectFunc). AllByRecursion (λ (r : ℕ × List ℕ). Symbol all r.1) f.relocs) all
    all_relocs =
        each_flat_map (λ (f : ObjectFunc). AllByRecursion (λ (r : ℕ × List ℕ). Symbol all r.1) f.relocs) (λ (o : Object). o.funcs) (objects krate level values)
        (each_map (λ (o : Object). AllByRecursion (λ (f : ObjectFunc). AllByRecursion (λ (r : ℕ × List ℕ). Symbol all r.1) f.relocs) o.funcs) (unit_object krate level values) units
        (each_from (λ u. AllByRecursion (λ (f : ObjectFunc). AllByRecursion (λ (r : ℕ × List ℕ). Symbol all r.1) f.relocs) (funcs u)) units (λ u there.
        each_weaker (OriginIn u (numbers u)) (λ (f : ObjectFunc). AllByRecursion (λ (r : ℕ × List ℕ). Symbol all r.1) f.relocs) (funcs u)
        (λ f its. subst (λ (x : ObjectFunc). AllByRecursion (λ (r : ℕ × List ℕ). Symbol all r.1) x.relocs) (sym its.2.is) (relocs_there u there its.0 its.2.placed its.2.at its.2.member)) (origins u (numbers u) (mine_at u)))))

    -- the root's `main` is there
    main_symbol : Symbol all (codes "main")
    main_symbol =
        let x = main_there krate values right in
        let at = found_item ([], codes "main") items x.0 x.1 in
        let p = item_placed krate tidy at.0 x.0 at.1 in
        let name : place_in p.0 ≡ ([], codes "main") = ap item_name p.2 ∙ at.2 in
        let root : is_root_main p.0.«module» p.0.item.name ≡ true = ap (λ (n : Name). is_root_main n.0 n.1) name in
        let kinds = main_kind (definition p.0.item.body) (sym (ap (λ b. kind_of b (definition p.0.item.body) == 1 || kind_of b (definition p.0.item.body) == 2) root) ∙ ap is_function p.2 ∙ x.2) in
        let one : ((the_item p.0).kind == 1) ≡ true = ap (λ b. kind_of b (definition p.0.item.body) == 1) root ∙ kinds.0 in
        let plain : is_inline (the_item p.0) ≡ false = ap (λ b. kind_of b (definition p.0.item.body) == 2) root ∙ kinds.1 in
        subst (Symbol all)
        (ap (λ b. symbol_in p.0.«module» b (place_of p.0)) plain ∙ ap (λ (n : Name). symbol_of (record { «module» = n.0; name = n.1 })) name)
        (func_there p.0.«module» (own_unit krate tidy at.0 p.0 p.1 one) at.0 p.0 p.1 (own_member krate tidy at.0 p.0 p.1 one))

    pub objects_linked : IsDistinct bytes_eq (map unit_text units) → (image : List ℕ) × (linked all ≡ Ok image)
    objects_linked differ = links all (units_apart units units_named differ) all_relocs main_symbol
