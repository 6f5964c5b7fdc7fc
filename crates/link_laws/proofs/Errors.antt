-- Where no line of a tree is an error's, nothing of an item is an error, and the root has its `main`.
use Rattle.std.proofs.Common.{◌≡◌, ℕ, ◌||◌, zero, suc, Bool, true, false, not, cond, List, [], ◌∷◌, ◌++◌, map, fold, Option, Some, None, refl, sym, ap, ◌∙◌, arith, codes}
use Rattle.std.specs.Prelude.{slice_get}
use Rattle.std.specs.BTreeSet.{insert_key}
use Rattle.std.specs.List.{Contains, flat_map, list_any}
use Rattle.std.specs.Option.{option_map_or}
use Rattle.std.specs.Ordering.{match_ordering, nat_cmp, ordering_then}
use Rattle.std.specs.FinMap.{nat_cmp-IsAntisymmetric}
use Rattle.std.specs.declared.cmp.Ordering.{Ordering}
use Rattle.std.specs.declared.cmp.Ordering.TheVariants as o
use Rattle.std.proofs.lemmas.Bool.{or_parts}
use Rattle.std.proofs.lemmas.List.Folds.{list_any-append}
use Rattle.rs_tree.specs.declared.answers.Const.{Const}
use Rattle.rs_tree.specs.declared.answers.Diag.{Diag}
use Rattle.rs_tree.specs.declared.index.IndexItem.{IndexItem}
use Rattle.rs_tree.specs.declared.place.At.{At}
use Rattle.rs_tree.specs.declared.tree.Crate.{Crate}
use Rattle.rs_tree.specs.declared.tree.Placed.{Placed}
use Rattle.rs_tree.specs.Order.{diag_cmp, text_cmp}
use Rattle.rs_tree.specs.Plain.{definition}
use Rattle.rs_tree.proofs.Orders.{diag_same}
use Rattle.rs_diag.specs.Faults.{diag}
use Rattle.rs_diag.specs.Faults.Wrong.{NoMain}
use Rattle.rs_check.specs.Items.{body_wrongs, lines}
use Rattle.rs_lines.specs.Lines.{has_error, in_order, is_warning, line_cmp, line_of}
use Rattle.rs_lines.specs.declared.line.Line.{Line}
use Rattle.rs_names.specs.Resolved.{answers_of, item_at}
use Rattle.rs_reach.specs.Dead.{is_function}
use Rattle.rs_queries.specs.Diagnosed.{all_item_lines, has_main, item_lines, main_lines}
use Rattle.rs_queries.specs.Known.{Answered, all_answered, answered, constants_of, items_of, place_of, sigs_of, value_at}
use Rattle.link_laws.proofs.Lists.{at_number}
use Rattle.link_laws.proofs.Makes.{is_wrong}
use Rattle.link_laws.proofs.Places.{got_map}
use Rattle.link_laws.proofs.Calls.{Warns, is_fault}

-- ---- Lists in order, each element once.

or_false : (a : Bool) → (a || false) ≡ a
or_false true = refl
or_false false = refl

or_swap : (a b : Bool) → (a || b) ≡ (b || a)
or_swap true true = refl
or_swap true false = refl
or_swap false true = refl
or_swap false false = refl

or_group : (a b c : Bool) → (a || (b || c)) ≡ ((a || b) || c)
or_group true b c = refl
or_group false b c = refl

or_again : (a b : Bool) → (a || b) ≡ ((a || b) || a)
or_again true b = refl
or_again false true = refl
or_again false false = refl

module _ {K : Type 0} (cmp : K → K → Ordering) (bad : K → Bool) (same : (a b : K) → cmp a b ≡ o.Equal → bad a ≡ bad b) where
  inserted : (ks : List K) (k : K) → list_any bad (insert_key cmp ks k) ≡ (list_any bad ks || bad k)
  inserted [] k = or_false (bad k)
  inserted (x ∷ ks) k = by (cmp k x) refl (inserted ks k)
    where
      by : (r : Ordering) → cmp k x ≡ r → list_any bad (insert_key cmp ks k) ≡ (list_any bad ks || bad k)
          → list_any bad (match_ordering r (k ∷ x ∷ ks) (x ∷ ks) (x ∷ insert_key cmp ks k)) ≡ ((bad x || list_any bad ks) || bad k)
      by o.Less e more = or_swap (bad k) (bad x || list_any bad ks)
      by o.Equal e more = or_again (bad x) (list_any bad ks) ∙ ap (λ b. (bad x || list_any bad ks) || b) (sym (same k x e))
      by o.Greater e more = ap (λ b. bad x || b) more ∙ or_group (bad x) (list_any bad ks) (bad k)

  ordered_from : (ks ds : List K) → list_any bad (fold (insert_key cmp) ks ds) ≡ (list_any bad ks || list_any bad ds)
  ordered_from ks [] = sym (or_false (list_any bad ks))
  ordered_from ks (d ∷ ds) = ordered_from (insert_key cmp ks d) ds ∙ ap (λ b. b || list_any bad ds) (inserted ks d) ∙ sym (or_group (list_any bad ks) (bad d) (list_any bad ds))

  -- what passes the test is there before and after
  pub ordered : (ds : List K) → list_any bad (fold (insert_key cmp) [] ds) ≡ list_any bad ds
  ordered ds = ordered_from [] ds

diags_same : (a b : Diag) → diag_cmp a b ≡ o.Equal → is_fault a ≡ is_fault b
diags_same a b e = ap is_fault (diag_same a b e)

then_second : (a b : Ordering) → ordering_then a b ≡ o.Equal → b ≡ o.Equal
then_second o.Less b e = absurd cc
then_second o.Equal b e = e
then_second o.Greater b e = absurd cc

then_first : (a b : Ordering) → ordering_then a b ≡ o.Equal → a ≡ o.Equal
then_first o.Less b e = absurd cc
then_first o.Equal b e = refl
then_first o.Greater b e = absurd cc

lines_same : (a b : Line) → line_cmp a b ≡ o.Equal → not (is_warning a.code) ≡ not (is_warning b.code)
lines_same a b e =
    let after_line = then_second (nat_cmp a.line b.line) (ordering_then (nat_cmp a.column b.column) (ordering_then (nat_cmp a.code b.code) (text_cmp a.text b.text))) e in
    let after_column = then_second (nat_cmp a.column b.column) (ordering_then (nat_cmp a.code b.code) (text_cmp a.text b.text)) after_line in
    ap (λ n. not (is_warning n)) (nat_cmp-IsAntisymmetric a.code b.code (then_first (nat_cmp a.code b.code) (text_cmp a.text b.text) after_column))

pub has_error_in_order : (ls : List Line) → has_error (in_order ls) ≡ has_error ls
has_error_in_order ls = ordered line_cmp (λ (l : Line). not (is_warning l.code)) lines_same ls

-- ---- Lines of items.

lined : (base : At) (ds : List Diag) → has_error (map (line_of base) ds) ≡ list_any is_fault ds
lined base [] = refl
lined base (d ∷ ds) = ap (λ b. is_fault d || b) (lined base ds)

none_parts : {Y : Type 0} (bad : Y → Bool) (xs ys : List Y) → list_any bad (xs ++ ys) ≡ false → (list_any bad xs ≡ false) × (list_any bad ys ≡ false)
none_parts bad xs ys e = or_parts (list_any bad xs) (list_any bad ys) (sym (list_any-append bad xs ys) ∙ e)

none_in : {X Y : Type 0} (bad : Y → Bool) (make : X → List Y) (xs : List X) (x : X) → list_any bad (flat_map make xs) ≡ false → Contains xs x → list_any bad (make x) ≡ false
none_in bad make [] x e h = absurd (omega (arith, h.1))
none_in bad make (y ∷ xs) x e (zero, l, is) = ap (λ z. list_any bad (make z)) (sym is) ∙ (none_parts bad (make y) (flat_map make xs) e).0
none_in bad make (y ∷ xs) x e (suc k, l, is) = none_in bad make xs x (none_parts bad (make y) (flat_map make xs) e).1 (k, omega (arith, l), is)

-- the line of a text without a `main`
abbrev main_line : Line
main_line = line_of (record { line = 1; column = 1 }) (diag (record { line = 0; column = 0 }) NoMain)

module _ (krate : Crate) (values : List Const) (right : is_wrong krate values ≡ false) where
  halves : (has_error (main_lines (items_of krate)) ≡ false) × (has_error (all_item_lines (items_of krate) (sigs_of krate) (constants_of krate) values (all_answered krate)) ≡ false)
  halves =
      let mains = main_lines (items_of krate) in
      let its = all_item_lines (items_of krate) (sigs_of krate) (constants_of krate) values (all_answered krate) in
      or_parts (has_error mains) (has_error its) (sym (list_any-append (λ (l : Line). not (is_warning l.code)) mains its) ∙ right)

  -- nothing is wrong with an item but for warnings, in order
  pub lines_warn : (i : ℕ) (p : Placed) → slice_get krate.items i ≡ Some p
      → list_any is_fault (lines (body_wrongs (items_of krate) (sigs_of krate) p.«module» (answers_of (items_of krate) p.«module» (definition p.item.body)) (value_at (constants_of krate) values (place_of p)) p.item.at p.item.name (definition p.item.body))) ≡ false
  lines_warn i p e =
      let items = items_of krate in
      let a : Answered = answered items p in
      let ds = body_wrongs items (sigs_of krate) p.«module» a.1 (value_at (constants_of krate) values (place_of p)) p.item.at p.item.name (definition p.item.body) in
      let here = none_in (λ (l : Line). not (is_warning l.code)) (λ (a : Answered). item_lines items (sigs_of krate) (value_at (constants_of krate) values (place_of a.0)) a) (all_answered krate) a halves.1 (at_number (all_answered krate) i a (got_map (answered items) krate.items i p e)) in
      sym (lined p.start (lines ds)) ∙ here

  -- and as they are told
  pub item_warns : (i : ℕ) (p : Placed) → slice_get krate.items i ≡ Some p
      → Warns (body_wrongs (items_of krate) (sigs_of krate) p.«module» (answers_of (items_of krate) p.«module» (definition p.item.body)) (value_at (constants_of krate) values (place_of p)) p.item.at p.item.name (definition p.item.body))
  item_warns i p e =
      let ds = body_wrongs (items_of krate) (sigs_of krate) p.«module» (answers_of (items_of krate) p.«module» (definition p.item.body)) (value_at (constants_of krate) values (place_of p)) p.item.at p.item.name (definition p.item.body) in
      record { none = sym (ordered diag_cmp is_fault diags_same ds) ∙ lines_warn i p e }

  -- the root has a function `main`
  pub main_there : (x : IndexItem) × (item_at ([], codes "main") (items_of krate) ≡ Some x) × (is_function x ≡ true)
  main_there = by (has_main (items_of krate)) refl halves.0
    where
      item : (found : Option IndexItem) → item_at ([], codes "main") (items_of krate) ≡ found → option_map_or is_function found false ≡ true → (x : IndexItem) × (item_at ([], codes "main") (items_of krate) ≡ Some x) × (is_function x ≡ true)
      item None e h = absurd cc
      item (Some x) e h = (x, e, h)

      by : (b : Bool) → has_main (items_of krate) ≡ b → has_error (cond b [] (main_line ∷ [])) ≡ false → (x : IndexItem) × (item_at ([], codes "main") (items_of krate) ≡ Some x) × (is_function x ≡ true)
      by true e h = item (item_at ([], codes "main") (items_of krate)) refl e
      by false e h = absurd (let bad : true ≡ false = h in cc)
