-- The objects of a bounded tree's units are in the ranges of their types.
use Rattle.std.proofs.Common.{◌≡◌, ℕ, ◌+◌, ◌*◌, ◌≤◌, Bool, true, false, codes, List, [], ◌∷◌, ◌++◌, length, map, Option, Some, None, refl, arith}
use Rattle.std.specs.Prelude.{if◌then◌else◌, filter, slice_get}
use Rattle.std.specs.List.{AllByRecursion, cons_option, filter_map}
use Rattle.std.specs.Str.{bytes_eq}
use Rattle.std.proofs.lemmas.List.{length-append, length-map}
use Rattle.std.proofs.lemmas.List.Sums.{count_by-le-length, length-filter}
use Rattle.inc_wire.specs.Fits.{Each, FitsText}
use Rattle.rs_tree.specs.declared.answers.Const.{Const}
use Rattle.rs_tree.specs.declared.index.IndexItem.{IndexItem}
use Rattle.rs_tree.specs.declared.ir.Instr.{Instr}
use Rattle.rs_tree.specs.declared.ir.Instr.TheVariants as i
use Rattle.rs_tree.specs.declared.ir.Ir.{Ir}
use Rattle.rs_tree.specs.declared.place.Place.{Place}
use Rattle.rs_tree.specs.declared.tree.Crate.{Crate}
use Rattle.rs_tree.specs.Plain.{plain_placed}
use Rattle.rs_answers.specs.Fits.{FitsConst}
use Rattle.rs_lower.proofs.Sound.{each_append}
use Rattle.rs_names.specs.Indexed.{index_item}
use Rattle.rs_reach.specs.Dead.{numbers_where}
use Rattle.rs_units.specs.Members.{is_among, is_inline, member_numbers, search_of}
use Rattle.rs_units.specs.Units.{has_own, is_own, units_of}
use Rattle.rs_object.specs.Fits.{FitsFunc, FitsObject, FitsReloc}
use Rattle.rs_emit.specs.Code.{size, sizes}
use Rattle.rs_emit.specs.Laws.{CodeHasLength, RelocsAreRight}
use Rattle.rs_emit.specs.Objects.{func_of, object_of}
use Rattle.rs_emit.specs.Symbols.{is_copied, reloc_of, relocs_from, symbol_in, symbol_of, unit_text}
use Rattle.rs_queries.specs.Built.{consts_of, form_of, members_in, tree_index}
use Rattle.rs_queries.specs.Diagnosed.{calls_of}
use Rattle.rs_queries.specs.Known.{all_answered, constants_of, items_of, sigs_of}
use Rattle.link_laws.proofs.Lists.{at_number, each_at, each_filter, each_filter_map, each_from, each_weaker}
use Rattle.plan_laws.specs.Roots.{unit_object}
use Rattle.range_laws.specs.Bounded.{BoundedCrate, IsShort, most}
use Rattle.range_laws.proofs.Emitted.{relocs_few, sizes_small}
use Rattle.range_laws.proofs.Formed.{IsBoundedForm, forms_bounded}
use Rattle.range_laws.proofs.Founds.{consts_fit, none_short}
use Rattle.range_laws.proofs.Instructions.{IsFine}
use Rattle.range_laws.proofs.Named.{IsShortPlace}

-- ---- Symbols.

symbol_short : (p : Place) → IsShortPlace p → length (symbol_of p) ≤ 2 * most + 2
symbol_short p h = by (bytes_eq [] p.module)
  where
    two : length (codes "::") ≡ 2
    two = refl

    by : (b : Bool) → length (if b then p.name else p.module ++ codes "::" ++ p.name) ≤ 2 * most + 2
    by true = let n = h.name in omega (arith, n)
    by false = let m = h.module in let n = h.name in omega (arith, m, n, two, length-append (p.module ++ codes "::") p.name, length-append p.module (codes "::"))

unit_short : (unit : List ℕ) → IsShort unit → IsShort (unit_text unit)
unit_short unit h = by (bytes_eq [] unit)
  where
    five : length (codes "crate") ≡ 5
    five = refl

    by : (b : Bool) → IsShort (if b then codes "crate" else unit)
    by true = omega (arith, five)
    by false = h

symbol_fits : (unit : List ℕ) → IsShort unit → (copied : Bool) (p : Place) → IsShortPlace p → FitsText (symbol_in unit copied p)
symbol_fits unit home false p h = let s = symbol_short p h in omega (arith, s)
symbol_fits unit home true p h =
    let s = symbol_short p h in
    let u = unit_short unit home in
    let one : length (codes "@") ≡ 1 = refl in
    omega (arith, s, u, one, length-append (symbol_of p ++ codes "@") (unit_text unit), length-append (symbol_of p) (codes "@"))

-- ---- Functions.

module _ (unit : List ℕ) (home : IsShort unit) where
  reloc_fits : (n at : ℕ) (x : Instr) → IsFine n IsShortPlace x → at + size x ≤ 54 * most → Each FitsReloc (reloc_of unit at x)
  reloc_fits n at (i.Push value) h few = tt
  reloc_fits n at (i.Load slot) h few = tt
  reloc_fits n at (i.Store slot) h few = tt
  reloc_fits n at (i.Plain code) h few = tt
  reloc_fits n at (i.Jump code label) h few = tt
  reloc_fits n at (i.Label label) h few = tt
  reloc_fits n at (i.Call inline p) h few = ((omega (arith, few), symbol_fits unit home (is_copied inline p) p h), tt)

  relocs_fit : (n at : ℕ) (xs : List Instr) → Each (IsFine n IsShortPlace) xs → at + sizes xs ≤ 54 * most → Each FitsReloc (relocs_from unit at xs)
  relocs_fit n at [] h few = tt
  relocs_fit n at (x ∷ xs) h few =
      each_append FitsReloc (reloc_of unit at x) (relocs_from unit (at + size x) xs) (reloc_fits n at x h.0 (omega (arith, few))) (relocs_fit n (at + size x) xs h.1 (omega (arith, few)))

  module _ (long : CodeHasLength) (right : RelocsAreRight) where
    func_fits : (m : Place × Ir) → IsBoundedForm m → FitsFunc (func_of unit m)
    func_fits m h =
        let s = h.ir.short in
        let l = long m.1.code in
        let small = sizes_small m.1.code in
        let few = relocs_few unit 0 m.1.code in
        record {
          fits = record {
            symbol = symbol_fits unit home (is_copied m.1.inline m.0) m.0 h.place;
            params = h.ir.fits.params;
            slots = h.ir.fits.slots;
            code = omega (arith, s, l, small);
            relocs = record { few = omega (arith, few, s); each = relocs_fit h.ir.labels 0 m.1.code h.ir.fine (omega (arith, small, s)) };
          };
          more = right unit m;
        }

    funcs_fit : (ms : List (Place × Ir)) → AllByRecursion IsBoundedForm ms → Each FitsFunc (map (func_of unit) ms)
    funcs_fit [] h = tt
    funcs_fit (m ∷ ms) h = (func_fits m h.0, funcs_fit ms h.1)

    object_fits : (ms : List (Place × Ir)) → AllByRecursion IsBoundedForm ms → length ms ≤ 2 * most → FitsObject (object_of unit ms)
    object_fits ms h few =
        let u = unit_short unit home in
        let l = length-map ms (func_of unit) in
        record { unit = omega (arith, u); funcs = record { few = omega (arith, few, l); each = funcs_fit ms h } }

-- ---- Members.

few_numbers : (p : IndexItem → Bool) (k : ℕ) (xs : List IndexItem) → length (numbers_where p k xs) ≤ length xs
few_numbers p k [] = omega arith
few_numbers p k (x ∷ xs) = by (p x) (few_numbers p (k + 1) xs)
  where
    by : (b : Bool) → length (numbers_where p (k + 1) xs) ≤ length xs → length (if b then k ∷ numbers_where p (k + 1) xs else numbers_where p (k + 1) xs) ≤ length (x ∷ xs)
    by true h = omega (arith, h)
    by false h = omega (arith, h)

few_given : {X Y : Type 0} (f : X → Option Y) (xs : List X) → length (filter_map f xs) ≤ length xs
few_given f [] = omega arith
few_given {X} {Y} f (x ∷ xs) = by (f x) (few_given f xs)
  where
    by : (o : Option Y) → length (filter_map f xs) ≤ length xs → length (cons_option o (filter_map f xs)) ≤ length (x ∷ xs)
    by None h = omega (arith, h)
    by (Some y) h = omega (arith, h)

few_members : (items : List IndexItem) (calls : List (Place × List Place)) (forms : List (Place × Ir)) (unit : List ℕ) → length (members_in items calls forms unit) ≤ 2 * length items
few_members items calls forms unit =
    let own = numbers_where (is_own unit) 0 items in
    let other = numbers_where is_inline 0 items in
    let found = is_among (search_of unit items calls).found in
    omega (
      arith,
      few_given (slice_get forms) (member_numbers unit items calls),
      length-append own (filter found other),
      few_numbers (is_own unit) 0 items,
      length-filter found other,
      count_by-le-length found other,
      few_numbers is_inline 0 items,
    )

members_bounded : (items : List IndexItem) (calls : List (Place × List Place)) (forms : List (Place × Ir)) (unit : List ℕ) → AllByRecursion IsBoundedForm forms → AllByRecursion IsBoundedForm (members_in items calls forms unit)
members_bounded items calls forms unit h =
    each_filter_map IsBoundedForm (slice_get forms) (member_numbers unit items calls)
    (each_from (λ k. (m : Place × Ir) → slice_get forms k ≡ Some m → IsBoundedForm m) (member_numbers unit items calls) (λ k has m e. each_at IsBoundedForm forms m h (at_number forms k m e)))

-- ---- Units.

pub each_object : CodeHasLength → RelocsAreRight → (krate : Crate) (level : ℕ) (values : List Const) → BoundedCrate krate → AllByRecursion FitsConst values
    → AllByRecursion (λ u. FitsObject (unit_object krate level values u)) (units_of (tree_index krate))
each_object long right krate level values bounded fits = each_weaker IsShort (λ u. FitsObject (unit_object krate level values u)) (units_of (tree_index krate)) object units
  where
    items : List IndexItem
    items = items_of krate

    calls : List (Place × List Place)
    calls = map (calls_of items) (all_answered krate)

    forms : List (Place × Ir)
    forms = map (form_of level (sigs_of krate) (consts_of (constants_of krate) values)) (all_answered krate)

    all : AllByRecursion IsBoundedForm forms
    all = forms_bounded level items (sigs_of krate) (consts_of (constants_of krate) values) (consts_fit (constants_of krate) values fits) krate.items bounded.items

    few : length items ≤ most
    few = let l = length-map krate.items plain_placed in let m = length-map (map plain_placed krate.items) index_item in let f = bounded.few_items in omega (arith, l, m, f)

    object : (u : List ℕ) → IsShort u → FitsObject (unit_object krate level values u)
    object u short = object_fits u short long right (members_in items calls forms u) (members_bounded items calls forms u all) (omega (arith, few, few_members items calls forms u))

    units : AllByRecursion IsShort (units_of (tree_index krate))
    units = each_filter IsShort (has_own items) ([] ∷ krate.modules) (none_short, bounded.modules)
