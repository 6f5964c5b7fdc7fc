-- A tree of which all is known.
use Rattle.std.proofs.Common.{◌≡◌, ℕ, Bool, List, [], ◌∷◌, length, ap, subst, ◌∙◌, refl}
use Rattle.std.specs.Prelude.{Some, is_some, ◌+◌, ◌||◌, if◌then◌else◌}
use Rattle.std.specs.List.{list_any}
use Rattle.rs_tree.specs.declared.index.Index.{Index}
use Rattle.rs_tree.specs.declared.index.IndexItem.{IndexItem}
use Rattle.rs_tree.specs.declared.tree.Crate.{Crate}
use Rattle.rs_tree.specs.Plain.{plain_crate}
use Rattle.rs_lookup.specs.Places.{Name, place_from, same}
use Rattle.rs_names.specs.Indexed.{index_of}
use Rattle.rs_lines.specs.Lines.{in_order, printed_all}
use Rattle.rs_const.specs.Constants.{AreValues}
use Rattle.rs_units.specs.Units.{units_of}
use Rattle.rs_queries.specs.declared.compiled.Compiled.{Compiled}
use Rattle.rs_queries.specs.Built.{IsTreeCompiled, built_by}
use Rattle.rs_queries.specs.Diagnosed.{SaysTree, all_lines}
use Rattle.rs_queries.specs.Known.{items_of}
use Rattle.rs_queries.specs.State.{IsItemsCompiled, IsKnown, SaysItems}

pub among : (q : Name) (i : ℕ) (names : List Name) → is_some (place_from q i names) ≡ list_any (same q) names
among q i [] = refl
among q i (k ∷ ks) = by (same q k) (among q (i + 1) ks)
  where
    by : (b : Bool) → is_some (place_from q (i + 1) ks) ≡ list_any (same q) ks → is_some (if b then Some i else place_from q (i + 1) ks) ≡ (b || list_any (same q) ks)
    by Bool.true h = refl
    by Bool.false h = h

pub says_tree : (krate : Crate) (index : Index) (out : List ℕ) → index ≡ index_of (plain_crate krate) → SaysItems index.items krate.items out → SaysTree krate out
says_tree krate index out is s =
    let at : index.items ≡ items_of krate = ap (λ (x : Index). x.items) is in
    let its = subst (λ (items : List IndexItem). IsKnown items krate.items s.known) at s.are in
    record {
      values = s.known.values.items;
      are = subst (λ es. AreValues es s.known.values.items) its.constants its.values;
      says = s.says ∙ (λ j. printed_all (in_order (all_lines (at j) (its.sigs j) (its.constants j) s.known.values.items (its.answers j))));
    }

pub compiled_tree : (krate : Crate) (index : Index) (level : ℕ) (c : Compiled) → index ≡ index_of (plain_crate krate) → IsItemsCompiled index krate.items level c → IsTreeCompiled krate level c
compiled_tree krate index level c is s =
    let at : index.items ≡ items_of krate = ap (λ (x : Index). x.items) is in
    let its = subst (λ (items : List IndexItem). IsKnown items krate.items s.known) at s.are in
    record {
      values = s.known.values.items;
      are = subst (λ es. AreValues es s.known.values.items) its.constants its.values;
      says = s.says ∙ (λ j. printed_all (in_order (all_lines (at j) (its.sigs j) (its.constants j) s.known.values.items (its.answers j))));
      units = s.units ∙ ap (λ (x : Index). length (units_of x)) is;
      built = s.built ∙ (λ j. built_by (is j) (its.sigs j) (its.constants j) s.known.values.items (its.answers j) level);
    }
