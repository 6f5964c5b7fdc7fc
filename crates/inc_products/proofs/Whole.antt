-- Files that are all well are those of a graph and its values.
use Rattle.std.proofs.Common.{◌≡◌, ℕ, ◌+◌, true, List, [], ◌++◌, Some, Result, Ok, IfOk, sym, ap, ◌∙◌, subst, arith}
use Rattle.std.specs.Prelude.{slice_get, unwrap_or}
use Rattle.std.specs.List.{AllByRecursion}
use Rattle.std.specs.Option.{option_map_or}
use Rattle.inc_base.specs.declared.memory.Memory.{Memory}
use Rattle.inc_wire.specs.declared.header.Header.{Header}
use Rattle.inc_graph.specs.declared.node.Node.{Node}
use Rattle.inc_graph.specs.Forms.{cache_form, file_form}
use Rattle.inc_graph.specs.Graphs.{HasOrder}
use Rattle.inc_products.specs.declared.load.Loaded.{Loaded}
use Rattle.inc_products.specs.declared.load.Loaded.TheVariants as l
use Rattle.inc_products.specs.declared.part.Part.{Part}
use Rattle.inc_products.specs.declared.part.Part.TheVariants as part
use Rattle.inc_products.specs.Fronts.{IsGraphFile}
use Rattle.inc_products.specs.Loads.{HasValues, IsLoaded, bytes_at, objects_from}
use Rattle.inc_products.specs.Named.{AreOrdered, value_at}
use Rattle.inc_products.specs.Plans.{File}
use Rattle.inc_products.specs.Saved.{Value, bytes_of, cache_name, demanded, graph_name, is_kept_kind, is_object_kind, kept_of, kind_at, object_name, value_of}
use Rattle.inc_products.specs.Starts.{IsWell, IsWellCache, IsWhole}
use Rattle.inc_products.specs.Walks.{AreWell}
use Rattle.inc_products.proofs.Saving.{ObjectsWell, kept_part, kinds_pass, object_value, objects_are, past_kept}
use Rattle.inc_products.proofs.Matching.{IsDemand, demands_are, each_there, files_mapped, follows_all, matched, some_is, well_there}
use Rattle.inc_products.proofs.Naming.{cache_there, object_there}
use Rattle.inc_products.proofs.Ordering.{saved_ordered}

module _ (want : Header) (nodes : List Node) (files : List File) (graph : IsGraphFile want (value_at graph_name files) nodes) (s : AreOrdered files) (well : AreWell (IsWell want nodes) (demanded nodes) files) where
  cache : (bytes : List ℕ) × ((value_at cache_name files ≡ Some bytes) × IsWellCache want nodes bytes)
  cache = well_there (IsWell want nodes) cache_name part.Cache (demanded nodes) files well (cache_there nodes)

  objects_well : ObjectsWell files nodes
  objects_well j n at is = well_there (IsWell want nodes) (object_name n.query.module) (part.Object j) (demanded nodes) files well (object_there nodes graph.fits.more j n at is)

  abbrev kept : List Value
  kept = cache.1.1.values

  abbrev objects : List Value
  objects = objects_from files 0 nodes

  kept_kinds : AllByRecursion (λ (v : Value). is_kept_kind (kind_at nodes v.0) ≡ true) kept
  kept_kinds = kinds_pass nodes is_kept_kind 0 nodes kept (follows_all nodes) cache.1.1.kept

  object_kinds : AllByRecursion (λ (v : Value). is_object_kind (kind_at nodes v.0) ≡ true) objects
  object_kinds = kinds_pass nodes is_object_kind 0 nodes objects (follows_all nodes) (objects_are files nodes objects_well 0 nodes (follows_all nodes)).0

  module _ (values : List Value) (has : HasValues nodes files values) where
    values_are : values ≡ kept ++ objects
    values_are = has want kept cache.1.1.fits (cache.1.0 ∙ ap Some cache.1.1.whole)

    kept_same : kept_of nodes values ≡ kept
    kept_same = ap (kept_of nodes) values_are ∙ kept_part nodes kept objects kept_kinds object_kinds

    object_same : (i : ℕ) (n : Node) → slice_get nodes i ≡ Some n → is_object_kind n.query.kind ≡ true → value_of values i ≡ bytes_at (object_name n.query.module) files
    object_same i n at is =
        let kind : is_object_kind (kind_at nodes i) ≡ true = ap (λ o. is_object_kind (option_map_or (λ (m : Node). m.query.kind) o 0)) at ∙ is in
        let place : i ≡ 0 + i = omega arith in
        ap (λ vs. value_of vs i) values_are ∙ past_kept nodes kept objects kept_kinds i kind ∙ ap (value_of objects) place ∙ object_value files 0 nodes i n at is

    determined : (name : List ℕ) (p : Part) (x : File) → IsDemand nodes (name, p) → value_at x.0 files ≡ Some x.1 → name ≡ x.0 → IsWell want nodes p x.1 → x.1 ≡ bytes_of want nodes values p
    determined name part.Graph x d t same w = some_is (sym t ∙ ap (λ n. value_at n files) (sym same ∙ d) ∙ graph.there)
    determined name part.Cache x d t same w =
        some_is (sym t ∙ ap (λ n. value_at n files) (sym same ∙ d) ∙ cache.1.0) ∙ cache.1.1.whole ∙ ap (λ vs. file_form cache_form (want, vs)) (sym kept_same)
    determined name part.Products x d t same w = w
    determined name (part.Object i) x d t same w =
        let at : value_at (object_name d.0.query.module) files ≡ Some x.1 = ap (λ n. value_at n files) (sym d.1.1.1 ∙ same) ∙ t in
        sym (object_same i d.0 d.1.0 d.1.1.0 ∙ ap (λ o. unwrap_or o []) at)

    whole : IsWhole want files nodes values
    whole =
        let are = objects_are files nodes objects_well 0 nodes (follows_all nodes) in
        record {
          graph = graph.fits;
          saved = record {
            kept = kept;
            objects = objects;
            made = values_are;
            fits = cache.1.1.fits;
            are_kept = cache.1.1.kept;
            are_objects = are.0;
            each = are.1;
            order = subst HasOrder (sym values_are) (saved_ordered nodes graph.fits.more.ascend kept objects cache.1.1.fits.value.more are.0 kept_kinds object_kinds);
          };
          whole = matched (IsWell want nodes) (IsDemand nodes) (λ (y : File). value_at y.0 files ≡ Some y.1) (bytes_of want nodes values) (λ p x d t same w. determined p.0 p.1 x d t same w) (demanded nodes) files (demands_are nodes) (each_there files s) well ∙ files_mapped want nodes values;
        }

-- what an answer says, once it is known which
pub whole_loaded : (want : Header) (nodes : List Node) (files : List File) (r : Result Loaded Memory) (came : Loaded) (values : List Value) → IsGraphFile want (value_at graph_name files) nodes → r ≡ Ok came → came ≡ l.Whole values → IfOk r (IsLoaded want nodes files) → IsWhole want files nodes values
whole_loaded want nodes files r came values graph ok is loaded =
    let it = subst (IsLoaded want nodes files) is (subst (λ z. IfOk z (IsLoaded want nodes files)) ok loaded) in
    whole want nodes files graph it.0 it.1.0 values it.1.1
