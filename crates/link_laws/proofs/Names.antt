-- The names of units: those of modules, and `crate`, which no module is called.
use Rattle.std.proofs.Common.{◌≡◌, ℕ, ◌<◌, Bool, false, List, [], ◌∷◌, length, map, refl, sym, ◌∙◌, subst, arith, codes}
use Rattle.std.specs.List.{All, AllByRecursion, Contains, IsDistinct}
use Rattle.std.specs.Str.{bytes_eq}
use Rattle.std.proofs.lemmas.Bool.{false_from_ne_true}
use Rattle.std.proofs.lemmas.List.Elements.{All-from_recursion}
use Rattle.std.proofs.lemmas.List.Sums.{AllPass-from_list_all}
use Rattle.std.proofs.lemmas.Map.Keys.{IsDistinct-cons}
use Rattle.std.proofs.lemmas.Slice.Eq.{bytes_eq-Decides}
use Rattle.inc_base.specs.Texts.{IsName, is_name_byte}
use Rattle.rs_tree.specs.declared.tree.Crate.{Crate}
use Rattle.rs_grammar.specs.Tidy.{Distinct, IsNameOfLanguage, IsTidyCrate, NamesArePlain}
use Rattle.rs_emit.specs.Symbols.{unit_text}
use Rattle.rs_object.specs.declared.object.Object.{Object}
use Rattle.rs_units.specs.Units.{has_own, units_of}
use Rattle.rs_queries.specs.declared.compiled.Built.{Built}
use Rattle.rs_queries.specs.Built.{stored, tree_index}
use Rattle.rs_queries.specs.Known.{items_of}
use Rattle.link_laws.proofs.Lists.{distinct_made, each_at, each_filter, each_from, each_map, each_throughout, each_weaker, head_apart, none_distinct, rest_distinct}
use Rattle.link_laws.proofs.Makes.{Makes, objects, unit_object}

-- a name that isn't empty is its unit's text
pub own_text : (m : List ℕ) → 0 < length m → unit_text m ≡ m
own_text [] l = absurd (omega (arith, l))
own_text (b ∷ bs) l = refl

root_named : IsName (codes "crate")
root_named = record { some = omega arith; few = omega arith; each = AllPass-from_list_all is_name_byte (codes "crate") refl }

apart : (a b : List ℕ) → (a ≡ b → ⊥) → bytes_eq a b ≡ false
apart a b differ = false_from_ne_true (bytes_eq a b) (λ e. differ ((bytes_eq-Decides a b).0 e))

-- the texts of the units of objects, where each is that of its unit
texts_of : (made : List ℕ → Object) → ((u : List ℕ) → (made u).unit ≡ unit_text u) → (units : List (List ℕ)) → map (λ (o : List ℕ × List ℕ). o.0) (map stored (map made units)) ≡ map unit_text units
texts_of made is [] = refl
texts_of made is (u ∷ units) = (λ j. is u j ∷ texts_of made is units j)

abbrev same_text : List ℕ → List ℕ → Bool
same_text a b = bytes_eq (unit_text a) (unit_text b)

module _ (plain : NamesArePlain) where
  pub module_text : (m : List ℕ) → IsNameOfLanguage m → unit_text m ≡ m
  module_text m is = own_text m (plain m is).name.some

  text_named : (m : List ℕ) → IsNameOfLanguage m → IsName (unit_text m)
  text_named m is = subst IsName (sym (module_text m is)) (plain m is).name

  -- modules differ from each other, and from the root
  modules_differ : (ms : List (List ℕ)) → AllByRecursion IsNameOfLanguage ms → Distinct ms → IsDistinct same_text ms
  modules_differ [] named d = none_distinct same_text
  modules_differ (m ∷ ms) named d = IsDistinct-cons same_text m ms (heads ms named.1 (head_apart m ms d)) (modules_differ ms named.1 (rest_distinct m ms d))
    where
      here : unit_text m ≡ m
      here = module_text m named.0

      heads : (xs : List (List ℕ)) → AllByRecursion IsNameOfLanguage xs → ((y : List ℕ) → Contains xs y → m ≡ y → ⊥) → AllByRecursion (λ y. same_text m y ≡ false) xs
      heads xs are differ = each_from (λ y. same_text m y ≡ false) xs (λ y has. apart (unit_text m) (unit_text y) (λ e. differ y has (sym here ∙ e ∙ module_text y (each_at IsNameOfLanguage xs y are has))))

  root_differs : (ms : List (List ℕ)) → AllByRecursion IsNameOfLanguage ms → AllByRecursion (λ y. same_text [] y ≡ false) ms
  root_differs ms named = each_weaker IsNameOfLanguage (λ y. same_text [] y ≡ false) ms (λ y is. apart (codes "crate") (unit_text y) (λ e. (plain y is).other (sym (module_text y is) ∙ sym e))) named

  -- ---- The units of a tree.

  module _ (krate : Crate) (tidy : IsTidyCrate krate) where
    named : AllByRecursion IsNameOfLanguage krate.modules
    named = each_throughout IsNameOfLanguage krate.modules tidy.names

    pub texts_named : AllByRecursion (λ u. IsName (unit_text u)) (units_of (tree_index krate))
    texts_named = each_filter (λ u. IsName (unit_text u)) (has_own (items_of krate)) ([] ∷ krate.modules) (root_named, each_weaker IsNameOfLanguage (λ u. IsName (unit_text u)) krate.modules text_named named)

    pub texts_differ : IsDistinct bytes_eq (map unit_text (units_of (tree_index krate)))
    texts_differ = distinct_made bytes_eq unit_text (has_own (items_of krate)) ([] ∷ krate.modules) (IsDistinct-cons same_text [] krate.modules (root_differs krate.modules named) (modules_differ krate.modules named tidy.modules))

  module _ (level : ℕ) (b : Built) (m : Makes level b) where
    pub units_named : All (λ (o : List ℕ × List ℕ). IsName o.0) b.objects
    units_named = subst (λ (built : Built). All (λ (o : List ℕ × List ℕ). IsName o.0) built.objects) (sym m.output)
        (All-from_recursion (λ (o : List ℕ × List ℕ). IsName o.0) (map stored (objects m.krate level m.values))
        (each_map (λ (o : List ℕ × List ℕ). IsName o.0) stored (objects m.krate level m.values)
        (each_map (λ (o : Object). IsName o.unit) (unit_object m.krate level m.values) (units_of (tree_index m.krate)) (texts_named m.krate m.tidy))))

    pub units_differ : IsDistinct bytes_eq (map (λ (o : List ℕ × List ℕ). o.0) b.objects)
    units_differ = subst (λ (built : Built). IsDistinct bytes_eq (map (λ (o : List ℕ × List ℕ). o.0) built.objects)) (sym m.output)
        (subst (IsDistinct bytes_eq) (sym (texts_of (unit_object m.krate level m.values) (λ u. refl) (units_of (tree_index m.krate)))) (texts_differ m.krate m.tidy))
