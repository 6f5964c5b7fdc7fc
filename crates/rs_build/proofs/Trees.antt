-- What is compiled of a tree is put together from the values of its roots.
use Rattle.std.proofs.Common.{◌≡◌, ℕ, Bool, true, false, List, [], ◌∷◌, ◌++◌, length, drop, map, Option, Some, None, refl, sym, ap, ◌∙◌, subst, if◌then◌else◌, IfOk, IfSome, OnOk, Result, Ok, Err}
use Rattle.std.specs.Prelude.{fold, slice_index_or, unwrap_or}
use Rattle.inc_query.specs.declared.query.Query.{Query}
use Rattle.inc_engine.specs.Builds.{Setup}
use Rattle.inc_roots.specs.Asked.{AsksAll}
use Rattle.rs_tree.specs.declared.tree.Crate.{Crate}
use Rattle.rs_lines.specs.Lines.{Told, note, printed_all, told}
use Rattle.rs_object.specs.declared.object.Object.{Object}
use Rattle.rs_queries.specs.Built.{tree_index}
use Rattle.rs_queries.specs.declared.compiled.Compiled.{Compiled}
use Rattle.rs_plans.specs.Readings.{places_in}
use Rattle.rs_plans.specs.Steps.{whole}
use Rattle.rs_units.specs.Units.{units_of}
use Rattle.plan_laws.specs.Assembled.{AreObjects, IsAssembled, checks_of, object_query, products_of, roots_by, told_by, unused_lines}
use Rattle.rs_build.specs.Made.{AreObjectsOf, MadeOf}
use Rattle.rs_queries.proofs.Tellings.{errors_of, with_error, without_error}

-- where a line is an error's
pub refused_is : (v : Query → List ℕ) (krate : Crate) (t : Told) (units : ℕ) (c : Compiled) → t ≡ told (told_by v (tree_index krate) krate.items) → t.errors ≡ true
    → units ≡ length (units_of (tree_index krate)) → c ≡ record { diags = printed_all t.lines; units = units; built = None } → IsAssembled v krate c
refused_is v krate t units c is e many made =
    let own = told_by v (tree_index krate) krate.items in
    let has = errors_of own t true is e in
    record {
      says = ap (λ (d : Compiled). d.diags) made ∙ ap printed_all (with_error own (unused_lines (unwrap_or (places_in (v (whole 7))) []) krate.items) t is e);
      units = ap (λ (d : Compiled). d.units) made ∙ many;
      wrong = λ h. ap (λ (d : Compiled). d.built) made;
      right = λ h. absurd (let bad : true ≡ false = has ∙ h in cc);
    }

-- the values of units' objects, and the objects that they are
pub objects_are : (v : Query → List ℕ) (units : List (List ℕ)) (objects : List Object) → AreObjectsOf (map v (map object_query units)) objects → AreObjects v units objects
objects_are v [] [] h = tt
objects_are v [] (o ∷ os) h = absurd h
objects_are v (u ∷ us) [] h = absurd h
objects_are v (u ∷ us) (o ∷ os) h = (h.0, objects_are v us os h.1)

-- where none is
pub made_is : (v : Query → List ℕ) (krate : Crate) (t : Told) (units : ℕ) (values : List (List ℕ)) (c : Compiled) → t ≡ told (told_by v (tree_index krate) krate.items) → t.errors ≡ false
    → units ≡ length (units_of (tree_index krate)) → values ≡ map v (products_of (tree_index krate)) → MadeOf t krate.items units values c → IsAssembled v krate c
made_is v krate t units values c is e many have made =
    let own = told_by v (tree_index krate) krate.items in
    let has = errors_of own t false is e in
    let unused = unused_lines (unwrap_or (places_in (v (whole 7))) []) krate.items in
    let dead = ap (λ vs. fold note t (unused_lines (unwrap_or (places_in (slice_index_or vs 0 [])) []) krate.items)) have in
    record {
      says = made.says ∙ ap (λ (s : Told). printed_all s.lines) dead ∙ ap printed_all (without_error own unused t (fold note t unused) is e refl);
      units = made.units_are ∙ many;
      wrong = λ h. absurd (let bad : true ≡ false = sym h ∙ sym has in cc);
      right = λ h. (made.objects, objects_are v (units_of (tree_index krate)) made.objects (subst (λ vs. AreObjectsOf (drop 1 vs) made.objects) have made.are), made.built);
    }

-- the roots by whether a line is an error's
pub roots_are : (b : Setup) (v : Query → List ℕ) (krate : Crate) (t : Told) (errors : Bool) (old new : List Query) → t ≡ told (told_by v (tree_index krate) krate.items) → t.errors ≡ errors
    → AsksAll b (whole 1 ∷ checks_of (tree_index krate) ++ (if errors then [] else products_of (tree_index krate))) old new → AsksAll b (roots_by v krate) old new
roots_are b v krate t errors old new is e asks =
    subst (λ h. AsksAll b (whole 1 ∷ checks_of (tree_index krate) ++ (if h then [] else products_of (tree_index krate))) old new) (errors_of (told_by v (tree_index krate) krate.items) t errors is e) asks

-- what holds where there is an answer, of what it may be
pub some_weaker : {A E : Type 0} (P Q : A → Type 0) (r : Result (Option A) E) → ((a : A) → P a → Q a) → IfOk r (λ o. IfSome o P) → IfOk r (λ o. IfSome o Q)
some_weaker P Q (Ok (Some a)) f h = f a h
some_weaker P Q (Ok None) f h = tt
some_weaker P Q (Err e) f h = tt

pub ok_weaker : {A E : Type 0} (P Q : A → Type 0) (r : Result A E) → ((a : A) → P a → Q a) → IfOk r P → IfOk r Q
ok_weaker P Q (Ok a) f h = f a h
ok_weaker P Q (Err e) f h = tt

pub ok_of_three : {A E : Type 0} (P Q R S : A → Type 0) (r : Result A E) → ((a : A) → P a → Q a → R a → S a) → IfOk r P → IfOk r Q → IfOk r R → IfOk r S
ok_of_three P Q R S (Ok a) f p q r = f a p q r
ok_of_three P Q R S (Err e) f p q r = tt

pub on_ok : {A E P : Type 0} (r : Result A E) → P → OnOk r P
on_ok (Ok a) h = h
on_ok (Err e) h = tt
