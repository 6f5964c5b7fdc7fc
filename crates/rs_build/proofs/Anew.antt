-- Where there is no earlier build, each object is made anew.
use Rattle.std.proofs.Common.{◌≡◌, ◌≢◌, ℕ, ◌<◌, ◌≤◌, Bool, true, false, cond, List, [], ◌∷◌, ◌++◌, map, length, refl, sym, ◌∙◌, ap, subst, arith, if◌then◌else◌}
use Rattle.std.specs.Prelude.{filter, Result, Ok, Err, None}
use Rattle.std.specs.List.{All, AllByRecursion, count_by}
use Rattle.std.proofs.lemmas.List.{length-map}
use Rattle.std.proofs.lemmas.List.Elements.{All-from_recursion}
use Rattle.std.proofs.lemmas.List.Sums.{length-filter}
use Rattle.inc_base.specs.declared.job.Compiler.{Compiler}
use Rattle.inc_query.specs.Plans.{Plan, ReadsFit}
use Rattle.inc_query.specs.declared.query.Query.{Query}
use Rattle.inc_query.specs.Ticks.{rise}
use Rattle.inc_graph.specs.Graphs.{queries_of}
use Rattle.inc_graph.specs.declared.node.Node.{Node}
use Rattle.inc_engine.specs.Builds.{setup, stale}
use Rattle.inc_engine.specs.Marking.{Distinct}
use Rattle.inc_roots.specs.Fresh.{is_of}
use Rattle.inc_roots.specs.Rooted.{graph_of}
use Rattle.rs_tree.specs.declared.index.Index.{Index}
use Rattle.rs_tree.specs.declared.index.IndexItem.{IndexItem}
use Rattle.rs_tree.specs.declared.tree.Crate.{Crate}
use Rattle.rs_grammar.specs.Tidy as tidy
use Rattle.rs_grammar.specs.Tidy.{IsNameOfLanguage, IsTidyCrate, NamesArePlain, TreesAreTidy}
use Rattle.rs_text.specs.Laws.{TextIs}
use Rattle.rs_text.specs.Text.{text_of}
use Rattle.rs_text.specs.declared.fault.TextFault.{TextFault}
use Rattle.rs_lines.specs.Lines.{has_error}
use Rattle.rs_object.specs.Fits.{FitsObject}
use Rattle.rs_object.specs.Forms.{object_form}
use Rattle.rs_object.specs.declared.object.Object.{Object}
use Rattle.rs_units.specs.Units.{has_own, units_of}
use Rattle.rs_queries.specs.Built.{emitted, emitted_by, output_of, stored, tree_index}
use Rattle.rs_queries.specs.declared.compiled.Compiled.{Compiled}
use Rattle.rs_plans.specs.Plans.{plan_of}
use Rattle.rs_plans.specs.Steps.{whole}
use Rattle.link_laws.proofs.Lists.{each_at, each_from, each_throughout, head_apart, rest_distinct}
use Rattle.plan_laws.specs.Assembled.{AreObjects, IsAssembled, check_query, checks_of, object_query, products_of, roots_by, roots_read, told_by}
use Rattle.plan_laws.proofs.Index.{tidy_tree}
use Rattle.rs_provider.specs.Kept.{is_kept}
use Rattle.rs_build.specs.Over.{IsOver, IsReadAssembled, begun, reached_graph, roots_of, setting_of, setup_of, value_of}
use Rattle.rs_build.proofs.Values.{same_length}

-- ---- Units differ.

-- objects of modules that differ are different queries
objects_apart : (keep : List ℕ → Bool) (m : List ℕ) (ms : List (List ℕ)) → AllByRecursion (λ n. m ≡ n → ⊥) ms → AllByRecursion (λ r. r ≢ object_query m) (map object_query (filter keep ms))
objects_apart keep m [] h = tt
objects_apart keep m (n ∷ ms) h = by (keep n) (objects_apart keep m ms h.1)
  where
    by : (b : Bool) → AllByRecursion (λ r. r ≢ object_query m) (map object_query (filter keep ms)) → AllByRecursion (λ r. r ≢ object_query m) (map object_query (cond b (n ∷ filter keep ms) (filter keep ms)))
    by true more = ((λ e. h.0 (sym (ap (λ (q : Query). q.«module») e))), more)
    by false more = more

-- each module differs from those after it
abbrev AreApart : List (List ℕ) → Type 0
AreApart [] = Unit {0}
AreApart (m ∷ ms) = AllByRecursion (λ n. m ≡ n → ⊥) ms × AreApart ms

objects_differ : (keep : List ℕ → Bool) (ms : List (List ℕ)) → AreApart ms → Distinct (map object_query (filter keep ms))
objects_differ keep [] h = tt
objects_differ keep (m ∷ ms) h = by (keep m) (objects_differ keep ms h.1)
  where
    by : (b : Bool) → Distinct (map object_query (filter keep ms)) → Distinct (map object_query (cond b (m ∷ filter keep ms) (filter keep ms)))
    by true more = (objects_apart keep m ms h.0, more)
    by false more = more

modules_apart : (ms : List (List ℕ)) → tidy.Distinct ms → AreApart ms
modules_apart [] d = tt
modules_apart (m ∷ ms) d = (each_from (λ n. m ≡ n → ⊥) ms (head_apart m ms d), modules_apart ms (rest_distinct m ms d))

not_root : NamesArePlain → (m : List ℕ) → IsNameOfLanguage m → [] ≡ m → ⊥
not_root plain m is e = (let some : 0 < length m = (plain m is).name.some in let none : 0 ≡ length m = ap length e in absurd (omega (arith, some, none)))

units_differ : NamesArePlain → (krate : Crate) → IsTidyCrate krate → Distinct (map object_query (units_of (tree_index krate)))
units_differ plain krate is =
    objects_differ (has_own (tree_index krate).items) ([] ∷ krate.modules)
    (each_from (λ n. [] ≡ n → ⊥) krate.modules (λ n has. not_root plain n (each_at IsNameOfLanguage krate.modules n (each_throughout IsNameOfLanguage krate.modules is.names) has)), modules_apart krate.modules is.modules)

-- ---- The roots whose values are objects.

no_checks : (items : List IndexItem) (rest : List Query) → filter (is_of 10) (map check_query items ++ rest) ≡ filter (is_of 10) rest
no_checks [] rest = refl
no_checks (x ∷ items) rest = no_checks items rest

all_objects : (units : List (List ℕ)) → filter (is_of 10) (map object_query units) ≡ map object_query units
all_objects [] = refl
all_objects (u ∷ units) = ap (λ qs. object_query u ∷ qs) (all_objects units)

made_roots : Bool → Index → List Query
made_roots wrong index = if wrong then [] else map object_query (units_of index)

object_roots : (wrong : Bool) (index : Index) → filter (is_of 10) (whole 1 ∷ checks_of index ++ (if wrong then [] else products_of index)) ≡ made_roots wrong index
unfolding made_roots
object_roots true index = no_checks index.items []
object_roots false index = no_checks index.items (products_of index) ∙ all_objects (units_of index)

roots_differ : NamesArePlain → (krate : Crate) → IsTidyCrate krate → (wrong : Bool) → Distinct (made_roots wrong (tree_index krate))
unfolding made_roots
roots_differ plain krate is true = tt
roots_differ plain krate is false = units_differ plain krate is

-- none is of a higher kind
low_checks : (items : List IndexItem) (rest : List Query) → AllByRecursion (λ q. q.kind ≤ 10) rest → AllByRecursion (λ (q : Query). q.kind ≤ 10) (map check_query items ++ rest)
low_checks [] rest h = h
low_checks (x ∷ items) rest h = (omega arith, low_checks items rest h)

low_objects : (units : List (List ℕ)) → AllByRecursion (λ (q : Query). q.kind ≤ 10) (map object_query units)
low_objects [] = tt
low_objects (u ∷ units) = (omega arith, low_objects units)

low_roots : (wrong : Bool) (index : Index) → All (λ (q : Query). q.kind ≤ 10) (whole 1 ∷ checks_of index ++ (if wrong then [] else products_of index))
low_roots true index = All-from_recursion (λ (q : Query). q.kind ≤ 10) (whole 1 ∷ checks_of index ++ []) (omega arith, low_checks index.items [] tt)
low_roots false index = All-from_recursion (λ (q : Query). q.kind ≤ 10) (whole 1 ∷ checks_of index ++ products_of index) (omega arith, low_checks index.items (products_of index) (omega arith, low_objects (units_of index)))

-- ---- How many are made.

made_objects : (v : Query → List ℕ) (units : List (List ℕ)) (objects : List Object) → AreObjects v units objects → length (map object_query units) ≡ length (output_of objects).objects
made_objects v units objects are = length-map units object_query ∙ same_length (λ unit (o : Object). (v (object_query unit) ≡ object_form o) × FitsObject o) units objects are ∙ sym (length-map objects stored)

made_tree : (v : Query → List ℕ) (krate : Crate) (c : Compiled) → IsAssembled v krate c → (wrong : Bool) → has_error (told_by v (tree_index krate) krate.items) ≡ wrong → length (made_roots wrong (tree_index krate)) ≡ emitted c
unfolding made_roots
made_tree v krate c is true e = ap emitted_by (sym (is.wrong e))
made_tree v krate c is false e = (let made = is.right e in made_objects v (units_of (tree_index krate)) made.0 made.1 ∙ ap emitted_by (sym made.2))

-- the roots of the ticking kind differ, none is of a higher kind, and there are as many as objects that are made
record Counts (roots : List Query) (c : Compiled) : Type 0 where
  high : All (λ (q : Query). q.kind ≤ 10) roots
  differ : Distinct (filter (is_of 10) roots)
  many : count_by (is_of 10) roots ≡ emitted c

tree_counts : NamesArePlain → (v : Query → List ℕ) (krate : Crate) (c : Compiled) → IsTidyCrate krate → IsAssembled v krate c → Counts (roots_by v krate) c
tree_counts plain v krate c neat is = by (has_error (told_by v (tree_index krate) krate.items)) refl
  where
    by : (wrong : Bool) → has_error (told_by v (tree_index krate) krate.items) ≡ wrong → Counts (whole 1 ∷ checks_of (tree_index krate) ++ (if wrong then [] else products_of (tree_index krate))) c
    by wrong e = record {
      high = low_roots wrong (tree_index krate);
      differ = subst Distinct (sym (object_roots wrong (tree_index krate))) (roots_differ plain krate neat wrong);
      many = sym (length-filter (is_of 10) (whole 1 ∷ checks_of (tree_index krate) ++ (if wrong then [] else products_of (tree_index krate)))) ∙ ap length (object_roots wrong (tree_index krate)) ∙ made_tree v krate c is wrong e;
    }

-- a fault's one root is the index
fault_counts : (c : Compiled) → c.built ≡ None → Counts (whole 1 ∷ []) c
fault_counts c none = record {
  high = All-from_recursion (λ (q : Query). q.kind ≤ 10) (whole 1 ∷ []) (omega arith, tt);
  differ = tt;
  many = ap emitted_by (sym none);
}

text_counts : NamesArePlain → TextIs → TreesAreTidy → (v : Query → List ℕ) (text : List ℕ) (level : ℕ) (c : Compiled) → IsReadAssembled v text level c → Counts (roots_read v (text_of text)) c
text_counts plain texts trees v text level c is = by (text_of text) refl
  where
    by : (r : Result Crate TextFault) → text_of text ≡ r → Counts (roots_read v r) c
    by (Ok krate) e = tree_counts plain v krate c (tidy_tree texts trees text krate e) (is.tree krate e)
    by (Err f) e = fault_counts c (is.fault f e).built

-- what a build over nothing counts, by its roots
abbrev pub CountsRoots : Type 0
CountsRoots = (plan : Query → Plan) (kept : ℕ → Bool) (ticking height : ℕ) (input s : List ℕ) (roots : List Query) → ((q : Query) → ReadsFit q [] (plan q)) → All (λ (q : Query). q.kind ≤ ticking) roots → Distinct (filter (is_of ticking) roots)
    → count_by (stale (setup plan kept ticking height input [] []) s) (queries_of (graph_of plan input roots)) ≡ count_by (is_of ticking) roots

pub all_made : CountsRoots → ((setting : List ℕ) (q : Query) → ReadsFit q [] (plan_of setting q)) → NamesArePlain → TextIs → TreesAreTidy → (compiler : Compiler) (text s : List ℕ) (c : Compiled)
    → IsReadAssembled (value_of (begun text compiler [] [])) text compiler.level c → count_by (stale (setup_of (begun text compiler [] [])) s) (queries_of (reached_graph compiler text)) ≡ emitted c
all_made counts fits plain texts trees compiler text s c is =
    let own : Counts (roots_of compiler text) c = text_counts plain texts trees (value_of (begun text compiler [] [])) text compiler.level c is in
    counts (plan_of (setting_of compiler)) is_kept 10 11 text s (roots_of compiler text) (fits (setting_of compiler)) own.high own.differ ∙ own.many

-- what a meter counts by such a build, where there turned out to be no earlier one
pub all_counted : ((compiler : Compiler) (text s : List ℕ) → IsOver (begun text compiler [] []) s)
    → ((compiler : Compiler) (text s : List ℕ) (c : Compiled) → IsReadAssembled (value_of (begun text compiler [] [])) text compiler.level c → count_by (stale (setup_of (begun text compiler [] [])) s) (queries_of (reached_graph compiler text)) ≡ emitted c)
    → (compiler : Compiler) (text : List ℕ) (nodes : List Node) (cache : List (ℕ × List ℕ)) (new : List Node) (from to : ℕ) (c : Compiled) → nodes ≡ [] → cache ≡ []
    → ((s : List ℕ) → IsOver (begun text compiler nodes cache) s → IsReadAssembled (value_of (begun text compiler nodes cache)) text compiler.level c)
    → ((s : List ℕ) → IsOver (begun text compiler nodes cache) s → new ≡ reached_graph compiler text)
    → ((s : List ℕ) → IsOver (begun text compiler nodes cache) s → to ≡ rise from (count_by (stale (setup_of (begun text compiler nodes cache)) s) (queries_of new)))
    → to ≡ rise from (emitted c)
all_counted holds made compiler text nodes cache new from to c none no_values assembled graph ticked =
    let over : IsOver (begun text compiler nodes cache) [] = subst (λ ns. IsOver (begun text compiler ns cache) []) (sym none) (subst (λ es. IsOver (begun text compiler [] es) []) (sym no_values) (holds compiler text [])) in
    ticked [] over
    ∙ ap (λ ns. rise from (count_by (stale (setup_of (begun text compiler ns cache)) []) (queries_of new))) none
    ∙ ap (λ es. rise from (count_by (stale (setup_of (begun text compiler [] es)) []) (queries_of new))) no_values
    ∙ ap (λ ns. rise from (count_by (stale (setup_of (begun text compiler [] [])) []) (queries_of ns))) (graph [] over)
    ∙ ap (rise from) (made compiler text [] c (assembled [] over))
