-- The image is there exactly where no line is an error's.
use Rattle.std.proofs.Common.{◌≡◌, ℕ, ◌||◌, Bool, true, false, not, cond, List, [], ◌∷◌, ◌++◌, length, map, Some, None, Ok, Err, refl, sym, ap, ◌∙◌, subst, append-nil}
use Rattle.std.specs.Prelude.{Result, is_some, option_and_then}
use Rattle.std.specs.List.{flat_map}
use Rattle.std.proofs.lemmas.List.Folds.{list_any-append}
use Rattle.std.proofs.lemmas.Option.{none-some, same_Some}
use Rattle.rs_tree.specs.declared.answers.Const.{Const}
use Rattle.rs_tree.specs.declared.tree.Crate.{Crate}
use Rattle.rs_grammar.specs.Tidy.{IsTidyCrate, TreesAreTidy}
use Rattle.rs_lookup.specs.Places.{Name, place_name}
use Rattle.rs_diag.specs.Faults.{diag}
use Rattle.rs_diag.specs.Faults.Wrong.{Dead}
use Rattle.rs_lines.specs.Lines.{has_error, is_warning, line_of, printed, printed_all}
use Rattle.rs_lines.specs.declared.line.Line.{Line}
use Rattle.rs_text.specs.Laws.{TextIs}
use Rattle.rs_text.specs.Text.{IsTextAs, text_of}
use Rattle.rs_text.specs.declared.fault.TextFault.{TextFault}
use Rattle.rs_text.specs.declared.fault.TextFault.TheVariants as text
use Rattle.rs_reach.specs.Dead.{dead_of}
use Rattle.rs_units.specs.Units.{units_of}
use Rattle.rs_queries.specs.declared.compiled.Built.{Built}
use Rattle.rs_queries.specs.declared.compiled.CleanBuild.{CleanBuild}
use Rattle.rs_queries.specs.declared.compiled.Compiled.{Compiled}
use Rattle.rs_queries.specs.Built.{IsClean, IsCompiled, IsFaultCompiled, IsTreeCompiled, built_of, clean_of, image_by, output_of, tree_index}
use Rattle.rs_queries.specs.Diagnosed.{IsDiagnosis, calls_of, dead_line, dead_lines, fault_line, is_among, own_lines, tree_lines}
use Rattle.rs_queries.specs.Known.{Answered, all_answered, constants_of, items_of, place_of, sigs_of}
use Rattle.rs_queries.proofs.Exact.{of_fault, of_tree}
use Rattle.link_laws.specs.Told.{AreLines, AreTreeLines, IsFaultLine, Tells}
use Rattle.link_laws.proofs.Errors.{has_error_in_order}
use Rattle.link_laws.proofs.Makes.{Makes, is_wrong, objects}
use Rattle.link_laws.proofs.Names.{texts_differ}
use Rattle.link_laws.proofs.Objects.{Given, objects_linked}

-- ---- Lines.

fault_wrong : (f : TextFault) (l : Line) → fault_line f ≡ Some l → not (is_warning l.code) ≡ true
fault_wrong (text.Byte at) l e = ap (λ (x : Line). not (is_warning x.code)) (sym (same_Some _ l e))
fault_wrong (text.Nesting at) l e = ap (λ (x : Line). not (is_warning x.code)) (sym (same_Some _ l e))
fault_wrong (text.Syntax at) l e = ap (λ (x : Line). not (is_warning x.code)) (sym (same_Some _ l e))
fault_wrong (text.Twice at name) l e = ap (λ (x : Line). not (is_warning x.code)) (sym (same_Some _ l e))
fault_wrong text.Memory l e = absurd (none-some l e)

-- a function that is never used is no error
dead_warns : (names : List Name) (all : List Answered) → has_error (flat_map (dead_line names) all) ≡ false
dead_warns names [] = refl
dead_warns names (a ∷ all) = by (is_among names (place_name (place_of a.0))) (dead_warns names all)
  where
    by : (b : Bool) → has_error (flat_map (dead_line names) all) ≡ false → has_error (cond b (line_of a.0.start (diag a.0.item.at (Dead a.0.item.name)) ∷ []) [] ++ flat_map (dead_line names) all) ≡ false
    by true more = more
    by false more = more

-- a tree's own lines, and those of functions that are never used where none of them is an error's
abbrev own : Crate → List Const → List Line
own krate values = own_lines (items_of krate) (sigs_of krate) (constants_of krate) values (all_answered krate)

abbrev unused : Crate → Bool → List Line
unused krate wrong = cond wrong [] (dead_lines (items_of krate) (all_answered krate))

-- a tree's lines have an error exactly where those of its items have
tree_errors : (krate : Crate) (values : List Const) → has_error (tree_lines krate values) ≡ is_wrong krate values
tree_errors krate values =
    has_error_in_order (own krate values ++ unused krate (is_wrong krate values))
    ∙ list_any-append (λ (l : Line). not (is_warning l.code)) (own krate values) (unused krate (is_wrong krate values))
    ∙ by (is_wrong krate values)
  where
    by : (b : Bool) → (b || has_error (unused krate b)) ≡ b
    by true = refl
    by false = dead_warns (map place_name (dead_of (items_of krate) (map (calls_of (items_of krate)) (all_answered krate)))) (all_answered krate)

-- ---- Images.

module _ (given : Given) where
  linked_there : (krate : Crate) → IsTidyCrate krate → (level : ℕ) (values : List Const) → is_wrong krate values ≡ false → is_some (output_of (objects krate level values)).image ≡ true
  linked_there krate tidy level values right = ap (λ r. is_some (image_by r)) (objects_linked given krate tidy level values right (texts_differ given.plain krate tidy)).1

  pub image_there : (level : ℕ) (b : Built) → Makes level b → is_some b.image ≡ true
  image_there level b m = ap (λ (x : Built). is_some x.image) m.output ∙ linked_there m.krate m.tidy level m.values m.right

  built_image : (krate : Crate) → IsTidyCrate krate → (level : ℕ) (values : List Const) → is_some (option_and_then (λ (x : Built). x.image) (built_of krate level values)) ≡ not (is_wrong krate values)
  built_image krate tidy level values = by (is_wrong krate values) (linked_there krate tidy level values)
    where
      by : (wrong : Bool) → (wrong ≡ false → is_some (output_of (objects krate level values)).image ≡ true) → is_some (option_and_then (λ (x : Built). x.image) (cond wrong None (Some (output_of (objects krate level values))))) ≡ not wrong
      by true there = refl
      by false there = there refl

  module _ (texts : TextIs) (trees : TreesAreTidy) (only : (bytes : List ℕ) (level : ℕ) (c d : Compiled) → IsCompiled bytes level c → IsCompiled bytes level d → c ≡ d) (bytes : List ℕ) (level : ℕ) where
    fault_told : (f : TextFault) (c : Compiled) (ls : List Line) → text_of bytes ≡ Err f → IsCompiled bytes level c → IsFaultLine f ls → Tells (clean_of c) ls
    fault_told f c ls e h lines =
        let its = h.fault f e in
        let same : its.says.line ≡ lines.line = same_Some its.says.line lines.line (sym its.says.is ∙ lines.is) in
        record {
          says = its.says.says ∙ ap printed same ∙ sym (append-nil (printed lines.line)) ∙ sym (ap printed_all lines.alone);
          image = ap (λ o. is_some (option_and_then (λ (x : Built). x.image) o)) its.built ∙ sym (ap (λ b. not (b || false)) (fault_wrong f lines.line lines.is)) ∙ sym (ap (λ xs. not (has_error xs)) lines.alone);
        }

    tree_told : (krate : Crate) (c : Compiled) (ls : List Line) → text_of bytes ≡ Ok krate → IsCompiled bytes level c → AreTreeLines krate ls → Tells (clean_of c) ls
    tree_told krate c ls e h lines =
        let d : Compiled = record { diags = printed_all (tree_lines krate lines.values); units = length (units_of (tree_index krate)); built = built_of krate level lines.values } in
        let same : c ≡ d = only bytes level c d h (of_tree bytes (λ f. IsFaultCompiled f d) (λ k. IsTreeCompiled k level d) krate e (record { values = lines.values; are = lines.are; says = refl; units = refl; built = refl })) in
        let read : IsTextAs bytes (Ok krate) = subst (IsTextAs bytes) e (texts.is bytes) in
        let tidy = trees read.tokens krate read.holds in
        record {
          says = ap (λ (x : Compiled). x.diags) same ∙ sym (ap printed_all lines.lines);
          image = ap (λ (x : Compiled). is_some (option_and_then (λ (y : Built). y.image) x.built)) same ∙ built_image krate tidy level lines.values ∙ sym (ap not (ap has_error lines.lines ∙ tree_errors krate lines.values));
        }

    -- a clean build tells the lines of the text
    pub clean_tells : (b : CleanBuild) (ls : List Line) → IsClean bytes level b → AreLines bytes ls → Tells b ls
    clean_tells b ls clean lines = subst (λ (x : CleanBuild). Tells x ls) (sym clean.2) (by (text_of bytes) refl)
      where
        by : (r : Result Crate TextFault) → text_of bytes ≡ r → Tells (clean_of clean.0) ls
        by (Err f) e = fault_told f clean.0 ls e clean.1 (lines.fault f e)
        by (Ok krate) e = tree_told krate clean.0 ls e clean.1 (lines.tree krate e)

-- each text has lines
pub lines_there : ((bytes : List ℕ) → (out : List ℕ) × IsDiagnosis bytes out) → (bytes : List ℕ) → (ls : List Line) × AreLines bytes ls
lines_there is bytes = by (text_of bytes) refl
  where
    by : (r : Result Crate TextFault) → text_of bytes ≡ r → (ls : List Line) × AreLines bytes ls
    by (Err f) e = (let its = (is bytes).1.fault f e in (its.line ∷ [], of_fault bytes (λ g. IsFaultLine g (its.line ∷ [])) (λ krate. AreTreeLines krate (its.line ∷ [])) f e (record { line = its.line; is = its.is; alone = refl })))
    by (Ok krate) e =
        (let its = (is bytes).1.tree krate e in
        let ls = tree_lines krate its.values in
        (ls, of_tree bytes (λ f. IsFaultLine f ls) (λ k. AreTreeLines k ls) krate e (record { values = its.values; are = its.are; lines = refl })))
