-- What is told and made of the values of the roots is what the clean build says.
use Rattle.std.proofs.Common.{◌≡◌, ℕ, Bool, true, false, List, [], ◌∷◌, ◌++◌, map, refl, sym, ap, ◌∙◌, subst, ◌↔◌, if◌then◌else◌}
use Rattle.std.specs.Prelude.{Some, None, Err, unwrap_or}
use Rattle.std.specs.List.{AllByRecursion, flat_map}
use Rattle.inc_wire.specs.Narrow.{read_back}
use Rattle.inc_query.specs.declared.query.Query.{Query}
use Rattle.rs_tree.specs.declared.answers.Const.{Const}
use Rattle.rs_tree.specs.declared.answers.Diag.{Diag}
use Rattle.rs_tree.specs.declared.index.IndexFault.{IndexFault}
use Rattle.rs_tree.specs.declared.index.IndexItem.{IndexItem}
use Rattle.rs_tree.specs.declared.place.Place.{Place}
use Rattle.rs_tree.specs.declared.tree.Crate.{Crate}
use Rattle.rs_tree.specs.declared.tree.Placed.{Placed}
use Rattle.rs_text.specs.Laws.{TextIs}
use Rattle.rs_text.specs.Text.{IsTextAs, text_of}
use Rattle.rs_text.specs.declared.fault.TextFault.{TextFault}
use Rattle.rs_text.specs.declared.fault.TextFault.TheVariants as text
use Rattle.rs_forms.specs.Fits.{FitsFault}
use Rattle.rs_forms.specs.Forms.{fault_form}
use Rattle.rs_forms.proofs.Readers.{forms_are_answered}
use Rattle.rs_answers.specs.Fits.{FitsDiags}
use Rattle.rs_answers.specs.Forms.{diags_form}
use Rattle.rs_answers.proofs.Seeks.{answers_are_answered}
use Rattle.rs_lookup.specs.Places.{Name, place_name}
use Rattle.rs_reach.specs.Dead.{dead_of}
use Rattle.rs_lines.specs.Lines.{has_error, in_order, line_of, printed, printed_all}
use Rattle.rs_lines.specs.declared.line.Line.{Line}
use Rattle.rs_units.specs.Units.{units_of}
use Rattle.rs_object.specs.Fits.{FitsObject}
use Rattle.rs_object.specs.Forms.{object_form}
use Rattle.rs_object.specs.declared.object.Object.{Object}
use Rattle.rs_queries.specs.Built.{IsFaultCompiled, IsTreeCompiled, built_of, output_of, tree_index}
use Rattle.rs_queries.specs.Diagnosed.{all_lines, calls_of, dead_line, fault_line, item_lines, main_lines, own_lines}
use Rattle.rs_queries.specs.Known.{Answered, all_answered, answered, constants_of, items_of, place_of, sigs_of, value_at}
use Rattle.rs_queries.specs.declared.compiled.Built.{Built}
use Rattle.rs_queries.specs.declared.compiled.Compiled.{Compiled}
use Rattle.rs_queries.proofs.Values.{one}
use Rattle.rs_plans.specs.Plans.{index_fault}
use Rattle.rs_plans.specs.Readings.{places_in}
use Rattle.rs_plans.specs.Steps.{whole}
use Rattle.plan_laws.specs.Assembled.{AreObjects, IsAssembled, all_told, diags_in, told_by, told_of, unused_line, unused_lines}
use Rattle.plan_laws.specs.Roots.{GiveRoots, GivesDiags, GivesObject, IsFaultAssembled, fault_in, fault_told, unit_object, wrongs_of}
use Rattle.plan_laws.proofs.Agree.{two_same}

-- ---- Lists of diagnostics, read back.

diags_back : (ds : List Diag) → FitsDiags ds → diags_in (diags_form ds) ≡ ds
diags_back ds fits = ap (λ o. unwrap_or o []) (read_back FitsDiags diags_form ds (answers_are_answered.diags (diags_form ds)).0 fits (answers_are_answered.diags (diags_form ds)).1)

-- ---- A tree.

unused_same : (items : List IndexItem) (dead : List Name) (ps : List Placed) → flat_map (unused_line dead) ps ≡ flat_map (dead_line dead) (map (answered items) ps)
unused_same items dead [] = refl
unused_same items dead (p ∷ ps) = ap (λ ls. unused_line dead p ++ ls) (unused_same items dead ps)

-- objects differ where their bytes do
abbrev pub ObjectsDiffer : Type 0
ObjectsDiffer = (o p : Object) → FitsObject o → FitsObject p → object_form o ≡ object_form p → o ≡ p

module _ (v : Query → List ℕ) (krate : Crate) (level : ℕ) (values : List Const) (g : GiveRoots v krate level values) where
  abbrev items : List IndexItem
  items = items_of krate

  abbrev calls : List (Place × List Place)
  calls = map (calls_of items) (all_answered krate)

  -- the lines of an item
  abbrev lines_of : Answered → List Line
  lines_of a = item_lines items (sigs_of krate) (value_at (constants_of krate) values (place_of a.0)) a

  abbrev own : List Line
  own = own_lines items (sigs_of krate) (constants_of krate) values (all_answered krate)

  each_told : (ps : List Placed) → AllByRecursion (GivesDiags v krate values) ps → flat_map (told_of v) ps ≡ flat_map lines_of (map (answered items) ps)
  each_told [] h = refl
  each_told (p ∷ ps) h = two_same (ap (λ ds. map (line_of p.start) ds) (ap diags_in h.0.is ∙ diags_back (wrongs_of krate values p) h.0.fits)) (each_told ps h.1)

  own_told : told_by v (tree_index krate) krate.items ≡ own
  own_told = ap (λ ls. main_lines items ++ ls) (each_told krate.items g.checks)

  module _ (dead : places_in (v (whole 7)) ≡ Some (dead_of items calls)) where
    whole_told : all_told v (tree_index krate) krate.items ≡ all_lines items (sigs_of krate) (constants_of krate) values (all_answered krate)
    whole_told =
        ap (λ ls. ls ++ (if has_error ls then [] else unused_lines (unwrap_or (places_in (v (whole 7))) []) krate.items)) own_told
        ∙ ap (λ ls. own ++ (if has_error own then [] else ls)) (ap (λ o. unused_lines (unwrap_or o []) krate.items) dead ∙ unused_same items (map place_name (dead_of items calls)) krate.items)

    says_same : printed_all (in_order (all_told v (tree_index krate) krate.items)) ≡ printed_all (in_order (all_lines items (sigs_of krate) (constants_of krate) values (all_answered krate)))
    says_same = ap (λ ls. printed_all (in_order ls)) whole_told

    module _ (differ : ObjectsDiffer) where
      abbrev made : List ℕ → Object
      made unit = unit_object krate level values unit

      only_objects : (units : List (List ℕ)) (os : List Object) → AllByRecursion (GivesObject v krate level values) units → AreObjects v units os → os ≡ map made units
      only_objects [] [] h are = refl
      only_objects [] (o ∷ os) h are = absurd are
      only_objects (u ∷ units) [] h are = absurd are
      only_objects (u ∷ units) (o ∷ os) h are =
          let same : o ≡ made u = differ o (made u) are.0.1 h.0.fits (sym are.0.0 ∙ h.0.is) in
          ap (λ x. x ∷ os) same ∙ ap (λ xs. made u ∷ xs) (only_objects units os h.1 are.1)

      are_objects : (units : List (List ℕ)) → AllByRecursion (GivesObject v krate level values) units → AreObjects v units (map made units)
      are_objects [] h = tt
      are_objects (u ∷ units) h = ((h.0.is, h.0.fits), are_objects units h.1)

      abbrev output : Built
      output = output_of (map made (units_of (tree_index krate)))

      built_at : (b : Bool) → has_error own ≡ b → (if has_error own then None else Some output) ≡ (if b then None else Some output)
      built_at b is = ap (λ w. if w then None else Some output) is

      compiled : (c : Compiled) → IsAssembled v krate c → IsTreeCompiled krate level c
      compiled c a = record { values = values; are = g.are; says = a.says ∙ says_same; units = a.units; built = by (has_error own) refl }
        where
          by : (b : Bool) → has_error own ≡ b → c.built ≡ (if has_error own then None else Some output)
          by true is = a.wrong (ap has_error own_told ∙ is) ∙ sym (built_at true is)
          by false is =
              let r = a.right (ap has_error own_told ∙ is) in
              r.2 ∙ ap (λ os. Some (output_of os)) (only_objects (units_of (tree_index krate)) r.0 (g.objects is) r.1) ∙ sym (built_at false is)

      assembled : (c : Compiled) → IsTreeCompiled krate level c → IsAssembled v krate c
      assembled c t =
          let same : t.values ≡ values = one (constants_of krate) t.values values t.are g.are in
          let says = t.says ∙ ap (λ vs. printed_all (in_order (all_lines items (sigs_of krate) (constants_of krate) vs (all_answered krate)))) same in
          let built : c.built ≡ built_of krate level values = t.built ∙ ap (built_of krate level) same in
          record {
            says = says ∙ sym says_same;
            units = t.units;
            wrong = λ e. built ∙ built_at true (sym (ap has_error own_told) ∙ e);
            right = λ e. (let is = sym (ap has_error own_told) ∙ e in (map made (units_of (tree_index krate)), are_objects (units_of (tree_index krate)) (g.objects is), built ∙ built_at false is));
          }

      pub assembled_compiled : (c : Compiled) → IsAssembled v krate c ↔ IsTreeCompiled krate level c
      assembled_compiled c = (compiled c, assembled c)

-- ---- A text with a fault.

fault_back : (fault : IndexFault) → FitsFault fault → fault_in (fault_form fault) ≡ Some fault
unfolding fault_in
fault_back fault fits = read_back FitsFault fault_form fault (forms_are_answered.fault (fault_form fault)).0 fits (forms_are_answered.fault (fault_form fault)).1

-- a fault of a text has its line
has_line : TextIs → (bytes : List ℕ) (f : TextFault) → text_of bytes ≡ Err f → fault_line f ≡ Some (fault_told (index_fault f))
has_line texts bytes (text.Byte at) is = refl
has_line texts bytes (text.Nesting at) is = refl
has_line texts bytes (text.Syntax at) is = refl
has_line texts bytes (text.Twice at name) is = refl
has_line texts bytes text.Memory is = absurd (subst (IsTextAs bytes) is (texts.is bytes))

pub fault_compiled : TextIs → (v : Query → List ℕ) (bytes : List ℕ) (f : TextFault) → text_of bytes ≡ Err f → v (whole 1) ≡ fault_form (index_fault f) → FitsFault (index_fault f) → (c : Compiled) → IsFaultAssembled v c ↔ IsFaultCompiled f c
fault_compiled texts v bytes f is gives fits c = (compiled, assembled)
  where
    line : fault_line f ≡ Some (fault_told (index_fault f))
    line = has_line texts bytes f is

    reads : fault_in (v (whole 1)) ≡ Some (index_fault f)
    reads = ap fault_in gives ∙ fault_back (index_fault f) fits

    compiled : IsFaultAssembled v c → IsFaultCompiled f c
    compiled a =
        let both : Some a.fault ≡ Some (index_fault f) = sym a.read ∙ reads in
        let same : a.fault ≡ index_fault f = cc in
        record { says = record { line = fault_told (index_fault f); is = line; says = a.says ∙ ap (λ x. printed (fault_told x)) same }; units = a.units; built = a.built }

    assembled : IsFaultCompiled f c → IsFaultAssembled v c
    assembled t =
        let both : Some t.says.line ≡ Some (fault_told (index_fault f)) = sym t.says.is ∙ line in
        let same : t.says.line ≡ fault_told (index_fault f) = cc in
        record { fault = index_fault f; read = reads; says = t.says.says ∙ ap printed same; units = t.units; built = t.built }
