-- The index of a text, as a value and as it is read.
use Rattle.std.proofs.Common.{◌≡◌, ◌⊎◌, inl, inr, ℕ, zero, suc, ◌&&◌, Bool, true, List, [], ◌∷◌, map, refl, sym, ap, subst, ◌∙◌, arith, if◌then◌else◌}
use Rattle.std.specs.Prelude.{Option, Some, None, Ok, Err}
use Rattle.std.specs.List.{AllByRecursion, Contains, list_all}
use Rattle.inc_wire.specs.Narrow.{read_back}
use Rattle.inc_query.specs.Plans.{given}
use Rattle.rs_tree.specs.declared.tree.Crate.{Crate}
use Rattle.rs_tree.specs.declared.tree.Placed.{Placed}
use Rattle.rs_tree.specs.Plain.{plain_placed}
use Rattle.rs_grammar.specs.Tidy.{IsListed, IsNameOfLanguage, IsNamed, IsTidyCrate, NamesArePlain, Throughout, TreesAreTidy}
use Rattle.rs_text.specs.Laws.{TextIs}
use Rattle.rs_text.specs.Text.{IsTextAs, text_of}
use Rattle.rs_text.specs.declared.fault.TextFault.{TextFault}
use Rattle.rs_forms.specs.Fits.{FitsIndex}
use Rattle.rs_forms.specs.Forms.{fault_form, index_form}
use Rattle.rs_forms.proofs.Readers.{forms_are_answered}
use Rattle.rs_names.specs.Indexed.{index_item}
use Rattle.rs_queries.specs.Built.{tree_index}
use Rattle.rs_plans.specs.Names.{is_index, is_item_place, is_module, is_name_or_none}
use Rattle.rs_plans.specs.Plans.{index_by, index_fault, index_plan, plan_of}
use Rattle.rs_plans.specs.Readings.{index_in, passed}
use Rattle.rs_plans.specs.Steps.{whole}
use Rattle.plan_laws.specs.Texts.{HasCrate}
use Rattle.plan_laws.proofs.Given.{by_plan, text_value, valued}
use Rattle.plan_laws.proofs.Tests.{all_pass, both, module_passes, name_passes, root_passes}

index_planned : (setting : List ℕ) → plan_of setting (whole 1) ≡ index_plan
unfolding plan_of
index_planned setting = refl

index_valued : (setting text : List ℕ) → valued setting text (whole 1) ≡ index_by (text_of text)
index_valued setting text = by_plan setting text (whole 1) (omega arith) ∙ ap (given (valued setting text)) (index_planned setting) ∙ ap (λ t. index_by (text_of t)) (text_value setting text)

-- where the text has a tree
pub index_value : (setting text : List ℕ) (krate : Crate) → text_of text ≡ Ok krate → valued setting text (whole 1) ≡ index_form (tree_index krate)
index_value setting text krate is = index_valued setting text ∙ ap index_by is

-- and where it has a fault
pub fault_value : (setting text : List ℕ) (fault : TextFault) → text_of text ≡ Err fault → valued setting text (whole 1) ≡ fault_form (index_fault fault)
fault_value setting text fault is = index_valued setting text ∙ ap index_by is

-- the names of a tidy crate pass

modules_pass : NamesArePlain → (ms : List (List ℕ)) → Throughout IsNameOfLanguage ms → AllByRecursion (λ m. is_module m ≡ true) ms
modules_pass plain [] h = tt
modules_pass plain (m ∷ ms) h = (module_passes m (plain m h.0), modules_pass plain ms h.1)

listed_passes : NamesArePlain → (ms : List (List ℕ)) → Throughout IsNameOfLanguage ms → (m : List ℕ) → (m ≡ []) ⊎ Contains ms m → is_module m ≡ true
listed_passes plain ms names m (inl root) = ap is_module root ∙ root_passes
listed_passes plain ms names m (inr there) = in_all ms (modules_pass plain ms names) there
  where
    in_all : (xs : List (List ℕ)) → AllByRecursion (λ m. is_module m ≡ true) xs → Contains xs m → is_module m ≡ true
    in_all [] h c = absurd (omega (arith, c.1))
    in_all (x ∷ xs) h (zero, l, e) = ap is_module (sym e) ∙ h.0
    in_all (x ∷ xs) h (suc n, l, e) = in_all xs h.1 (n, omega (arith, l), e)

items_pass : NamesArePlain → (ms : List (List ℕ)) → Throughout IsNameOfLanguage ms → (ps : List Placed) → Throughout (IsListed ms) ps → Throughout IsNamed ps → list_all is_item_place (map index_item (map plain_placed ps)) ≡ true
items_pass plain ms names [] listed named = refl
items_pass plain ms names (p ∷ ps) listed named =
    both (is_module p.«module» && is_name_or_none p.item.name) (list_all is_item_place (map index_item (map plain_placed ps)))
    (both (is_module p.«module») (is_name_or_none p.item.name) (listed_passes plain ms names p.«module» listed.0) (name_passes p.item.name (plain p.item.name named.0.name)))
    (items_pass plain ms names ps listed.1 named.1)

pub index_passes : NamesArePlain → (krate : Crate) → IsTidyCrate krate → is_index (tree_index krate) ≡ true
index_passes plain krate tidy =
    both (list_all is_module krate.modules) (list_all is_item_place (map index_item (map plain_placed krate.items)))
    (all_pass is_module krate.modules (modules_pass plain krate.modules tidy.names))
    (items_pass plain krate.modules tidy.names krate.items tidy.listed tidy.named)

pub passes : {X : Type 0} (test : X → Bool) (o : Option X) (x : X) → o ≡ Some x → test x ≡ true → passed test o ≡ Some x
passes test o x is so = ap (passed test) is ∙ ap (λ b. if b then Some x else None) so

-- it is read as itself
read_index : NamesArePlain → (krate : Crate) → IsTidyCrate krate → FitsIndex (tree_index krate) → index_in (index_form (tree_index krate)) ≡ Some (tree_index krate)
unfolding index_in
read_index plain krate tidy fits =
    passes is_index (forms_are_answered.index (index_form (tree_index krate))).0 (tree_index krate)
    (read_back FitsIndex index_form (tree_index krate) (forms_are_answered.index (index_form (tree_index krate))).0 fits (forms_are_answered.index (index_form (tree_index krate))).1)
    (index_passes plain krate tidy)

-- the tree of a text is tidy
pub tidy_tree : TextIs → TreesAreTidy → (text : List ℕ) (krate : Crate) → text_of text ≡ Ok krate → IsTidyCrate krate
tidy_tree texts trees text krate is = (let read : IsTextAs text (Ok krate) = subst (IsTextAs text) is (texts.is text) in trees read.tokens krate read.holds)

pub index_read : NamesArePlain → TextIs → TreesAreTidy → (setting text : List ℕ) (krate : Crate) → HasCrate text krate → index_in (valued setting text (whole 1)) ≡ Some (tree_index krate)
index_read plain texts trees setting text krate has = ap index_in (index_value setting text krate has.is) ∙ read_index plain krate (tidy_tree texts trees text krate has.is) has.index
