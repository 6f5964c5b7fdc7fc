-- What is made of a text by the values of its roots is what is compiled of it.
use Rattle.std.proofs.Common.{◌≡◌, ℕ, List, ap, ◌∙◌, ◌↔◌}
use Rattle.std.specs.Prelude.{Some, Err}
use Rattle.rs_tree.specs.declared.answers.Const.{Const}
use Rattle.rs_tree.specs.declared.tree.Crate.{Crate}
use Rattle.rs_grammar.specs.Again.{ItemsParseAgain}
use Rattle.rs_grammar.specs.Tidy.{NamesArePlain, TreesAreTidy}
use Rattle.rs_text.specs.Laws.{ParsedIs, TextIs}
use Rattle.rs_text.specs.Text.{text_of}
use Rattle.rs_text.specs.declared.fault.TextFault.{TextFault}
use Rattle.rs_forms.specs.Fits.{FitsFault}
use Rattle.rs_reach.specs.Dead.{dead_of}
use Rattle.rs_const.specs.Constants.{AreValues}
use Rattle.rs_queries.specs.Built.{IsCompiled, IsFaultCompiled, IsTreeCompiled}
use Rattle.rs_queries.specs.Known.{constants_of, items_of}
use Rattle.rs_queries.specs.declared.compiled.Compiled.{Compiled}
use Rattle.rs_plans.specs.Plans.{index_fault, level_of}
use Rattle.rs_plans.specs.Readings.{places_in}
use Rattle.rs_plans.specs.Steps.{whole}
use Rattle.link_laws.proofs.Makes.{calls}
use Rattle.plan_laws.specs.Assembled.{IsAssembled}
use Rattle.plan_laws.specs.Roots.{FitsClean, GiveRoots, IsFaultAssembled, IsTextAssembled, IsTextFitting, IsTextRooted}
use Rattle.plan_laws.specs.Texts.{HasCrate}
use Rattle.plan_laws.specs.Whole.{HasItems}
use Rattle.plan_laws.proofs.Given.{valued}
use Rattle.plan_laws.proofs.Index.{fault_value, tidy_tree}
use Rattle.plan_laws.proofs.Told.{ObjectsDiffer, assembled_compiled, fault_compiled}
use Rattle.plan_laws.proofs.Unused.{dead_read}
use Rattle.plan_laws.proofs.Used.{dead_given}

pub fault_same : TextIs → (setting text : List ℕ) (fault : TextFault) → text_of text ≡ Err fault → FitsFault (index_fault fault) → (c : Compiled) → IsFaultAssembled (valued setting text) c ↔ IsFaultCompiled fault c
fault_same texts setting text fault is fits c = fault_compiled texts (valued setting text) text fault is (fault_value setting text fault is) fits c

module _ (texts : TextIs) (plain : NamesArePlain) (trees : TreesAreTidy) (parses : ParsedIs) (again : ItemsParseAgain) (differ : ObjectsDiffer) (setting text : List ℕ) where
  module _ (krate : Crate) (has : HasCrate text krate) (fits : HasItems krate) where
    dead : places_in (valued setting text (whole 7)) ≡ Some (dead_of (items_of krate) (calls krate))
    dead = ap places_in (dead_given texts plain trees parses again setting text krate has fits) ∙ dead_read plain krate (tidy_tree texts trees text krate has.is) has.index (calls krate)

    pub tree_same : (values : List Const) → GiveRoots (valued setting text) krate (level_of setting) values → (c : Compiled) → IsAssembled (valued setting text) krate c ↔ IsTreeCompiled krate (level_of setting) c
    tree_same values give c = assembled_compiled (valued setting text) krate (level_of setting) values give dead differ c

  pub text_same : IsTextRooted text (valued setting text) (level_of setting) → (c : Compiled) → IsTextAssembled text (valued setting text) c ↔ IsCompiled text (level_of setting) c
  text_same rooted c = (
    λ a. record {
      fault = λ f is. (fault_same texts setting text f is (rooted.fault f is) c).0 (a.fault f is);
      tree = λ krate is. (let r = rooted.tree krate is in (tree_same krate r.whole r.items r.values r.give c).0 (a.tree krate is));
    },
    λ t. record {
      fault = λ f is. (fault_same texts setting text f is (rooted.fault f is) c).1 (t.fault f is);
      tree = λ krate is. (let r = rooted.tree krate is in (tree_same krate r.whole r.items r.values r.give c).1 (t.tree krate is));
    },
  )

-- its roots give what the clean build says, where the roots of each tree do
pub rooted : (setting text : List ℕ)
    → ((setting text : List ℕ) (krate : Crate) (values : List Const) → HasCrate text krate → HasItems krate → AreValues (constants_of krate) values → FitsClean krate (level_of setting) values → GiveRoots (valued setting text) krate (level_of setting) values)
    → IsTextFitting text (level_of setting) → IsTextRooted text (valued setting text) (level_of setting)
rooted setting text gives fits = record {
  fault = fits.fault;
  tree = λ krate is. (let r = fits.tree krate is in record { whole = r.whole; items = r.items; values = r.values; give = gives setting text krate r.values r.whole r.items r.are r.fits });
}
