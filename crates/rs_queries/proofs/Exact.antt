-- Each text has exactly one answer.
use Rattle.std.proofs.Common.{◌≡◌, ℕ, List, length, refl, sym, ap, subst, ◌∙◌}
use Rattle.std.specs.Prelude.{Some, None, Result, Ok, Err}
use Rattle.rs_tree.specs.declared.tree.Crate.{Crate}
use Rattle.rs_reach.specs.Laws.{Ends, FindsOnce, FindsReached}
use Rattle.rs_lines.specs.Lines.{printed, printed_all}
use Rattle.rs_lines.specs.declared.line.Line.{Line}
use Rattle.rs_text.specs.Laws.{TextIs}
use Rattle.rs_text.specs.Text.{IsTextAs, text_of}
use Rattle.rs_text.specs.declared.fault.TextFault.{TextFault}
use Rattle.rs_text.specs.declared.fault.TextFault.TheVariants as text
use Rattle.rs_units.specs.Units.{units_of}
use Rattle.rs_queries.specs.declared.compiled.Compiled.{Compiled}
use Rattle.rs_queries.specs.Built.{IsCompiled, IsFaultCompiled, IsTreeCompiled, built_of, tree_index}
use Rattle.rs_queries.specs.Diagnosed.{IsDiagnosis, OfText, SaysFault, SaysTree, fault_line, tree_lines}
use Rattle.rs_queries.specs.Known.{constants_of}
use Rattle.rs_queries.proofs.Values.{one, there}

-- ---- What is so of a text.

module _ (bytes : List ℕ) (F : TextFault → Type 0) (T : Crate → Type 0) where
  pub of_fault : (f : TextFault) → text_of bytes ≡ Err f → F f → OfText bytes F T
  of_fault f is h = record {
    fault = λ g e. (let both : Err f ≡ Err g = sym is ∙ e in let same : f ≡ g = cc in subst F same h);
    tree = λ krate e. absurd (let bad : Err f ≡ Ok krate = sym is ∙ e in cc);
  }

  pub of_tree : (krate : Crate) → text_of bytes ≡ Ok krate → T krate → OfText bytes F T
  of_tree krate is h = record {
    fault = λ g e. absurd (let bad : Ok krate ≡ Err g = sym is ∙ e in cc);
    tree = λ other e. (let both : Ok krate ≡ Ok other = sym is ∙ e in let same : krate ≡ other = cc in subst T same h);
  }

module _ {A : Type 0} (bytes : List ℕ) (F : TextFault → A → Type 0) (T : Crate → A → Type 0) where
  -- of one answer alone, where that is so of each fault and each tree
  pub same_answer : ((f : TextFault) (a b : A) → F f a → F f b → a ≡ b) → ((krate : Crate) (a b : A) → T krate a → T krate b → a ≡ b)
      → (a b : A) → OfText bytes (λ f. F f a) (λ krate. T krate a) → OfText bytes (λ f. F f b) (λ krate. T krate b) → a ≡ b
  same_answer faults trees a b p q = by (text_of bytes) refl
    where
      by : (r : Result Crate TextFault) → text_of bytes ≡ r → a ≡ b
      by (Err f) e = faults f a b (p.fault f e) (q.fault f e)
      by (Ok krate) e = trees krate a b (p.tree krate e) (q.tree krate e)

  -- of some answer
  pub some_answer : IsTextAs bytes (text_of bytes) → ((f : TextFault) → IsTextAs bytes (Err f) → (a : A) × F f a) → ((krate : Crate) → (a : A) × T krate a)
      → (a : A) × OfText bytes (λ f. F f a) (λ krate. T krate a)
  some_answer is faults trees = by (text_of bytes) refl
    where
      by : (r : Result Crate TextFault) → text_of bytes ≡ r → (a : A) × OfText bytes (λ f. F f a) (λ krate. T krate a)
      by (Err f) e = (let x = faults f (subst (IsTextAs bytes) e is) in (x.0, of_fault bytes (λ g. F g x.0) (λ krate. T krate x.0) f e x.1))
      by (Ok krate) e = (let x = trees krate in (x.0, of_tree bytes (λ g. F g x.0) (λ other. T other x.0) krate e x.1))

-- ---- Diagnostics.

line_there : (bytes : List ℕ) (f : TextFault) → IsTextAs bytes (Err f) → (l : Line) × (fault_line f ≡ Some l)
line_there bytes (text.Byte at) h = (_, refl)
line_there bytes (text.Nesting at) h = (_, refl)
line_there bytes (text.Syntax at) h = (_, refl)
line_there bytes (text.Twice at name) h = (_, refl)
line_there bytes text.Memory h = absurd h

fault_said : (bytes : List ℕ) (f : TextFault) → IsTextAs bytes (Err f) → (out : List ℕ) × SaysFault f out
fault_said bytes f is = (let l = line_there bytes f is in (printed l.0, record { line = l.0; is = l.1; says = refl }))

same_fault : (f : TextFault) (a b : List ℕ) → SaysFault f a → SaysFault f b → a ≡ b
same_fault f a b x y =
    let both : Some x.line ≡ Some y.line = sym x.is ∙ y.is in
    let same : x.line ≡ y.line = cc in
    x.says ∙ ap printed same ∙ sym y.says

same_tree : (krate : Crate) (a b : List ℕ) → SaysTree krate a → SaysTree krate b → a ≡ b
same_tree krate a b x y = x.says ∙ ap (λ vs. printed_all (tree_lines krate vs)) (one (constants_of krate) x.values y.values x.are y.are) ∙ sym y.says

pub only : (bytes a b : List ℕ) → IsDiagnosis bytes a → IsDiagnosis bytes b → a ≡ b
only bytes a b p q = same_answer bytes SaysFault SaysTree same_fault same_tree a b p q

pub is : TextIs → Ends → FindsReached → FindsOnce → (bytes : List ℕ) → (out : List ℕ) × IsDiagnosis bytes out
is texts ends reached once bytes = some_answer bytes SaysFault SaysTree (texts.is bytes) (fault_said bytes) said
  where
    said : (krate : Crate) → (out : List ℕ) × SaysTree krate out
    said krate = (let vs = there ends reached once (constants_of krate) in (printed_all (tree_lines krate vs.0), record { values = vs.0; are = vs.1; says = refl }))

-- ---- Builds.

same_parts : (c d : Compiled) → c.diags ≡ d.diags → c.units ≡ d.units → c.built ≡ d.built → c ≡ d
same_parts c d diags units built = λ j. record { diags = diags j; units = units j; built = built j }

same_fault_build : (f : TextFault) (c d : Compiled) → IsFaultCompiled f c → IsFaultCompiled f d → c ≡ d
same_fault_build f c d x y = same_parts c d (same_fault f c.diags d.diags x.says y.says) (x.units ∙ sym y.units) (x.built ∙ sym y.built)

same_tree_build : (level : ℕ) (krate : Crate) (c d : Compiled) → IsTreeCompiled krate level c → IsTreeCompiled krate level d → c ≡ d
same_tree_build level krate c d x y =
    let values = one (constants_of krate) x.values y.values x.are y.are in
    same_parts c d (x.says ∙ ap (λ vs. printed_all (tree_lines krate vs)) values ∙ sym y.says) (x.units ∙ sym y.units) (x.built ∙ ap (built_of krate level) values ∙ sym y.built)

pub only_build : (bytes : List ℕ) (level : ℕ) (c d : Compiled) → IsCompiled bytes level c → IsCompiled bytes level d → c ≡ d
only_build bytes level c d p q = same_answer bytes IsFaultCompiled (λ krate e. IsTreeCompiled krate level e) same_fault_build (same_tree_build level) c d p q

pub is_build : TextIs → Ends → FindsReached → FindsOnce → (bytes : List ℕ) (level : ℕ) → (c : Compiled) × IsCompiled bytes level c
is_build texts ends reached once bytes level = some_answer bytes IsFaultCompiled (λ krate e. IsTreeCompiled krate level e) (texts.is bytes) refusal built
  where
    refusal : (f : TextFault) → IsTextAs bytes (Err f) → (c : Compiled) × IsFaultCompiled f c
    refusal f is = (let out = fault_said bytes f is in (record { diags = out.0; units = 0; built = None }, record { says = out.1; units = refl; built = refl }))

    built : (krate : Crate) → (c : Compiled) × IsTreeCompiled krate level c
    built krate =
        let vs = there ends reached once (constants_of krate) in
        (record { diags = printed_all (tree_lines krate vs.0); units = length (units_of (tree_index krate)); built = built_of krate level vs.0 }, record { values = vs.0; are = vs.1; says = refl; units = refl; built = refl })

pub build_diagnosis : (bytes : List ℕ) (level : ℕ) (c : Compiled) → IsCompiled bytes level c → IsDiagnosis bytes c.diags
build_diagnosis bytes level c h = record {
  fault = λ f e. (h.fault f e).says;
  tree = λ krate e. (let t = h.tree krate e in record { values = t.values; are = t.are; says = t.says });
}
