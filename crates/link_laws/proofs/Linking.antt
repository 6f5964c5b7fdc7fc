-- The objects of a tree without an error link: no symbol is there twice, each that is named is there, and so is `main`.
use Rattle.std.proofs.Common.{◌≡◌, ℕ, ◌+◌, ◌||◌, zero, suc, Bool, true, false, cond, List, [], ◌∷◌, ◌++◌, Option, Some, None, Ok, Err, refl, sym, ap, ◌∙◌, arith, codes}
use Rattle.std.specs.Prelude.{is_some}
use Rattle.std.specs.List.{AllByRecursion, Contains, list_any}
use Rattle.std.specs.Option.{option_map_or}
use Rattle.std.specs.Str.{bytes_eq}
use Rattle.std.proofs.lemmas.Bool.{false_from_ne_true}
use Rattle.std.proofs.lemmas.Slice.Eq.{bytes_eq-Decides}
use Rattle.rs_tree.specs.declared.ir.Instr.{Instr}
use Rattle.rs_tree.specs.declared.ir.Instr.TheVariants as i
use Rattle.rs_tree.specs.declared.place.Place.{Place}
use Rattle.rs_emit.specs.Code.{size}
use Rattle.rs_emit.specs.Symbols.{is_copied, reloc_of, relocs_from, symbol_in}
use Rattle.rs_object.specs.declared.object.Func.{Func as ObjectFunc}
use Rattle.rs_link.specs.Linked.{linked}
use Rattle.rs_link.specs.Symbols.{first_twice, first_undefined, number_from, number_of, undefined_in}
use Rattle.rs_link.specs.Image.{image_form}
use Rattle.rs_link.specs.declared.fault.LinkFault.TheVariants.{Twice, Undefined}
use Rattle.link_laws.proofs.Lists.{each_append}
use Rattle.link_laws.proofs.Lowered.{CallIs, CallsAre}

-- ---- Relocations are those of calls.

module _ (unit : List ℕ) (D : List ℕ → Type 0) where
  -- what a call's symbol is to be
  abbrev pub Named : Bool → Place → Type 0
  Named inline p = D (symbol_in unit (is_copied inline p) p)

  reloc_named : (at : ℕ) (x : Instr) → CallIs Named x → AllByRecursion (λ (r : ℕ × List ℕ). D r.1) (reloc_of unit at x)
  reloc_named at (i.Push value) h = tt
  reloc_named at (i.Load slot) h = tt
  reloc_named at (i.Store slot) h = tt
  reloc_named at (i.Plain code) h = tt
  reloc_named at (i.Jump code label) h = tt
  reloc_named at (i.Label label) h = tt
  reloc_named at (i.Call inline p) h = (h, tt)

  pub relocs_named : (at : ℕ) (xs : List Instr) → CallsAre Named xs → AllByRecursion (λ (r : ℕ × List ℕ). D r.1) (relocs_from unit at xs)
  relocs_named at [] h = tt
  relocs_named at (x ∷ xs) h = each_append (λ (r : ℕ × List ℕ). D r.1) (reloc_of unit at x) (relocs_from unit (at + size x) xs) (reloc_named at x h.0) (relocs_named (at + size x) xs h.1)

-- ---- What linking answers.

abbrev pub Symbol : List ObjectFunc → List ℕ → Type 0
Symbol fs s = is_some (number_of fs s) ≡ true

number_there : (s : List ℕ) (k : ℕ) (fs : List ObjectFunc) (f : ObjectFunc) → Contains fs f → f.symbol ≡ s → is_some (number_from s k fs) ≡ true
number_there s k [] f h is = absurd (omega (arith, h.1))
number_there s k (g ∷ fs) f (zero, l, e) is = ap (λ b. is_some (cond b (Some k) (number_from s (k + 1) fs))) ((bytes_eq-Decides s g.symbol).1 (sym (ap (λ (x : ObjectFunc). x.symbol) e ∙ is)))
number_there s k (g ∷ fs) f (suc n, l, e) is = by (bytes_eq s g.symbol) (number_there s (k + 1) fs f (n, omega (arith, l), e) is)
  where
    by : (b : Bool) → is_some (number_from s (k + 1) fs) ≡ true → is_some (cond b (Some k) (number_from s (k + 1) fs)) ≡ true
    by true h = refl
    by false h = h

-- a function has its symbol
pub symbol_there : (fs : List ObjectFunc) (f : ObjectFunc) (s : List ℕ) → Contains fs f → f.symbol ≡ s → Symbol fs s
symbol_there fs f s h is = number_there s 0 fs f h is

none_undefined : (fs : List ObjectFunc) (rs : List (ℕ × List ℕ)) → AllByRecursion (λ (r : ℕ × List ℕ). Symbol fs r.1) rs → undefined_in fs rs ≡ None
none_undefined fs [] h = refl
none_undefined fs (r ∷ rs) h = ap (λ b. cond b (undefined_in fs rs) (Some r.1)) h.0 ∙ none_undefined fs rs h.1

no_first_undefined : (all fs : List ObjectFunc) → AllByRecursion (λ (f : ObjectFunc). AllByRecursion (λ (r : ℕ × List ℕ). Symbol all r.1) f.relocs) fs → first_undefined all fs ≡ None
no_first_undefined all [] h = refl
no_first_undefined all (f ∷ fs) h = ap (λ o. option_map_or (λ (s : List ℕ). Some s) o (first_undefined all fs)) (none_undefined all f.relocs h.0) ∙ no_first_undefined all fs h.1

-- symbols differ
abbrev pub Differs : ObjectFunc → ObjectFunc → Type 0
Differs f g = f.symbol ≡ g.symbol → ⊥

abbrev pub Apart : List ObjectFunc → Type 0
Apart [] = Unit {0}
Apart (f ∷ fs) = AllByRecursion (Differs f) fs × Apart fs

none_same : (f : ObjectFunc) (fs : List ObjectFunc) → AllByRecursion (Differs f) fs → list_any (λ (g : ObjectFunc). bytes_eq f.symbol g.symbol) fs ≡ false
none_same f [] h = refl
none_same f (g ∷ fs) h = ap (λ b. b || list_any (λ (x : ObjectFunc). bytes_eq f.symbol x.symbol) fs) (false_from_ne_true (bytes_eq f.symbol g.symbol) (λ e. h.0 ((bytes_eq-Decides f.symbol g.symbol).0 e))) ∙ none_same f fs h.1

no_first_twice : (fs : List ObjectFunc) → Apart fs → first_twice fs ≡ None
no_first_twice [] h = refl
no_first_twice (f ∷ fs) h = ap (λ b. cond b (Some f.symbol) (first_twice fs)) (none_same f fs h.0) ∙ no_first_twice fs h.1

pub apart_append : (fs gs : List ObjectFunc) → Apart fs → Apart gs → AllByRecursion (λ f. AllByRecursion (Differs f) gs) fs → Apart (fs ++ gs)
apart_append [] gs h k across = k
apart_append (f ∷ fs) gs h k across = (each_append (Differs f) fs gs h.0 across.0, apart_append fs gs h.1 k across.1)

-- functions whose symbols differ, and have each symbol that is named and `main`, link
pub links : (fs : List ObjectFunc) → Apart fs → AllByRecursion (λ (f : ObjectFunc). AllByRecursion (λ (r : ℕ × List ℕ). Symbol fs r.1) f.relocs) fs → Symbol fs (codes "main") → (image : List ℕ) × (linked fs ≡ Ok image)
links fs apart named main = by (number_of fs (codes "main")) refl main
  where
    by : (o : Option ℕ) → number_of fs (codes "main") ≡ o → is_some o ≡ true → (image : List ℕ) × (linked fs ≡ Ok image)
    by None e h = absurd cc
    by (Some n) e h = (
      image_form n fs,
      ap (λ o. option_map_or (λ (s : List ℕ). Err (Twice s)) o (option_map_or (λ (s : List ℕ). Err (Undefined s)) (first_undefined fs fs) (option_map_or (λ (main : ℕ). Ok (image_form main fs)) (number_of fs (codes "main")) (Err (Undefined (codes "main")))))) (no_first_twice fs apart)
          ∙ ap (λ o. option_map_or (λ (s : List ℕ). Err (Undefined s)) o (option_map_or (λ (main : ℕ). Ok (image_form main fs)) (number_of fs (codes "main")) (Err (Undefined (codes "main"))))) (no_first_undefined fs fs named)
          ∙ ap (λ o. option_map_or (λ (main : ℕ). Ok (image_form main fs)) o (Err (Undefined (codes "main")))) e,
    )
