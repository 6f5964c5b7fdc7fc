-- Which of the names that a text defines clash.
use Rattle.std.proofs.Common.{◌≡◌, Bool, true, false, ◌&&◌, inl, inr, List, [], ◌∷◌, ◌++◌, map, Option, Some, None, refl, sym, ap, subst}
use Rattle.std.specs.Cmp.{IsEquivalence}
use Rattle.std.specs.Option.{option_eq}
use Rattle.std.specs.Bool.{Decides, one_answer}
use Rattle.std.specs.List.{list_any}
use Rattle.std.specs.Str.{bytes_eq}
use Rattle.std.proofs.lemmas.Map.Views.{list_any-from_Contains, Contains-from_any}
use Rattle.std.proofs.lemmas.Slice.Eq.{bytes_eq-Decides}
use Rattle.std.proofs.Common.{ℕ}
use Rattle.rs_grammar.specs.declared.named.Named.{Named}
use Rattle.rs_grammar.specs.Twice.{key, IsTwice, AllOnce}
use Rattle.rs_grammar.proofs.Lists.{cut}

abbrev pub Key : Type 0
Key = Option (List ℕ) × List ℕ

abbrev pub same : Key → Key → Bool
same a b = option_eq bytes_eq a.0 b.0 && bytes_eq a.1 b.1

option_decides : (a b : Option (List ℕ)) → Decides (option_eq bytes_eq a b) (a ≡ b)
option_decides None None = (λ _. refl, λ _. refl)
option_decides None (Some y) = (λ e. absurd cc, λ e. absurd cc)
option_decides (Some x) None = (λ e. absurd cc, λ e. absurd cc)
option_decides (Some x) (Some y) = (λ e. ap Some ((bytes_eq-Decides x y).0 e), λ e. (bytes_eq-Decides x y).1 cc)

both_decide : {P Q : Type 0} (a b : Bool) → Decides a P → Decides b Q → Decides (a && b) (P × Q)
both_decide true b p q = (λ e. (p.0 refl, q.0 e), λ e. q.1 e.1)
both_decide false b p q = (λ e. absurd cc, λ e. p.1 e.0)

pub same_decides : (a b : Key) → Decides (same a b) (a ≡ b)
same_decides a b =
    let d = both_decide (option_eq bytes_eq a.0 b.0) (bytes_eq a.1 b.1) (option_decides a.0 b.0) (bytes_eq-Decides a.1 b.1) in
    (λ e. let p = d.0 e in λ i. (p.0 i, p.1 i), λ e. d.1 (ap (λ (k : Key). k.0) e, ap (λ (k : Key). k.1) e))

pub same_equiv : IsEquivalence same
same_equiv = record {
  refl = λ x. (same_decides x x).1 refl;
  symm = λ x y. one_answer (same x y) (same y x) (same_decides x y) (λ e. sym ((same_decides y x).0 e), λ e. (same_decides y x).1 (sym e));
  congr = λ x y z e. ap (λ w. same w z) ((same_decides x y).0 e);
}

abbrev pub seen_by : Key → List Named → Bool
seen_by q ds = list_any (same q) (map key ds)

pub twice_from_seen : (d : Named) (ds : List Named) → seen_by (key d) ds ≡ true → IsTwice ds d
twice_from_seen d ds e = Contains-from_any (λ x y. (same_decides x y).0) (key d) (map key ds) e

seen_from_twice : (d : Named) (ds : List Named) → IsTwice ds d → seen_by (key d) ds ≡ true
seen_from_twice d ds t = list_any-from_Contains same_equiv (key d) (map key ds) t

-- no name clashes where there is none
pub none_once : AllOnce []
none_once [] d rest e t = absurd cc
none_once (b ∷ before) d rest e t = absurd cc

pub once_more : (ds : List Named) (d : Named) → AllOnce ds → seen_by (key d) ds ≡ false → AllOnce (ds ++ d ∷ [])
once_more ds d once new before e rest parts twice =
    elim (cut ds d before e rest parts) [
      | inl p ↦ absurd (let f : seen_by (key d) ds ≡ true = seen_from_twice d ds (subst (λ (w : List Named). IsTwice w d) p.0 (subst (λ (w : Named). IsTwice before w) p.1 twice)) in cc)
      | inr p ↦ once before e p.0 p.1 twice
    ]
