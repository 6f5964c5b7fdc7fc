-- Among finitely many constants, of each of which one is named that is so too, some constant names itself in the end.
use Rattle.std.proofs.Common.{◌≡◌, inl, inr, ℕ, zero, suc, ◌+◌, ◌<◌, nat_eq, Bool, true, false, List, [], ◌∷◌, ◌++◌, length, refl, sym, arith, length-append}
use Rattle.std.specs.Prelude.{Some, slice_index_or}
use Rattle.std.specs.List.{All, Contains, IsDistinct, list_any}
use Rattle.std.proofs.lemmas.Cmp.{nat_eq_equiv}
use Rattle.std.proofs.lemmas.List.Elements.{All-contains, All-push, Contains-append_cases}
use Rattle.std.proofs.lemmas.Map.Keys.{IsDistinct-push}
use Rattle.std.proofs.lemmas.Map.Steps.{length-le_from_distinct_below}
use Rattle.std.proofs.lemmas.Map.Views.{Contains-from_any, exact_unsigned_eq}
use Rattle.rs_reach.specs.Reached.{every}
use Rattle.rs_reach.specs.Search.{Path}
use Rattle.rs_const.specs.Constants.{Entry, IsInCycle, names_of}
use Rattle.link_laws.proofs.Lists.{none_distinct}

module _ (known : List Entry) where
  -- one constant names another
  abbrev pub Names : ℕ → ℕ → Type 0
  Names a b = (cs : List ℕ) × (names_of known a ≡ Some cs) × Contains cs b

  marked : (xs : List Entry) (i : ℕ) → i < length xs → slice_index_or (every xs) i false ≡ true
  marked [] i l = absurd (omega (arith, l))
  marked (x ∷ xs) zero l = refl
  marked (x ∷ xs) (suc i) l = marked xs i (omega (arith, l))

  one_step : (from a b n : ℕ) → Path (every known) (names_of known) (from ∷ []) n a → Names a b → b < length known → Path (every known) (names_of known) (from ∷ []) (suc n) b
  one_step from a b n path names l = (a, path, (names.0, names.1, names.2, marked known b l))

  -- what is so has a number of a constant, and names one that is so
  pub record Goes (P : ℕ → Type 0) (a : ℕ) : Type 0 where
    pub to : ℕ
    pub so : P to
    pub names : Names a to

  module _ (P : ℕ → Type 0) (below : (a : ℕ) → P a → a < length known) (goes : (a : ℕ) → P a → Goes P a) (straight : (a : ℕ) → P a → IsInCycle known a → ⊥) where
    -- constants that differ, from each of which the last is reached
    record Chain (seen : List ℕ) (last : ℕ) : Type 0 where
      numbers : All (λ i. i < length known) seen
      once : IsDistinct nat_eq seen
      reach : (x : ℕ) → Contains seen x → (n : ℕ) × Path (every known) (names_of known) (x ∷ []) n last

    abbrev Seen : List ℕ → Type 0
    Seen seen = length seen < length known + 1

    few : (seen : List ℕ) (last : ℕ) → Chain seen last → Seen seen
    few seen last c =
        let most = length-le_from_distinct_below seen (length known) c.once (λ q h. All-contains (λ i. i < length known) seen q c.numbers (Contains-from_any {eq = nat_eq} exact_unsigned_eq q seen h)) in
        omega (arith, most)

    more : (seen : List ℕ) (last : ℕ) → Chain seen last → P last → (to : ℕ) → Names last to → to < length known → list_any (nat_eq to) seen ≡ false → Chain (seen ++ to ∷ []) to
    more seen last c so to names l new = record {
      numbers = All-push (λ i. i < length known) seen to c.numbers l;
      once = IsDistinct-push nat_eq_equiv seen to c.once new;
      reach = λ x has. elim (Contains-append_cases seen (to ∷ []) x has) [
        | inl old ↦ (let r = c.reach x old in (suc r.0, one_step x last to r.0 r.1 names l))
        | inr here ↦ (0, (0, omega arith, itself x here))
      ];
    }
      where
        itself : (x : ℕ) → Contains (to ∷ []) x → x ≡ to
        itself x (zero, l, e) = sym e
        itself x (suc n, l, e) = absurd (omega (arith, l))

    ends : (n : ℕ) (seen : List ℕ) (last : ℕ) → Chain seen last → P last → length known < n + length seen → ⊥
    ends zero seen last c so e = omega (arith, e, few seen last c)
    ends (suc n) seen last c so e = by (list_any (nat_eq to) seen) refl (λ known_more. ends n (seen ++ to ∷ []) to known_more next.so (omega (arith, e, length-append seen (to ∷ []))))
      where
        next : Goes P last
        next = goes last so

        to : ℕ
        to = next.to

        by : (b : Bool) → list_any (nat_eq to) seen ≡ b → (Chain (seen ++ to ∷ []) to → ⊥) → ⊥
        by false new rest = rest (more seen last c so to next.names (below to next.so) new)
        by true old rest = (let r = c.reach to (Contains-from_any {eq = nat_eq} exact_unsigned_eq to seen old) in straight to next.so (r.0, one_step to last to r.0 r.1 next.names (below to next.so)))

    pub none_so : (a : ℕ) → P a → ⊥
    none_so a so = ends (length known) (a ∷ []) a (record { numbers = All-push (λ i. i < length known) [] a (λ k d l. absurd (omega (arith, l))) (below a so); once = IsDistinct-push nat_eq_equiv [] a (none_distinct nat_eq) refl; reach = λ x has. (0, (0, omega arith, itself x has)) }) so (omega arith)
      where
        itself : (x : ℕ) → Contains (a ∷ []) x → x ≡ a
        itself x (zero, l, e) = sym e
        itself x (suc n, l, e) = absurd (omega (arith, l))
