-- How far two lists in the order of their names agree.
use Rattle.std.proofs.Common.{◌≡◌, ℕ, ◌-◌, ◌<◌, false, cond, List, [], ◌∷◌, length, get_or, take, drop, Option, Some, None, refl, sym, ap, ◌∙◌, subst, arith}
use Rattle.std.specs.List.Sorted.{IsStrictlySortedBy}
use Rattle.std.specs.Map.{keys_of}
use Rattle.std.specs.Ordering.{is_eq}
use Rattle.std.specs.declared.cmp.Ordering.{Ordering}
use Rattle.std.specs.declared.cmp.Ordering.TheVariants.{Less, Equal, Greater}
use Rattle.std.proofs.Math.Seq.{take-length}
use Rattle.std.proofs.lemmas.Cmp.{nat_list_cmp_total, tied_itself}
use Rattle.std.proofs.lemmas.Map.Lookups.{exact_bytes}
use Rattle.inc_products.specs.declared.part.Part.{Part}
use Rattle.inc_products.specs.Named.{AreOrdered, name_cmp, value_at}
use Rattle.inc_products.specs.Plans.{File}
use Rattle.inc_products.specs.Starts.{IsBad, IsDamaged}
use Rattle.inc_products.specs.Walks.{Behind, IsAnswer, IsFound, LeadsOn}
use Rattle.inc_products.proofs.Places.{none_there, turned, weaker_each}

module _ {V : Type 0} where
  -- the first is another name's
  pub passed : (q : List ℕ) (x : List ℕ × V) (xs : List (List ℕ × V)) (r : Ordering) → name_cmp q x.0 ≡ r → is_eq r ≡ false → value_at q (x ∷ xs) ≡ value_at q xs
  passed q x xs r is off = ap (λ b. cond b (Some x.1) (value_at q xs)) (ap is_eq is ∙ off)

  pub at_equal : (q : List ℕ) (x : List ℕ × V) (xs : List (List ℕ × V)) → name_cmp q x.0 ≡ Equal → value_at q (x ∷ xs) ≡ Some x.1
  at_equal q x xs is = ap (λ b. cond b (Some x.1) (value_at q xs)) (ap is_eq is)

  pub at_first : (x : List ℕ × V) (xs : List (List ℕ × V)) → value_at x.0 (x ∷ xs) ≡ Some x.1
  at_first x xs = at_equal x.0 x xs (tied_itself nat_list_cmp_total x.0)

  -- a name before the first isn't there
  pub none_before : (q : List ℕ) (x : List ℕ × V) (xs : List (List ℕ × V)) → name_cmp q x.0 ≡ Less → AreOrdered (x ∷ xs) → value_at q (x ∷ xs) ≡ None
  unfolding IsStrictlySortedBy
  none_before q x xs less s =
      none_there name_cmp nat_list_cmp_total q (x ∷ xs) (less, weaker_each (λ y. name_cmp x.0 y ≡ Less) (λ y. name_cmp q y ≡ Less) (λ y h. nat_list_cmp_total.trans q x.0 y less h) (keys_of xs) s.0)

module _ (Well : Part → List ℕ → Type 0) where
  both : (a b : Option Part) (c d : Option (List ℕ)) → a ≡ b → c ≡ d → IsBad Well b d → IsBad Well a c
  both a b c d e f bad = subst (λ o. IsBad Well o c) (sym e) (subst (λ o. IsBad Well b o) (sym f) bad)

  -- a damaged name before which nothing is
  first_of : (n : List ℕ) (ps : List (List ℕ × Part)) (fs : List File) → ((q : List ℕ) → name_cmp q n ≡ Less → value_at q ps ≡ None) → ((q : List ℕ) → name_cmp q n ≡ Less → value_at q fs ≡ None)
      → IsDamaged Well ps fs n → ((q : List ℕ) → Behind q (keys_of ps) → Behind q (keys_of fs) → name_cmp q n ≡ Less) → IsFound Well ps fs n
  first_of n ps fs no_part no_file bad behind = record {
    damaged = record { damaged = bad; first = λ q less d. both None (value_at q ps) None (value_at q fs) (sym (no_part q less)) (sym (no_file q less)) d };
    behind = behind;
  }

  pub extra_last : (f : File) (fs : List File) → AreOrdered (f ∷ fs) → IsFound Well [] (f ∷ fs) f.0
  extra_last f fs s = first_of f.0 [] (f ∷ fs) (λ q less. refl) (λ q less. none_before q f fs less s) (both None None (value_at f.0 (f ∷ fs)) (Some f.1) refl (at_first f fs) tt) (λ q p b. b.0)

  pub missing_last : (p : List ℕ × Part) (ps : List (List ℕ × Part)) → AreOrdered (p ∷ ps) → IsFound Well (p ∷ ps) [] p.0
  missing_last p ps s = first_of p.0 (p ∷ ps) [] (λ q less. none_before q p ps less s) (λ q less. refl) (both (value_at p.0 (p ∷ ps)) (Some p.1) None None (at_first p ps) refl tt) (λ q b f. b.0)

  module _ (p : List ℕ × Part) (ps : List (List ℕ × Part)) (f : File) (fs : List File) (s : AreOrdered (p ∷ ps)) (t : AreOrdered (f ∷ fs)) where
    pub missing : name_cmp p.0 f.0 ≡ Less → IsFound Well (p ∷ ps) (f ∷ fs) p.0
    missing less = first_of p.0 (p ∷ ps) (f ∷ fs) (λ q l. none_before q p ps l s) (λ q l. none_before q f fs (nat_list_cmp_total.trans q p.0 f.0 l less) t)
        (both (value_at p.0 (p ∷ ps)) (Some p.1) (value_at p.0 (f ∷ fs)) None (at_first p ps) (none_before p.0 f fs less t) tt) (λ q b c. b.0)

    pub extra : name_cmp p.0 f.0 ≡ Greater → IsFound Well (p ∷ ps) (f ∷ fs) f.0
    extra more =
        let less = turned p.0 f.0 Greater more in
        first_of f.0 (p ∷ ps) (f ∷ fs) (λ q l. none_before q p ps (nat_list_cmp_total.trans q f.0 p.0 l less) s) (λ q l. none_before q f fs l t)
        (both (value_at f.0 (p ∷ ps)) None (value_at f.0 (f ∷ fs)) (Some f.1) (none_before f.0 p ps less s) (at_first f fs) tt) (λ q b c. c.0)

    pub unwell : name_cmp p.0 f.0 ≡ Equal → (Well p.1 f.1 → ⊥) → IsFound Well (p ∷ ps) (f ∷ fs) p.0
    unwell is not =
        let same = exact_bytes p.0 f.0 is in
        first_of p.0 (p ∷ ps) (f ∷ fs) (λ q l. none_before q p ps l s) (λ q l. none_before q f fs (ap (name_cmp q) (sym same) ∙ l) t)
        (both (value_at p.0 (p ∷ ps)) (Some p.1) (value_at p.0 (f ∷ fs)) (Some f.1) (at_first p ps) (at_equal p.0 f fs is) not) (λ q b c. b.0)

    module _ (is : name_cmp p.0 f.0 ≡ Equal) (well : Well p.1 f.1) where
      file_cmp : (q : List ℕ) (r : Ordering) → name_cmp q p.0 ≡ r → name_cmp q f.0 ≡ r
      file_cmp q r e = ap (name_cmp q) (sym (exact_bytes p.0 f.0 is)) ∙ e

      -- a name that isn't the first is damaged in what follows
      damaged_after : (q : List ℕ) (r : Ordering) → name_cmp q p.0 ≡ r → is_eq r ≡ false → IsDamaged Well (p ∷ ps) (f ∷ fs) q → IsDamaged Well ps fs q
      damaged_after q r e off d =
          both (value_at q ps) (value_at q (p ∷ ps)) (value_at q fs) (value_at q (f ∷ fs)) (sym (passed q p ps r e off)) (sym (passed q f fs r (file_cmp q r e) off)) d

      unless_damaged : (q : List ℕ) → (IsDamaged Well ps fs q → ⊥) → (r : Ordering) → name_cmp q p.0 ≡ r → IsDamaged Well (p ∷ ps) (f ∷ fs) q → ⊥
      unless_damaged q not Less e d = not (damaged_after q Less e refl d)
      unless_damaged q not Equal e d = both (Some p.1) (value_at q (p ∷ ps)) (Some f.1) (value_at q (f ∷ fs)) (sym (at_equal q p ps e)) (sym (at_equal q f fs (file_cmp q Equal e))) d well
      unless_damaged q not Greater e d = not (damaged_after q Greater e refl d)

      -- what is found of what follows is found of all
      pub goes_on : (o : Option (List ℕ)) → IsAnswer Well ps fs o → IsAnswer Well (p ∷ ps) (f ∷ fs) o
      unfolding IsStrictlySortedBy
      goes_on None a = (exact_bytes p.0 f.0 is, (well, a))
      goes_on (Some q) a =
          let behind : name_cmp p.0 q ≡ Less = a.behind p.0 s.0 (subst (λ n. Behind n (keys_of fs)) (sym (exact_bytes p.0 f.0 is)) t.0) in
          let over : name_cmp q p.0 ≡ Greater = turned p.0 q Less behind in
          record {
            damaged = record {
              damaged = both (value_at q (p ∷ ps)) (value_at q ps) (value_at q (f ∷ fs)) (value_at q fs) (passed q p ps Greater over refl) (passed q f fs Greater (file_cmp q Greater over) refl) a.damaged.damaged;
              first = λ r less. unless_damaged r (a.damaged.first r less) (name_cmp r p.0) refl;
            };
            behind = λ r b c. a.behind r b.1 c.1;
          }

-- the same of lists that begin so

pub uncons : {X : Type 0} (xs : List X) (x : X) → 0 < length xs → x ≡ get_or xs 0 x → xs ≡ x ∷ take (length xs - 1) (drop 1 xs)
uncons [] x l e = absurd (omega (arith, l))
uncons (y ∷ ys) x l e = (let n : length ys ≡ length (y ∷ ys) - 1 = omega arith in ap (λ a. a ∷ ys) (sym e) ∙ ap (λ l. x ∷ l) (sym (take-length ys) ∙ ap (λ k. take k ys) n))

pub empty_is : {X : Type 0} (xs : List X) → length xs < 1 → xs ≡ []
empty_is [] l = refl
empty_is (x ∷ xs) l = absurd (omega (arith, l))

moved : {A B : Type 0} (P : List A → List B → Type 0) {a b : List A} {c d : List B} → a ≡ b → c ≡ d → P b d → P a c
moved P {a} {b} {c} {d} e f p = subst (λ l. P l c) (sym e) (subst (λ l. P b l) (sym f) p)

module _ (Well : Part → List ℕ → Type 0) (ps : List (List ℕ × Part)) (fs : List File) (s : AreOrdered ps) (t : AreOrdered fs) where
  abbrev Finds : List ℕ → List (List ℕ × Part) → List File → Type 0
  Finds n a b = AreOrdered a → AreOrdered b → IsFound Well a b n

  pub step_extra_last : (f : File) (gs : List File) → ps ≡ [] → fs ≡ f ∷ gs → IsFound Well ps fs f.0
  step_extra_last f gs e d = moved (Finds f.0) e d (λ s t. extra_last Well f gs t) s t

  pub step_missing_last : (p : List ℕ × Part) (qs : List (List ℕ × Part)) → ps ≡ p ∷ qs → fs ≡ [] → IsFound Well ps fs p.0
  step_missing_last p qs e d = moved (Finds p.0) e d (λ s t. missing_last Well p qs s) s t

  module _ (p : List ℕ × Part) (qs : List (List ℕ × Part)) (f : File) (gs : List File) (e : ps ≡ p ∷ qs) (d : fs ≡ f ∷ gs) where
    pub step_missing : name_cmp p.0 f.0 ≡ Less → IsFound Well ps fs p.0
    step_missing is = moved (Finds p.0) e d (λ s t. missing Well p qs f gs s t is) s t

    pub step_extra : name_cmp p.0 f.0 ≡ Greater → IsFound Well ps fs f.0
    step_extra is = moved (Finds f.0) e d (λ s t. extra Well p qs f gs s t is) s t

    pub step_unwell : name_cmp p.0 f.0 ≡ Equal → (Well p.1 f.1 → ⊥) → IsFound Well ps fs p.0
    step_unwell is not = moved (Finds p.0) e d (λ s t. unwell Well p qs f gs s t is not) s t

    pub step_on : name_cmp p.0 f.0 ≡ Equal → Well p.1 f.1 → LeadsOn Well ps fs qs gs
    unfolding IsStrictlySortedBy
    step_on is well = moved (λ a b. AreOrdered a → AreOrdered b → LeadsOn Well a b qs gs) e d (λ s t. record { answer = goes_on Well p qs f gs s t is well; parts_ordered = s.1; files_ordered = t.1; less = λ some. omega arith }) s t
