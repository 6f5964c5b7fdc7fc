-- Functions of one unit and item have one symbol, and others have others.
use Rattle.std.proofs.Common.{◌≡◌, ◌⊎◌, ℕ, inl, inr, Bool, true, false, cond, List, [], ◌∷◌, ◌++◌, drop, refl, sym, ap, ◌∙◌, subst, arith, append_assoc, append-nil, codes}
use Rattle.std.specs.List.{AllByRecursion}
use Rattle.std.proofs.lemmas.List.Elements.{recursion_from_All}
use Rattle.inc_base.specs.Texts.{is_name_byte}
use Rattle.rs_tree.specs.declared.place.Place.{Place}
use Rattle.rs_grammar.specs.Tidy.{IsNameOfLanguage, NamesArePlain}
use Rattle.rs_emit.specs.Symbols.{symbol_in, symbol_of, unit_text}
use Rattle.link_laws.proofs.Names.{module_text}

-- bytes of names alone
abbrev pub Bytes : List ℕ → Type 0
Bytes xs = AllByRecursion (λ b. is_name_byte b ≡ true) xs

-- the bytes of names that begin a text, and the rest
abbrev cut : List ℕ → List ℕ × List ℕ
cut [] = ([], [])
cut (b ∷ bs) = cond (is_name_byte b) (b ∷ (cut bs).0, (cut bs).1) ([], b ∷ bs)

-- no byte of a name begins this
abbrev Ends : List ℕ → Type 0
Ends xs = cut xs ≡ ([], xs)

cut_at : (xs ys : List ℕ) → Bytes xs → Ends ys → cut (xs ++ ys) ≡ (xs, ys)
cut_at [] ys h e = e
cut_at (x ∷ xs) ys h e =
    ap (λ b. cond b (x ∷ (cut (xs ++ ys)).0, (cut (xs ++ ys)).1) ([], x ∷ (xs ++ ys))) h.0
    ∙ ap (λ (parts : List ℕ × List ℕ). (x ∷ parts.0, parts.1)) (cut_at xs ys h.1 e)

same_parts : (xs ys us vs : List ℕ) → Bytes xs → Bytes us → Ends ys → Ends vs → xs ++ ys ≡ us ++ vs → (xs ≡ us) × (ys ≡ vs)
same_parts xs ys us vs hx hu ey ev e =
    let both : (xs, ys) ≡ (us, vs) = sym (cut_at xs ys hx ey) ∙ ap cut e ∙ cut_at us vs hu ev in
    (ap (λ (parts : List ℕ × List ℕ). parts.0) both, ap (λ (parts : List ℕ × List ℕ). parts.1) both)

-- what follows the symbol of a function in a copy of it
abbrev pub copy_text : List ℕ → Bool → List ℕ
copy_text u true = codes "@" ++ unit_text u
copy_text u false = []

copy_ends : (u : List ℕ) (c : Bool) → Ends (copy_text u c)
copy_ends u true = refl
copy_ends u false = refl

no_path : (u : List ℕ) (c : Bool) (xs : List ℕ) → copy_text u c ≡ 58 ∷ xs → ⊥
no_path u true xs e = (let bad : ◌≡◌ {A = ℕ} 64 58 = cc in omega (arith, bad))
no_path u false xs e = cc

symbol_parts : (u : List ℕ) (c : Bool) (p : Place) → symbol_in u c p ≡ symbol_of p ++ copy_text u c
symbol_parts u true p = append_assoc (symbol_of p) (64 ∷ []) (unit_text u)
symbol_parts u false p = sym (append-nil (symbol_of p))

abbrev placed : List ℕ → List ℕ → Place
placed m n = record { «module» = m; name = n }

path_parts : (b : ℕ) (m n t : List ℕ) → symbol_of (placed (b ∷ m) n) ++ t ≡ (b ∷ m) ++ (58 ∷ 58 ∷ (n ++ t))
path_parts b m n t = append_assoc ((b ∷ m) ++ (58 ∷ 58 ∷ [])) n t ∙ append_assoc (b ∷ m) (58 ∷ 58 ∷ []) (n ++ t)

module _ (u v : List ℕ) (c d : Bool) where
  abbrev t : List ℕ
  t = copy_text u c

  abbrev s : List ℕ
  s = copy_text v d

  parts_same : (m n k l : List ℕ) → Bytes m → Bytes n → Bytes k → Bytes l → symbol_of (placed m n) ++ t ≡ symbol_of (placed k l) ++ s → (placed m n ≡ placed k l) × (t ≡ s)
  parts_same [] n [] l hm hn hk hl e = (let both = same_parts n t l s hn hl (copy_ends u c) (copy_ends v d) e in (ap (λ x. placed [] x) both.0, both.1))
  parts_same [] n (b ∷ k) l hm hn hk hl e =
      let both = same_parts n t (b ∷ k) (58 ∷ 58 ∷ (l ++ s)) hn hk (copy_ends u c) refl (e ∙ path_parts b k l s) in
      absurd (no_path u c (58 ∷ (l ++ s)) both.1)
  parts_same (b ∷ m) n [] l hm hn hk hl e =
      let both = same_parts (b ∷ m) (58 ∷ 58 ∷ (n ++ t)) l s hm hl refl (copy_ends v d) (sym (path_parts b m n t) ∙ e) in
      absurd (no_path v d (58 ∷ (n ++ t)) (sym both.1))
  parts_same (a ∷ m) n (b ∷ k) l hm hn hk hl e =
      let both = same_parts (a ∷ m) (58 ∷ 58 ∷ (n ++ t)) (b ∷ k) (58 ∷ 58 ∷ (l ++ s)) hm hk refl refl (sym (path_parts a m n t) ∙ e ∙ path_parts b k l s) in
      let more : n ++ t ≡ l ++ s = ap (drop 2) both.1 in
      let ends = same_parts n t l s hn hl (copy_ends u c) (copy_ends v d) more in
      (λ j. placed (both.0 j) (ends.0 j), ends.1)

  -- equal symbols are those of one place, in equal copies
  pub symbols_same : (p q : Place) → Bytes p.«module» → Bytes p.name → Bytes q.«module» → Bytes q.name → symbol_in u c p ≡ symbol_in v d q → (p ≡ q) × (copy_text u c ≡ copy_text v d)
  symbols_same p q hm hn hk hl e = parts_same p.«module» p.name q.«module» q.name hm hn hk hl (sym (symbol_parts u c p) ∙ e ∙ symbol_parts v d q)

-- ---- Names.

-- the root, or a module's name
abbrev pub IsModule : List ℕ → Type 0
IsModule m = (m ≡ []) ⊎ IsNameOfLanguage m

module _ (plain : NamesArePlain) where
  pub name_bytes : (m : List ℕ) → IsNameOfLanguage m → Bytes m
  name_bytes m is = recursion_from_All (λ b. is_name_byte b ≡ true) m (plain m is).name.each

  pub module_bytes : (m : List ℕ) → IsModule m → Bytes m
  module_bytes m (inl root) = subst Bytes (sym root) tt
  module_bytes m (inr named) = name_bytes m named

  -- units with one text are one
  pub units_same : (u v : List ℕ) → IsModule u → IsModule v → unit_text u ≡ unit_text v → u ≡ v
  units_same u v (inl a) (inl b) e = a ∙ sym b
  units_same u v (inl a) (inr b) e = absurd ((plain v b).other (sym (module_text plain v b) ∙ sym e ∙ ap unit_text a))
  units_same u v (inr a) (inl b) e = absurd ((plain u a).other (sym (module_text plain u a) ∙ e ∙ ap unit_text b))
  units_same u v (inr a) (inr b) e = sym (module_text plain u a) ∙ e ∙ module_text plain v b

  pub copies_same : (u v : List ℕ) → IsModule u → IsModule v → copy_text u true ≡ copy_text v true → u ≡ v
  copies_same u v hu hv e = units_same u v hu hv (ap (drop 1) e)

pub no_copy : (u v : List ℕ) → copy_text u true ≡ copy_text v false → ⊥
no_copy u v e = cc
