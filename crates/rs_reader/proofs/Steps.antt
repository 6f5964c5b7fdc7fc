-- Steps of reading.
use Rattle.std.proofs.Common.{◌≡◌, ℕ, suc, ◌≤◌, Bool, true, false, eq-eqb, List, [], ◌∷◌, length, map, get_or, take, drop, ◌-◌, Some, None, Ok, Err, refl, sym, ap, ◌∙◌, subst, arith}
use Rattle.std.proofs.lemmas.Bool.{eqb-true}
use Rattle.std.proofs.lemmas.List.{take_all, length-drop, drop-map}
use Rattle.rs_tree.specs.Kinds.{code}
use Rattle.rs_tree.proofs.Codes.{code_injective}
use Rattle.rs_tree.specs.declared.kind.Kind.{Kind}
use Rattle.rs_tree.specs.declared.place.At.{At}
use Rattle.rs_tree.specs.declared.token.Token.{Token}
use Rattle.rs_reader.specs.declared.fault.Fault.TheVariants as fault
use Rattle.rs_grammar.specs.Lexeme.{Lexeme, kind_of_text, lexeme, lexemes, token_kinds, moved, seen, next_kind, second_kind}
use Rattle.rs_grammar.specs.Grammar.{Tok}
use Rattle.rs_grammar.specs.Sets.{first, next_in}
use Rattle.rs_grammar.specs.Parses.{Parses, r-tok, r-other, r-end}
use Rattle.rs_reader.specs.Reading.{Reading}

-- A token of the kind stands next.
pub taken : {c : Kind} {t : Lexeme} {u w : List Lexeme} → u ≡ t ∷ w → next_in (first (Tok c)) u ≡ true → Reading (Tok c) u (Ok t) w
taken {c} {t} {u} {w} e h = record {
  is = subst (λ (z : List Lexeme). Parses _ (Tok c) z (Some t) w) (sym e) (r-tok (code_injective t.kind c (eqb-true _ _ (sym (ap (next_in (first (Tok c))) e) ∙ h))));
  on = omega (arith, ap length e);
}

-- None stands next.
pub refused : (c : Kind) (u : List Lexeme) → false ≡ next_in (first (Tok c)) u → Reading (Tok c) u (Err fault.Syntax) u
refused c u e = record { is = go u e; on = tt }
  where
    go : (u : List Lexeme) → false ≡ next_in (first (Tok c)) u → Parses _ (Tok c) u None u
    go [] e = r-end
    go (t ∷ u) e = r-other (λ h. let f : true ≡ false = sym (eq-eqb _ _ (ap code h)) ∙ sym e in cc)

-- where tokens are seen from changes nothing in what they are
pub next_in_seen : (p : ℕ → Bool) (base : At) (u : List Lexeme) → next_in p (seen base u) ≡ next_in p u
next_in_seen p base [] = refl
next_in_seen p base (t ∷ u) = refl

reads_seen : {c : Kind} {t : Lexeme} {u w : List Lexeme} (base : At) → Parses _ (Tok c) u (Some t) w → Parses _ (Tok c) (seen base u) (Some (moved base t)) (seen base w)
reads_seen base (r-tok e) = r-tok e

length_seen : (base : At) (u : List Lexeme) → length (seen base u) ≡ length u
length_seen base [] = refl
length_seen base (t ∷ u) = ap (λ n. suc n) (length_seen base u)

pub taken_seen : {c : Kind} {t : Lexeme} {u w : List Lexeme} (base : At) → Reading (Tok c) u (Ok t) w → Reading (Tok c) (seen base u) (Ok (moved base t)) (seen base w)
taken_seen {u} {w} base r = record { is = reads_seen base r.is; on = omega (arith, r.on, length_seen base u, length_seen base w) }

-- what the parts of tokens that are kept with their kinds say of them
pub next_from : (ts : List Token) (ks : List Kind) (d : Kind) (u : List Lexeme) → ks ≡ token_kinds ts → lexemes ts ≡ u → 1 ≤ length ks → Some (get_or ks 0 d) ≡ next_kind u
next_from [] ks d u e f h = absurd (omega (arith, h, ap length e))
next_from (t ∷ ts) ks d u e f h = ap (λ (z : List Kind). Some (get_or z 0 d)) e ∙ ap next_kind f

pub second_from : (ts : List Token) (ks : List Kind) (d : Kind) (u : List Lexeme) → ks ≡ token_kinds ts → lexemes ts ≡ u → 2 ≤ length ks → Some (get_or ks 1 d) ≡ second_kind u
second_from [] ks d u e f h = absurd (omega (arith, h, ap length e))
second_from (t ∷ []) ks d u e f h = absurd (omega (arith, h, ap length e))
second_from (t ∷ v ∷ ts) ks d u e f h = ap (λ (z : List Kind). Some (get_or z 1 d)) e ∙ ap second_kind f

pub taken_from : {c kind : Kind} {t : Token} {l : Lexeme} {ts rest : List Token} {ks kinds : List Kind} {u : List Lexeme} → ts ≡ t ∷ rest → ks ≡ kind ∷ kinds → ks ≡ token_kinds ts → lexemes ts ≡ u
    → l ≡ record { kind = kind; at = t.at; text = t.text } → next_in (first (Tok c)) u ≡ true → Reading (Tok c) u (Ok l) (lexemes rest)
taken_from {kind} {t} {l} {rest} {kinds} {u} e f g h m n =
    let k : kind ∷ kinds ≡ token_kinds (t ∷ rest) = sym f ∙ g ∙ ap token_kinds e in
    let same : kind ≡ kind_of_text t.text = cc in
    let is : l ≡ lexeme t = m ∙ ap (λ z. record { kind = z; at = t.at; text = t.text }) same in
    taken (sym h ∙ ap lexemes e ∙ ap (λ z. z ∷ lexemes rest) (sym is)) n

pub seen_so : (c : Kind) (base : At) (u : List Lexeme) {v : List Lexeme} → seen base u ≡ v → next_in (first (Tok c)) v ≡ true → next_in (first (Tok c)) u ≡ true
seen_so c base u e h = sym (next_in_seen (first (Tok c)) base u) ∙ ap (next_in (first (Tok c))) e ∙ h

pub taken_so : {c : Kind} {t m : Lexeme} {u v w : List Lexeme} (base : At) → m ≡ moved base t → seen base u ≡ v → Reading (Tok c) u (Ok t) w → Reading (Tok c) v (Ok m) (seen base w)
taken_so {c} {m} {u} {w} base e f r =
    subst (λ (z : List Lexeme). Reading (Tok c) z (Ok m) (seen base w)) f (subst (λ (z : Lexeme). Reading (Tok c) (seen base u) (Ok z) (seen base w)) (sym e) (taken_seen base r))

skipped : {X : Type 0} (xs : List X) (n : ℕ) → n ≤ length xs → take (length xs - n) (drop n xs) ≡ drop n xs
skipped xs n h = take_all _ _ (omega (arith, length-drop n xs))

same_length : {X Y : Type 0} (f : X → Y) (xs : List X) → length (map f xs) ≡ length xs
same_length f [] = refl
same_length f (x ∷ xs) = ap (λ n. suc n) (same_length f xs)

within : {X Y : Type 0} (f : X → Y) (xs : List X) (ys : List Y) (n : ℕ) → map f xs ≡ ys → n ≤ length ys → n ≤ length xs
within f xs ys n e h = omega (arith, h, ap length e, same_length f xs)

pub skipped_kinds : (ts : List Token) (ks : List Kind) (u : List Lexeme) (n : ℕ) → ks ≡ token_kinds ts → lexemes ts ≡ u → n ≤ length u → take (length ks - n) (drop n ks) ≡ token_kinds (take (length ts - n) (drop n ts))
skipped_kinds ts ks u n e f h =
    let i : n ≤ length ts = within lexeme ts u n f h in
    let j : n ≤ length ks = omega (arith, i, ap length e, same_length (λ (t : Token). kind_of_text t.text) ts) in
    skipped ks n j ∙ ap (drop n) e ∙ drop-map (λ (t : Token). kind_of_text t.text) n ts ∙ ap token_kinds (sym (skipped ts n i))

pub skipped_lexemes : (ts : List Token) (u : List Lexeme) (n : ℕ) → lexemes ts ≡ u → n ≤ length u → lexemes (take (length ts - n) (drop n ts)) ≡ drop n u
skipped_lexemes ts u n f h = ap lexemes (skipped ts n (within lexeme ts u n f h)) ∙ sym (drop-map lexeme n ts) ∙ ap (drop n) f

-- what was read as a kind is of it
pub read_kind : {c : Kind} {t : Lexeme} {u w : List Lexeme} → Parses _ (Tok c) u (Some t) w → t.kind ≡ c
read_kind (r-tok e) = e
