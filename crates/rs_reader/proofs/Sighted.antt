-- Fronts of the tokens that are left, and what is seen of them.
use Rattle.std.proofs.Common.{◌≡◌, ℕ, ◌+◌, ◌<◌, true, false, if◌then◌else◌, List, [], ◌∷◌, map, length, refl, sym, ap, ◌∙◌, take, drop, get_or, suc, add-one, arith, slice_index_or, Result, Ok, Err, IfOk}
use Rattle.std.proofs.Math.Seq.{drop-cons}
use Rattle.std.proofs.lemmas.List.{take-map, get_or-map, get_or_default, length-map}
use Rattle.rs_tree.specs.Kinds.{same_kind}
use Rattle.rs_tree.specs.declared.kind.Kind.{Kind}
use Rattle.rs_tree.specs.declared.kind.Kind.TheVariants as k
use Rattle.rs_tree.specs.declared.place.At.{At}
use Rattle.rs_tree.specs.declared.token.Token.{Token}
use Rattle.rs_grammar.specs.Lexeme.{Lexeme, lexeme, lexemes, kind_of_text, token_kinds, name_place, nowhere, seen, token, moved}

pub front_kinds : (ts : List Token) (ks : List Kind) (n : ℕ) → ks ≡ token_kinds ts → take n ks ≡ token_kinds (take n ts)
front_kinds ts ks n e = ap (take n) e ∙ take-map (λ (t : Token). kind_of_text t.text) n ts

pub front_lexemes : (ts : List Token) (u : List Lexeme) (n : ℕ) → lexemes ts ≡ u → lexemes (take n ts) ≡ take n u
front_lexemes ts u n e = sym (take-map lexeme n ts) ∙ ap (take n) e

pub copied : (base : At) (ts : List Token) (u : List Lexeme) → lexemes ts ≡ u → map (λ t. token (moved base (lexeme t))) ts ≡ map token (seen base u)
copied base ts u e = go ts ∙ ap (λ l. map token (seen base l)) e
  where
    go : (ts : List Token) → map (λ t. token (moved base (lexeme t))) ts ≡ map token (seen base (lexemes ts))
    go [] = refl
    go (t ∷ ts) = ap (λ l. token (moved base (lexeme t)) ∷ l) (go ts)

-- the token at a place, where the first name is sought
module _ (ts : List Token) (ks : List Kind) (i : ℕ) (is : ks ≡ token_kinds ts) (within : i < length ks) where
  inside : i < length ts
  inside = omega (arith, within, ap length is, length-map ts (λ (t : Token). kind_of_text t.text))

  abbrev here : Token
  here = get_or ts i (record { at = nowhere; text = [] })

  kind_is : (d : Kind) → get_or ks i d ≡ (lexeme here).kind
  kind_is d = ap (λ (l : List Kind). get_or l i d) is ∙ get_or-map (λ (t : Token). kind_of_text t.text) ts i _ d inside

  opened : drop i ts ≡ here ∷ drop (i + 1) ts
  opened = rw (add-one, drop-cons ts i here inside) (ap (λ (t : Token). t ∷ drop (suc i) ts) (get_or_default ts i here _ inside))

  pub name_here : (d : Kind) (e : Token) → same_kind (get_or ks i d) k.Name ≡ true → (slice_index_or ts i e).at ≡ name_place (lexemes (drop i ts))
  name_here d e h =
      ap (λ (t : Token). t.at) (get_or_default ts i e _ inside) ∙
      sym (ap (λ l. name_place (lexemes l)) opened ∙ ap (λ b. if b then here.at else name_place (lexemes (drop (i + 1) ts))) (ap (λ c. same_kind c k.Name) (sym (kind_is d)) ∙ h))

  pub name_later : (d : Kind) → same_kind (get_or ks i d) k.Name ≡ false → name_place (lexemes (drop (i + 1) ts)) ≡ name_place (lexemes (drop i ts))
  name_later d h =
      sym (ap (λ l. name_place (lexemes l)) opened ∙ ap (λ b. if b then here.at else name_place (lexemes (drop (i + 1) ts))) (ap (λ c. same_kind c k.Name) (sym (kind_is d)) ∙ h))

pub ok_as : {T E : Type 0} {P Q : T → Type 0} (r : Result T E) → ((x : T) → P x → Q x) → IfOk r P → IfOk r Q
ok_as (Ok x) f p = f x p
ok_as (Err e) f p = tt
