-- What a token's kind says of its text.
use Rattle.std.proofs.Common.{◌≡◌, ℕ, ◌<◌, ◌≤◌, Bool, true, false, not, ◌&&◌, nat_eq, cond, List, [], ◌∷◌, length, Some, refl, sym, ap, ◌∙◌, arith, codes}
use Rattle.std.specs.Prelude.{unwrap_or, nat_le}
use Rattle.std.specs.Cmp.Lexicographic.{pointwise}
use Rattle.std.specs.List.{list_all}
use Rattle.std.specs.Map.{lookup}
use Rattle.std.proofs.lemmas.List.Sums.{AllPass-from_list_all}
use Rattle.std.proofs.lemmas.Bool.Decides.{nat_tests}
use Rattle.rs_tree.specs.Words.{begins, is_letter, is_word_byte, is_identifier, is_number}
use Rattle.rs_tree.specs.Kinds.{code, keywords, signs, kind_of, kind_in}
use Rattle.rs_tree.specs.declared.kind.Kind.{Kind}
use Rattle.rs_tree.specs.declared.kind.Kind.TheVariants as k
use Rattle.rs_tree.proofs.Both.{left_of, right_of}
use Rattle.rs_grammar.specs.Lexeme.{kind_of_text}
use Rattle.rs_grammar.specs.Tidy.{NamesArePlain}

-- no row has the kind of this number
abbrev others : ℕ → List (List ℕ × Kind) → Bool
others n [] = true
others n (r ∷ rows) = not (nat_eq (code r.1) n) && others n rows

same_number : {c d : Kind} → c ≡ d → nat_eq (code d) (code d) ≡ true → nat_eq (code c) (code d) ≡ true
same_number {d} e h = ap (λ x. nat_eq (code x) (code d)) e ∙ h

kept : (a b : Bool) → (not a && b) ≡ true → a ≡ true → ⊥
kept true b h e = absurd cc
kept false b h e = absurd cc

both_true : (a b : Bool) → (a && b) ≡ true → b ≡ true
both_true true b h = h
both_true false b h = absurd cc

module _ (wanted : Kind) (itself : nat_eq (code wanted) (code wanted) ≡ true) where
  not_in : (test : List ℕ → Bool) (d : Kind) (rows : List (List ℕ × Kind)) → (d ≡ wanted → ⊥) → others (code wanted) rows ≡ true → unwrap_or (lookup test rows) d ≡ wanted → ⊥
  not_in test d [] n h e = n e
  not_in test d (r ∷ rows) n h e = go (test r.0) (not_in test d rows n (both_true _ (others (code wanted) rows) h)) e
    where
      go : (b : Bool) → (unwrap_or (lookup test rows) d ≡ wanted → ⊥) → unwrap_or (cond b (Some r.1) (lookup test rows)) d ≡ wanted → ⊥
      go true m f = kept (nat_eq (code r.1) (code wanted)) (others (code wanted) rows) h (same_number f itself)
      go false m f = m f

number_itself : nat_eq (code k.Number) (code k.Number) ≡ true
unfolding code
number_itself = refl

name_itself : nat_eq (code k.Name) (code k.Name) ≡ true
unfolding code
name_itself = refl

other_keywords : others (code k.Number) keywords ≡ true
unfolding keywords code
other_keywords = refl

other_signs : others (code k.Number) signs ≡ true
unfolding signs code
other_signs = refl

unnamed_signs : others (code k.Name) signs ≡ true
unfolding signs code
unnamed_signs = refl

not_name : k.Name ≡ k.Number → ⊥
not_name e = absurd cc

not_reserved : k.Reserved ≡ k.Number → ⊥
not_reserved e = absurd cc

reserved_not_name : k.Reserved ≡ k.Name → ⊥
reserved_not_name e = absurd cc

-- what has the kind of a number is a number
pub number_text : (text : List ℕ) → kind_of_text text ≡ k.Number → is_number text ≡ true
unfolding kind_of
number_text text e = go (is_identifier text) (is_number text) e
  where
    go : (a b : Bool) → unwrap_or (cond a (Some (unwrap_or (kind_in keywords text) k.Name)) (cond b (Some k.Number) (kind_in signs text))) k.Reserved ≡ k.Number → b ≡ true
    go a true f = refl
    go true false f = absurd (not_in k.Number number_itself _ k.Name keywords not_name other_keywords f)
    go false false f = absurd (not_in k.Number number_itself _ k.Reserved signs not_reserved other_signs f)

-- what has the kind of a name is an identifier
name_identifier : (text : List ℕ) → kind_of text ≡ Some k.Name → is_identifier text ≡ true
unfolding kind_of
name_identifier text e = go (is_identifier text) (is_number text) (ap (λ o. unwrap_or o k.Reserved) e)
  where
    go : (a b : Bool) → unwrap_or (cond a (Some (unwrap_or (kind_in keywords text) k.Name)) (cond b (Some k.Number) (kind_in signs text))) k.Reserved ≡ k.Name → a ≡ true
    go true b f = refl
    go false true f = absurd cc
    go false false f = absurd (not_in k.Name name_itself _ k.Reserved signs reserved_not_name unnamed_signs f)

some_byte : (text : List ℕ) → begins is_letter text ≡ true → 0 < length text
some_byte [] e = absurd cc
some_byte (b ∷ bs) e = omega arith

few_bytes : (n : ℕ) → nat_le n 64 ≡ true → n ≤ 64
few_bytes n e = grind (arith, nat_tests)

root_kind : kind_of (codes "crate") ≡ Some k.Crate
unfolding kind_of keywords
root_kind = refl

not_crate : (text : List ℕ) → kind_of text ≡ Some k.Name → text ≡ codes "crate" → ⊥
not_crate text e is = let two : Some k.Crate ≡ Some k.Name = sym root_kind ∙ sym (ap kind_of is) ∙ e in cc

pub names_are_plain : NamesArePlain
names_are_plain text e =
    let i = name_identifier text e in
    let t = left_of ((begins is_letter text && nat_le (length text) 64) && list_all is_word_byte text) (not (pointwise nat_eq text (codes "_"))) i in
    let f = left_of (begins is_letter text && nat_le (length text) 64) (list_all is_word_byte text) t in
    record {
      name = record {
        some = some_byte text (left_of (begins is_letter text) (nat_le (length text) 64) f);
        few = few_bytes (length text) (right_of (begins is_letter text) (nat_le (length text) 64) f);
        each = AllPass-from_list_all is_word_byte text (right_of (begins is_letter text && nat_le (length text) 64) (list_all is_word_byte text) t);
      };
      other = not_crate text e;
    }
