-- The first bracket that nests too deep, by counting from the left.
use Rattle.std.proofs.Common.{◌≡◌, ℕ, ◌+◌, ◌<◌, ◌≤◌, List, [], ◌∷◌, ◌++◌, length, sym, ap, ◌∙◌, subst, take, drop, get_or, arith, slice_index_or}
use Rattle.std.proofs.lemmas.List.{get_or-map, get_or_default, length-map}
use Rattle.rs_tree.specs.declared.kind.Kind.{Kind}
use Rattle.rs_tree.specs.declared.token.Token.{Token}
use Rattle.rs_grammar.specs.Lexeme.{Lexeme, lexeme, lexemes, kind_of_text, token_kinds}
use Rattle.rs_grammar.specs.Nesting.{open_after, depth, IsShallow, IsTooDeep}
use Rattle.rs_grammar.proofs.Depths.{depth_more, shallow_more}
use Rattle.rs_grammar.proofs.Lists.{about, one_more}

-- The token at a place, and its kind, in the text's two lists.
module _ (ts : List Token) (ks : List Kind) (i : ℕ) (is : ks ≡ token_kinds ts) (within : i < length ks) where
  inside : i < length ts
  inside = omega (arith, within, ap length is, length-map ts (λ t. kind_of_text t.text))

  abbrev at : Lexeme
  at = lexeme (get_or ts i (record { at = record { line = 0; column = 0 }; text = [] }))

  at_is : at ≡ get_or (lexemes ts) i at
  at_is = sym (get_or-map lexeme ts i _ at inside)

  kind_is : (d : Kind) → get_or ks i d ≡ at.kind
  kind_is d = ap (λ (l : List Kind). get_or l i d) is ∙ get_or-map (λ t. kind_of_text t.text) ts i _ d inside

  inside_lexemes : i < length (lexemes ts)
  inside_lexemes = omega (arith, inside, length-map ts lexeme)

  -- one token further
  depth_on : (n : ℕ) (d : Kind) → n ≡ depth (take i (lexemes ts)) → open_after n (get_or ks i d) ≡ depth (take i (lexemes ts) ++ at ∷ [])
  depth_on n d e = (λ j. open_after (e j) (kind_is d j)) ∙ sym (depth_more (take i (lexemes ts)) at)

  pub depth_next : (n m : ℕ) (d : Kind) → n ≡ depth (take i (lexemes ts)) → m ≡ open_after n (get_or ks i d) → m ≡ depth (take (i + 1) (lexemes ts))
  depth_next n m d e f = f ∙ depth_on n d e ∙ ap depth (sym (one_more (lexemes ts) i at inside_lexemes at_is))

  pub shallow_next : (n m : ℕ) (d : Kind) → n ≡ depth (take i (lexemes ts)) → m ≡ open_after n (get_or ks i d) → m ≤ 64 → IsShallow (take i (lexemes ts)) → IsShallow (take (i + 1) (lexemes ts))
  shallow_next n m d e f h calm =
      subst (λ (w : List Lexeme). IsShallow w) (sym (one_more (lexemes ts) i at inside_lexemes at_is)) (shallow_more (take i (lexemes ts)) at calm (omega (arith, h, f ∙ depth_on n d e)))

  pub too_deep : (n m : ℕ) (d : Kind) (t : Token) → n ≡ depth (take i (lexemes ts)) → m ≡ open_after n (get_or ks i d) → 64 < m → IsShallow (take i (lexemes ts)) → IsTooDeep (lexemes ts) (slice_index_or ts i t).at
  too_deep n m d t e f h calm = record {
    before = take i (lexemes ts);
    bracket = at;
    rest = drop (i + 1) (lexemes ts);
    parts = about (lexemes ts) i at inside_lexemes at_is;
    shallow = calm;
    deep = omega (arith, h, f ∙ depth_on n d e);
    place = ap (λ (x : Token). x.at) (get_or_default ts i t _ inside);
  }
