-- An item's tokens are parsed again to the same item.
use Rattle.std.proofs.Common.{◌≡◌, ℕ, ◌-◌, ◌==◌, ◌≤◌, Bool, true, false, if◌then◌else◌, inl, inr, List, [], ◌∷◌, ◌++◌, map, Some, refl, sym, ap, ◌∙◌, subst, arith, append_assoc, append-nil, eq-eqb}
use Rattle.rs_tree.specs.declared.kind.Kind.{Kind}
use Rattle.rs_tree.specs.declared.kind.Kind.TheVariants as k
use Rattle.rs_tree.specs.declared.place.At.{At}
use Rattle.rs_tree.specs.declared.token.Token.{Token}
use Rattle.rs_tree.specs.declared.tree.Crate.{Crate}
use Rattle.rs_tree.specs.declared.tree.Placed.{Placed}
use Rattle.rs_grammar.specs.Lexeme.{Lexeme, lexeme, lexemes, moved, nowhere, relative, seen, token}
use Rattle.rs_grammar.specs.declared.sited.Sited.{Sited}
use Rattle.rs_grammar.specs.Grammar.{Section, Module, Alone, Rep, Nt, Text, Part, Contents, Item, Definition, Matches, m-tok, m-seq, m-left, m-right, m-stop, m-turn, m-ahead, m-not_ahead, m-here, m-nt, made}
use Rattle.rs_grammar.specs.Nesting.{open_after, open_from, depth, IsShallow}
use Rattle.rs_grammar.specs.Correct.{placed_in, name_in, FitsCrate, items_of, HasTree}
use Rattle.rs_grammar.specs.Again.{alone, ItemsParseAgain, ItemsFollow}
use Rattle.rs_grammar.proofs.Depths.{open_append}
use Rattle.rs_grammar.proofs.Lists.{cons_same, cut_at, no_tokens, same_head, same_rest, split}
use Rattle.rs_grammar.proofs.Names.{none_once, once_more}
use Rattle.rs_grammar.proofs.Exact.{reads_whole}
use Rattle.rs_grammar.proofs.Fine.{fine}
use Rattle.rs_grammar.proofs.Total.{total}
use Rattle.rs_grammar.proofs.Decided.{one_tree}

-- places

if_same : (b : Bool) (c : ℕ) → (if b then c - 0 else c) ≡ c
if_same true c = omega arith
if_same false c = refl

relative_nowhere : (at : At) → relative nowhere at ≡ at
relative_nowhere at =
    let l : at.line - 0 ≡ at.line = omega arith in
    let c = if_same (at.line == 0) at.column in
    λ i. record { line = l i; column = c i }

relative_self : (at : At) → relative at at ≡ nowhere
relative_self at =
    let l : at.line - at.line ≡ 0 = omega arith in
    let t : (at.line == at.line) ≡ true = eq-eqb at.line at.line refl in
    let z : at.column - at.column ≡ 0 = omega arith in
    let c : (if at.line == at.line then at.column - at.column else at.column) ≡ 0 = ap (λ b. if b then at.column - at.column else at.column) t ∙ z in
    λ i. record { line = l i; column = c i }

seen_nowhere : (u : List Lexeme) → seen nowhere u ≡ u
seen_nowhere [] = refl
seen_nowhere (t ∷ u) = cons_same (λ i. record t { at = relative_nowhere t.at i }) (seen_nowhere u)

tokens_seen : (base : At) (ts : List Token) → lexemes (map token (seen base (lexemes ts))) ≡ seen base (lexemes ts)
tokens_seen base [] = refl
tokens_seen base (t ∷ ts) = cons_same refl (tokens_seen base ts)

-- an item as it is read again
again : {u : List Lexeme} {s : Sited} → Matches _ (Nt Item) u s → (ts : List Token) → lexemes ts ≡ u → (name : List ℕ)
    → (x : Sited) × Matches _ (Nt Item) (lexemes (placed_in name s).item.tokens) x × (x.placed ≡ record { «module» = []; start = nowhere; item = (placed_in name s).item }) × ((base : At) × (lexemes (placed_in name s).item.tokens ≡ seen base u))
again (m-nt (m-here {t} {a} {x = i} m)) ts e name =
    let b = seen t.at (t ∷ a) in
    let p : seen (relative t.at t.at) b ≡ b = ap (λ (at : At). seen at b) (relative_self t.at) ∙ seen_nowhere b in
    let m2 = subst (λ (w : List Lexeme). Matches _ (Nt Definition) w i) (sym p) m in
    let m3 : Matches _ (Nt Item) b (made Item (b, i)) = m-nt {n = Item} (m-here m2) in
    let l : lexemes (map token b) ≡ b = ap (λ (w : List Lexeme). lexemes (map token (seen t.at w))) (sym e) ∙ tokens_seen t.at ts ∙ ap (seen t.at) e in (
      made Item (b, i),
      subst (λ (w : List Lexeme). Matches _ (Nt Item) w (made Item (b, i))) (sym l) m3,
      (λ j. record { «module» = []; start = relative_self t.at j; item = record i { tokens = map token (p j) } }),
      (t.at, l),
    )

-- one match
unique : {u : List Lexeme} {x y : List Section} → FitsCrate u x → FitsCrate u y → y ≡ x
unique {u} {x} {y} p q =
    let r = total (Nt Text) u tt in
    let i = reads_whole fine r.reads tt p [] (sym (append-nil u)) refl in
    let j = reads_whole fine r.reads tt q [] (sym (append-nil u)) refl in
    let e : Some y ≡ Some x = sym j.0 ∙ i.0 in
    cc

fits_alone : {u : List Lexeme} {s : Sited} → Matches _ (Nt Item) u s → FitsCrate u (Alone s ∷ [])
fits_alone {u} {s} m = m-nt {n = Text} (subst (λ (w : List Lexeme). Matches _ (Rep (Nt Part)) w (Alone s ∷ [])) (append-nil u) (m-turn (m-nt {n = Part} (m-not_ahead (m-right m))) m-stop))

-- nesting

kept_kind : (base : At) (n : ℕ) (u : List Lexeme) → open_from n (seen base u) ≡ open_from n u
kept_kind base n [] = refl
kept_kind base n (t ∷ u) = kept_kind base (open_after n t.kind) u

more_open : (m n : ℕ) (c : Kind) → m ≤ n → open_after m c ≤ open_after n c
more_open m n k.LeftParen h = omega (arith, h)
more_open m n k.LeftBrace h = omega (arith, h)
more_open m n k.RightParen h = omega (arith, h)
more_open m n k.RightBrace h = omega (arith, h)
more_open m n _ h = h

more_from : (m n : ℕ) (u : List Lexeme) → m ≤ n → open_from m u ≤ open_from n u
more_from m n [] h = h
more_from m n (t ∷ u) h = more_from (open_after m t.kind) (open_after n t.kind) u (more_open m n t.kind h)

calm : (base : At) (u front a back : List Lexeme) → u ≡ front ++ (a ++ back) → IsShallow u → IsShallow (seen base a)
calm base u front a back e h before rest z =
    let s = split (moved base) a before rest z in
    let w : u ≡ (front ++ s.front) ++ (s.back ++ back) =
    e ∙ ap (λ l. front ++ (l ++ back)) s.whole ∙ ap (λ l. front ++ l) (append_assoc s.front s.back back) ∙ sym (append_assoc front s.front (s.back ++ back)) in
    let most = h (front ++ s.front) (s.back ++ back) w in
    let cut = open_append 0 front s.front in
    let least = more_from 0 (depth front) s.front (omega arith) in
    let same : depth before ≡ depth s.front = ap depth (sym s.one) ∙ kept_kind base 0 s.front in
    omega (arith, most, cut, least, same)

-- an item of a text

-- its tokens stand together in the text, and match it
pub record FromItem (u : List Lexeme) (p : Placed) : Type 0 where
  pub name : List ℕ
  pub sited : Sited
  pub is : p ≡ placed_in name sited
  pub front : List Lexeme
  pub tokens : List Lexeme
  pub back : List Lexeme
  pub parts : u ≡ front ++ (tokens ++ back)
  pub item : Matches _ (Nt Item) tokens sited

behind : {u : List Lexeme} {p : Placed} (pre : List Lexeme) → FromItem u p → FromItem (pre ++ u) p
behind pre f = record {
  name = f.name;
  sited = f.sited;
  is = f.is;
  front = pre ++ f.front;
  tokens = f.tokens;
  back = f.back;
  parts = ap (λ w. pre ++ w) f.parts ∙ sym (append_assoc pre f.front (f.tokens ++ f.back));
  item = f.item;
}

before_others : {u : List Lexeme} {p : Placed} (post : List Lexeme) → FromItem u p → FromItem (u ++ post) p
before_others post f = record {
  name = f.name;
  sited = f.sited;
  is = f.is;
  front = f.front;
  tokens = f.tokens;
  back = f.back ++ post;
  parts = ap (λ w. w ++ post) f.parts ∙ append_assoc f.front (f.tokens ++ f.back) post ∙ ap (λ w. f.front ++ w) (append_assoc f.tokens f.back post);
  item = f.item;
}

in_items : {u : List Lexeme} {ss : List Sited} → Matches _ (Rep (Nt Item)) u ss → (name : List ℕ) (before rest : List Placed) (p : Placed) → map (placed_in name) ss ≡ before ++ p ∷ rest → FromItem u p
in_items m-stop name [] rest p e = absurd (no_tokens e)
in_items m-stop name (b ∷ before) rest p e = absurd (no_tokens e)
in_items (m-turn {a} {b} {x} m n) name [] rest p e = record { name = name; sited = x; is = sym (same_head e); front = []; tokens = a; back = b; parts = refl; item = m }
in_items (m-turn {a} {b} {x} m n) name (q ∷ before) rest p e = behind a (in_items n name before rest p (same_rest e))

in_contents : {u : List Lexeme} {x : Section} → Matches _ (Nt Contents) u x → (before rest : List Placed) (p : Placed) → items_of (x ∷ []) ≡ before ++ p ∷ rest → FromItem u p
in_contents (m-nt (m-seq (m-tok {t = name} i) (m-seq (m-tok {t = left} j) (m-seq {a} {x = ss} m (m-tok {t = right} l))))) before rest p e =
    behind (name ∷ []) (behind (left ∷ []) (before_others (right ∷ []) (in_items m name.text before rest p (sym (append-nil (map (placed_in name.text) ss)) ∙ e))))

in_part : {u : List Lexeme} {x : Section} → Matches _ (Nt Part) u x → (before rest : List Placed) (p : Placed) → items_of (x ∷ []) ≡ before ++ p ∷ rest → FromItem u p
in_part (m-nt (m-ahead (m-seq (m-tok {t = one} i) (m-seq (m-tok {t = two} j) m)))) before rest p e = behind (one ∷ []) (behind (two ∷ []) (in_contents m before rest p e))
in_part (m-nt (m-not_ahead (m-left (m-seq (m-tok {t = one} i) m)))) before rest p e = behind (one ∷ []) (in_contents m before rest p e)
in_part {u} (m-nt (m-not_ahead (m-right {y = s} m))) [] rest p e = record { name = []; sited = s; is = sym (same_head e); front = []; tokens = u; back = []; parts = sym (append-nil u); item = m }
in_part (m-nt (m-not_ahead (m-right m))) (b ∷ before) rest p e = absurd (nothing before (same_rest e))
  where
    nothing : (before : List Placed) → [] ≡ before ++ p ∷ rest → ⊥
    nothing [] z = no_tokens z
    nothing (c ∷ before) z = no_tokens z

first_items : (x : Section) (more : List Section) → items_of (x ∷ more) ≡ items_of (x ∷ []) ++ items_of more
first_items (Module at name ss) more = sym (append_assoc (map (placed_in name) ss) [] (items_of more))
first_items (Alone s) more = refl

in_first : {a b : List Lexeme} {x : Section} (xs : List Section) → Matches _ (Nt Part) a x → (before rest : List Placed) (p : Placed) → (items_of xs ≡ p ∷ rest → FromItem b p)
    → (q : List Placed) → items_of (x ∷ []) ≡ before ++ q → p ∷ rest ≡ q ++ items_of xs → FromItem (a ++ b) p
in_first {a} xs m before rest p later [] f g = behind a (later (sym g))
in_first {b} xs m before rest p later (y ∷ q) f g = before_others b (in_part m before q p (f ∙ ap (λ (z : Placed). before ++ z ∷ q) (sym (same_head g))))

in_parts : {u : List Lexeme} {ps : List Section} → Matches _ (Rep (Nt Part)) u ps → (before rest : List Placed) (p : Placed) → items_of ps ≡ before ++ p ∷ rest → FromItem u p
in_parts m-stop [] rest p e = absurd (no_tokens e)
in_parts m-stop (b ∷ before) rest p e = absurd (no_tokens e)
in_parts (m-turn {a} {b} {x} {xs} m n) before rest p e =
    elim (cut_at (items_of (x ∷ [])) (items_of xs) before (p ∷ rest) (sym (first_items x xs) ∙ e)) [
      | inl q ↦ in_first xs m before rest p (λ g. in_parts n [] rest p g) q.0 q.1 q.2
      | inr q ↦ behind a (in_parts n q.0 rest p q.2)
    ]

pub in_text : {u : List Lexeme} {ps : List Section} → FitsCrate u ps → (before rest : List Placed) (p : Placed) → items_of ps ≡ before ++ p ∷ rest → FromItem u p
in_text (m-nt m) before rest p e = in_parts m before rest p e

pub items_parse_again : ItemsParseAgain
items_parse_again tokens tree before rest p h e =
    let f = in_text h.fit before rest p (sym (ap (λ (c : Crate). c.items) h.makes) ∙ e) in
    let s = split lexeme tokens f.front (f.tokens ++ f.back) f.parts in
    let r = split lexeme s.back f.tokens f.back s.other in
    let a = again f.item r.front r.one f.name in
    subst (λ (q : Placed). HasTree q.item.tokens (alone q.item)) (sym f.is) (record {
      shallow = subst (λ (w : List Lexeme). IsShallow w) (sym a.3.1) (calm a.3.0 (lexemes tokens) f.front f.tokens f.back f.parts h.shallow);
      sections = Alone a.0 ∷ [];
      fit = fits_alone a.1;
      only = λ others m. unique (fits_alone a.1) m;
      once = once_more [] (name_in [] a.0) none_once refl;
      makes = ap (λ (q : Placed). record { modules = []; items = record q { «module» = [] } ∷ [] }) (sym a.2);
    })

pub items_follow : ItemsFollow
items_follow a b x y e =
    let z : HasTree a.tokens (alone b) = subst (λ ts. HasTree ts (alone b)) (sym e) y in
    let same = one_tree a.tokens (alone a) (alone b) x z in
    ap (λ (p : Placed). p.item) (same_head (ap (λ (c : Crate). c.items) same))
