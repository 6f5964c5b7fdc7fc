-- Every list of tokens is read by a form, or has a fault of it: by how many tokens there are, by the rank of the
-- form's name among those that begin each other, and by the form.
use Rattle.std.proofs.Common.{◌≡◌, ℕ, zero, suc, ◌-◌, ◌<◌, ◌≤◌, Bool, true, false, not, ◌&&◌, ◌||◌, inl, inr, List, [], ◌∷◌, ◌++◌, length, Option, Some, None, refl, sym, ap, ◌∙◌, subst, take, drop, arith, length-append, eqb, eq-eqb, ltb}
use Rattle.std.proofs.lemmas.Bool.{ltb-true}
use Rattle.std.proofs.lemmas.List.{take-append-drop, length-map}
use Rattle.rs_tree.specs.Kinds.{code}
use Rattle.rs_tree.specs.declared.kind.Kind.{Kind}
use Rattle.rs_tree.proofs.Both.{left_of, right_of}
use Rattle.rs_grammar.specs.Lexeme.{Lexeme, moved, seen}
use Rattle.rs_grammar.specs.Grammar.{Rule, Text, Part, Item, Definition, Function, Params, Body, Rest, Worded, Statement, Choice, Expression, Conjunction, Comparison, Compared, Sum, SumNext, Product, ProductNext, Unary, Primary, Use, Args, Shape, Val, Pair, one, two, Grammar, Tok, Empty, Seq, Alt, Opt, Rep, Tail, Ahead, Here, Nt, rule, Matches}
use Rattle.rs_grammar.specs.Sets.{nullable, first, next_in, next_pair}
use Rattle.rs_grammar.specs.Fine.{Fine}
use Rattle.rs_grammar.specs.Parses.{Parses, r-tok, r-other, r-end, r-empty, r-seq, r-second, r-first, r-left, r-right, r-no_left, r-no_right, r-none, r-some, r-held, r-stop, r-turn, r-later, r-no_turn, r-tail_stop, r-tail_last, r-tail_no_last, r-tail_turn, r-tail_later, r-tail_no_turn, r-ahead, r-no_ahead, r-other_way, r-no_other_way, r-here, r-no_here, r-here_end, r-nt, r-no_nt}
use Rattle.rs_grammar.proofs.Seen.{seen_last}
use Rattle.rs_grammar.proofs.Soundness.{read_matches, read_front, reads_on}
use Rattle.rs_grammar.proofs.Begins.{empty_match, same_kind_of}
use Rattle.rs_grammar.proofs.Seams.{absurdly}
use Rattle.rs_grammar.proofs.Fine.{fine}

-- what is read, and what is left
pub record Read {s : Shape} (g : Grammar s) (u : List Lexeme) : Type 0 where
  pub result : Option (Val s)
  pub rest : List Lexeme
  pub reads : Parses s g u result rest

-- above the ranks of the forms that it may begin with
abbrev rank : Rule → ℕ
rank Text = 5
rank Part = 4
rank Item = 3
rank Definition = 2
rank Function = 1
rank Params = 1
rank Choice = 1
rank Worded = 2
rank Use = 1
rank Primary = 2
rank Unary = 3
rank Product = 4
rank Sum = 5
rank Comparison = 6
rank Conjunction = 7
rank Expression = 8
rank Args = 9
rank Statement = 9
rank Rest = 9
rank Body = 10
rank Compared = 1
rank SumNext = 1
rank ProductNext = 1
rank _ = 0

-- the named forms that it may begin with are below a rank
abbrev below : {s : Shape} → ℕ → Grammar s → Bool
below r (Tok c) = true
below r Empty = true
below r (Seq g h) = below r g && (not (nullable g) || below r h)
below r (Alt g h) = below r g && below r h
below r (Opt g) = below r g
below r (Rep g) = below r g
below r (Tail c g h) = true
below r (Ahead p g h) = below r h
below r (Here g) = below r g
below r (Nt n) = ltb (rank n) r

leads : (n : Rule) → below (rank n) (rule n) ≡ true
leads Text = refl
leads _ = refl

rank_small : (n : Rule) → ltb (rank n) 11 ≡ true
rank_small Text = refl
rank_small _ = refl

both_below : (a n c : Bool) → a ≡ true → c ≡ true → (a && (not n || c)) ≡ true
both_below true true c h e = e
both_below true false c h e = refl
both_below false n c h e = absurd cc

second_below : (a n c : Bool) → (a && (not n || c)) ≡ true → n ≡ true → c ≡ true
second_below true true c h e = h
second_below true false c h e = absurd cc
second_below false n c h e = absurd cc

two_true : (a b : Bool) → a ≡ true → b ≡ true → (a && b) ≡ true
two_true true b h e = e
two_true false b h e = absurd cc

any_below : {s : Shape} (g : Grammar s) → below 11 g ≡ true
any_below (Tok c) = refl
any_below Empty = refl
any_below (Seq g h) = both_below (below 11 g) (nullable g) (below 11 h) (any_below g) (any_below h)
any_below (Alt g h) = two_true (below 11 g) (below 11 h) (any_below g) (any_below h)
any_below (Opt g) = any_below g
any_below (Rep g) = any_below g
any_below (Tail c g h) = refl
any_below (Ahead p g h) = any_below h
any_below (Here g) = any_below g
any_below (Nt n) = rank_small n

-- a form that takes a token leaves fewer
advances : {s : Shape} {g : Grammar s} {u v : List Lexeme} {x : Val s} → Parses s g u (Some x) v → nullable g ≡ false → length v < length u
advances {g} {u} {v} {x} r e = let m = read_matches r in go m.0 m.1 m.2
  where
    go : (a : List Lexeme) → u ≡ a ++ v → Matches _ g a x → length v < length u
    go [] z m = absurd (absurdly (empty_match fine m refl) e)
    go (t ∷ a) z m = omega (arith, ap length z, length-append a v)

-- a token
token : (c : Kind) (u : List Lexeme) → Read (Tok c) u
token c [] = record { result = None; rest = []; reads = r-end }
token c (t ∷ u) = go (eqb (code t.kind) (code c)) refl
  where
    go : (b : Bool) → eqb (code t.kind) (code c) ≡ b → Read (Tok c) (t ∷ u)
    go true e = record { result = Some t; rest = u; reads = r-tok (same_kind_of t.kind c e) }
    go false e = record { result = None; rest = t ∷ u; reads = r-other (λ h. absurdly (eq-eqb _ _ (ap code h)) e) }

-- two forms
second : {s t : Shape} {g : Grammar s} {h : Grammar t} {u v : List Lexeme} {x : Val s} → Parses s g u (Some x) v → (o : Option (Val t)) (w : List Lexeme) → Parses t h v o w → Read (Seq g h) u
second {x} p None w q = record { result = None; rest = w; reads = r-second p q }
second {x} p (Some y) w q = record { result = Some (x, y); rest = w; reads = r-seq p q }

sequence : {s t : Shape} {g : Grammar s} {h : Grammar t} {u : List Lexeme} (o : Option (Val s)) (v : List Lexeme) → Parses s g u o v → ((x : Val s) → Parses s g u (Some x) v → Read h v) → Read (Seq g h) u
sequence None v p next = record { result = None; rest = v; reads = r-first p }
sequence (Some x) v p next = let q = next x p in second p q.result q.rest q.reads

-- one of two
as_left : {s t : Shape} {g : Grammar s} {h : Grammar t} {u : List Lexeme} → next_in (first g) u ≡ true → (o : Option (Val s)) (v : List Lexeme) → Parses s g u o v → Read (Alt g h) u
as_left c None v p = record { result = None; rest = v; reads = r-no_left c p }
as_left c (Some x) v p = record { result = Some (inl x); rest = v; reads = r-left c p }

as_right : {s t : Shape} {g : Grammar s} {h : Grammar t} {u : List Lexeme} → next_in (first g) u ≡ false → (o : Option (Val t)) (v : List Lexeme) → Parses t h u o v → Read (Alt g h) u
as_right c None v p = record { result = None; rest = v; reads = r-no_right c p }
as_right c (Some y) v p = record { result = Some (inr y); rest = v; reads = r-right c p }

choice : {s t : Shape} {g : Grammar s} {h : Grammar t} {u : List Lexeme} (b : Bool) → next_in (first g) u ≡ b → Read g u → Read h u → Read (Alt g h) u
choice true c p q = as_left c p.result p.rest p.reads
choice false c p q = as_right c q.result q.rest q.reads

-- what may be left out
held : {s : Shape} {g : Grammar s} {u : List Lexeme} → next_in (first g) u ≡ true → (o : Option (Val s)) (v : List Lexeme) → Parses s g u o v → Read (Opt g) u
held c None v p = record { result = None; rest = v; reads = r-held c p }
held c (Some x) v p = record { result = Some (Some x); rest = v; reads = r-some c p }

option : {s : Shape} {g : Grammar s} {u : List Lexeme} (b : Bool) → next_in (first g) u ≡ b → Read g u → Read (Opt g) u
option true c p = held c p.result p.rest p.reads
option {u} false c p = record { result = Some None; rest = u; reads = r-none c }

-- forms of fewer tokens are read
abbrev Shorter : ℕ → Type 0
Shorter l = (s : Shape) (g : Grammar s) (u : List Lexeme) → length u < l → Fine g → Read g u

-- named forms below a rank are
abbrev Lower : ℕ → ℕ → Type 0
Lower l r = (n : Rule) (u : List Lexeme) → length u ≤ l → rank n < r → Read (Nt n) u

-- several turns
turns : {s : Shape} {g : Grammar s} {u v : List Lexeme} {x : Val s} → next_in (first g) u ≡ true → Parses s g u (Some x) v → (o : Option (List (Val s))) (w : List Lexeme) → Parses _ (Rep g) v o w → Read (Rep g) u
turns {x} c p None w q = record { result = None; rest = w; reads = r-later c p q }
turns {x} c p (Some xs) w q = record { result = Some (x ∷ xs); rest = w; reads = r-turn c p q }

turn : {s : Shape} {g : Grammar s} (l : ℕ) (u : List Lexeme) → Shorter l → length u ≤ l → Fine (Rep g) → next_in (first g) u ≡ true → (o : Option (Val s)) (v : List Lexeme) → Parses s g u o v → Read (Rep g) u
turn l u short h f c None v p = record { result = None; rest = v; reads = r-no_turn c p }
turn {g} l u short h f c (Some x) v p = let q = short _ (Rep g) v (omega (arith, h, advances p f.0)) f in turns c p q.result q.rest q.reads

repetition : {s : Shape} {g : Grammar s} (l : ℕ) (u : List Lexeme) → Shorter l → length u ≤ l → Fine (Rep g) → (b : Bool) → next_in (first g) u ≡ b → Read g u → Read (Rep g) u
repetition l u short h f true c p = turn l u short h f c p.result p.rest p.reads
repetition l u short h f false c p = record { result = Some []; rest = u; reads = r-stop c }

-- { c g } [ c h ]
tails : {s t : Shape} {c : Kind} {g : Grammar s} {h : Grammar t} {d : Lexeme} {u v : List Lexeme} {x : Val s} → d.kind ≡ c → next_in (first g) u ≡ true → Parses s g u (Some x) v → (o : Option (List (Val s) × Option (Val t))) (w : List Lexeme) → Parses _ (Tail c g h) v o w → Read (Tail c g h) (d ∷ u)
tails {x} k c p None w q = record { result = None; rest = w; reads = r-tail_later k c p q }
tails {x} k c p (Some y) w q = record { result = Some (x ∷ y.0, y.1); rest = w; reads = r-tail_turn k c p q }

tail_turn : {s t : Shape} {c : Kind} {g : Grammar s} {h : Grammar t} {d : Lexeme} (l : ℕ) (u : List Lexeme) → Shorter l → length u < l → Fine (Tail c g h) → d.kind ≡ c → next_in (first g) u ≡ true → (o : Option (Val s)) (v : List Lexeme) → Parses s g u o v → Read (Tail c g h) (d ∷ u)
tail_turn l u short i f k c None v p = record { result = None; rest = v; reads = r-tail_no_turn k c p }
tail_turn {c = b} {g} {h} l u short i f k c (Some x) v p = let q = short _ (Tail b g h) v (omega (arith, i, reads_on p)) f in tails k c p q.result q.rest q.reads

tail_last : {s t : Shape} {c : Kind} {g : Grammar s} {h : Grammar t} {d : Lexeme} {u : List Lexeme} → d.kind ≡ c → next_in (first g) u ≡ false → (o : Option (Val t)) (v : List Lexeme) → Parses t h u o v → Read (Tail c g h) (d ∷ u)
tail_last k c None v p = record { result = None; rest = v; reads = r-tail_no_last k c p }
tail_last k c (Some y) v p = record { result = Some ([], Some y); rest = v; reads = r-tail_last k c p }

tail : {s t : Shape} (c : Kind) (g : Grammar s) (h : Grammar t) (l : ℕ) (u : List Lexeme) → Shorter l → length u ≤ l → Fine (Tail c g h) → Read (Tail c g h) u
tail c g h l [] short i f = record { result = Some ([], None); rest = []; reads = r-tail_stop refl }
tail c g h l (d ∷ u) short i f = go (eqb (code d.kind) (code c)) refl
  where
    on : d.kind ≡ c → (b : Bool) → next_in (first g) u ≡ b → Read (Tail c g h) (d ∷ u)
    on k true e = let p = short _ g u (omega (arith, i)) f.3 in tail_turn l u short (omega (arith, i)) f k e p.result p.rest p.reads
    on k false e = let p = short _ h u (omega (arith, i)) f.4 in tail_last k e p.result p.rest p.reads

    go : (b : Bool) → eqb (code d.kind) (code c) ≡ b → Read (Tail c g h) (d ∷ u)
    go true e = on (same_kind_of d.kind c e) (next_in (first g) u) refl
    go false e = record { result = Some ([], None); rest = d ∷ u; reads = r-tail_stop e }

-- one two g | h
other_way : {s t : Shape} {p : Pair} {g : Grammar s} {h : Grammar t} {u : List Lexeme} → next_pair p u ≡ false → (o : Option (Val t)) (v : List Lexeme) → Parses t h u o v → Read (Ahead p g h) u
other_way c None v q = record { result = None; rest = v; reads = r-no_other_way c q }
other_way c (Some y) v q = record { result = Some (inr y); rest = v; reads = r-other_way c q }

two_on : {s t : Shape} {p : Pair} {g : Grammar s} {h : Grammar t} {a b : Lexeme} {u : List Lexeme} → next_pair p (a ∷ b ∷ u) ≡ true → a.kind ≡ one p → b.kind ≡ two p → (o : Option (Val s)) (v : List Lexeme) → Parses s g u o v → Read (Ahead p g h) (a ∷ b ∷ u)
two_on c d e None v q = record { result = None; rest = v; reads = r-no_ahead c (r-second (r-tok d) (r-second (r-tok e) q)) }
two_on {a} {b} c d e (Some x) v q = record { result = Some (inl (a, (b, x))); rest = v; reads = r-ahead c (r-seq (r-tok d) (r-seq (r-tok e) q)) }

this_way : {s t : Shape} {p : Pair} {g : Grammar s} {h : Grammar t} (l : ℕ) (u : List Lexeme) → Shorter l → length u ≤ l → Fine g → next_pair p u ≡ true → Read (Ahead p g h) u
this_way l [] short i f c = absurd cc
this_way l (a ∷ []) short i f c = absurd cc
this_way {p} {g} l (a ∷ b ∷ u) short i f c =
    let d = same_kind_of a.kind (one p) (left_of (eqb (code a.kind) (code (one p))) (eqb (code b.kind) (code (two p))) c) in
    let e = same_kind_of b.kind (two p) (right_of (eqb (code a.kind) (code (one p))) (eqb (code b.kind) (code (two p))) c) in
    let q = short _ g u (omega (arith, i)) f in
    two_on c d e q.result q.rest q.reads

ahead : {s t : Shape} {p : Pair} {g : Grammar s} {h : Grammar t} (l : ℕ) (u : List Lexeme) → Shorter l → length u ≤ l → Fine g → Read h u → (b : Bool) → next_pair p u ≡ b → Read (Ahead p g h) u
ahead l u short i f q true c = this_way l u short i f c
ahead l u short i f q false c = other_way c q.result q.rest q.reads

-- a form as it is seen from its first token
no_here : {s : Shape} {g : Grammar s} {t : Lexeme} {u : List Lexeme} (v : List Lexeme) → Parses s g (seen t.at (t ∷ u)) None v → Read (Here g) (t ∷ u)
no_here {s} {g} {t} {u} v r =
    let m = read_front r in
    let n = length (t ∷ u) - length v in
    record {
      result = None;
      rest = drop n (t ∷ u);
      reads = r-no_here (take n (t ∷ u)) (sym (take-append-drop n (t ∷ u))) (subst (λ (w : List Lexeme). Parses s g (seen t.at (t ∷ u)) None w) (sym (seen_last t.at (t ∷ u) v m.0 m.1)) r);
    }

here : {s : Shape} {g : Grammar s} {t : Lexeme} {u : List Lexeme} {x : Val s} (v : List Lexeme) → nullable g ≡ false → Parses s g (seen t.at (t ∷ u)) (Some x) v → Read (Here g) (t ∷ u)
here {s} {g} {t} {u} {x} v e r = go (length (t ∷ u) - length v) (omega (arith, advances r e, length-map (t ∷ u) (moved t.at)))
  where
    go : (n : ℕ) → length (t ∷ u) - length v ≡ n → Read (Here g) (t ∷ u)
    go zero k = absurd (omega (arith, k, advances r e, length-map (t ∷ u) (moved t.at)))
    go (suc n) k =
        let m = read_matches r in
        let z : seen t.at (drop (suc n) (t ∷ u)) ≡ v = ap (λ i. seen t.at (drop i (t ∷ u))) (sym k) ∙ seen_last t.at (t ∷ u) v m.0 m.1 in
        record {
          result = Some (t ∷ take n u, x);
          rest = drop n u;
          reads = r-here (take n u) (sym (take-append-drop n u)) (subst (λ (w : List Lexeme). Parses s g (seen t.at (t ∷ u)) (Some x) w) (sym z) r);
        }

from_here : {s : Shape} {g : Grammar s} {t : Lexeme} {u : List Lexeme} → nullable g ≡ false → (o : Option (Val s)) (v : List Lexeme) → Parses s g (seen t.at (t ∷ u)) o v → Read (Here g) (t ∷ u)
from_here e None v r = no_here v r
from_here e (Some x) v r = here v e r

-- a named form
named : {n : Rule} {u : List Lexeme} (o : Option (Val _)) (v : List Lexeme) → Parses _ (rule n) u o v → Read (Nt n) u
named {n} None v r = record { result = None; rest = v; reads = r-no_nt {n = n} r }
named {n} (Some x) v r = record { result = _; rest = v; reads = r-nt {n = n} {x = x} r }

second_form : {s t : Shape} {g : Grammar s} {i : Grammar t} (l : ℕ) (u v : List Lexeme) → length u ≤ l → Shorter l → Fine i → (nullable g ≡ true → (w : List Lexeme) → length w ≤ l → Read i w) → (x : Val s) → Parses s g u (Some x) v → (n : Bool) → nullable g ≡ n → Read i v
second_form l u v h short f again x q true e = again e v (omega (arith, h, reads_on q))
second_form {i} l u v h short f again x q false e = short _ i v (omega (arith, h, advances q e)) f

by_form : (l r : ℕ) → Shorter l → Lower l r → {s : Shape} (g : Grammar s) (u : List Lexeme) → length u ≤ l → below r g ≡ true → Fine g → Read g u
by_form l r short low (Tok c) u h b f = token c u
by_form l r short low Empty u h b f = record { result = Some tt; rest = u; reads = r-empty }
by_form l r short low (Seq g i) u h b f =
    let p = by_form l r short low g u h (left_of (below r g) (not (nullable g) || below r i) b) f.1 in
    sequence p.result p.rest p.reads (λ x q. second_form l u p.rest h short f.2 (λ e w k. by_form l r short low i w k (second_below (below r g) (nullable g) (below r i) b e) f.2) x q (nullable g) refl)
by_form l r short low (Alt g i) u h b f = choice (next_in (first g) u) refl (by_form l r short low g u h (left_of (below r g) (below r i) b) f.3) (by_form l r short low i u h (right_of (below r g) (below r i) b) f.4)
by_form l r short low (Opt g) u h b f = option (next_in (first g) u) refl (by_form l r short low g u h b f.1)
by_form l r short low (Rep g) u h b f = repetition l u short h f (next_in (first g) u) refl (by_form l r short low g u h b f.2)
by_form l r short low (Tail c g i) u h b f = tail c g i l u short h f
by_form l r short low (Ahead p g i) u h b f = ahead l u short h f.3 (by_form l r short low i u h b f.4) (next_pair p u) refl
by_form l r short low (Here g) [] h b f = record { result = None; rest = []; reads = r-here_end }
by_form l r short low (Here g) (t ∷ u) h b f = let p = by_form l r short low g (seen t.at (t ∷ u)) (omega (arith, h, length-map (t ∷ u) (moved t.at))) b f.1 in from_here f.0 p.result p.rest p.reads
by_form l r short low (Nt n) u h b f = low n u h (ltb-true _ _ b)

by_rank : (l : ℕ) → Shorter l → (r : ℕ) → Lower l r
by_rank l short zero n u h b = absurd (omega (arith, b))
by_rank l short (suc r) n u h b =
    let p = by_form l (rank n) short (λ m v i c. by_rank l short r m v i (omega (arith, b, c))) (rule n) u h (leads n) ((fine n).parts) in
    named {n = n} p.result p.rest p.reads

by_length : (l : ℕ) → Shorter l
by_length zero s g u h f = absurd (omega (arith, h))
by_length (suc l) s g u h f = by_form l 11 (by_length l) (by_rank l (by_length l) 11) g u (omega (arith, h)) (any_below g) f

pub total : {s : Shape} (g : Grammar s) (u : List Lexeme) → Fine g → Read g u
total g u f = by_length (suc (length u)) _ g u (omega arith) f
