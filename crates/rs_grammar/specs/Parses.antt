-- Reading from the left, one token ahead or two: what is read, and the tokens that are left. None is a fault at
-- the first of these, or at the end. The functions of the parser are proved to read so; that what is read so
-- is what the grammar says is a theorem (`proofs/Exact.antt`).
use Rattle.std.specs.Prelude.{◌≡◌, true, false, List, [], ◌∷◌, ◌++◌, Option, Some, None}
use Rattle.std.proofs.Common.{inl, inr}
use Rattle.rs_tree.specs.declared.kind.Kind.{Kind}
use Rattle.rs_grammar.specs.Lexeme.{Lexeme, seen}
use Rattle.rs_grammar.specs.Grammar.{Rule, Shape, lexeme, both, Val, Pair, one, two, Grammar, Tok, Empty, Seq, Alt, Opt, Rep, Tail, Ahead, Here, Nt, rule, made, shape}
use Rattle.rs_grammar.specs.Sets.{first, next_in, next_pair}

pub data Parses : (s : Shape) → Grammar s → List Lexeme → Option (Val s) → List Lexeme → Type 0 where
  r-tok : {c : Kind} {t : Lexeme} {w : List Lexeme} → t.kind ≡ c → Parses _ (Tok c) (t ∷ w) (Some t) w
  r-other : {c : Kind} {t : Lexeme} {w : List Lexeme} → (t.kind ≡ c → ⊥) → Parses _ (Tok c) (t ∷ w) None (t ∷ w)
  r-end : {c : Kind} → Parses _ (Tok c) [] None []
  r-empty : {w : List Lexeme} → Parses _ Empty w (Some tt) w
  r-seq : {s t : Shape} {g : Grammar s} {h : Grammar t} {u v w : List Lexeme} {x : Val s} {y : Val t} → Parses _ g u (Some x) v → Parses _ h v (Some y) w → Parses _ (Seq g h) u (Some (x, y)) w
  r-second : {s t : Shape} {g : Grammar s} {h : Grammar t} {u v w : List Lexeme} {x : Val s} → Parses _ g u (Some x) v → Parses _ h v None w → Parses _ (Seq g h) u None w
  r-first : {s t : Shape} {g : Grammar s} {h : Grammar t} {u v : List Lexeme} → Parses _ g u None v → Parses _ (Seq g h) u None v
  r-left : {s t : Shape} {g : Grammar s} {h : Grammar t} {u v : List Lexeme} {x : Val s} → next_in (first g) u ≡ true → Parses _ g u (Some x) v → Parses _ (Alt g h) u (Some (inl x)) v
  r-right : {s t : Shape} {g : Grammar s} {h : Grammar t} {u v : List Lexeme} {y : Val t} → next_in (first g) u ≡ false → Parses _ h u (Some y) v → Parses _ (Alt g h) u (Some (inr y)) v
  r-no_left : {s t : Shape} {g : Grammar s} {h : Grammar t} {u v : List Lexeme} → next_in (first g) u ≡ true → Parses _ g u None v → Parses _ (Alt g h) u None v
  r-no_right : {s t : Shape} {g : Grammar s} {h : Grammar t} {u v : List Lexeme} → next_in (first g) u ≡ false → Parses _ h u None v → Parses _ (Alt g h) u None v
  r-none : {s : Shape} {g : Grammar s} {u : List Lexeme} → next_in (first g) u ≡ false → Parses _ (Opt g) u (Some None) u
  r-some : {s : Shape} {g : Grammar s} {u v : List Lexeme} {x : Val s} → next_in (first g) u ≡ true → Parses _ g u (Some x) v → Parses _ (Opt g) u (Some (Some x)) v
  r-held : {s : Shape} {g : Grammar s} {u v : List Lexeme} → next_in (first g) u ≡ true → Parses _ g u None v → Parses _ (Opt g) u None v
  r-stop : {s : Shape} {g : Grammar s} {u : List Lexeme} → next_in (first g) u ≡ false → Parses _ (Rep g) u (Some []) u
  r-turn : {s : Shape} {g : Grammar s} {u v w : List Lexeme} {x : Val s} {xs : List (Val s)} → next_in (first g) u ≡ true → Parses _ g u (Some x) v → Parses _ (Rep g) v (Some xs) w → Parses _ (Rep g) u (Some (x ∷ xs)) w
  r-later : {s : Shape} {g : Grammar s} {u v w : List Lexeme} {x : Val s} → next_in (first g) u ≡ true → Parses _ g u (Some x) v → Parses _ (Rep g) v None w → Parses _ (Rep g) u None w
  r-no_turn : {s : Shape} {g : Grammar s} {u v : List Lexeme} → next_in (first g) u ≡ true → Parses _ g u None v → Parses _ (Rep g) u None v
  r-tail_stop : {s t : Shape} {c : Kind} {g : Grammar s} {h : Grammar t} {u : List Lexeme} → next_in (first (Tok c)) u ≡ false → Parses _ (Tail c g h) u (Some ([], None)) u
  r-tail_last : {s t : Shape} {c : Kind} {g : Grammar s} {h : Grammar t} {d : Lexeme} {u v : List Lexeme} {y : Val t}
      → d.kind ≡ c → next_in (first g) u ≡ false → Parses _ h u (Some y) v → Parses _ (Tail c g h) (d ∷ u) (Some ([], Some y)) v
  r-tail_no_last : {s t : Shape} {c : Kind} {g : Grammar s} {h : Grammar t} {d : Lexeme} {u v : List Lexeme}
      → d.kind ≡ c → next_in (first g) u ≡ false → Parses _ h u None v → Parses _ (Tail c g h) (d ∷ u) None v
  r-tail_turn : {s t : Shape} {c : Kind} {g : Grammar s} {h : Grammar t} {d : Lexeme} {u v w : List Lexeme} {x : Val s} {xs : List (Val s)} {y : Option (Val t)}
      → d.kind ≡ c → next_in (first g) u ≡ true → Parses _ g u (Some x) v → Parses _ (Tail c g h) v (Some (xs, y)) w → Parses _ (Tail c g h) (d ∷ u) (Some (x ∷ xs, y)) w
  r-tail_later : {s t : Shape} {c : Kind} {g : Grammar s} {h : Grammar t} {d : Lexeme} {u v w : List Lexeme} {x : Val s}
      → d.kind ≡ c → next_in (first g) u ≡ true → Parses _ g u (Some x) v → Parses _ (Tail c g h) v None w → Parses _ (Tail c g h) (d ∷ u) None w
  r-tail_no_turn : {s t : Shape} {c : Kind} {g : Grammar s} {h : Grammar t} {d : Lexeme} {u v : List Lexeme}
      → d.kind ≡ c → next_in (first g) u ≡ true → Parses _ g u None v → Parses _ (Tail c g h) (d ∷ u) None v
  r-ahead : {s t : Shape} {p : Pair} {g : Grammar s} {h : Grammar t} {u v : List Lexeme} {x : Val (both lexeme (both lexeme s))} → next_pair p u ≡ true → Parses _ (Seq (Tok (one p)) (Seq (Tok (two p)) g)) u (Some x) v → Parses _ (Ahead p g h) u (Some (inl x)) v
  r-no_ahead : {s t : Shape} {p : Pair} {g : Grammar s} {h : Grammar t} {u v : List Lexeme} → next_pair p u ≡ true → Parses _ (Seq (Tok (one p)) (Seq (Tok (two p)) g)) u None v → Parses _ (Ahead p g h) u None v
  r-other_way : {s t : Shape} {p : Pair} {g : Grammar s} {h : Grammar t} {u v : List Lexeme} {y : Val t} → next_pair p u ≡ false → Parses _ h u (Some y) v → Parses _ (Ahead p g h) u (Some (inr y)) v
  r-no_other_way : {s t : Shape} {p : Pair} {g : Grammar s} {h : Grammar t} {u v : List Lexeme} → next_pair p u ≡ false → Parses _ h u None v → Parses _ (Ahead p g h) u None v
  r-here : {s : Shape} {g : Grammar s} {t : Lexeme} {u v : List Lexeme} {x : Val s} (w : List Lexeme) → u ≡ w ++ v → Parses _ g (seen t.at (t ∷ u)) (Some x) (seen t.at v) → Parses _ (Here g) (t ∷ u) (Some (t ∷ w, x)) v
  r-no_here : {s : Shape} {g : Grammar s} {t : Lexeme} {u v : List Lexeme} (w : List Lexeme) → t ∷ u ≡ w ++ v → Parses _ g (seen t.at (t ∷ u)) None (seen t.at v) → Parses _ (Here g) (t ∷ u) None v
  r-here_end : {s : Shape} {g : Grammar s} → Parses _ (Here g) [] None []
  r-nt : {n : Rule} {u v : List Lexeme} {x : Val (shape n)} → Parses _ (rule n) u (Some x) v → Parses _ (Nt n) u (Some (made n x)) v
  r-no_nt : {n : Rule} {u v : List Lexeme} → Parses _ (rule n) u None v → Parses _ (Nt n) u None v
