-- What was read is in the grammar, and what was read before a fault is a front.
use Rattle.std.proofs.Common.{◌≡◌, ◌≤◌, List, [], ◌∷◌, ◌++◌, length, Option, Some, None, refl, sym, ap, ◌∙◌, append_assoc, length-append, arith, subst}
use Rattle.std.proofs.lemmas.List.{map-append, append_cancel_right}
use Rattle.rs_tree.specs.declared.place.At.{At}
use Rattle.rs_grammar.specs.Lexeme.{Lexeme, seen, moved}
use Rattle.rs_grammar.specs.Grammar.{Shape, Val, Version, Grammar, MatchesIn, IsFrontIn, Matches, IsFront, m-tok, m-empty, m-seq, m-left, m-right, m-none, m-some, m-stop, m-turn, m-tail_stop, m-tail_last, m-tail_turn, m-ahead, m-not_ahead, m-here, m-nt, f-none, f-tok, f-first, f-rest, f-left, f-right, f-some, f-turn, f-turns, f-tail_last, f-tail_turn, f-tail_turns, f-ahead, f-not_ahead, f-here, f-nt}
use Rattle.rs_grammar.specs.Parses.{Parses, r-tok, r-other, r-end, r-empty, r-seq, r-second, r-first, r-left, r-right, r-no_left, r-no_right, r-none, r-some, r-held, r-stop, r-turn, r-later, r-no_turn, r-tail_stop, r-tail_last, r-tail_no_last, r-tail_turn, r-tail_later, r-tail_no_turn, r-ahead, r-no_ahead, r-other_way, r-no_other_way, r-here, r-no_here, r-here_end, r-nt, r-no_nt}

joined : {A : Type 0} {u v : List A} (a b w : List A) → u ≡ a ++ v → v ≡ b ++ w → u ≡ (a ++ b) ++ w
joined a b w p q = p ∙ ap (λ z. a ++ z) q ∙ sym (append_assoc a b w)

-- what is read of the tokens as they are seen is read of the tokens
cut : (base : At) (u w v : List Lexeme) (a : List Lexeme) → u ≡ w ++ v → seen base u ≡ a ++ seen base v → a ≡ seen base w
cut base u w v a e z = append_cancel_right a (seen base w) (seen base v) (sym z ∙ ap (seen base) e ∙ map-append (moved base) w v)

pub read_matches : {s : Shape} {g : Grammar s} {u v : List Lexeme} {x : Val s} → Parses s g u (Some x) v → (a : List Lexeme) × (u ≡ a ++ v) × Matches s g a x
read_matches (r-tok {t} e) = (t ∷ [], refl, m-tok e)
read_matches r-empty = ([], refl, m-empty)
read_matches (r-seq p q) = let m = read_matches p in let n = read_matches q in (m.0 ++ n.0, joined m.0 n.0 _ m.1 n.1, m-seq m.2 n.2)
read_matches (r-left c p) = let m = read_matches p in (m.0, m.1, m-left m.2)
read_matches (r-right c p) = let m = read_matches p in (m.0, m.1, m-right m.2)
read_matches (r-none c) = ([], refl, m-none)
read_matches (r-some c p) = let m = read_matches p in (m.0, m.1, m-some m.2)
read_matches (r-stop c) = ([], refl, m-stop)
read_matches (r-turn c p q) = let m = read_matches p in let n = read_matches q in (m.0 ++ n.0, joined m.0 n.0 _ m.1 n.1, m-turn m.2 n.2)
read_matches (r-tail_stop c) = ([], refl, m-tail_stop)
read_matches (r-tail_last {d} e c p) = let m = read_matches p in (d ∷ m.0, ap (λ z. d ∷ z) m.1, m-tail_last e m.2)
read_matches (r-tail_turn {d} e c p q) = let m = read_matches p in let n = read_matches q in (d ∷ (m.0 ++ n.0), ap (λ z. d ∷ z) (joined m.0 n.0 _ m.1 n.1), m-tail_turn e m.2 n.2)
read_matches (r-ahead c p) = let m = read_matches p in (m.0, m.1, m-ahead m.2)
read_matches (r-other_way c p) = let m = read_matches p in (m.0, m.1, m-not_ahead m.2)
read_matches (r-here {g} {t} {u} {v} {x} w e r) = let m = read_matches r in
    let h : m.0 ≡ seen t.at (t ∷ w) = cut t.at (t ∷ u) (t ∷ w) v m.0 (ap (λ z. t ∷ z) e) m.1 in
    (t ∷ w, ap (λ z. t ∷ z) e, m-here (subst (λ (a : List Lexeme). Matches _ g a x) h m.2))
read_matches (r-nt p) = let m = read_matches p in (m.0, m.1, m-nt m.2)

pub read_front : {s : Shape} {g : Grammar s} {u v : List Lexeme} → Parses s g u None v → (a : List Lexeme) × (u ≡ a ++ v) × IsFront s g a
read_front (r-other e) = ([], refl, f-none)
read_front r-end = ([], refl, f-none)
read_front (r-second p q) = let m = read_matches p in let n = read_front q in (m.0 ++ n.0, joined m.0 n.0 _ m.1 n.1, f-rest m.2 n.2)
read_front (r-first p) = let m = read_front p in (m.0, m.1, f-first m.2)
read_front (r-no_left c p) = let m = read_front p in (m.0, m.1, f-left m.2)
read_front (r-no_right c p) = let m = read_front p in (m.0, m.1, f-right m.2)
read_front (r-held c p) = let m = read_front p in (m.0, m.1, f-some m.2)
read_front (r-later c p q) = let m = read_matches p in let n = read_front q in (m.0 ++ n.0, joined m.0 n.0 _ m.1 n.1, f-turns m.2 n.2)
read_front (r-no_turn c p) = let m = read_front p in (m.0, m.1, f-turn m.2)
read_front (r-tail_no_last {d} e c p) = let m = read_front p in (d ∷ m.0, ap (λ z. d ∷ z) m.1, f-tail_last e m.2)
read_front (r-tail_later {d} e c p q) = let m = read_matches p in let n = read_front q in (d ∷ (m.0 ++ n.0), ap (λ z. d ∷ z) (joined m.0 n.0 _ m.1 n.1), f-tail_turns e m.2 n.2)
read_front (r-tail_no_turn {d} e c p) = let m = read_front p in (d ∷ m.0, ap (λ z. d ∷ z) m.1, f-tail_turn e m.2)
read_front (r-no_ahead c p) = let m = read_front p in (m.0, m.1, f-ahead m.2)
read_front (r-no_other_way c p) = let m = read_front p in (m.0, m.1, f-not_ahead m.2)
read_front (r-no_here {g} {t} {u} {v} [] e r) = ([], e, f-none)
read_front (r-no_here {g} {t} {u} {v} (d ∷ w) e r) = let m = read_front r in
    let k : t ≡ d = cc in
    let i : t ∷ u ≡ (t ∷ w) ++ v = e ∙ ap (λ z. z ∷ (w ++ v)) (sym k) in
    let h : m.0 ≡ seen t.at (t ∷ w) = cut t.at (t ∷ u) (t ∷ w) v m.0 i m.1 in
    (t ∷ w, i, f-here (subst (λ (a : List Lexeme). IsFront _ g a) h m.2))
read_front r-here_end = ([], refl, f-none)
read_front (r-no_nt p) = let m = read_front p in (m.0, m.1, f-nt m.2)

shorter : {A : Type 0} {u : List A} (a v : List A) → u ≡ a ++ v → length v ≤ length u
shorter {u} a v e = omega (arith, length-append a v, ap length e)

-- nothing is added
pub reads_on : {s : Shape} {g : Grammar s} {u v : List Lexeme} {o : Option (Val s)} → Parses s g u o v → length v ≤ length u
reads_on {o} r = go o r
  where
    go : {s : Shape} {g : Grammar s} {u v : List Lexeme} (o : Option (Val s)) → Parses s g u o v → length v ≤ length u
    go None r = let m = read_front r in shorter m.0 _ m.1
    go (Some x) r = let m = read_matches r in shorter m.0 _ m.1

-- a whole form is a front of it
pub whole : {v : Version} {s : Shape} {g : Grammar s} {a : List Lexeme} {x : Val s} → MatchesIn v s g a x → IsFrontIn v s g a
whole (m-tok e) = f-tok e
whole m-empty = f-none
whole (m-seq m n) = f-rest m (whole n)
whole (m-left m) = f-left (whole m)
whole (m-right m) = f-right (whole m)
whole m-none = f-none
whole (m-some m) = f-some (whole m)
whole m-stop = f-none
whole (m-turn m n) = f-turns m (whole n)
whole m-tail_stop = f-none
whole (m-tail_last e m) = f-tail_last e (whole m)
whole (m-tail_turn e m n) = f-tail_turns e m (whole n)
whole (m-ahead m) = f-ahead (whole m)
whole (m-not_ahead m) = f-not_ahead (whole m)
whole (m-here m) = f-here (whole m)
whole (m-nt m) = f-nt (whole m)
