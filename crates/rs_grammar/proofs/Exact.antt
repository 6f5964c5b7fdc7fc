-- Reading is exact: what is in the grammar is read, and a fault is the first one.
use Rattle.std.proofs.Common.{◌≡◌, ◌≤◌, false, inl, inr, List, [], ◌∷◌, ◌++◌, length, Option, Some, refl, sym, ap, ◌∙◌, subst, append_assoc, arith, eqb}
use Rattle.std.proofs.lemmas.Bool.{or_parts, or_from}
use Rattle.std.proofs.lemmas.List.{map-append, append_cancel_right, length-map}
use Rattle.rs_tree.specs.Kinds.{code}
use Rattle.rs_tree.proofs.Codes.{code_injective}
use Rattle.rs_grammar.specs.Lexeme.{Lexeme, moved, seen}
use Rattle.rs_grammar.specs.Sets.{nullable, first, more, next_in, next_pair}
use Rattle.rs_grammar.specs.Fine.{Fine, IsFine}
use Rattle.rs_grammar.specs.Grammar.{Rule, Shape, Val, one, Grammar, Tok, Seq, Alt, Opt, Rep, Tail, Ahead, made, Matches, IsFront, m-tok, m-empty, m-seq, m-left, m-right, m-none, m-some, m-stop, m-turn, m-tail_stop, m-tail_last, m-tail_turn, m-ahead, m-not_ahead, m-here, m-nt, f-none, f-tok, f-first, f-rest, f-left, f-right, f-some, f-turn, f-turns, f-tail_last, f-tail_turn, f-tail_turns, f-ahead, f-not_ahead, f-here, f-nt}
use Rattle.rs_grammar.specs.Parses.{Parses, r-tok, r-other, r-end, r-empty, r-seq, r-second, r-first, r-left, r-right, r-no_left, r-no_right, r-none, r-some, r-held, r-stop, r-turn, r-later, r-no_turn, r-tail_stop, r-tail_last, r-tail_no_last, r-tail_turn, r-tail_later, r-tail_no_turn, r-ahead, r-no_ahead, r-other_way, r-no_other_way, r-here, r-no_here, r-here_end, r-nt, r-no_nt}
use Rattle.rs_grammar.proofs.Soundness.{reads_on, whole}
use Rattle.rs_grammar.proofs.Begins.{code_below, same_code, first_front}
use Rattle.rs_grammar.proofs.Lists.{cons_same, same_head, same_rest, no_tokens, same_end}
use Rattle.rs_grammar.proofs.Seams.{absurdly, none_some, some_pair, some_cons, some_tail, some_ap, and_true, fourth, weaken, apart_next, seen_next, seen_same, begins_with, seam, stays, clashes, same_kind, narrow}
use Rattle.rs_grammar.proofs.Pairs.{Left, fine_left, begins_left, short_left, at_most_one, not_other, short_other}

module _ (fine : (n : Rule) → IsFine n) where
  -- What is a whole form, before a token that does not go on with it, is read whole.
  pub reads_whole : {s : Shape} {g : Grammar s} {u v a : List Lexeme} {o : Option (Val s)} {x : Val s} → Parses s g u o v → Fine g → Matches s g a x → (b : List Lexeme) → u ≡ a ++ b → next_in (more g) b ≡ false → (o ≡ Some x) × (v ≡ b)
  reads_whole (r-tok {t} e) f (m-tok {t = d} e') b z stop = (ap Some (same_head z), same_rest z)
  reads_whole (r-other {t} ne) f (m-tok {t = d} e') b z stop = absurd (ne (ap (λ (w : Lexeme). w.kind) (same_head z) ∙ e'))
  reads_whole r-end f (m-tok e') b z stop = absurd (let e : [] ≡ _ ∷ b = z in cc)
  reads_whole r-empty f m-empty b z stop = (refl, z)
  reads_whole (r-seq {g} {h} p q) f (m-seq {a} {b = a2} m n) b z stop =
      let i = reads_whole p f.1 m (a2 ++ b) (z ∙ append_assoc a a2 b) (seam fine n (more g) f.0 b (λ nul. weaken (more (Seq g h)) (more g) (λ k e. (or_parts _ _ (and_true nul (or_parts _ _ e).1)).0) b stop)) in
      let j = reads_whole q f.2 n b i.1 (weaken (more (Seq g h)) (more h) (λ k e. (or_parts _ _ e).0) b stop) in
      (some_pair i.0 j.0, j.1)
  reads_whole (r-second {g} {h} p q) f (m-seq {a} {b = a2} m n) b z stop =
      let i = reads_whole p f.1 m (a2 ++ b) (z ∙ append_assoc a a2 b) (seam fine n (more g) f.0 b (λ nul. weaken (more (Seq g h)) (more g) (λ k e. (or_parts _ _ (and_true nul (or_parts _ _ e).1)).0) b stop)) in
      let j = reads_whole q f.2 n b i.1 (weaken (more (Seq g h)) (more h) (λ k e. (or_parts _ _ e).0) b stop) in
      absurd (none_some j.0)
  reads_whole (r-first {g} {h} p) f (m-seq {a} {b = a2} m n) b z stop =
      let i = reads_whole p f.1 m (a2 ++ b) (z ∙ append_assoc a a2 b) (seam fine n (more g) f.0 b (λ nul. weaken (more (Seq g h)) (more g) (λ k e. (or_parts _ _ (and_true nul (or_parts _ _ e).1)).0) b stop)) in
      absurd (none_some i.0)
  reads_whole (r-left {g} {h} c p) f (m-left m) b z stop =
      let i = reads_whole p f.3 m b z (weaken (more (Alt g h)) (more g) (λ k e. (or_parts _ _ e).0) b stop) in (some_ap inl i.0, i.1)
  reads_whole (r-left {g} {h} c p) f (m-right m) b z stop = absurd (absurdly c (apart_next (first h) (first g) f.2 _ (begins_with fine m f.1 b z)))
  reads_whole (r-right {g} {h} c p) f (m-left m) b z stop = absurd (absurdly (begins_with fine m f.0 b z) c)
  reads_whole (r-right {g} {h} c p) f (m-right m) b z stop =
      let i = reads_whole p f.4 m b z (weaken (more (Alt g h)) (more h) (λ k e. (or_parts _ _ e).1) b stop) in (some_ap inr i.0, i.1)
  reads_whole (r-no_left {g} {h} c p) f (m-left m) b z stop =
      let i = reads_whole p f.3 m b z (weaken (more (Alt g h)) (more g) (λ k e. (or_parts _ _ e).0) b stop) in absurd (none_some i.0)
  reads_whole (r-no_left {g} {h} c p) f (m-right m) b z stop = absurd (absurdly c (apart_next (first h) (first g) f.2 _ (begins_with fine m f.1 b z)))
  reads_whole (r-no_right {g} {h} c p) f (m-left m) b z stop = absurd (absurdly (begins_with fine m f.0 b z) c)
  reads_whole (r-no_right {g} {h} c p) f (m-right m) b z stop =
      let i = reads_whole p f.4 m b z (weaken (more (Alt g h)) (more h) (λ k e. (or_parts _ _ e).1) b stop) in absurd (none_some i.0)
  reads_whole (r-none {g} c) f m-none b z stop = (refl, z)
  reads_whole (r-none {g} c) f (m-some m) b z stop = absurd (absurdly (begins_with fine m f.0 b z) c)
  reads_whole (r-some {g} c p) f m-none b z stop = absurd (absurdly c (ap (next_in (first g)) z ∙ weaken (more (Opt g)) (first g) (λ k e. (or_parts _ _ e).1) b stop))
  reads_whole (r-some {g} c p) f (m-some m) b z stop =
      let i = reads_whole p f.1 m b z (weaken (more (Opt g)) (more g) (λ k e. (or_parts _ _ e).0) b stop) in (some_ap Some i.0, i.1)
  reads_whole (r-held {g} c p) f m-none b z stop = absurd (absurdly c (ap (next_in (first g)) z ∙ weaken (more (Opt g)) (first g) (λ k e. (or_parts _ _ e).1) b stop))
  reads_whole (r-held {g} c p) f (m-some m) b z stop =
      let i = reads_whole p f.1 m b z (weaken (more (Opt g)) (more g) (λ k e. (or_parts _ _ e).0) b stop) in absurd (none_some i.0)
  reads_whole (r-stop {g} c) f m-stop b z stop = (refl, z)
  reads_whole (r-stop {g} c) f (m-turn {a} {b = a2} m n) b z stop = absurd (absurdly (begins_with fine m f.0 (a2 ++ b) (z ∙ append_assoc a a2 b)) c)
  reads_whole (r-turn {g} c p q) f m-stop b z stop = absurd (absurdly c (ap (next_in (first g)) z ∙ weaken (more (Rep g)) (first g) (λ k e. (or_parts _ _ e).1) b stop))
  reads_whole (r-turn {g} c p q) f (m-turn {a} {b = a2} m n) b z stop =
      let i = reads_whole p f.2 m (a2 ++ b) (z ∙ append_assoc a a2 b) (seam fine n (more g) f.1 b (λ nul. weaken (more (Rep g)) (more g) (λ k e. (or_parts _ _ e).0) b stop)) in
      let j = reads_whole q f n b i.1 stop in
      (some_cons i.0 j.0, j.1)
  reads_whole (r-later {g} c p q) f m-stop b z stop = absurd (absurdly c (ap (next_in (first g)) z ∙ weaken (more (Rep g)) (first g) (λ k e. (or_parts _ _ e).1) b stop))
  reads_whole (r-later {g} c p q) f (m-turn {a} {b = a2} m n) b z stop =
      let i = reads_whole p f.2 m (a2 ++ b) (z ∙ append_assoc a a2 b) (seam fine n (more g) f.1 b (λ nul. weaken (more (Rep g)) (more g) (λ k e. (or_parts _ _ e).0) b stop)) in
      let j = reads_whole q f n b i.1 stop in
      absurd (none_some j.0)
  reads_whole (r-no_turn {g} c p) f m-stop b z stop = absurd (absurdly c (ap (next_in (first g)) z ∙ weaken (more (Rep g)) (first g) (λ k e. (or_parts _ _ e).1) b stop))
  reads_whole (r-no_turn {g} c p) f (m-turn {a} {b = a2} m n) b z stop =
      let i = reads_whole p f.2 m (a2 ++ b) (z ∙ append_assoc a a2 b) (seam fine n (more g) f.1 b (λ nul. weaken (more (Rep g)) (more g) (λ k e. (or_parts _ _ e).0) b stop)) in
      absurd (none_some i.0)
  reads_whole (r-tail_stop {c} off) f m-tail_stop b z stop = (refl, z)
  reads_whole (r-tail_stop {c} off) f (m-tail_last {d} {a} e m) b z stop = absurd (absurdly (ap (next_in (first (Tok c))) z ∙ same_code d e) off)
  reads_whole (r-tail_stop {c} off) f (m-tail_turn {d} e m n) b z stop = absurd (absurdly (ap (next_in (first (Tok c))) z ∙ same_code d e) off)
  reads_whole (r-tail_last {c} {g} {h} {d} e off p) f m-tail_stop b z stop = absurd (absurdly (same_code d e) (ap (next_in (λ k. eqb k (code c))) z ∙ weaken (more (Tail c g h)) (λ k. eqb k (code c)) (λ k e. (or_parts _ _ e).0) b stop))
  reads_whole (r-tail_last {c} {g} {h} {d} e off p) f (m-tail_last m_e m) b z stop =
      let i = reads_whole p f.4 m b (same_rest z) (weaken (more (Tail c g h)) (more h) (λ k e. (or_parts _ _ (or_parts _ _ (or_parts _ _ e).1).1).0) b stop) in (some_ap (λ y. ([], Some y)) i.0, i.1)
  reads_whole (r-tail_last {c} {g} {h} {d} e off p) f (m-tail_turn {a} {b = a2} m_e m n) b z stop = absurd (absurdly (begins_with fine m f.0 (a2 ++ b) (same_rest z ∙ append_assoc a a2 b)) off)
  reads_whole (r-tail_no_last {c} {g} {h} {d} e off p) f m-tail_stop b z stop = absurd (absurdly (same_code d e) (ap (next_in (λ k. eqb k (code c))) z ∙ weaken (more (Tail c g h)) (λ k. eqb k (code c)) (λ k e. (or_parts _ _ e).0) b stop))
  reads_whole (r-tail_no_last {c} {g} {h} {d} e off p) f (m-tail_last m_e m) b z stop =
      let i = reads_whole p f.4 m b (same_rest z) (weaken (more (Tail c g h)) (more h) (λ k e. (or_parts _ _ (or_parts _ _ (or_parts _ _ e).1).1).0) b stop) in absurd (none_some i.0)
  reads_whole (r-tail_no_last {c} {g} {h} {d} e off p) f (m-tail_turn {a} {b = a2} m_e m n) b z stop = absurd (absurdly (begins_with fine m f.0 (a2 ++ b) (same_rest z ∙ append_assoc a a2 b)) off)
  reads_whole (r-tail_turn {c} {g} {h} {d} e on p q) f m-tail_stop b z stop = absurd (absurdly (same_code d e) (ap (next_in (λ k. eqb k (code c))) z ∙ weaken (more (Tail c g h)) (λ k. eqb k (code c)) (λ k e. (or_parts _ _ e).0) b stop))
  reads_whole (r-tail_turn {c} {g} {h} {d} e on p q) f (m-tail_last m_e m) b z stop = absurd (absurdly on (ap (next_in (first g)) (same_rest z) ∙ seam fine m (first g) f.2 b (λ nul. weaken (more (Tail c g h)) (first g) (λ k e. fourth (eqb k (code c)) (more g k) (more h k) (nullable h) (first g k) (first h k) nul e) b stop)))
  reads_whole (r-tail_turn {c} {g} {h} {d} e on p q) f (m-tail_turn {a} {b = a2} m_e m n) b z stop =
      let i = reads_whole p f.3 m (a2 ++ b) (same_rest z ∙ append_assoc a a2 b) (seam fine n (more g) (same_kind g c f.1) b (λ nul. weaken (more (Tail c g h)) (more g) (λ k e. (or_parts _ _ (or_parts _ _ e).1).0) b stop)) in
      let j = reads_whole q f n b i.1 stop in
      (some_tail i.0 j.0, j.1)
  reads_whole (r-tail_later {c} {g} {h} {d} e on p q) f m-tail_stop b z stop = absurd (absurdly (same_code d e) (ap (next_in (λ k. eqb k (code c))) z ∙ weaken (more (Tail c g h)) (λ k. eqb k (code c)) (λ k e. (or_parts _ _ e).0) b stop))
  reads_whole (r-tail_later {c} {g} {h} {d} e on p q) f (m-tail_last m_e m) b z stop = absurd (absurdly on (ap (next_in (first g)) (same_rest z) ∙ seam fine m (first g) f.2 b (λ nul. weaken (more (Tail c g h)) (first g) (λ k e. fourth (eqb k (code c)) (more g k) (more h k) (nullable h) (first g k) (first h k) nul e) b stop)))
  reads_whole (r-tail_later {c} {g} {h} {d} e on p q) f (m-tail_turn {a} {b = a2} m_e m n) b z stop =
      let i = reads_whole p f.3 m (a2 ++ b) (same_rest z ∙ append_assoc a a2 b) (seam fine n (more g) (same_kind g c f.1) b (λ nul. weaken (more (Tail c g h)) (more g) (λ k e. (or_parts _ _ (or_parts _ _ e).1).0) b stop)) in
      let j = reads_whole q f n b i.1 stop in
      absurd (none_some j.0)
  reads_whole (r-tail_no_turn {c} {g} {h} {d} e on p) f m-tail_stop b z stop = absurd (absurdly (same_code d e) (ap (next_in (λ k. eqb k (code c))) z ∙ weaken (more (Tail c g h)) (λ k. eqb k (code c)) (λ k e. (or_parts _ _ e).0) b stop))
  reads_whole (r-tail_no_turn {c} {g} {h} {d} e on p) f (m-tail_last m_e m) b z stop = absurd (absurdly on (ap (next_in (first g)) (same_rest z) ∙ seam fine m (first g) f.2 b (λ nul. weaken (more (Tail c g h)) (first g) (λ k e. fourth (eqb k (code c)) (more g k) (more h k) (nullable h) (first g k) (first h k) nul e) b stop)))
  reads_whole (r-tail_no_turn {c} {g} {h} {d} e on p) f (m-tail_turn {a} {b = a2} m_e m n) b z stop =
      let i = reads_whole p f.3 m (a2 ++ b) (same_rest z ∙ append_assoc a a2 b) (seam fine n (more g) (same_kind g c f.1) b (λ nul. weaken (more (Tail c g h)) (more g) (λ k e. (or_parts _ _ (or_parts _ _ e).1).0) b stop)) in
      absurd (none_some i.0)
  reads_whole (r-ahead {p} {g} {h} c r) f (m-ahead m) b z stop =
      let i = reads_whole r (fine_left p g f.3) m b z (weaken (more (Ahead p g h)) (more (Left p g)) (λ n e. or_from _ _ (or_parts _ _ e).0 refl) b stop) in (some_ap inl i.0, i.1)
  reads_whole (r-ahead {p} {g} {h} c r) f (m-not_ahead m) b z stop = absurd (not_other fine p g h m f.0 f.1 b z c stop)
  reads_whole (r-no_ahead {p} {g} {h} c r) f (m-ahead m) b z stop =
      let i = reads_whole r (fine_left p g f.3) m b z (weaken (more (Ahead p g h)) (more (Left p g)) (λ n e. or_from _ _ (or_parts _ _ e).0 refl) b stop) in absurd (none_some i.0)
  reads_whole (r-no_ahead {p} {g} {h} c r) f (m-not_ahead m) b z stop = absurd (not_other fine p g h m f.0 f.1 b z c stop)
  reads_whole (r-other_way {p} {g} {h} c r) f (m-ahead m) b z stop = absurd (absurdly (ap (next_pair p) z ∙ begins_left p m b) c)
  reads_whole (r-other_way {p} {g} {h} c r) f (m-not_ahead m) b z stop =
      let i = reads_whole r f.4 m b z (weaken (more (Ahead p g h)) (more h) (λ n e. (or_parts _ _ (or_parts _ _ e).1).0) b stop) in (some_ap inr i.0, i.1)
  reads_whole (r-no_other_way {p} {g} {h} c r) f (m-ahead m) b z stop = absurd (absurdly (ap (next_pair p) z ∙ begins_left p m b) c)
  reads_whole (r-no_other_way {p} {g} {h} c r) f (m-not_ahead m) b z stop =
      let i = reads_whole r f.4 m b z (weaken (more (Ahead p g h)) (more h) (λ n e. (or_parts _ _ (or_parts _ _ e).1).0) b stop) in absurd (none_some i.0)
  reads_whole (r-here {g} {t} {u} {v} w e r) f (m-here {t = d} {a} {x} m) b z stop =
      let h : d ≡ t = sym (same_head z) in
      let n = subst (λ (y : Lexeme). Matches _ g (seen y.at (y ∷ a)) x) h m in
      let i = reads_whole r f.1 n (seen t.at b) (ap (λ l. moved t.at t ∷ l) (ap (seen t.at) (same_rest z) ∙ map-append (moved t.at) a b)) (seen_next (more g) t.at b ∙ stop) in
      let k : v ≡ b = same_end w a v b (sym e ∙ same_rest z) (seen_same t.at v b i.1) in
      let l : w ≡ a = append_cancel_right w a b (ap (λ q. w ++ q) (sym k) ∙ sym e ∙ same_rest z) in
      (some_pair (ap Some (cons_same (same_head z) l)) i.0, k)
  reads_whole (r-no_here {g} {t} w e r) f (m-here {t = d} {a} {x} m) b z stop =
      let h : d ≡ t = sym (same_head z) in
      let n = subst (λ (y : Lexeme). Matches _ g (seen y.at (y ∷ a)) x) h m in
      let i = reads_whole r f.1 n (seen t.at b) (ap (λ l. moved t.at t ∷ l) (ap (seen t.at) (same_rest z) ∙ map-append (moved t.at) a b)) (seen_next (more g) t.at b ∙ stop) in absurd (none_some i.0)
  reads_whole r-here_end f (m-here m) b z stop = absurd (no_tokens z)
  reads_whole (r-nt {n} p) f (m-nt m) b z stop =
      let i = reads_whole p (fine n).parts m b z (narrow fine n b stop) in (some_ap (made n) i.0, i.1)
  reads_whole (r-no_nt {n} p) f (m-nt m) b z stop =
      let i = reads_whole p (fine n).parts m b z (narrow fine n b stop) in absurd (none_some i.0)

  -- Reading gets through every front.
  pub through : {s : Shape} {g : Grammar s} {u v a : List Lexeme} {o : Option (Val s)} → Parses s g u o v → Fine g → IsFront s g a → (q : List Lexeme) → u ≡ a ++ q → length v ≤ length q
  through r f f-none q z = omega (arith, reads_on r, ap length z)
  through (r-tok e) f (f-tok e') q z = omega (arith, ap length (same_rest z))
  through (r-other ne) f (f-tok e') q z = absurd (ne (ap (λ (w : Lexeme). w.kind) (same_head z) ∙ e'))
  through r-end f (f-tok e') q z = absurd (let e : [] ≡ _ ∷ q = z in cc)
  through (r-seq {g} {h} p r) f (f-first m) q z = omega (arith, reads_on r, through p f.1 m q z)
  through (r-seq {g} {h} p r) f (f-rest {a} {b = []} m n) q z = omega (arith, reads_on r, through p f.1 (whole m) q (z ∙ append_assoc a [] q))
  through (r-seq {g} {h} p r) f (f-rest {a} {b = t ∷ b} m n) q z =
      let i = reads_whole p f.1 m (t ∷ (b ++ q)) (z ∙ append_assoc a (t ∷ b) q) (f.0 (code t.kind) (code_below t.kind) (first_front fine n refl)) in through r f.2 n q i.1
  through (r-second {g} {h} p r) f (f-first m) q z = omega (arith, reads_on r, through p f.1 m q z)
  through (r-second {g} {h} p r) f (f-rest {a} {b = []} m n) q z = omega (arith, reads_on r, through p f.1 (whole m) q (z ∙ append_assoc a [] q))
  through (r-second {g} {h} p r) f (f-rest {a} {b = t ∷ b} m n) q z =
      let i = reads_whole p f.1 m (t ∷ (b ++ q)) (z ∙ append_assoc a (t ∷ b) q) (f.0 (code t.kind) (code_below t.kind) (first_front fine n refl)) in through r f.2 n q i.1
  through (r-first {g} {h} p) f (f-first m) q z = through p f.1 m q z
  through (r-first {g} {h} p) f (f-rest {a} {b = []} m n) q z = through p f.1 (whole m) q (z ∙ append_assoc a [] q)
  through (r-first {g} {h} p) f (f-rest {a} {b = t ∷ b} m n) q z =
      let i = reads_whole p f.1 m (t ∷ (b ++ q)) (z ∙ append_assoc a (t ∷ b) q) (f.0 (code t.kind) (code_below t.kind) (first_front fine n refl)) in absurd (none_some i.0)
  through (r-left {g} {h} c p) f (f-left m) q z = through p f.3 m q z
  through (r-left {g} {h} c p) f (f-right m) q z = omega (arith, reads_on p, clashes fine m (first g) f.2 q z c)
  through (r-no_left {g} {h} c p) f (f-left m) q z = through p f.3 m q z
  through (r-no_left {g} {h} c p) f (f-right m) q z = omega (arith, reads_on p, clashes fine m (first g) f.2 q z c)
  through (r-right {g} {h} c p) f (f-left m) q z = omega (arith, reads_on p, stays fine m q z c)
  through (r-right {g} {h} c p) f (f-right m) q z = through p f.4 m q z
  through (r-no_right {g} {h} c p) f (f-left m) q z = omega (arith, reads_on p, stays fine m q z c)
  through (r-no_right {g} {h} c p) f (f-right m) q z = through p f.4 m q z
  through (r-none c) f (f-some m) q z = stays fine m q z c
  through (r-some c p) f (f-some m) q z = through p f.1 m q z
  through (r-held c p) f (f-some m) q z = through p f.1 m q z
  through (r-stop {g} c) f (f-turn m) q z = stays fine m q z c
  through (r-stop {g} c) f (f-turns {a} {b} m n) q z = absurd (absurdly (begins_with fine m f.0 (b ++ q) (z ∙ append_assoc a b q)) c)
  through (r-turn {g} c p r) f (f-turn m) q z = omega (arith, reads_on r, through p f.2 m q z)
  through (r-turn {g} c p r) f (f-turns {a} {b = []} m n) q z = omega (arith, reads_on r, through p f.2 (whole m) q (z ∙ append_assoc a [] q))
  through (r-turn {g} c p r) f (f-turns {a} {b = t ∷ b} m n) q z =
      let i = reads_whole p f.2 m (t ∷ (b ++ q)) (z ∙ append_assoc a (t ∷ b) q) (f.1 (code t.kind) (code_below t.kind) (first_front fine n refl)) in through r f n q i.1
  through (r-later {g} c p r) f (f-turn m) q z = omega (arith, reads_on r, through p f.2 m q z)
  through (r-later {g} c p r) f (f-turns {a} {b = []} m n) q z = omega (arith, reads_on r, through p f.2 (whole m) q (z ∙ append_assoc a [] q))
  through (r-later {g} c p r) f (f-turns {a} {b = t ∷ b} m n) q z =
      let i = reads_whole p f.2 m (t ∷ (b ++ q)) (z ∙ append_assoc a (t ∷ b) q) (f.1 (code t.kind) (code_below t.kind) (first_front fine n refl)) in through r f n q i.1
  through (r-no_turn {g} c p) f (f-turn m) q z = through p f.2 m q z
  through (r-no_turn {g} c p) f (f-turns {a} {b = []} m n) q z = through p f.2 (whole m) q (z ∙ append_assoc a [] q)
  through (r-no_turn {g} c p) f (f-turns {a} {b = t ∷ b} m n) q z =
      let i = reads_whole p f.2 m (t ∷ (b ++ q)) (z ∙ append_assoc a (t ∷ b) q) (f.1 (code t.kind) (code_below t.kind) (first_front fine n refl)) in absurd (none_some i.0)
  through (r-tail_stop {c} off) f (f-tail_last {d} e m) q z = absurd (absurdly (ap (next_in (first (Tok c))) z ∙ same_code d e) off)
  through (r-tail_stop {c} off) f (f-tail_turn {d} e m) q z = absurd (absurdly (ap (next_in (first (Tok c))) z ∙ same_code d e) off)
  through (r-tail_stop {c} off) f (f-tail_turns {d} e m n) q z = absurd (absurdly (ap (next_in (first (Tok c))) z ∙ same_code d e) off)
  through (r-tail_last {g} {h} e off p) f (f-tail_last m_e m) q z = through p f.4 m q (same_rest z)
  through (r-tail_last {g} {h} e off p) f (f-tail_turn m_e m) q z = omega (arith, reads_on p, stays fine m q (same_rest z) off)
  through (r-tail_last {g} {h} e off p) f (f-tail_turns {a} {b} m_e m n) q z = absurd (absurdly (begins_with fine m f.0 (b ++ q) (same_rest z ∙ append_assoc a b q)) off)
  through (r-tail_no_last {g} {h} e off p) f (f-tail_last m_e m) q z = through p f.4 m q (same_rest z)
  through (r-tail_no_last {g} {h} e off p) f (f-tail_turn m_e m) q z = omega (arith, reads_on p, stays fine m q (same_rest z) off)
  through (r-tail_no_last {g} {h} e off p) f (f-tail_turns {a} {b} m_e m n) q z = absurd (absurdly (begins_with fine m f.0 (b ++ q) (same_rest z ∙ append_assoc a b q)) off)
  through (r-tail_turn {c} {g} {h} e on p r) f (f-tail_last m_e m) q z = omega (arith, reads_on r, reads_on p, clashes fine m (first g) f.2 q (same_rest z) on)
  through (r-tail_turn {c} {g} {h} e on p r) f (f-tail_turn m_e m) q z = omega (arith, reads_on r, through p f.3 m q (same_rest z))
  through (r-tail_turn {c} {g} {h} e on p r) f (f-tail_turns {a} {b = []} m_e m n) q z = omega (arith, reads_on r, through p f.3 (whole m) q (same_rest z ∙ append_assoc a [] q))
  through (r-tail_turn {c} {g} {h} e on p r) f (f-tail_turns {a} {b = t ∷ b} m_e m n) q z =
      let i = reads_whole p f.3 m (t ∷ (b ++ q)) (same_rest z ∙ append_assoc a (t ∷ b) q) (same_kind g c f.1 (code t.kind) (code_below t.kind) (first_front fine n refl)) in through r f n q i.1
  through (r-tail_later {c} {g} {h} e on p r) f (f-tail_last m_e m) q z = omega (arith, reads_on r, reads_on p, clashes fine m (first g) f.2 q (same_rest z) on)
  through (r-tail_later {c} {g} {h} e on p r) f (f-tail_turn m_e m) q z = omega (arith, reads_on r, through p f.3 m q (same_rest z))
  through (r-tail_later {c} {g} {h} e on p r) f (f-tail_turns {a} {b = []} m_e m n) q z = omega (arith, reads_on r, through p f.3 (whole m) q (same_rest z ∙ append_assoc a [] q))
  through (r-tail_later {c} {g} {h} e on p r) f (f-tail_turns {a} {b = t ∷ b} m_e m n) q z =
      let i = reads_whole p f.3 m (t ∷ (b ++ q)) (same_rest z ∙ append_assoc a (t ∷ b) q) (same_kind g c f.1 (code t.kind) (code_below t.kind) (first_front fine n refl)) in through r f n q i.1
  through (r-tail_no_turn {c} {g} {h} e on p) f (f-tail_last m_e m) q z = omega (arith, reads_on p, clashes fine m (first g) f.2 q (same_rest z) on)
  through (r-tail_no_turn {c} {g} {h} e on p) f (f-tail_turn m_e m) q z = omega (arith, through p f.3 m q (same_rest z))
  through (r-tail_no_turn {c} {g} {h} e on p) f (f-tail_turns {a} {b = []} m_e m n) q z = omega (arith, through p f.3 (whole m) q (same_rest z ∙ append_assoc a [] q))
  through (r-tail_no_turn {c} {g} {h} e on p) f (f-tail_turns {a} {b = t ∷ b} m_e m n) q z =
      let i = reads_whole p f.3 m (t ∷ (b ++ q)) (same_rest z ∙ append_assoc a (t ∷ b) q) (same_kind g c f.1 (code t.kind) (code_below t.kind) (first_front fine n refl)) in absurd (none_some i.0)
  through (r-ahead {p} {g} {h} c r) f (f-ahead m) q z = through r (fine_left p g f.3) m q z
  through (r-ahead {p} {g} {h} c r) f (f-not_ahead m) q z = at_most_one p _ (short_other fine p m f.1 q z c) z (reads_on r) (λ t e y. through r (fine_left p g f.3) (f-first (f-tok (code_injective t.kind (one p) e))) q y)
  through (r-no_ahead {p} {g} {h} c r) f (f-ahead m) q z = through r (fine_left p g f.3) m q z
  through (r-no_ahead {p} {g} {h} c r) f (f-not_ahead m) q z = at_most_one p _ (short_other fine p m f.1 q z c) z (reads_on r) (λ t e y. through r (fine_left p g f.3) (f-first (f-tok (code_injective t.kind (one p) e))) q y)
  through (r-other_way {p} {g} {h} c r) f (f-ahead m) q z = at_most_one p _ (short_left p m q (ap (next_pair p) (sym z) ∙ c)) z (reads_on r) (λ t e y. through r f.4 (f.2 t e) q y)
  through (r-other_way {p} {g} {h} c r) f (f-not_ahead m) q z = through r f.4 m q z
  through (r-no_other_way {p} {g} {h} c r) f (f-ahead m) q z = at_most_one p _ (short_left p m q (ap (next_pair p) (sym z) ∙ c)) z (reads_on r) (λ t e y. through r f.4 (f.2 t e) q y)
  through (r-no_other_way {p} {g} {h} c r) f (f-not_ahead m) q z = through r f.4 m q z
  through (r-here {g} {t} {v} w e r) f (f-here {t = d} {a} m) q z =
      let n = subst (λ (y : Lexeme). IsFront _ g (seen y.at (y ∷ a))) (sym (same_head z)) m in
      omega (arith, length-map v (moved t.at), length-map q (moved t.at), through r f.1 n (seen t.at q) (ap (λ l. moved t.at t ∷ l) (ap (seen t.at) (same_rest z) ∙ map-append (moved t.at) a q)))
  through (r-no_here {g} {t} {v} w e r) f (f-here {t = d} {a} m) q z =
      let n = subst (λ (y : Lexeme). IsFront _ g (seen y.at (y ∷ a))) (sym (same_head z)) m in
      omega (arith, length-map v (moved t.at), length-map q (moved t.at), through r f.1 n (seen t.at q) (ap (λ l. moved t.at t ∷ l) (ap (seen t.at) (same_rest z) ∙ map-append (moved t.at) a q)))
  through r-here_end f (f-here m) q z = absurd (no_tokens z)
  through (r-nt {n} p) f (f-nt m) q z = through p (fine n).parts m q z
  through (r-no_nt {n} p) f (f-nt m) q z = through p (fine n).parts m q z
