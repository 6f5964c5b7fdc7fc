-- How a function that reads returns early.
use Rattle.std.proofs.Common.{◌≡◌, ◌<◌, Bool, true, false, List, [], ◌∷◌, ◌++◌, length, Some, None, Result, Ok, Err, refl, sym, ap, ◌∙◌, subst, arith, length-append, append_assoc}
use Rattle.std.specs.Result.{IsErrAnd}
use Rattle.rs_grammar.specs.Lexeme.{Lexeme}
use Rattle.rs_reader.specs.declared.fault.Fault.{Fault}
use Rattle.rs_reader.specs.declared.fault.Fault.TheVariants.{Syntax, Memory}
use Rattle.rs_tree.specs.declared.kind.Kind.{Kind}
use Rattle.rs_grammar.specs.Grammar.{Shape, Val, Grammar, Tok, Rep, Tail, Matches}
use Rattle.rs_grammar.specs.Sets.{nullable, first, next_in}
use Rattle.rs_grammar.specs.Parses.{Parses, r-tok, r-turn, r-later, r-tail_turn, r-tail_later, r-tail_last, r-tail_no_turn}
use Rattle.rs_reader.specs.Reading.{Reading, Advances, Turns, TailTurns}
use Rattle.rs_grammar.proofs.Begins.{empty_match}
use Rattle.rs_grammar.proofs.Soundness.{read_matches, reads_on}
use Rattle.rs_grammar.proofs.Fine.{fine}

abbrev pub handed : {X Y : Type 0} → (X → Y) → Result X Fault → Result Y Fault
handed f (Ok x) = Ok (f x)
handed f (Err e) = Err e

advance : {s : Shape} {g : Grammar s} {u v : List Lexeme} {x : Val s} → Parses _ g u (Some x) v → Advances {X = Val s} (nullable g) (Ok x) u v
advance {g} {u} {v} {x} r = go (nullable g) refl
  where
    go : (b : Bool) → nullable g ≡ b → Advances b (Ok x) u v
    go true e = reads_on r
    go false e = let m = read_matches r in taking m.0 m.1 m.2 e
      where
        taking : (a : List Lexeme) → u ≡ a ++ v → Matches _ g a x → nullable g ≡ false → length v < length u
        taking [] z m e = absurd (let h : true ≡ false = sym (empty_match fine m refl) ∙ e in cc)
        taking (t ∷ a) z m e = omega (arith, ap length z, length-append a v)

pub read : {s : Shape} {g : Grammar s} {u v : List Lexeme} {x : Val s} → Parses _ g u (Some x) v → Reading g u (Ok x) v
read r = record { is = r; on = advance r }

pub read_as : {s : Shape} {g : Grammar s} {u v : List Lexeme} {x y : Val s} → x ≡ y → Parses _ g u (Some y) v → Reading g u (Ok x) v
read_as {g} {u} {v} e r = subst (λ z. Reading g u (Ok z) v) (sym e) (read r)

not_on : (X : Type 0) (b : Bool) (e : Fault) (u v : List Lexeme) → Advances {X = X} b (Err e) u v
not_on X true e u v = tt
not_on X false e u v = tt

pub failed : {s : Shape} {g : Grammar s} {u v : List Lexeme} → Parses _ g u None v → Reading g u (Err Syntax) v
failed {s} {g} {u} {v} r = record { is = r; on = not_on (Val s) (nullable g) Syntax u v }

pub out_of_memory : {s : Shape} {g : Grammar s} {u v : List Lexeme} → Reading g u (Err Memory) v
out_of_memory {s} {g} {u} {v} = record { is = tt; on = not_on (Val s) (nullable g) Memory u v }

-- a fault within is a fault
pub passes : {s t : Shape} {g : Grammar s} {h : Grammar t} {u v w : List Lexeme} {e : Fault} (r : Result (Val t) Fault)
    → IsErrAnd r (λ d. d ≡ e) → Reading g v (Err e) w → (Parses _ g v None w → Parses _ h u None w) → Reading h u r w
passes (Ok x) i f k = absurd i
passes {e = Syntax} (Err Syntax) i f k = failed (k f.is)
passes {e = Memory} (Err Syntax) i f k = absurd cc
passes (Err Memory) i f k = out_of_memory

-- a result that is handed on
pub hands : {s t : Shape} {g : Grammar s} {h : Grammar t} {u v w : List Lexeme} (r : Result (Val s) Fault) → Reading g v r w
    → (f : Val s → Val t) → (Parses _ g v None w → Parses _ h u None w) → ((x : Val s) → Parses _ g v (Some x) w → Parses _ h u (Some (f x)) w) → Reading h u (handed f r) w
hands (Ok x) o f k l = read (l x o.is)
hands (Err Syntax) o f k l = failed (k o.is)
hands (Err Memory) o f k l = out_of_memory

pub turns_none : {s : Shape} {g : Grammar s} {u : List Lexeme} → Turns g u [] u
turns_none = record { ends = λ xs w r. r; fails = λ w r. r; on = omega arith }

pub turns_more : {s : Shape} {g : Grammar s} {u v w : List Lexeme} {done : List (Val s)} {x : Val s} → Turns g u done v → next_in (first g) v ≡ true → Parses _ g v (Some x) w → Turns g u (done ++ x ∷ []) w
turns_more {g} {u} {done} {x} t e r = record {
  ends = λ xs z q. subst (λ (l : List (Val _)). Parses _ (Rep g) u (Some l) z) (sym (append_assoc done (x ∷ []) xs)) (t.ends (x ∷ xs) z (r-turn e r q));
  fails = λ z q. t.fails z (r-later e r q);
  on = omega (arith, t.on, reads_on r);
}

pub tail_none : {s t : Shape} {c : Kind} {g : Grammar s} {h : Grammar t} {u : List Lexeme} → TailTurns c g h u [] u
tail_none = record { ends = λ xs y w r. r; fails = λ w r. r; on = omega arith }

pub tail_more : {s t : Shape} {c : Kind} {g : Grammar s} {h : Grammar t} {u v w z : List Lexeme} {done : List (Val s)} {d : Lexeme} {x : Val s}
    → TailTurns c g h u done v → Parses _ (Tok c) v (Some d) w → next_in (first g) w ≡ true → Parses _ g w (Some x) z → TailTurns c g h u (done ++ x ∷ []) z
tail_more {c} {g} {h} {u} {done} {x} t (r-tok k) e r = record {
  ends = λ xs y b q. subst (λ (l : List (Val _)). Parses _ (Tail c g h) u (Some (l, y)) b) (sym (append_assoc done (x ∷ []) xs)) (t.ends (x ∷ xs) y b (r-tail_turn k e r q));
  fails = λ b q. t.fails b (r-tail_later k e r q);
  on = omega (arith, t.on, reads_on r);
}

handed_same : {X : Type 0} (r : Result X Fault) → handed (λ x. x) r ≡ r
handed_same (Ok x) = refl
handed_same (Err e) = refl

-- a result that is handed on as it is
pub as_is : {X : Type 0} (P : Result X Fault → Type 0) (r : Result X Fault) → P (handed (λ x. x) r) → P r
as_is P r h = subst P (handed_same r) h

pub tail_last : {s t : Shape} {c : Kind} {g : Grammar s} {h : Grammar t} {u v w : List Lexeme} {d : Lexeme} {y : Val t}
    → Parses _ (Tok c) u (Some d) v → next_in (first g) v ≡ false → Parses _ h v (Some y) w → Parses _ (Tail c g h) u (Some ([], Some y)) w
tail_last (r-tok k) e r = r-tail_last k e r

pub tail_no_turn : {s t : Shape} {c : Kind} {g : Grammar s} {h : Grammar t} {u v w : List Lexeme} {d : Lexeme}
    → Parses _ (Tok c) u (Some d) v → next_in (first g) v ≡ true → Parses _ g v None w → Parses _ (Tail c g h) u None w
tail_no_turn (r-tok k) e r = r-tail_no_turn k e r
