-- The turns of a body.
use Rattle.std.proofs.Common.{◌≡◌, true, false, List, [], ◌∷◌, ◌++◌, Option, Some, None, Result, Ok, Err, sym, subst, inl, inr, arith, append_assoc, append-nil}
use Rattle.std.specs.Result.{IsErrAnd}
use Rattle.rs_tree.specs.declared.kind.Kind.{Kind}
use Rattle.rs_tree.specs.declared.kind.Kind.TheVariants as k
use Rattle.rs_tree.specs.declared.tree.Expr.{Expr}
use Rattle.rs_tree.specs.declared.tree.Stmt.{Stmt}
use Rattle.rs_tree.specs.declared.tree.Stmt.TheVariants as stmt
use Rattle.rs_parse.specs.declared.body.Turn.{Turn}
use Rattle.rs_reader.specs.declared.fault.Fault.{Fault}
use Rattle.rs_reader.specs.declared.fault.Fault.TheVariants.{Syntax, Memory}
use Rattle.rs_grammar.specs.Lexeme.{Lexeme}
use Rattle.rs_grammar.specs.Grammar.{Shape, Val, Grammar, Tok, Seq, Tail, Nt, NameAssign, Body, Rest, Worded, Expression}
use Rattle.rs_grammar.specs.Sets.{first, next_in, next_pair}
use Rattle.rs_grammar.specs.Parses.{Parses, r-tok, r-nt, r-no_nt, r-seq, r-second, r-first, r-left, r-right, r-no_left, r-no_right, r-none, r-some, r-held, r-ahead, r-no_ahead, r-other_way, r-no_other_way, r-tail_no_last}
use Rattle.rs_reader.specs.Reading.{Reading, ReadingAs}
use Rattle.rs_parse.specs.Blocks.{BodyTurns, OneMore, ReadsOne, assignment, assigned, evaluation, evaluated}
use Rattle.rs_reader.proofs.Exits.{failed, out_of_memory}
use Rattle.rs_reader.proofs.Makes.{makes, makes_none, makes_lacks}

-- a fault in the last part, where it begins
pub tail_no_last : {s t : Shape} {c : Kind} {g : Grammar s} {h : Grammar t} {u v w : List Lexeme} {d : Lexeme}
    → Parses _ (Tok c) u (Some d) v → next_in (first g) v ≡ false → Parses _ h v None w → Parses _ (Tail c g h) u None w
tail_no_last (r-tok e) n r = r-tail_no_last e n r

pub passes_one : {s : Shape} {g : Grammar s} {u v w : List Lexeme} {e : Fault} (r : Result Turn Fault)
    → IsErrAnd r (λ d. d ≡ e) → Reading g v (Err e) w → (Parses _ g v None w → Parses _ (Nt Rest) u None w) → ReadsOne u r w
passes_one (Ok x) i f q = absurd i
passes_one {e = Syntax} (Err Syntax) i f q = q f.is
passes_one {e = Memory} (Err Syntax) i f q = absurd cc
passes_one (Err Memory) i f q = tt

pub passes_one_made : {s : Shape} {X : Type 0} {g : Grammar s} {f : Val s → X} {u v w : List Lexeme} {e : Fault} (r : Result Turn Fault)
    → IsErrAnd r (λ d. d ≡ e) → ReadingAs g f v (Err e) w → (Parses _ g v None w → Parses _ (Nt Rest) u None w) → ReadsOne u r w
passes_one_made (Ok x) i f q = absurd i
passes_one_made {e = Syntax} (Err Syntax) i f q = q f.is
passes_one_made {e = Memory} (Err Syntax) i f q = absurd cc
passes_one_made (Err Memory) i f q = tt

-- four parts, and a fifth
and_more : {s t a b z : Shape} {g : Grammar s} {h : Grammar t} {i : Grammar a} {j : Grammar b} {l : Grammar z} {u v w : List Lexeme} {x : Val s} {y : Val t} {m : Val a} {n : Val b} {o : Val z}
    → Parses _ (Seq g (Seq h (Seq i j))) u (Some (x, (y, (m, n)))) v → Parses _ l v (Some o) w → Parses _ (Seq g (Seq h (Seq i (Seq j l)))) u (Some (x, (y, (m, (n, o))))) w
and_more (r-seq p (r-seq q (r-seq r e))) f = r-seq p (r-seq q (r-seq r (r-seq e f)))

and_no_more : {s t a b z : Shape} {g : Grammar s} {h : Grammar t} {i : Grammar a} {j : Grammar b} {l : Grammar z} {u v w : List Lexeme} {x : Val s} {y : Val t} {m : Val a} {n : Val b}
    → Parses _ (Seq g (Seq h (Seq i j))) u (Some (x, (y, (m, n)))) v → Parses _ l v None w → Parses _ (Seq g (Seq h (Seq i (Seq j l)))) u None w
and_no_more (r-seq p (r-seq q (r-seq r e))) f = r-second p (r-second q (r-second r (r-second e f)))

pub none_more : {s t a b z : Shape} {g : Grammar s} {h : Grammar t} {i : Grammar a} {j : Grammar b} (l : Grammar z) {u v : List Lexeme}
    → Parses _ (Seq g (Seq h (Seq i j))) u None v → Parses _ (Seq g (Seq h (Seq i (Seq j l)))) u None v
none_more l (r-first p) = r-first p
none_more l (r-second p (r-first q)) = r-second p (r-first q)
none_more l (r-second p (r-second q (r-first r))) = r-second p (r-second q (r-first r))
none_more l (r-second p (r-second q (r-second r e))) = r-second p (r-second q (r-second r (r-first e)))

pub worded_turn : {u v : List Lexeme} {s : Stmt} → next_in (first (Nt Worded)) u ≡ true → Reading (Nt Worded) u (Ok s) v → OneMore u s v
worded_turn {s} c r = record {
  ends = λ y w q. r-nt {n = Rest} {x = inl (s, y)} (r-left c (r-seq r.is q));
  fails = λ w q. r-no_nt {n = Rest} (r-no_left c (r-second r.is q));
  on = r.on;
}

pub assign_turn : {u v : List Lexeme} {s : Stmt} → next_in (first (Nt Worded)) u ≡ false → next_pair NameAssign u ≡ true → ReadingAs assignment assigned u (Ok s) v → OneMore u s v
assign_turn {u} {v} {s} c d r =
    let x = r.is.0 in
    record {
      ends = λ y w q. subst (λ (z : Stmt). Parses _ (Nt Rest) u (Some (z ∷ y.0, y.1)) w) (sym r.is.1) (r-nt {n = Rest} {x = inr (inl (x.0, (x.1.0, (x.1.1.0, (x.1.1.1, y)))))} (r-right c (r-ahead d (and_more r.is.2 q))));
      fails = λ w q. r-no_nt {n = Rest} (r-no_right c (r-no_ahead d (and_no_more r.is.2 q)));
      on = r.on;
    }

pub eval_turn : {u v w : List Lexeme} {t : Lexeme} {e : Expr} → next_in (first (Nt Worded)) u ≡ false → next_pair NameAssign u ≡ false → Reading (Nt Expression) u (Ok e) v → next_in (first (Tok k.Semicolon)) v ≡ true → Reading (Tok k.Semicolon) v (Ok t) w → OneMore u (stmt.Eval e) w
eval_turn {t} {e} c d r i s = record {
  ends = λ y w z. r-nt {n = Rest} {x = inr (inr (e, Some (t, y)))} (r-right c (r-other_way d (r-seq r.is (r-some i (r-seq s.is z)))));
  fails = λ w z. r-no_nt {n = Rest} (r-no_right c (r-no_other_way d (r-second r.is (r-held i (r-second s.is z)))));
  on = omega (arith, r.on, s.on);
}

pub last_turn : {u v : List Lexeme} {e : Expr} → next_in (first (Nt Worded)) u ≡ false → next_pair NameAssign u ≡ false → Reading (Nt Expression) u (Ok e) v → next_in (first (Tok k.Semicolon)) v ≡ false → Parses _ (Nt Rest) u (Some ([], Some e)) v
last_turn {e} c d r i = r-nt {n = Rest} {x = inr (inr (e, None))} (r-right c (r-other_way d (r-seq r.is (r-none i))))

-- how a turn leads on
pub body_more : {u v w : List Lexeme} {done : List Stmt} {s : Stmt} → BodyTurns u done v → next_in (first (Nt Rest)) v ≡ true → OneMore v s w → BodyTurns u (done ++ s ∷ []) w
body_more {u} {done} {s} t c m = record {
  ends = λ y z q. subst (λ (l : List Stmt). Parses _ (Nt Body) u (Some (l, y.1)) z) (sym (append_assoc done (s ∷ []) y.0)) (t.ends (s ∷ y.0, y.1) z (r-nt {n = Body} {x = Some (s ∷ y.0, y.1)} (r-some c (m.ends y z q))));
  fails = λ z q. t.fails z (r-no_nt {n = Body} (r-held c (m.fails z q)));
  on = omega (arith, t.on, m.on);
}

pub body_last : {u v w : List Lexeme} {done : List Stmt} {e : Expr} → BodyTurns u done v → next_in (first (Nt Rest)) v ≡ true → Parses _ (Nt Rest) v (Some ([], Some e)) w → Parses _ (Nt Body) u (Some (done, Some e)) w
body_last {u} {w} {done} {e} t c r = subst (λ (l : List Stmt). Parses _ (Nt Body) u (Some (l, Some e)) w) (append-nil done) (t.ends ([], Some e) w (r-nt {n = Body} {x = Some ([], Some e)} (r-some c r)))

pub body_stops : {u v : List Lexeme} {done : List Stmt} → BodyTurns u done v → next_in (first (Nt Rest)) v ≡ false → Parses _ (Nt Body) u (Some (done, None)) v
body_stops {u} {v} {done} t c = subst (λ (l : List Stmt). Parses _ (Nt Body) u (Some (l, None)) v) (append-nil done) (t.ends ([], None) v (r-nt {n = Body} {x = None} (r-none c)))

pub passes_body : {u : List Lexeme} (v w : List Lexeme) (e : Fault) (r : Result (List Stmt × Option Expr) Fault) → IsErrAnd r (λ d. d ≡ e) → ReadsOne v (Err e) w → (Parses _ (Nt Rest) v None w → Parses _ (Nt Body) u None w) → Reading (Nt Body) u r w
passes_body v w e (Ok x) i f q = absurd i
passes_body v w Syntax (Err Syntax) i f q = failed (q f)
passes_body v w Memory (Err Syntax) i f q = absurd cc
passes_body v w e (Err Memory) i f q = out_of_memory

-- an expression and its `;`
pub effect_of : {u v w : List Lexeme} {e : Expr} (r : Result Stmt Fault) → Reading (Nt Expression) u (Ok e) v → ReadingAs (Tok k.Semicolon) (λ _. stmt.Eval e) v r w → ReadingAs evaluation evaluated u r w
effect_of {e} (Ok s) f a = makes {g = evaluation} {f = evaluated} (e, a.is.0) a.is.1 (r-seq f.is a.is.2)
effect_of (Err Syntax) f a = makes_none (r-second f.is a.is)
effect_of (Err Memory) f a = makes_lacks
