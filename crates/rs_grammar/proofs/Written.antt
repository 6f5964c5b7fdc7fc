-- The two grammars say the same: what a rule of the one reads the rule of the other reads too, within the other's
-- own matching; so whole forms do.
use Rattle.std.proofs.Common.{◌≡◌, inl, inr, List, [], ◌∷◌, ◌++◌, Option, Some, None, map, refl, sym, ap, subst, append_assoc, append-nil}
use Rattle.rs_tree.specs.declared.kind.Kind.{Kind}
use Rattle.rs_tree.specs.declared.kind.Kind.TheVariants as k
use Rattle.rs_tree.specs.declared.tree.Expr.{Expr}
use Rattle.rs_tree.specs.declared.tree.Stmt.{Stmt}
use Rattle.rs_tree.specs.declared.tree.Stmt.TheVariants as stmt
use Rattle.rs_tree.specs.declared.place.At.{At}
use Rattle.rs_tree.specs.declared.token.Token.{Token}
use Rattle.rs_tree.specs.declared.tree.Crate.{Crate}
use Rattle.rs_grammar.specs.declared.fault.SyntaxFault.{SyntaxFault}
use Rattle.rs_grammar.specs.declared.fault.SyntaxFault.TheVariants as fault
use Rattle.rs_grammar.specs.Lexeme.{Lexeme}
use Rattle.rs_grammar.specs.Grammar.{Rule, Shape, lexeme, nothing, both, either, maybe, many, tree, shape, Val, Pair, one, two, Grammar, Tok, Empty, Seq, Alt, Opt, Rep, Tail, Ahead, Nt, rule, made, before, second, held, Part, Contents, Item, Definition, Constant, Function, OtherParams, Body, Rest, Statement, Arm, OtherArms, Block, Expression, OtherArgs, Route, Member, Section, Text, written, written_shape, written_made, Version, AsWritten, Factored, shape_in, rule_in, made_in, MatchesIn, IsFrontIn, Matches, IsFront, m-tok, m-empty, m-seq, m-left, m-right, m-none, m-some, m-stop, m-turn, m-tail_stop, m-tail_last, m-tail_turn, m-ahead, m-not_ahead, m-here, m-nt, f-none, f-tok, f-first, f-rest, f-left, f-right, f-some, f-turn, f-turns, f-tail_last, f-tail_turn, f-tail_turns, f-ahead, f-not_ahead, f-here, f-nt}
use Rattle.rs_grammar.specs.Correct.{HasTreeIn, IsSyntaxRefusalIn, IsFaultIn, FitsCrateIn}
use Rattle.rs_grammar.specs.Written.{FormsAgree, TextsAgree}
use Rattle.rs_grammar.proofs.Soundness.{whole}

abbrev Writes : (s : Shape) → Grammar s → List Lexeme → Val s → Type 0
Writes s g a x = MatchesIn AsWritten s g a x

abbrev Begins : (s : Shape) → Grammar s → List Lexeme → Type 0
Begins s g a = IsFrontIn AsWritten s g a

-- one two g | two g | h
abbrev Parted : {s t : Shape} → Pair → Grammar s → Grammar t → Grammar (either (both lexeme (both lexeme s)) (either (both lexeme s) t))
Parted p g h = Ahead p g (Alt (Seq (Tok (two p)) g) h)

-- [one] two g | h
abbrev Optional : {s t : Shape} → Pair → Grammar s → Grammar t → Grammar (either (both (maybe lexeme) (both lexeme s)) t)
Optional p g h = Alt (Seq (Opt (Tok (one p))) (Seq (Tok (two p)) g)) h

abbrev joined : (s t : Shape) → Val (either (both lexeme (both lexeme s)) (either (both lexeme s) t)) → Val (either (both (maybe lexeme) (both lexeme s)) t)
joined s t (inl (x, y)) = inl (Some x, y)
joined s t (inr (inl y)) = inl (None, y)
joined s t (inr (inr y)) = inr y

abbrev parted : (s t : Shape) → Val (either (both (maybe lexeme) (both lexeme s)) t) → Val (either (both lexeme (both lexeme s)) (either (both lexeme s) t))
parted s t (inl (Some x, y)) = inl (x, y)
parted s t (inl (None, y)) = inr (inl y)
parted s t (inr y) = inr (inr y)

optional : {s t : Shape} {p : Pair} {g : Grammar s} {h : Grammar t} {a : List Lexeme} {x : _} → Writes _ (Parted p g h) a x → Writes _ (Optional p g h) a (joined s t x)
optional (m-ahead (m-seq m n)) = m-left (m-seq (m-some m) n)
optional (m-not_ahead (m-left m)) = m-left (m-seq m-none m)
optional (m-not_ahead (m-right m)) = m-right m

factored : {s t : Shape} {p : Pair} {g : Grammar s} {h : Grammar t} {a : List Lexeme} {y : _} → Matches _ (Optional p g h) a y → Matches _ (Parted p g h) a (parted s t y)
factored (m-left (m-seq (m-some m) n)) = m-ahead (m-seq m n)
factored (m-left (m-seq m-none n)) = m-not_ahead (m-left n)
factored (m-right m) = m-not_ahead (m-right m)

front_optional : {s t : Shape} {p : Pair} {g : Grammar s} {h : Grammar t} {a : List Lexeme} → Begins _ (Parted p g h) a → Begins _ (Optional p g h) a
front_optional f-none = f-none
front_optional (f-ahead f-none) = f-none
front_optional (f-ahead (f-first m)) = f-left (f-first (f-some m))
front_optional (f-ahead (f-rest m n)) = f-left (f-rest (m-some m) n)
front_optional (f-not_ahead f-none) = f-none
front_optional (f-not_ahead (f-left m)) = f-left (f-rest m-none m)
front_optional (f-not_ahead (f-right m)) = f-right m

front_factored : {s t : Shape} {p : Pair} {g : Grammar s} {h : Grammar t} {a : List Lexeme} → IsFront _ (Optional p g h) a → IsFront _ (Parted p g h) a
front_factored f-none = f-none
front_factored (f-left f-none) = f-none
front_factored (f-left (f-first f-none)) = f-none
front_factored (f-left (f-first (f-some m))) = f-ahead (f-first m)
front_factored (f-left (f-rest m-none n)) = f-not_ahead (f-left n)
front_factored (f-left (f-rest (m-some m) n)) = f-ahead (f-rest m n)
front_factored (f-right m) = f-not_ahead (f-right m)

part_joined : (x : Val (shape Part)) → made Part x ≡ written_made Part (joined (tree Contents) (tree Item) x)
part_joined (inl x) = refl
part_joined (inr (inl x)) = refl
part_joined (inr (inr x)) = refl

part_parted : (y : Val (written_shape Part)) → written_made Part y ≡ made Part (parted (tree Contents) (tree Item) y)
part_parted (inl (Some x, y)) = refl
part_parted (inl (None, y)) = refl
part_parted (inr y) = refl

definition_joined : (x : Val (shape Definition)) → made Definition x ≡ written_made Definition (joined (tree Constant) (tree Function) x)
definition_joined (inl x) = refl
definition_joined (inr (inl x)) = refl
definition_joined (inr (inr x)) = refl

definition_parted : (y : Val (written_shape Definition)) → written_made Definition y ≡ made Definition (parted (tree Constant) (tree Function) y)
definition_parted (inl (Some x, y)) = refl
definition_parted (inl (None, y)) = refl
definition_parted (inr y) = refl

-- one two g | h
plain : {s t : Shape} {p : Pair} {g : Grammar s} {h : Grammar t} {a : List Lexeme} {x : Val (either (both lexeme (both lexeme s)) t)} → Writes _ (Ahead p g h) a x → Writes _ (Alt (Seq (Tok (one p)) (Seq (Tok (two p)) g)) h) a x
plain (m-ahead m) = m-left m
plain (m-not_ahead m) = m-right m

ahead : {s t : Shape} {p : Pair} {g : Grammar s} {h : Grammar t} {a : List Lexeme} {x : Val (either (both lexeme (both lexeme s)) t)} → Matches _ (Alt (Seq (Tok (one p)) (Seq (Tok (two p)) g)) h) a x → Matches _ (Ahead p g h) a x
ahead (m-left m) = m-ahead m
ahead (m-right m) = m-not_ahead m

front_plain : {s t : Shape} {p : Pair} {g : Grammar s} {h : Grammar t} {a : List Lexeme} → Begins _ (Ahead p g h) a → Begins _ (Alt (Seq (Tok (one p)) (Seq (Tok (two p)) g)) h) a
front_plain f-none = f-none
front_plain (f-ahead m) = f-left m
front_plain (f-not_ahead m) = f-right m

front_ahead : {s t : Shape} {p : Pair} {g : Grammar s} {h : Grammar t} {a : List Lexeme} → IsFront _ (Alt (Seq (Tok (one p)) (Seq (Tok (two p)) g)) h) a → IsFront _ (Ahead p g h) a
front_ahead f-none = f-none
front_ahead (f-left m) = f-ahead m
front_ahead (f-right m) = f-not_ahead m

statement_written : {a : List Lexeme} {x : Val (shape Statement)} → Writes _ (rule Statement) a x → Writes _ (written Statement) a x
statement_written (m-left m) = m-left m
statement_written (m-right m) = m-right (plain m)

written_is_statement : {a : List Lexeme} {x : Val (shape Statement)} → Matches _ (written Statement) a x → Matches _ (rule Statement) a x
written_is_statement (m-left m) = m-left m
written_is_statement (m-right m) = m-right (ahead m)

front_statement_written : {a : List Lexeme} → Begins _ (rule Statement) a → Begins _ (written Statement) a
front_statement_written f-none = f-none
front_statement_written (f-left m) = f-left m
front_statement_written (f-right m) = f-right (front_plain m)

front_written_statement : {a : List Lexeme} → IsFront _ (written Statement) a → IsFront _ (rule Statement) a
front_written_statement f-none = f-none
front_written_statement (f-left m) = f-left m
front_written_statement (f-right m) = f-right (front_ahead m)

-- { g } h
more_turns : {s t : Shape} {g : Grammar s} {h : Grammar t} {a b : List Lexeme} {x : Val s} {y : Val (both (many s) t)} → Writes _ g a x → Writes _ (Seq (Rep g) h) b y → Writes _ (Seq (Rep g) h) (a ++ b) (x ∷ y.0, y.1)
more_turns {g} {h} {a} {x} m (m-seq {a = b} {b = c} {x = xs} {y} r o) = subst (λ (w : List Lexeme). Writes _ (Seq (Rep g) h) w (x ∷ xs, y)) (append_assoc a b c) (m-seq (m-turn m r) o)

front_more_turns : {s t : Shape} {g : Grammar s} {h : Grammar t} {a b : List Lexeme} {x : Val s} → Writes _ g a x → Begins _ (Seq (Rep g) h) b → Begins _ (Seq (Rep g) h) (a ++ b)
front_more_turns m f-none = f-first (f-turns m f-none)
front_more_turns m (f-first r) = f-first (f-turns m r)
front_more_turns {g} {h} {a} m (f-rest {a = b} {b = c} r o) = subst (Begins _ (Seq (Rep g) h)) (append_assoc a b c) (f-rest (m-turn m r) o)

-- { c g } [ c h ]
abbrev Turning : {s t : Shape} → Kind → Grammar s → Grammar t → Grammar (both (many (both lexeme s)) (maybe (both lexeme t)))
Turning c g h = Seq (Rep (Seq (Tok c) g)) (Opt (Seq (Tok c) h))

abbrev tail_of : (s t : Shape) → Val (both (many (both lexeme s)) (maybe (both lexeme t))) → Val (both (many s) (maybe t))
tail_of s t (turns, last) = (map (second {X = Lexeme} {Y = Val s}) turns, held {X = Lexeme} {Y = Val t} last)

tail_written : {s t : Shape} {c : Kind} {g : Grammar s} {h : Grammar t} {a : List Lexeme} {x : Val (both (many s) (maybe t))}
    → Writes _ (Tail c g h) a x → (y : Val (both (many (both lexeme s)) (maybe (both lexeme t)))) × Writes _ (Turning c g h) a y × (x ≡ tail_of s t y)
tail_written m-tail_stop = (([], None), m-seq m-stop m-none, refl)
tail_written (m-tail_last {d} {y} e m) = (([], Some (d, y)), m-seq m-stop (m-some (m-seq (m-tok e) m)), refl)
tail_written (m-tail_turn {d} {x} e m n) = let i = tail_written n in (((d, x) ∷ i.0.0, i.0.1), more_turns (m-seq (m-tok e) m) i.1, ap (λ z. (x ∷ z.0, z.1)) i.2)

written_turns : {s t : Shape} {c : Kind} {g : Grammar s} {h : Grammar t} {a b : List Lexeme} {x : Val (many (both lexeme s))} {y : Val (maybe (both lexeme t))}
    → Matches _ (Rep (Seq (Tok c) g)) a x → Matches _ (Opt (Seq (Tok c) h)) b y → Matches _ (Tail c g h) (a ++ b) (tail_of s t (x, y))
written_turns m-stop m-none = m-tail_stop
written_turns m-stop (m-some (m-seq (m-tok e) m)) = m-tail_last e m
written_turns {s} {t} {c} {g} {h} {b} {x = (d, x) ∷ xs} {y} (m-turn {b = r} (m-seq {b = q} (m-tok e) m) n) o =
    subst (λ w. Matches _ (Tail c g h) (d ∷ w) (tail_of s t ((d, x) ∷ xs, y))) (sym (append_assoc q r b)) (m-tail_turn e m (written_turns n o))

written_is_tail : {s t : Shape} {c : Kind} {g : Grammar s} {h : Grammar t} {a : List Lexeme} {y : Val (both (many (both lexeme s)) (maybe (both lexeme t)))} → Matches _ (Turning c g h) a y → Matches _ (Tail c g h) a (tail_of s t y)
written_is_tail (m-seq r o) = written_turns r o

front_tail_written : {s t : Shape} {c : Kind} {g : Grammar s} {h : Grammar t} {a : List Lexeme} → Begins _ (Tail c g h) a → Begins _ (Turning c g h) a
front_tail_written f-none = f-none
front_tail_written (f-tail_last e m) = f-rest m-stop (f-some (f-rest (m-tok e) m))
front_tail_written (f-tail_turn e m) = f-first (f-turn (f-rest (m-tok e) m))
front_tail_written (f-tail_turns e m n) = front_more_turns (m-seq (m-tok e) m) (front_tail_written n)

front_turns : {s t : Shape} {c : Kind} {g : Grammar s} {h : Grammar t} {a : List Lexeme} → IsFront _ (Rep (Seq (Tok c) g)) a → IsFront _ (Tail c g h) a
front_turns f-none = f-none
front_turns (f-turn f-none) = f-none
front_turns (f-turn (f-first f-none)) = f-none
front_turns (f-turn (f-first (f-tok e))) = f-tail_turn e f-none
front_turns (f-turn (f-rest (m-tok e) m)) = f-tail_turn e m
front_turns (f-turns (m-seq (m-tok e) m) n) = f-tail_turns e m (front_turns n)

front_last : {s t : Shape} {c : Kind} {g : Grammar s} {h : Grammar t} {a : List Lexeme} → IsFront _ (Opt (Seq (Tok c) h)) a → IsFront _ (Tail c g h) a
front_last f-none = f-none
front_last (f-some f-none) = f-none
front_last (f-some (f-first f-none)) = f-none
front_last (f-some (f-first (f-tok e))) = f-tail_last e f-none
front_last (f-some (f-rest (m-tok e) m)) = f-tail_last e m

front_after_turns : {s t : Shape} {c : Kind} {g : Grammar s} {h : Grammar t} {a b : List Lexeme} {x : Val (many (both lexeme s))} → Matches _ (Rep (Seq (Tok c) g)) a x → IsFront _ (Opt (Seq (Tok c) h)) b → IsFront _ (Tail c g h) (a ++ b)
front_after_turns m-stop o = front_last o
front_after_turns {c} {g} {h} {b} (m-turn {b = r} (m-seq {b = q} (m-tok {t = d} e) m) n) o = subst (λ w. IsFront _ (Tail c g h) (d ∷ w)) (sym (append_assoc q r b)) (f-tail_turns e m (front_after_turns n o))

front_written_tail : {s t : Shape} {c : Kind} {g : Grammar s} {h : Grammar t} {a : List Lexeme} → IsFront _ (Turning c g h) a → IsFront _ (Tail c g h) a
front_written_tail f-none = f-none
front_written_tail (f-first r) = front_turns r
front_written_tail (f-rest r o) = front_after_turns r o

-- { c g } [ c ]
abbrev Listing : {s : Shape} → Kind → Grammar s → Grammar (both (many (both lexeme s)) (maybe lexeme))
Listing c g = Seq (Rep (Seq (Tok c) g)) (Opt (Tok c))

abbrev list_of : (s : Shape) → Val (both (many (both lexeme s)) (maybe lexeme)) → List (Val s)
list_of s (turns, last) = map (second {X = Lexeme} {Y = Val s}) turns

abbrev turns_of : (s : Shape) → Val (both (many s) (maybe nothing)) → List (Val s)
turns_of s (turns, last) = turns

last_alone : {s t : Shape} {g : Grammar s} {q : Grammar t} {a : List Lexeme} {x : Val (both s (maybe (both t nothing)))} → Writes _ (Seq g (Opt (Seq q Empty))) a x → (y : Val (maybe t)) × Writes _ (Seq g (Opt q)) a (x.0, y)
last_alone (m-seq m m-none) = (None, m-seq m m-none)
last_alone {g} {q} (m-seq {a} {x} m (m-some (m-seq {a = b} {x = y} n m-empty))) = (Some y, subst (λ w. Writes _ (Seq g (Opt q)) (a ++ w) (x, Some y)) (sym (append-nil b)) (m-seq m (m-some n)))

last_with_nothing : {s t : Shape} {g : Grammar s} {q : Grammar t} {a : List Lexeme} {x : Val (both s (maybe t))} → Matches _ (Seq g (Opt q)) a x → (y : Val (maybe (both t nothing))) × Matches _ (Seq g (Opt (Seq q Empty))) a (x.0, y)
last_with_nothing (m-seq m m-none) = (None, m-seq m m-none)
last_with_nothing {g} {q} (m-seq {a} {x} m (m-some {a = b} {x = y} n)) = (Some (y, tt), subst (λ w. Matches _ (Seq g (Opt (Seq q Empty))) (a ++ w) (x, Some (y, tt))) (append-nil b) (m-seq m (m-some (m-seq n m-empty))))

front_last_alone : {s t : Shape} {g : Grammar s} {q : Grammar t} {a : List Lexeme} → Begins _ (Seq g (Opt (Seq q Empty))) a → Begins _ (Seq g (Opt q)) a
front_last_alone f-none = f-none
front_last_alone (f-first m) = f-first m
front_last_alone (f-rest m f-none) = f-rest m f-none
front_last_alone (f-rest m (f-some f-none)) = f-rest m f-none
front_last_alone (f-rest m (f-some (f-first n))) = f-rest m (f-some n)
front_last_alone {g} {q} (f-rest {a} m (f-some (f-rest {a = b} n f-none))) = subst (λ w. Begins _ (Seq g (Opt q)) (a ++ w)) (sym (append-nil b)) (f-rest m (f-some (whole n)))

front_with_nothing : {s t : Shape} {g : Grammar s} {q : Grammar t} {a : List Lexeme} → IsFront _ (Seq g (Opt q)) a → IsFront _ (Seq g (Opt (Seq q Empty))) a
front_with_nothing f-none = f-none
front_with_nothing (f-first m) = f-first m
front_with_nothing (f-rest m f-none) = f-rest m f-none
front_with_nothing (f-rest m (f-some n)) = f-rest m (f-some (f-first n))

list_written : {s : Shape} {c : Kind} {g : Grammar s} {a : List Lexeme} {x : Val (both (many s) (maybe nothing))} → Writes _ (Tail c g Empty) a x → (y : Val (both (many (both lexeme s)) (maybe lexeme))) × Writes _ (Listing c g) a y × (turns_of s x ≡ list_of s y)
list_written m = let i = tail_written m in let j = last_alone i.1 in ((i.0.0, j.0), j.1, ap (λ z. z.0) i.2)

written_is_list : {s : Shape} {c : Kind} {g : Grammar s} {a : List Lexeme} {y : Val (both (many (both lexeme s)) (maybe lexeme))} → Matches _ (Listing c g) a y → (x : Val (both (many s) (maybe nothing))) × Matches _ (Tail c g Empty) a x × (list_of s y ≡ turns_of s x)
written_is_list {s} {y} m = let j = last_with_nothing m in (tail_of s nothing (y.0, j.0), written_is_tail j.1, refl)

-- name ["::" name] | "crate" "::" name ["::" name]
abbrev Further : Grammar (both lexeme lexeme)
Further = Seq (Tok k.DoubleColon) (Tok k.Name)

further : {a : List Lexeme} → Begins _ (Nt Member) a → Begins _ Further a
further f-none = f-none
further (f-nt m) = m

route_written : {a : List Lexeme} {x : Val (shape Route)} → Writes _ (rule Route) a x → (y : Val (written_shape Route)) × Writes _ (written Route) a y × (made Route x ≡ written_made Route y)
route_written (m-left (m-seq (m-tok {t} e) m-none)) = (inl t, m-left (m-tok e), refl)
route_written (m-left (m-seq (m-tok {t} e) (m-some (m-nt (m-seq (m-tok {t = c} i) (m-tok {t = n} j)))))) = (inr (inl (t, (c, n))), m-right (m-left (m-seq (m-tok e) (m-seq (m-tok i) (m-tok j)))), refl)
route_written (m-right (m-seq (m-tok {t} e) (m-seq (m-nt (m-seq (m-tok {t = c} i) (m-tok {t = n} j))) m-none))) = (inr (inr (inl (t, (c, n)))), m-right (m-right (m-left (m-seq (m-tok e) (m-seq (m-tok i) (m-tok j))))), refl)
route_written (m-right (m-seq (m-tok {t} e) (m-seq (m-nt (m-seq (m-tok {t = c} i) (m-tok {t = n} j))) (m-some (m-nt (m-seq (m-tok {t = d} p) (m-tok {t = o} q))))))) =
    (inr (inr (inr (t, (c, (n, (d, o)))))), m-right (m-right (m-right (m-seq (m-tok e) (m-seq (m-tok i) (m-seq (m-tok j) (m-seq (m-tok p) (m-tok q))))))), refl)

written_is_route : {a : List Lexeme} {y : Val (written_shape Route)} → Matches _ (written Route) a y → (x : Val (shape Route)) × Matches _ (rule Route) a x × (written_made Route y ≡ made Route x)
written_is_route (m-left (m-tok {t} e)) = (inl (t, None), m-left (m-seq (m-tok e) m-none), refl)
written_is_route (m-right (m-left (m-seq (m-tok {t} e) (m-seq (m-tok {t = c} i) (m-tok {t = n} j))))) = (inl (t, Some n.text), m-left (m-seq (m-tok e) (m-some (m-nt {n = Member} {x = (c, n)} (m-seq (m-tok i) (m-tok j))))), refl)
written_is_route (m-right (m-right (m-left (m-seq (m-tok {t} e) (m-seq (m-tok {t = c} i) (m-tok {t = n} j)))))) = (inr (t, (n.text, None)), m-right (m-seq (m-tok e) (m-seq (m-nt {n = Member} {x = (c, n)} (m-seq (m-tok i) (m-tok j))) m-none)), refl)
written_is_route (m-right (m-right (m-right (m-seq (m-tok {t} e) (m-seq (m-tok {t = c} i) (m-seq (m-tok {t = n} j) (m-seq (m-tok {t = d} p) (m-tok {t = o} q)))))))) =
    (inr (t, (n.text, Some o.text)), m-right (m-seq (m-tok e) (m-seq (m-nt {n = Member} {x = (c, n)} (m-seq (m-tok i) (m-tok j))) (m-some (m-nt {n = Member} {x = (d, o)} (m-seq (m-tok p) (m-tok q)))))), refl)

front_route_written : {a : List Lexeme} → Begins _ (rule Route) a → Begins _ (written Route) a
front_route_written f-none = f-none
front_route_written (f-left f-none) = f-none
front_route_written (f-left (f-first m)) = f-left m
front_route_written (f-left (f-rest (m-tok e) f-none)) = f-left (f-tok e)
front_route_written (f-left (f-rest m (f-some n))) = f-right (f-left (f-rest m (further n)))
front_route_written (f-right f-none) = f-none
front_route_written (f-right (f-first m)) = f-right (f-right (f-left (f-first m)))
front_route_written (f-right (f-rest m f-none)) = f-right (f-right (f-left (f-rest m f-none)))
front_route_written (f-right (f-rest m (f-first n))) = f-right (f-right (f-left (f-rest m (further n))))
front_route_written (f-right (f-rest m (f-rest (m-nt (m-seq (m-tok i) (m-tok j))) f-none))) = f-right (f-right (f-left (f-rest m (f-rest (m-tok i) (f-tok j)))))
front_route_written (f-right (f-rest m (f-rest (m-nt (m-seq (m-tok i) (m-tok j))) (f-some n)))) = f-right (f-right (f-right (f-rest m (f-rest (m-tok i) (f-rest (m-tok j) (further n))))))

front_written_route : {a : List Lexeme} → IsFront _ (written Route) a → IsFront _ (rule Route) a
front_written_route f-none = f-none
front_written_route (f-left m) = f-left (f-first m)
front_written_route (f-right f-none) = f-none
front_written_route (f-right (f-left f-none)) = f-none
front_written_route (f-right (f-left (f-first m))) = f-left (f-first m)
front_written_route (f-right (f-left (f-rest m n))) = f-left (f-rest m (f-some (f-nt {n = Member} n)))
front_written_route (f-right (f-right f-none)) = f-none
front_written_route (f-right (f-right (f-left f-none))) = f-none
front_written_route (f-right (f-right (f-left (f-first m)))) = f-right (f-first m)
front_written_route (f-right (f-right (f-left (f-rest m n)))) = f-right (f-rest m (f-first (f-nt {n = Member} n)))
front_written_route (f-right (f-right (f-right f-none))) = f-none
front_written_route (f-right (f-right (f-right (f-first m)))) = f-right (f-first m)
front_written_route (f-right (f-right (f-right (f-rest m f-none)))) = f-right (f-rest m f-none)
front_written_route (f-right (f-right (f-right (f-rest m (f-first n))))) = f-right (f-rest m (f-first (f-nt {n = Member} (f-first n))))
front_written_route (f-right (f-right (f-right (f-rest m (f-rest n f-none))))) = f-right (f-rest m (f-first (f-nt {n = Member} (f-rest n f-none))))
front_written_route (f-right (f-right (f-right (f-rest m (f-rest n (f-first o)))))) = f-right (f-rest m (f-first (f-nt {n = Member} (f-rest n o))))
front_written_route (f-right (f-right (f-right (f-rest m (f-rest (m-tok {t = c} i) (f-rest (m-tok {t = n} j) o)))))) = f-right (f-rest m (f-rest (m-nt {n = Member} {x = (c, n)} (m-seq (m-tok i) (m-tok j))) (f-some (f-nt {n = Member} o))))

-- { stmt } [ expr ]
body_written : {a : List Lexeme} {x : Val (shape Body)} → Writes _ (rule Body) a x → Writes _ (written Body) a (made Body x)
body_written m-none = m-seq m-stop m-none
body_written (m-some (m-nt (m-left (m-seq {x = s} m (m-nt n))))) = more_turns (m-nt {n = Statement} {x = inl s} (m-left m)) n
body_written (m-some (m-nt (m-right (m-ahead (m-seq (m-tok {t} i) (m-seq (m-tok {t = v} j) (m-seq {a = e} {x} m (m-seq {b} (m-tok {t = w} l) (m-nt {x = y} n))))))))) =
    subst (λ z. Writes _ (written Body) (t ∷ v ∷ z) (before (stmt.Assign t.at t.text x) y)) (append_assoc e (w ∷ []) b)
    (more_turns (m-nt {n = Statement} {x = inr (inl (t, (v, (x, w))))} (m-right (m-left (m-seq (m-tok i) (m-seq (m-tok j) (m-seq m (m-tok l))))))) n)
body_written (m-some (m-nt (m-right (m-not_ahead (m-seq {a = e} {x} m m-none))))) = subst (λ z. Writes _ (written Body) z ([], Some x)) (sym (append-nil e)) (m-seq m-stop (m-some m))
body_written (m-some (m-nt (m-right (m-not_ahead (m-seq {a = e} {x} m (m-some (m-seq {b} (m-tok {t = w} l) (m-nt {x = y} n)))))))) =
    subst (λ z. Writes _ (written Body) z (before (stmt.Eval x) y)) (append_assoc e (w ∷ []) b)
    (more_turns (m-nt {n = Statement} {x = inr (inr (x, w))} (m-right (m-right (m-seq m (m-tok l))))) n)

rest_is_body : {a : List Lexeme} (x : Val (shape Rest)) → Matches _ (rule Rest) a x → Matches _ (Nt Body) a (made Rest x)
rest_is_body x m = m-nt {n = Body} {x = Some (made Rest x)} (m-some (m-nt {n = Rest} {x = x} m))

statement_first : {a b : List Lexeme} {s : Stmt} {y : List Stmt × Option Expr} → Matches _ (Nt Statement) a s → Matches _ (Nt Body) b y → Matches _ (Nt Body) (a ++ b) (before s y)
statement_first {y} (m-nt (m-left {x = s} m)) n = rest_is_body (inl (s, y)) (m-left (m-seq m n))
statement_first {b} {y} (m-nt (m-right (m-ahead (m-seq (m-tok {t} i) (m-seq (m-tok {t = v} j) (m-seq {a = e} {x} m (m-tok {t = w} l))))))) n =
    subst (λ z. Matches _ (Nt Body) (t ∷ v ∷ z) (before (stmt.Assign t.at t.text x) y)) (sym (append_assoc e (w ∷ []) b))
    (rest_is_body (inr (inl (t, (v, (x, (w, y)))))) (m-right (m-ahead (m-seq (m-tok i) (m-seq (m-tok j) (m-seq m (m-seq (m-tok l) n)))))))
statement_first {b} {y} (m-nt (m-right (m-not_ahead (m-seq {a = e} {x} m (m-tok {t = w} l))))) n =
    subst (λ z. Matches _ (Nt Body) z (before (stmt.Eval x) y)) (sym (append_assoc e (w ∷ []) b))
    (rest_is_body (inr (inr (x, Some (w, y)))) (m-right (m-not_ahead (m-seq m (m-some (m-seq (m-tok l) n))))))

last_is_body : {a : List Lexeme} {x : Option Expr} → Matches _ (Opt (Nt Expression)) a x → Matches _ (Nt Body) a ([], x)
last_is_body m-none = m-nt {n = Body} {x = None} m-none
last_is_body (m-some {a} {x} m) = subst (λ z. Matches _ (Nt Body) z ([], Some x)) (append-nil a) (rest_is_body (inr (inr (x, None))) (m-right (m-not_ahead (m-seq m m-none))))

statements_first : {a b : List Lexeme} {ss : List Stmt} {x : Option Expr} → Matches _ (Rep (Nt Statement)) a ss → Matches _ (Opt (Nt Expression)) b x → Matches _ (Nt Body) (a ++ b) (ss, x)
statements_first m-stop o = last_is_body o
statements_first {b} {x} (m-turn {a} {b = r} {x = s} {xs = ss} m n) o = subst (λ z. Matches _ (Nt Body) z (s ∷ ss, x)) (sym (append_assoc a r b)) (statement_first m (statements_first n o))

written_is_body : {a : List Lexeme} {y : List Stmt × Option Expr} → Matches _ (written Body) a y → Matches _ (Nt Body) a y
written_is_body (m-seq m n) = statements_first m n

opened_body : {a : List Lexeme} {y : List Stmt × Option Expr} → Matches _ (Nt Body) a y → (x : Val (shape Body)) × Matches _ (rule Body) a x × (y ≡ made Body x)
opened_body (m-nt {x} m) = (x, m, refl)

front_statement : {a : List Lexeme} → Begins _ (written Statement) a → Begins _ (written Body) a
front_statement m = f-first (f-turn (f-nt {n = Statement} m))

front_after : {a b : List Lexeme} {s : Stmt} → Writes _ (Nt Statement) a s → Begins _ (Nt Body) b → Begins _ (written Body) (a ++ b)
front_after m f-none = front_more_turns m f-none
front_after m (f-nt n) = front_more_turns m n

front_assignment : {a : List Lexeme} → Begins _ (Seq (Tok k.Name) (Seq (Tok k.Assign) (Seq (Nt Expression) (Seq (Tok k.Semicolon) (Nt Body))))) a → Begins _ (written Body) a
front_assignment f-none = f-none
front_assignment (f-first m) = front_statement (f-right (f-left (f-first m)))
front_assignment (f-rest m f-none) = front_statement (f-right (f-left (f-rest m f-none)))
front_assignment (f-rest m (f-first n)) = front_statement (f-right (f-left (f-rest m (f-first n))))
front_assignment (f-rest m (f-rest n f-none)) = front_statement (f-right (f-left (f-rest m (f-rest n f-none))))
front_assignment (f-rest m (f-rest n (f-first o))) = front_statement (f-right (f-left (f-rest m (f-rest n (f-first o)))))
front_assignment (f-rest m (f-rest n (f-rest o f-none))) = front_statement (f-right (f-left (f-rest m (f-rest n (f-rest o f-none)))))
front_assignment (f-rest m (f-rest n (f-rest o (f-first q)))) = front_statement (f-right (f-left (f-rest m (f-rest n (f-rest o q)))))
front_assignment (f-rest (m-tok {t} i) (f-rest (m-tok {t = v} j) (f-rest {a = e} {x} m (f-rest {b} (m-tok {t = w} l) n)))) =
    subst (λ z. Begins _ (written Body) (t ∷ v ∷ z)) (append_assoc e (w ∷ []) b)
    (front_after (m-nt {n = Statement} {x = inr (inl (t, (v, (x, w))))} (m-right (m-left (m-seq (m-tok i) (m-seq (m-tok j) (m-seq m (m-tok l))))))) n)

front_value : {a : List Lexeme} → Begins _ (Seq (Nt Expression) (Opt (Seq (Tok k.Semicolon) (Nt Body)))) a → Begins _ (written Body) a
front_value f-none = f-none
front_value (f-first m) = front_statement (f-right (f-right (f-first m)))
front_value (f-rest m f-none) = front_statement (f-right (f-right (f-rest m f-none)))
front_value (f-rest m (f-some f-none)) = front_statement (f-right (f-right (f-rest m f-none)))
front_value (f-rest m (f-some (f-first n))) = front_statement (f-right (f-right (f-rest m n)))
front_value (f-rest {a = e} {x} m (f-some (f-rest {b} (m-tok {t = w} l) n))) =
    subst (λ z. Begins _ (written Body) z) (append_assoc e (w ∷ []) b)
    (front_after (m-nt {n = Statement} {x = inr (inr (x, w))} (m-right (m-right (m-seq m (m-tok l))))) n)

front_rest_written : {a : List Lexeme} → Begins _ (rule Rest) a → Begins _ (written Body) a
front_rest_written f-none = f-none
front_rest_written (f-left f-none) = f-none
front_rest_written (f-left (f-first m)) = front_statement (f-left m)
front_rest_written (f-left (f-rest {x = s} m n)) = front_after (m-nt {n = Statement} {x = inl s} (m-left m)) n
front_rest_written (f-right f-none) = f-none
front_rest_written (f-right (f-ahead m)) = front_assignment m
front_rest_written (f-right (f-not_ahead m)) = front_value m

front_body_written : {a : List Lexeme} → Begins _ (rule Body) a → Begins _ (written Body) a
front_body_written f-none = f-none
front_body_written (f-some f-none) = f-none
front_body_written (f-some (f-nt m)) = front_rest_written m

front_rest : {a : List Lexeme} → IsFront _ (rule Rest) a → IsFront _ (Nt Body) a
front_rest m = f-nt {n = Body} (f-some (f-nt {n = Rest} m))

front_of_statement : {a : List Lexeme} → IsFront _ (Nt Statement) a → IsFront _ (Nt Body) a
front_of_statement f-none = f-none
front_of_statement (f-nt f-none) = f-none
front_of_statement (f-nt (f-left m)) = front_rest (f-left (f-first m))
front_of_statement (f-nt (f-right f-none)) = f-none
front_of_statement (f-nt (f-right (f-ahead f-none))) = f-none
front_of_statement (f-nt (f-right (f-ahead (f-first m)))) = front_rest (f-right (f-ahead (f-first m)))
front_of_statement (f-nt (f-right (f-ahead (f-rest m f-none)))) = front_rest (f-right (f-ahead (f-rest m f-none)))
front_of_statement (f-nt (f-right (f-ahead (f-rest m (f-first n))))) = front_rest (f-right (f-ahead (f-rest m (f-first n))))
front_of_statement (f-nt (f-right (f-ahead (f-rest m (f-rest n f-none))))) = front_rest (f-right (f-ahead (f-rest m (f-rest n f-none))))
front_of_statement (f-nt (f-right (f-ahead (f-rest m (f-rest n (f-first o)))))) = front_rest (f-right (f-ahead (f-rest m (f-rest n (f-first o)))))
front_of_statement (f-nt (f-right (f-ahead (f-rest m (f-rest n (f-rest o q)))))) = front_rest (f-right (f-ahead (f-rest m (f-rest n (f-rest o (f-first q))))))
front_of_statement (f-nt (f-right (f-not_ahead f-none))) = f-none
front_of_statement (f-nt (f-right (f-not_ahead (f-first m)))) = front_rest (f-right (f-not_ahead (f-first m)))
front_of_statement (f-nt (f-right (f-not_ahead (f-rest m n)))) = front_rest (f-right (f-not_ahead (f-rest m (f-some (f-first n)))))

front_after_statement : {a b : List Lexeme} {s : Stmt} → Matches _ (Nt Statement) a s → IsFront _ (Nt Body) b → IsFront _ (Nt Body) (a ++ b)
front_after_statement (m-nt (m-left m)) n = front_rest (f-left (f-rest m n))
front_after_statement {b} (m-nt (m-right (m-ahead (m-seq (m-tok {t} i) (m-seq (m-tok {t = v} j) (m-seq {a = e} m (m-tok {t = w} l))))))) n =
    subst (λ z. IsFront _ (Nt Body) (t ∷ v ∷ z)) (sym (append_assoc e (w ∷ []) b)) (front_rest (f-right (f-ahead (f-rest (m-tok i) (f-rest (m-tok j) (f-rest m (f-rest (m-tok l) n)))))))
front_after_statement {b} (m-nt (m-right (m-not_ahead (m-seq {a = e} m (m-tok {t = w} l))))) n =
    subst (λ z. IsFront _ (Nt Body) z) (sym (append_assoc e (w ∷ []) b)) (front_rest (f-right (f-not_ahead (f-rest m (f-some (f-rest (m-tok l) n))))))

front_of_statements : {a : List Lexeme} → IsFront _ (Rep (Nt Statement)) a → IsFront _ (Nt Body) a
front_of_statements f-none = f-none
front_of_statements (f-turn m) = front_of_statement m
front_of_statements (f-turns m n) = front_after_statement m (front_of_statements n)

front_of_last : {a : List Lexeme} → IsFront _ (Opt (Nt Expression)) a → IsFront _ (Nt Body) a
front_of_last f-none = f-none
front_of_last (f-some m) = front_rest (f-right (f-not_ahead (f-first m)))

front_after_statements : {a b : List Lexeme} {ss : List Stmt} → Matches _ (Rep (Nt Statement)) a ss → IsFront _ (Opt (Nt Expression)) b → IsFront _ (Nt Body) (a ++ b)
front_after_statements m-stop o = front_of_last o
front_after_statements {b} (m-turn {a} {b = r} m n) o = subst (λ z. IsFront _ (Nt Body) z) (sym (append_assoc a r b)) (front_after_statement m (front_after_statements n o))

front_written_body : {a : List Lexeme} → IsFront _ (written Body) a → IsFront _ (Nt Body) a
front_written_body f-none = f-none
front_written_body (f-first m) = front_of_statements m
front_written_body (f-rest m n) = front_after_statements m n

front_opened : {a : List Lexeme} → IsFront _ (Nt Body) a → IsFront _ (rule Body) a
front_opened f-none = f-none
front_opened (f-nt m) = m

-- what the rules of the one read the rules of the other read

abbrev Turns : Version → Version → Type 0
Turns v w = (n : Rule) (a : List Lexeme) (x : Val (shape_in v n)) → MatchesIn w _ (rule_in v n) a x → (y : Val (shape_in w n)) × MatchesIn w _ (rule_in w n) a y × (made_in v n x ≡ made_in w n y)

abbrev FrontTurns : Version → Version → Type 0
FrontTurns v w = (n : Rule) (a : List Lexeme) → IsFrontIn w _ (rule_in v n) a → IsFrontIn w _ (rule_in w n) a

to_written : Turns Factored AsWritten
to_written Part a x m = (joined (tree Contents) (tree Item) x, optional m, part_joined x)
to_written Definition a x m = (joined (tree Constant) (tree Function) x, optional m, definition_joined x)
to_written OtherParams a x m = list_written m
to_written Body a x m = (made Body x, body_written m, refl)
to_written Statement a x m = (x, statement_written m, refl)
to_written OtherArms a x m = tail_written m
to_written Route a x m = route_written m
to_written OtherArgs a x m = list_written m
to_written n a x m = (x, m, refl)

to_factored : Turns AsWritten Factored
to_factored Part a y m = (parted (tree Contents) (tree Item) y, factored m, part_parted y)
to_factored Definition a y m = (parted (tree Constant) (tree Function) y, factored m, definition_parted y)
to_factored OtherParams a y m = written_is_list m
to_factored Body a y m = opened_body (written_is_body m)
to_factored Statement a y m = (y, written_is_statement m, refl)
to_factored OtherArms a y m = (tail_of (tree Arm) (tree Block) y, written_is_tail m, refl)
to_factored Route a y m = written_is_route m
to_factored OtherArgs a y m = written_is_list m
to_factored n a y m = (y, m, refl)

front_to_written : FrontTurns Factored AsWritten
front_to_written Part a m = front_optional m
front_to_written Definition a m = front_optional m
front_to_written OtherParams a m = front_last_alone (front_tail_written m)
front_to_written Body a m = front_body_written m
front_to_written Statement a m = front_statement_written m
front_to_written OtherArms a m = front_tail_written m
front_to_written Route a m = front_route_written m
front_to_written OtherArgs a m = front_last_alone (front_tail_written m)
front_to_written n a m = m

front_to_factored : FrontTurns AsWritten Factored
front_to_factored Part a m = front_factored m
front_to_factored Definition a m = front_factored m
front_to_factored OtherParams a m = front_written_tail (front_with_nothing m)
front_to_factored Body a m = front_opened (front_written_body m)
front_to_factored Statement a m = front_written_statement m
front_to_factored OtherArms a m = front_written_tail m
front_to_factored Route a m = front_written_route m
front_to_factored OtherArgs a m = front_written_tail (front_with_nothing m)
front_to_factored n a m = m

-- so whole forms do

module _ (v w : Version) (turns : Turns v w) where
  turned : {s : Shape} {g : Grammar s} {a : List Lexeme} {x : Val s} → MatchesIn v s g a x → MatchesIn w s g a x
  turned (m-tok e) = m-tok e
  turned m-empty = m-empty
  turned (m-seq m n) = m-seq (turned m) (turned n)
  turned (m-left m) = m-left (turned m)
  turned (m-right m) = m-right (turned m)
  turned m-none = m-none
  turned (m-some m) = m-some (turned m)
  turned m-stop = m-stop
  turned (m-turn m n) = m-turn (turned m) (turned n)
  turned m-tail_stop = m-tail_stop
  turned (m-tail_last e m) = m-tail_last e (turned m)
  turned (m-tail_turn e m n) = m-tail_turn e (turned m) (turned n)
  turned (m-ahead m) = m-ahead (turned m)
  turned (m-not_ahead m) = m-not_ahead (turned m)
  turned (m-here m) = m-here (turned m)
  turned (m-nt {n} {a} {x} m) = let y = turns n a x (turned m) in subst (λ z. MatchesIn w _ (Nt n) a z) (sym y.2) (m-nt {n = n} {x = y.0} y.1)

  module _ (fronts : FrontTurns v w) where
    front_turned : {s : Shape} {g : Grammar s} {a : List Lexeme} → IsFrontIn v s g a → IsFrontIn w s g a
    front_turned f-none = f-none
    front_turned (f-tok e) = f-tok e
    front_turned (f-first m) = f-first (front_turned m)
    front_turned (f-rest m n) = f-rest (turned m) (front_turned n)
    front_turned (f-left m) = f-left (front_turned m)
    front_turned (f-right m) = f-right (front_turned m)
    front_turned (f-some m) = f-some (front_turned m)
    front_turned (f-turn m) = f-turn (front_turned m)
    front_turned (f-turns m n) = f-turns (turned m) (front_turned n)
    front_turned (f-tail_last e m) = f-tail_last e (front_turned m)
    front_turned (f-tail_turn e m) = f-tail_turn e (front_turned m)
    front_turned (f-tail_turns e m n) = f-tail_turns e (turned m) (front_turned n)
    front_turned (f-ahead m) = f-ahead (front_turned m)
    front_turned (f-not_ahead m) = f-not_ahead (front_turned m)
    front_turned (f-here m) = f-here (front_turned m)
    front_turned (f-nt {n} {a} m) = f-nt {n = n} (fronts n a (front_turned m))

in_factored : {s : Shape} {g : Grammar s} {a : List Lexeme} {x : Val s} → MatchesIn AsWritten s g a x → MatchesIn Factored s g a x
in_factored m = turned AsWritten Factored to_factored m

in_written : {s : Shape} {g : Grammar s} {a : List Lexeme} {x : Val s} → MatchesIn Factored s g a x → MatchesIn AsWritten s g a x
in_written m = turned Factored AsWritten to_written m

front_in_factored : {s : Shape} {g : Grammar s} {a : List Lexeme} → IsFrontIn AsWritten s g a → IsFrontIn Factored s g a
front_in_factored m = front_turned AsWritten Factored to_factored front_to_factored m

front_in_written : {s : Shape} {g : Grammar s} {a : List Lexeme} → IsFrontIn Factored s g a → IsFrontIn AsWritten s g a
front_in_written m = front_turned Factored AsWritten to_written front_to_written m

pub forms_agree : FormsAgree
forms_agree = record {
  trees = λ n tokens x. (in_factored, in_written);
  fronts = λ n tokens. (front_in_factored, front_in_written);
}

-- and so whole texts

-- what turning one grammar into the other says of texts
record TextsTurn (v w : Version) : Type 0 where
  fits : (a : List Lexeme) (x : List Section) → FitsCrateIn v a x → FitsCrateIn w a x
  fitted : (a : List Lexeme) (x : List Section) → FitsCrateIn w a x → FitsCrateIn v a x
  begins : (a : List Lexeme) → IsFrontIn v _ (Nt Text) a → IsFrontIn w _ (Nt Text) a
  begun : (a : List Lexeme) → IsFrontIn w _ (Nt Text) a → IsFrontIn v _ (Nt Text) a

module _ (v w : Version) (both_ways : TextsTurn v w) where
  tree_turned : (tokens : List Token) (c : Crate) → HasTreeIn v tokens c → HasTreeIn w tokens c
  tree_turned tokens c has = record {
    shallow = has.shallow;
    sections = has.sections;
    fit = both_ways.fits _ _ has.fit;
    only = λ others fit. has.only others (both_ways.fitted _ others fit);
    once = has.once;
    makes = has.makes;
  }

  fault_turned : (front rest : List Lexeme) → IsFaultIn v front rest → IsFaultIn w front rest
  fault_turned front (t ∷ rest) f = (both_ways.begins front f.0, λ more. f.1 (both_ways.begun (front ++ t ∷ []) more))
  fault_turned front [] f = (both_ways.begins front f.0, λ sections fit. f.1 sections (both_ways.fitted front sections fit))

  refusal_turned : (tokens : List Token) (end : At) (f : SyntaxFault) → IsSyntaxRefusalIn v tokens end f → IsSyntaxRefusalIn w tokens end f
  refusal_turned tokens end (fault.Nesting at) is = is
  refusal_turned tokens end (fault.Syntax at) is = record {
    shallow = is.shallow;
    before = is.before;
    rest = is.rest;
    parts = is.parts;
    fault = fault_turned is.before is.rest is.fault;
    place = is.place;
  }
  refusal_turned tokens end (fault.Twice at name) is = record {
    shallow = is.shallow;
    sections = is.sections;
    fit = both_ways.fits _ _ is.fit;
    only = λ others fit. is.only others (both_ways.fitted _ others fit);
    twice = is.twice;
  }
  refusal_turned tokens end fault.Memory is = tt

texts_factored : TextsTurn AsWritten Factored
texts_factored = record { fits = λ a x m. in_factored m; fitted = λ a x m. in_written m; begins = λ a m. front_in_factored m; begun = λ a m. front_in_written m }

texts_written : TextsTurn Factored AsWritten
texts_written = record { fits = λ a x m. in_written m; fitted = λ a x m. in_factored m; begins = λ a m. front_in_written m; begun = λ a m. front_in_factored m }

pub texts_agree : TextsAgree
texts_agree = record {
  trees = λ tokens c. (tree_turned AsWritten Factored texts_factored tokens c, tree_turned Factored AsWritten texts_written tokens c);
  faults = λ tokens end f. (refusal_turned AsWritten Factored texts_factored tokens end f, refusal_turned Factored AsWritten texts_written tokens end f);
}
