-- Typing an expression, one part on.
use Rattle.std.proofs.Common.{◌≡◌, ℕ, ◌+◌, ◌<◌, ◌≤◌, Bool, true, false, ◌&&◌, List, [], ◌∷◌, ◌++◌, length, get_or, drop, refl, sym, ap, ◌∙◌, append_assoc, add-one, length-append, arith}
use Rattle.std.specs.Prelude.{Option}
use Rattle.std.proofs.lemmas.List.{append-nil, drop-drop}
use Rattle.rs_tree.specs.declared.answers.Diag.{Diag}
use Rattle.rs_tree.specs.declared.answers.Found.{Found}
use Rattle.rs_tree.specs.declared.answers.Found.TheVariants.{Absent}
use Rattle.rs_tree.specs.declared.index.Sig.{Sig}
use Rattle.rs_tree.specs.declared.tree.Path as path
use Rattle.rs_tree.specs.declared.tree.Expr.{Expr}
use Rattle.rs_tree.specs.declared.tree.Typ.{Typ}
use Rattle.rs_tree.specs.declared.tree.Typ.TheVariants as t
use Rattle.rs_tree.specs.declared.tree.ArithOp.{ArithOp}
use Rattle.rs_tree.specs.declared.tree.CmpOp.{CmpOp}
use Rattle.rs_tree.specs.declared.tree.UnaryOp.{UnaryOp}
use Rattle.rs_tree.specs.Plain.{at_of, Exp, Exps, Operands, Path, Call, Unary, Arith, Compare, By, exp, expressions, operations}
use Rattle.rs_tree.specs.Equations.{turns, known_forms, at_is, expressions_at, operations_at}
use Rattle.rs_tree.specs.Leaves.{answer, filled, filled_all, filled_by, leaves, leaves_all, leaves_by}
use Rattle.rs_tree.specs.Weight.{measures, size, sizes, sizes_by}
use Rattle.rs_lookup.specs.Env.{Env}
use Rattle.rs_types.specs.Answered.{at_filled}
use Rattle.rs_types.specs.declared.typer.Typer.{Typer}
use Rattle.rs_types.specs.Types.{Leaf, all_ints, all_truths, args_fit, args_wrongs, call_wrongs, called, count, is_typ, first_fits, need, need_first, need_same, need_value, operand, path_reads, path_wrongs, reads, wants, wrongs, wrongs_by, wrongs_of_truths}
use Rattle.rs_types.specs.State.{argued, at_any, chained, conjoined, context, fill, grown, looked, said, typed, with_reads}

-- ---- Plain facts.

count_filled : (bs : List Found) (es : Exps path.Path) → count (filled_all Absent bs es) ≡ count es
count_filled bs Exps.Empty = refl
count_filled bs (Exps.Of e more) = ap (λ n. n + 1) (count_filled (drop (length (leaves e)) bs) more)

count_is : (es : List Expr) → count (expressions es) ≡ length es
count_is [] = refl
count_is (e ∷ more) = ap (λ n. n + 1) (count_is more) ∙ add-one _

pub count_answered : (bs : List Found) (es : List Expr) → count (filled_all Absent bs (expressions es)) ≡ length es
count_answered bs es = count_filled bs (expressions es) ∙ count_is es

reads_append : (scope : Env) (ps qs : List Leaf) → reads scope (ps ++ qs) ≡ reads scope ps ++ reads scope qs
reads_append scope [] qs = refl
reads_append scope (p ∷ ps) qs = ap (λ x. path_reads scope p.0 p.1 ++ x) (reads_append scope ps qs) ∙ sym (append_assoc (path_reads scope p.0 p.1) (reads scope ps) (reads scope qs))

-- ---- The state, part by part.

-- two parts, one after the other
joined : (n m k : ℕ) (d1 d2 d : List Diag) (r1 r2 r : List ℕ) (s : Typer) → k ≡ n + m → d ≡ d1 ++ d2 → r ≡ r1 ++ r2 → grown k d r s ≡ grown m d2 r2 (grown n d1 r1 s)
joined n m k d1 d2 d r1 r2 r s ek ed er = λ i. record s {
  answers = (ap (λ j. drop j s.answers) ek ∙ sym (drop-drop m n s.answers)) i;
  diags = (ap (λ x. s.diags ++ x) ed ∙ sym (append_assoc s.diags d1 d2)) i;
  reads = (ap (λ x. s.reads ++ x) er ∙ sym (append_assoc s.reads r1 r2)) i;
}

-- and what is said after a part
told : (n : ℕ) (d1 d2 : List Diag) (r : List ℕ) (s : Typer) → grown n (d1 ++ d2) r s ≡ said d2 (grown n d1 r s)
told n d1 d2 r s = λ i. record s { answers = drop n s.answers; diags = sym (append_assoc s.diags d1 d2) i; reads = s.reads ++ r }

said_twice : (d1 d2 : List Diag) (s : Typer) → said (d1 ++ d2) s ≡ said d2 (said d1 s)
said_twice d1 d2 s = λ i. record s { diags = sym (append_assoc s.diags d1 d2) i }

pub argued_more : (ps : List Typ) (e : Exp path.Path) (more : Exps path.Path) (s : Typer)
    → argued ps (Exps.Of e more) s ≡ argued (drop 1 ps) more (said (need_first (at_of e) ps (typed e s)) (looked e s))
argued_more ps e more s =
    let f = fill s e in
    let rest = filled_all Absent (drop (length (leaves e)) s.answers) more in
    joined (length (leaves e)) (length (leaves_all more)) _ (wrongs (context s) f ++ need_first (at_of f) ps (typed e s)) (args_wrongs (context s) (drop 1 ps) rest) _
    (reads s.scope (leaves f)) (reads s.scope (leaves_all rest)) _ s (length-append (leaves e) (leaves_all more)) refl (reads_append s.scope (leaves f) (leaves_all rest))
    ∙ ap (argued (drop 1 ps) more)
    (told (length (leaves e)) (wrongs (context s) f) (need_first (at_of f) ps (typed e s)) (reads s.scope (leaves f)) s
    ∙ ap (λ at. said (need_first at ps (typed e s)) (looked e s)) (at_filled s.answers e))

pub conjoined_more : (e : Exp path.Path) (more : Exps path.Path) (s : Typer) → conjoined (Exps.Of e more) s ≡ conjoined more (said (need (at_of e) t.Bool (typed e s)) (looked e s))
conjoined_more e more s =
    let f = fill s e in
    let rest = filled_all Absent (drop (length (leaves e)) s.answers) more in
    joined (length (leaves e)) (length (leaves_all more)) _ (wrongs (context s) f ++ need (at_of f) t.Bool (typed e s)) (wrongs_of_truths (context s) rest) _
    (reads s.scope (leaves f)) (reads s.scope (leaves_all rest)) _ s (length-append (leaves e) (leaves_all more)) refl (reads_append s.scope (leaves f) (leaves_all rest))
    ∙ ap (conjoined more)
    (told (length (leaves e)) (wrongs (context s) f) (need (at_of f) t.Bool (typed e s)) (reads s.scope (leaves f)) s
    ∙ ap (λ at. said (need at t.Bool (typed e s)) (looked e s)) (at_filled s.answers e))

chain_from : (e : Exp path.Path) (more : Operands path.Path) (s : Typer)
    → grown (length (leaves e ++ leaves_by more)) ((wrongs (context s) (fill s e) ++ need (at_of (fill s e)) t.Int (typed e s)) ++ wrongs_by (context s) (filled_by Absent (drop (length (leaves e)) s.answers) more))
    (reads s.scope (leaves (fill s e) ++ leaves_by (filled_by Absent (drop (length (leaves e)) s.answers) more))) s
    ≡ chained more (said (need (at_of e) t.Int (typed e s)) (looked e s))
chain_from e more s =
    let f = fill s e in
    let rest = filled_by Absent (drop (length (leaves e)) s.answers) more in
    joined (length (leaves e)) (length (leaves_by more)) _ (wrongs (context s) f ++ need (at_of f) t.Int (typed e s)) (wrongs_by (context s) rest) _
    (reads s.scope (leaves f)) (reads s.scope (leaves_by rest)) _ s (length-append (leaves e) (leaves_by more)) refl (reads_append s.scope (leaves f) (leaves_by rest))
    ∙ ap (chained more)
    (told (length (leaves e)) (wrongs (context s) f) (need (at_of f) t.Int (typed e s)) (reads s.scope (leaves f)) s
    ∙ ap (λ at. said (need at t.Int (typed e s)) (looked e s)) (at_filled s.answers e))

pub chained_more : (op : ArithOp) (e : Exp path.Path) (more : Operands path.Path) (s : Typer) → chained (By op e more) s ≡ chained more (said (need (at_of e) t.Int (typed e s)) (looked e s))
chained_more op e more s = chain_from e more s

pub looked_arith : (e : Exp path.Path) (more : Operands path.Path) (s : Typer) → looked (Arith at_any e more) s ≡ chained more (said (need (at_of e) t.Int (typed e s)) (looked e s))
looked_arith e more s = chain_from e more s

pub looked_unary : (op : UnaryOp) (e : Exp path.Path) (s : Typer) → looked (Unary at_any op e) s ≡ said (need (at_of e) (operand op) (typed e s)) (looked e s)
looked_unary op e s =
    let f = fill s e in
    told (length (leaves e)) (wrongs (context s) f) (need (at_of f) (operand op) (typed e s)) (reads s.scope (leaves f)) s
    ∙ ap (λ at. said (need at (operand op) (typed e s)) (looked e s)) (at_filled s.answers e)

pub looked_compare : (op : CmpOp) (a b : Exp path.Path) (s : Typer)
    → looked (Compare at_any op a b) s
    ≡ said (need_same (at_of b) (typed a s) (typed b (looked a s))) (said (need_value (at_of a) (typed a s)) (looked b (looked a s)))
looked_compare op a b s =
    let fa = fill s a in
    let fb = filled Absent (drop (length (leaves a)) s.answers) b in
    let c = context s in
    let n = length (leaves a) in
    let m = length (leaves b) in
    let v = need_value (at_of fa) (typed a s) in
    let w = need_same (at_of fb) (typed a s) (typed b (looked a s)) in
    told _ (wrongs c fa ++ wrongs c fb) (v ++ w) _ s
    ∙ ap (said (v ++ w))
    (joined n m _ (wrongs c fa) (wrongs c fb) _ (reads s.scope (leaves fa)) (reads s.scope (leaves fb)) _ s (length-append (leaves a) (leaves b)) refl (reads_append s.scope (leaves fa) (leaves fb)))
    ∙ said_twice v w (looked b (looked a s))
    ∙ (λ i. said (need_same (at_filled (drop n s.answers) b i) (typed a s) (typed b (looked a s))) (said (need_value (at_filled s.answers a i) (typed a s)) (looked b (looked a s))))

abbrev pub without_one : Typer → Typer
without_one s = record s { answers = drop 1 s.answers }

pub looked_path : (p : path.Path) (s : Typer)
    → looked (Path at_any p) s ≡ said (path_wrongs (context s) p (answer Absent s.answers)) (with_reads (path_reads s.scope p (answer Absent s.answers)) (without_one s))
looked_path p s = λ i. record s {
  answers = drop 1 s.answers;
  diags = s.diags ++ path_wrongs (context s) p (answer Absent s.answers);
  reads = s.reads ++ append-nil (path_reads s.scope p (answer Absent s.answers)) i;
}

pub looked_call : (p : path.Path) (es : Exps path.Path) (s : Typer) (n : ℕ) → count (filled_all Absent (drop 1 s.answers) es) ≡ n
    → looked (Call at_any p es) s
    ≡ argued (wants (called (context s) (answer Absent s.answers) n)) es
    (said (call_wrongs (context s) p (answer Absent s.answers) n) (with_reads (path_reads s.scope p (answer Absent s.answers)) (without_one s)))
looked_call p es s n is =
    let found = answer Absent s.answers in
    let c = context s in
    let rest = filled_all Absent (drop 1 s.answers) es in
    (λ i. grown (length (leaves (Call at_any p es))) (call_wrongs c p found (is i) ++ args_wrongs c (wants (called c found (is i))) rest) (path_reads s.scope p found ++ reads s.scope (leaves_all rest)) s)
    ∙ joined 1 (length (leaves_all es)) _ (call_wrongs c p found n) (args_wrongs c (wants (called c found n)) rest) _ (path_reads s.scope p found) (reads s.scope (leaves_all rest)) _ s one_more refl refl
  where
    one_more : length (leaves (Call at_any p es)) ≡ 1 + length (leaves_all es)
    one_more = omega arith

-- ---- Loops, one turn on.

and_more : (a b c : Bool) → ((a && b) && c) ≡ (a && (b && c))
and_more true b c = refl
and_more false b c = refl

-- what an argument makes of the typer
abbrev after_argument : List Typ → Expr → Typer → Typer
after_argument ps e s = said (need_first e.at ps (typed (exp e) s)) (looked (exp e) s)

pub args_next : (ps ps2 : List Typ) (es : List Expr) (i : ℕ) (e : Expr) (s s2 x : Typer) → i < length es → e ≡ get_or es i e → ps2 ≡ drop 1 ps → s2 ≡ after_argument ps e s
    → argued ps (expressions (drop i es)) s ≡ x → argued ps2 (expressions (drop (i + 1) es)) s2 ≡ x
args_next ps ps2 es i e s s2 x h is ep en inv =
    let rest = expressions (drop (i + 1) es) in
    (λ j. argued (ep j) rest (en j))
    ∙ sym (argued_more ps (exp e) rest s ∙ ap (λ at. argued (drop 1 ps) rest (said (need_first at ps (typed (exp e) s)) (looked (exp e) s))) (at_is e))
    ∙ ap (λ x. argued ps x s) (sym (expressions_at es i e h is)) ∙ inv

pub args_fit_next : (fit fits fit2 x : Bool) (ps ps2 : List Typ) (es : List Expr) (i : ℕ) (e : Expr) (s s2 : Typer) → i < length es → e ≡ get_or es i e → ps2 ≡ drop 1 ps → s2 ≡ after_argument ps e s
    → fits ≡ first_fits ps (typed (exp e) s) → fit2 ≡ (fit && fits)
    → (fit && args_fit (context s) ps (filled_all Absent s.answers (expressions (drop i es)))) ≡ x
    → (fit2 && args_fit (context s2) ps2 (filled_all Absent s2.answers (expressions (drop (i + 1) es)))) ≡ x
args_fit_next fit fits fit2 x ps ps2 es i e s s2 h is ep en ef e2 inv =
    let rest = expressions (drop (i + 1) es) in
    let after = filled_all Absent (drop (length (leaves (exp e))) s.answers) rest in
    (λ j. e2 j && args_fit (context (en j)) (ep j) (filled_all Absent (en j).answers rest))
    ∙ ap (λ b. (fit && b) && args_fit (context s) (drop 1 ps) after) ef
    ∙ and_more fit (first_fits ps (typed (exp e) s)) (args_fit (context s) (drop 1 ps) after)
    ∙ ap (λ x. fit && args_fit (context s) ps (filled_all Absent s.answers x)) (sym (expressions_at es i e h is)) ∙ inv

pub lighter : (es : List Expr) (i : ℕ) (e : Expr) (n : ℕ) → i < length es → e ≡ get_or es i e → sizes (expressions (drop i es)) ≤ n → sizes (expressions (drop (i + 1) es)) ≤ n
lighter es i e n h is inv =
    let one : sizes (expressions (drop i es)) ≡ size (exp e) + sizes (expressions (drop (i + 1) es)) = ap sizes (expressions_at es i e h is) in
    omega (arith, one, inv)

-- what an operand makes of the typer, which must have this type
abbrev after_operand : Typ → Expr → Typer → Typer
after_operand want e s = said (need e.at want (typed (exp e) s)) (looked (exp e) s)

pub truths_next : (es : List Expr) (i : ℕ) (e : Expr) (s s2 x : Typer) → i < length es → e ≡ get_or es i e → s2 ≡ after_operand t.Bool e s
    → conjoined (expressions (drop i es)) s ≡ x → conjoined (expressions (drop (i + 1) es)) s2 ≡ x
truths_next es i e s s2 x h is en inv =
    let rest = expressions (drop (i + 1) es) in
    ap (conjoined rest) en
    ∙ sym (conjoined_more (exp e) rest s ∙ ap (λ at. conjoined rest (said (need at t.Bool (typed (exp e) s)) (looked (exp e) s))) (at_is e))
    ∙ ap (λ x. conjoined x s) (sym (expressions_at es i e h is)) ∙ inv

pub all_truths_next : (all fits all2 x : Bool) (es : List Expr) (i : ℕ) (e : Expr) (s s2 : Typer) → i < length es → e ≡ get_or es i e → s2 ≡ after_operand t.Bool e s
    → fits ≡ is_typ t.Bool (typed (exp e) s) → all2 ≡ (all && fits)
    → (all && all_truths (context s) (filled_all Absent s.answers (expressions (drop i es)))) ≡ x
    → (all2 && all_truths (context s2) (filled_all Absent s2.answers (expressions (drop (i + 1) es)))) ≡ x
all_truths_next all fits all2 x es i e s s2 h is en ef e2 inv =
    let rest = expressions (drop (i + 1) es) in
    let after = filled_all Absent (drop (length (leaves (exp e))) s.answers) rest in
    (λ j. e2 j && all_truths (context (en j)) (filled_all Absent (en j).answers rest))
    ∙ ap (λ b. (all && b) && all_truths (context s) after) ef
    ∙ and_more all (is_typ t.Bool (typed (exp e) s)) (all_truths (context s) after)
    ∙ ap (λ x. all && all_truths (context s) (filled_all Absent s.answers x)) (sym (expressions_at es i e h is)) ∙ inv

pub operands_next : (os : List (ArithOp × Expr)) (i : ℕ) (o : ArithOp × Expr) (s s2 x : Typer) → i < length os → o ≡ get_or os i o → s2 ≡ after_operand t.Int o.1 s
    → chained (operations (drop i os)) s ≡ x → chained (operations (drop (i + 1) os)) s2 ≡ x
operands_next os i o s s2 x h is en inv =
    let rest = operations (drop (i + 1) os) in
    ap (chained rest) en
    ∙ sym (chained_more o.0 (exp o.1) rest s ∙ ap (λ at. chained rest (said (need at t.Int (typed (exp o.1) s)) (looked (exp o.1) s))) (at_is o.1))
    ∙ ap (λ x. chained x s) (sym (operations_at os i o h is)) ∙ inv

pub all_ints_next : (all fits all2 x : Bool) (os : List (ArithOp × Expr)) (i : ℕ) (o : ArithOp × Expr) (s s2 : Typer) → i < length os → o ≡ get_or os i o → s2 ≡ after_operand t.Int o.1 s
    → fits ≡ is_typ t.Int (typed (exp o.1) s) → all2 ≡ (all && fits)
    → (all && all_ints (context s) (filled_by Absent s.answers (operations (drop i os)))) ≡ x
    → (all2 && all_ints (context s2) (filled_by Absent s2.answers (operations (drop (i + 1) os)))) ≡ x
all_ints_next all fits all2 x os i o s s2 h is en ef e2 inv =
    let rest = operations (drop (i + 1) os) in
    let after = filled_by Absent (drop (length (leaves (exp o.1))) s.answers) rest in
    (λ j. e2 j && all_ints (context (en j)) (filled_by Absent (en j).answers rest))
    ∙ ap (λ b. (all && b) && all_ints (context s) after) ef
    ∙ and_more all (is_typ t.Int (typed (exp o.1) s)) (all_ints (context s) after)
    ∙ ap (λ x. all && all_ints (context s) (filled_by Absent s.answers x)) (sym (operations_at os i o h is)) ∙ inv

pub lighter_by : (os : List (ArithOp × Expr)) (i : ℕ) (o : ArithOp × Expr) (n : ℕ) → i < length os → o ≡ get_or os i o → sizes_by (operations (drop i os)) ≤ n → sizes_by (operations (drop (i + 1) os)) ≤ n
lighter_by os i o n h is inv =
    let one : sizes_by (operations (drop i os)) ≡ size (exp o.1) + sizes_by (operations (drop (i + 1) os)) = ap sizes_by (operations_at os i o h is) in
    omega (arith, one, inv)

-- ---- A call and a comparison, whole.

pub call_end : (p : path.Path) (es : List Expr) (found : Found) (rest : List Found) (sig : Option Sig) (ws : List Typ) (s s2 s3 s4 : Typer)
    → rest ≡ drop 1 s.answers → found ≡ answer Absent s.answers → s2 ≡ with_reads (path_reads s.scope p found) (record s { answers = rest })
    → sig ≡ called (context s2) found (length es) → s3 ≡ said (call_wrongs (context s2) p found (length es)) s2 → ws ≡ wants sig
    → s4 ≡ argued ws (expressions es) s3 → s4 ≡ looked (Call at_any p (expressions es)) s
call_end p es found rest sig ws s s2 s3 s4 er ef e2 es' e3 ew e4 =
    rw (e4, ew, e3, es', e2, ef, er) (sym (looked_call p (expressions es) s (length es) (count_answered (drop 1 s.answers) es)))

compare_at : (op : CmpOp) (a b : Expr) (s : Typer)
    → looked (Compare at_any op (exp a) (exp b)) s
    ≡ said (need_same b.at (typed (exp a) s) (typed (exp b) (looked (exp a) s))) (said (need_value a.at (typed (exp a) s)) (looked (exp b) (looked (exp a) s)))
compare_at op a b s =
    looked_compare op (exp a) (exp b) s
    ∙ (λ i. said (need_same (at_is b i) (typed (exp a) s) (typed (exp b) (looked (exp a) s))) (said (need_value (at_is a i) (typed (exp a) s)) (looked (exp b) (looked (exp a) s))))

pub compare_end : (op : CmpOp) (a b : Expr) (l r : Option Typ) (s s1 s2 s3 s4 : Typer)
    → s1 ≡ looked (exp a) s → l ≡ typed (exp a) s → s2 ≡ looked (exp b) s1 → r ≡ typed (exp b) s1
    → s3 ≡ said (need_value a.at l) s2 → s4 ≡ said (need_same b.at l r) s3 → s4 ≡ looked (Compare at_any op (exp a) (exp b)) s
compare_end op a b l r s s1 s2 s3 s4 e1 el e2 er e3 e4 = rw (e4, e3, er, e2, el, e1) (sym (compare_at op a b s))

pub ruleset forms = (turns, known_forms, measures, at_is, count_answered, looked_path, looked_unary, looked_arith, looked_compare)
