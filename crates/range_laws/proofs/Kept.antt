-- What each token of a text keeps, the trees that are made of it keep.
use Rattle.std.proofs.Common.{◌≡◌, ◌+◌, ◌≤◌, inl, inr, List, [], ◌∷◌, ◌++◌, Option, Some, None, sym, subst, true, false, is_some, pos}
use Rattle.std.specs.Prelude.{◌-◌, ◌==◌, Bool, FitsSigned, if◌then◌else◌}
use Rattle.std.specs.Int.{w64}
use Rattle.std.specs.List.{AllByRecursion}
use Rattle.std.proofs.Common.{arith}
use Rattle.rs_tree.specs.Plain.{Exp, exp, expressions, operations, optional, statements, choices, definition, sta, at_of}
use Rattle.rs_tree.specs.Plain as plain
use Rattle.rs_tree.specs.Equations.{exp_number, exp_truth, exp_path, exp_call, exp_group, exp_unary, exp_arith, exp_compare, exp_and, exp_or, sta_let, sta_assign, sta_return, sta_eval, sta_print, sta_while, sta_if, at_is}
use Rattle.rs_tree.specs.declared.kind.Kind.{Kind}
use Rattle.rs_tree.specs.declared.kind.Kind.TheVariants as k
use Rattle.rs_tree.specs.declared.place.At.{At}
use Rattle.rs_tree.specs.declared.tree.ArithOp.{ArithOp}
use Rattle.rs_tree.specs.declared.tree.Expr.{Expr}
use Rattle.rs_tree.specs.declared.tree.Item as item
use Rattle.rs_tree.specs.declared.tree.Path as path
use Rattle.rs_tree.specs.declared.tree.Stmt.{Stmt}
use Rattle.rs_tree.specs.declared.tree.Stmt.TheVariants as stmt
use Rattle.rs_tree.specs.Kinds.{same_kind}
use Rattle.rs_tree.specs.Words.{value_of}
use Rattle.rs_grammar.specs.declared.sited.Sited.{Sited}
use Rattle.rs_grammar.specs.Lexeme.{Lexeme, name_place, relative, seen, start_of}
use Rattle.rs_grammar.specs.Grammar.{Rule, Text, Part, Contents, Item, Definition, Constant, Function, Marker, Parameters, Params, OtherParams, Param, TypeName, Gives, Braced, Body, Rest, Worded, Statement, Binding, Typing, Returning, Loop, Choice, Arm, OtherArms, Printing, Block, Expression, OrNext, Conjunction, AndNext, Comparison, Compared, CmpSign, Sum, SumNext, SumSign, Product, ProductNext, ProductSign, Unary, UnarySign, Primary, Literal, Use, Route, Member, Arguments, Args, OtherArgs, Group, Section, Module, Alone, Tree, Shape, Val, shape, one, two, Grammar, Tok, Empty, Seq, Alt, Opt, Rep, Tail, Ahead, Here, Nt, rule, made, or_of, and_of, arith_of, else_none, else_nothing, Matches, m-tok, m-empty, m-seq, m-left, m-right, m-none, m-some, m-stop, m-turn, m-tail_stop, m-tail_last, m-tail_turn, m-ahead, m-not_ahead, m-here, m-nt}
use Rattle.range_laws.specs.Bounded.{most, IsShort, IsNear, BoundedPath, BoundedExp, BoundedAll, BoundedBy, BoundedIn, BoundedSta, BoundedStas, BoundedArms, BoundedParam, BoundedDefinition}

-- a token's place is near, its text short, and a number's value in the range
pub record IsFine (t : Lexeme) : Type 0 where
  pub at : IsNear t.at
  pub text : IsShort t.text
  pub number : t.kind ≡ k.Number → FitsSigned w64 (pos (value_of t.text))

abbrev pub AllFine : List Lexeme → Type 0
AllFine = AllByRecursion IsFine

abbrev OnOption : {X : Type 0} → (X → Type 0) → Option X → Type 0
OnOption P None = Unit {0}
OnOption P (Some x) = P x

abbrev EachExp : List Expr → Type 0
EachExp = AllByRecursion (λ e. BoundedExp (exp e))

pub record KeptItem (i : item.Item) : Type 0 where
  pub name : IsShort i.name
  pub at : IsNear i.at
  pub inside : BoundedDefinition (definition i.body)

pub record KeptSited (s : Sited) : Type 0 where
  pub at : IsNear s.at
  pub start : IsNear s.placed.start
  pub item : KeptItem s.placed.item

abbrev pub KeptSection : Section → Type 0
KeptSection (Module at name items) = (IsNear at × IsShort name) × AllByRecursion KeptSited items
KeptSection (Alone s) = KeptSited s

abbrev KeptInner : List Stmt × Option Expr → Type 0
KeptInner p = BoundedStas (statements p.0) × BoundedIn (optional p.1)

abbrev KeptArm : Expr × List Stmt → Type 0
KeptArm a = BoundedExp (exp a.0) × BoundedStas (statements a.1)

-- what a form's tree keeps
abbrev Kept : (n : Rule) → Tree n → Type 0
Kept Text x = AllByRecursion KeptSection x
Kept Part x = KeptSection x
Kept Contents x = KeptSection x
Kept Item x = KeptSited x
Kept Definition x = KeptItem x
Kept Constant x = KeptItem x
Kept Function x = KeptItem x
Kept Marker x = Unit {0}
Kept Parameters x = AllByRecursion BoundedParam x
Kept Params x = AllByRecursion BoundedParam x
Kept OtherParams x = AllByRecursion BoundedParam x
Kept Param x = BoundedParam x
Kept TypeName x = Unit {0}
Kept Gives x = Unit {0}
Kept Braced x = KeptInner x
Kept Body x = KeptInner x
Kept Rest x = KeptInner x
Kept Worded x = BoundedSta (sta x)
Kept Statement x = BoundedSta (sta x)
Kept Binding x = BoundedSta (sta x)
Kept Typing x = Unit {0}
Kept Returning x = BoundedSta (sta x)
Kept Loop x = BoundedSta (sta x)
Kept Choice x = BoundedSta (sta x)
Kept Arm x = KeptArm x
Kept OtherArms x = AllByRecursion KeptArm x.0 × OnOption (λ b. BoundedStas (statements b)) x.1
Kept Printing x = BoundedSta (sta x)
Kept Block x = BoundedStas (statements x)
Kept CmpSign x = Unit {0}
Kept SumSign x = Unit {0}
Kept ProductSign x = Unit {0}
Kept UnarySign x = IsNear x.0
Kept Compared x = BoundedExp (exp x.1)
Kept SumNext x = BoundedExp (exp x.1)
Kept ProductNext x = BoundedExp (exp x.1)
Kept Route x = BoundedPath x
Kept Member x = IsShort x
Kept Arguments x = EachExp x
Kept Args x = EachExp x
Kept OtherArgs x = EachExp x
Kept _ x = BoundedExp (exp x)

-- a token of this kind
abbrev IsTok : Kind → Lexeme → Type 0
IsTok c t = (t.kind ≡ c) × IsFine t

-- the same of a form's value, whose tokens are of their kinds
abbrev Good : {s : Shape} → Grammar s → Val s → Type 0
Good (Tok c) t = IsTok c t
Good Empty x = Unit {0}
Good (Seq g h) x = Good g x.0 × Good h x.1
Good (Alt g h) (inl x) = Good g x
Good (Alt g h) (inr y) = Good h y
Good (Opt g) None = Unit {0}
Good (Opt g) (Some x) = Good g x
Good (Rep g) xs = AllByRecursion (Good g) xs
Good (Tail c g h) x = AllByRecursion (Good g) x.0 × OnOption (Good h) x.1
Good (Ahead p g h) (inl x) = IsTok (one p) x.0 × (IsTok (two p) x.1.0 × Good g x.1.1)
Good (Ahead p g h) (inr y) = Good h y
Good (Here g) x = AllFine x.0 × Good g x.1
Good (Nt n) x = Kept n x

exps_kept : (es : List Expr) → EachExp es → BoundedAll (expressions es)
exps_kept [] h = tt
exps_kept (e ∷ es) h = (h.0, exps_kept es h.1)

operands_kept : (os : List (ArithOp × Expr)) → AllByRecursion (λ o. BoundedExp (exp o.1)) os → BoundedBy (operations os)
operands_kept [] h = tt
operands_kept (o ∷ os) h = (h.0, operands_kept os h.1)

stas_kept : (ss : List Stmt) → AllByRecursion (λ s. BoundedSta (sta s)) ss → BoundedStas (statements ss)
stas_kept [] h = tt
stas_kept (s ∷ ss) h = (h.0, stas_kept ss h.1)

arms_kept : (cs : List (Expr × List Stmt)) (other : Option (List Stmt)) → AllByRecursion KeptArm cs → OnOption (λ b. BoundedStas (statements b)) other → BoundedArms (choices cs other)
arms_kept [] None h o = tt
arms_kept [] (Some b) h o = o
arms_kept (c ∷ cs) other h o = (h.0.0, h.0.1, arms_kept cs other h.1 o)

near_plain : (e : Exp path.Path) → BoundedExp e → IsNear (at_of e)
near_plain (plain.Number at n) b = b.0
near_plain (plain.Truth at t) b = b
near_plain (plain.Path at p) b = b.0
near_plain (plain.Call at p args) b = b.0
near_plain (plain.Group at e) b = b.0
near_plain (plain.Unary at op e) b = b.0
near_plain (plain.Arith at first more) b = b.0
near_plain (plain.Compare at op x y) b = b.0
near_plain (plain.And at parts) b = b.0
near_plain (plain.Or at parts) b = b.0

near_exp : (e : Expr) → BoundedExp (exp e) → IsNear e.at
near_exp e b = subst IsNear (at_is e) (near_plain (exp e) b)

or_kept : (first : Expr) (more : List Expr) → BoundedExp (exp first) → EachExp more → BoundedExp (exp (or_of first more))
or_kept first [] p q = p
or_kept first (e ∷ more) p q = subst BoundedExp (sym (exp_or first.at (first ∷ e ∷ more))) (near_exp first p, (p, exps_kept (e ∷ more) q))

and_kept : (first : Expr) (more : List Expr) → BoundedExp (exp first) → EachExp more → BoundedExp (exp (and_of first more))
and_kept first [] p q = p
and_kept first (e ∷ more) p q = subst BoundedExp (sym (exp_and first.at (first ∷ e ∷ more))) (near_exp first p, (p, exps_kept (e ∷ more) q))

arith_kept : (first : Expr) (more : List (ArithOp × Expr)) → BoundedExp (exp first) → AllByRecursion (λ o. BoundedExp (exp o.1)) more → BoundedExp (exp (arith_of first more))
arith_kept first [] p q = p
arith_kept first (o ∷ more) p q = subst BoundedExp (sym (exp_arith first.at first (o ∷ more))) (near_exp first p, p, operands_kept (o ∷ more) q)

option_kept : (o : Option Expr) → OnOption (λ e. BoundedExp (exp e)) o → BoundedIn (optional o)
option_kept None h = tt
option_kept (Some e) h = h

else_params : (o : Option (List _)) → OnOption (AllByRecursion BoundedParam) o → AllByRecursion BoundedParam (else_none o)
else_params None h = tt
else_params (Some xs) h = h

else_args : (o : Option (List Expr)) → OnOption EachExp o → EachExp (else_none o)
else_args None h = tt
else_args (Some xs) h = h

else_inner : (o : Option (List Stmt × Option Expr)) → OnOption KeptInner o → KeptInner (else_nothing o)
else_inner None h = (tt, tt)
else_inner (Some p) h = h

assign_kept : (name : Lexeme) (value : Expr) → IsTok k.Name name → BoundedExp (exp value) → BoundedSta (sta (stmt.Assign name.at name.text value))
assign_kept name value g h = subst BoundedSta (sym (sta_assign name.at name.text value)) (g.1.at, g.1.text, h)

eval_kept : (value : Expr) → BoundedExp (exp value) → BoundedSta (sta (stmt.Eval value))
eval_kept value h = subst BoundedSta (sym (sta_eval value)) h

nowhere_near : IsNear (start_of [])
nowhere_near = record { line = omega arith; column = omega arith }

start_near : (u : List Lexeme) → AllFine u → IsNear (start_of u)
start_near [] h = nowhere_near
start_near (t ∷ u) h = h.0.at

name_near : (u : List Lexeme) → AllFine u → IsNear (name_place u)
name_near [] h = nowhere_near
name_near (t ∷ u) h = by (same_kind t.kind k.Name) (name_near u h.1)
  where
    by : (b : Bool) → IsNear (name_place u) → IsNear (if b then t.at else name_place u)
    by true later = h.0.at
    by false later = later

made_kept : (n : Rule) (x : Val (shape n)) → Good (rule n) x → Kept n (made n x)
made_kept Text x g = g
made_kept Part (inl (_, (_, contents))) g = g.1.1
made_kept Part (inr (inl (_, contents))) g = g.1
made_kept Part (inr (inr item)) g = g
made_kept Contents (name, (_, (items, _))) g = ((g.0.1.at, g.0.1.text), g.1.1.0)
made_kept Item (lexemes, i) g = record { at = name_near lexemes g.0; start = start_near lexemes g.0; item = record { name = g.1.name; at = g.1.at; inside = g.1.inside } }
made_kept Definition (inl (_, (_, i))) g = record { name = g.1.1.name; at = g.1.1.at; inside = g.1.1.inside }
made_kept Definition (inr (inl (_, i))) g = g.1
made_kept Definition (inr (inr i)) g = g
made_kept Constant (name, (_, (t, (_, (value, _))))) g = record { name = g.0.1.text; at = g.0.1.at; inside = g.1.1.1.1.0 }
made_kept Function (marker, (pub_, (_, (name, (params, (gives, inner)))))) g =
    record { name = g.1.1.1.0.1.text; at = g.1.1.1.0.1.at; inside = (g.1.1.1.1.0, g.1.1.1.1.1.1.0, g.1.1.1.1.1.1.1) }
made_kept Marker x g = tt
made_kept Parameters (_, (params, _)) g = else_params params g.1.0
made_kept Params (first, more) g = g
made_kept OtherParams (more, _) g = g.0
made_kept Param (name, (_, t)) g = record { at = g.0.1.at; name = g.0.1.text }
made_kept TypeName (inl _) g = tt
made_kept TypeName (inr _) g = tt
made_kept Gives x g = tt
made_kept Braced (_, (inner, _)) g = g.1.0
made_kept Body rest g = else_inner rest g
made_kept Rest (inl (s, more)) g = ((g.0, g.1.0), g.1.1)
made_kept Rest (inr (inl (name, (_, (value, (_, more)))))) g = ((assign_kept name value g.0 g.1.1.0, g.1.1.1.1.0), g.1.1.1.1.1)
made_kept Rest (inr (inr (e, None))) g = (tt, g.0)
made_kept Rest (inr (inr (e, Some (_, more)))) g = ((eval_kept e g.0, g.1.1.0), g.1.1.1)
made_kept Worded (inl s) g = g
made_kept Worded (inr (inl s)) g = g
made_kept Worded (inr (inr (inl s))) g = g
made_kept Worded (inr (inr (inr (inl s)))) g = g
made_kept Worded (inr (inr (inr (inr s)))) g = g
made_kept Statement (inl s) g = g
made_kept Statement (inr (inl (name, (_, (value, _))))) g = assign_kept name value g.0 g.1.1.0
made_kept Statement (inr (inr (e, _))) g = eval_kept e g.0
made_kept Binding (_, (mut_, (name, (t, (_, (value, _)))))) g = subst BoundedSta (sym (sta_let (is_some mut_) name.at name.text t value)) (g.1.1.0.1.at, g.1.1.0.1.text, g.1.1.1.1.1.0)
made_kept Typing x g = tt
made_kept Returning (word, (value, _)) g = subst BoundedSta (sym (sta_return word.at value)) (g.0.1.at, option_kept value g.1.0)
made_kept Loop (_, (cond, inner)) g = subst BoundedSta (sym (sta_while cond inner)) (g.1.0, g.1.1)
made_kept Choice (first, others) g = subst BoundedSta (sym (sta_if (first ∷ others.0) others.1)) (arms_kept (first ∷ others.0) others.1 (g.0, g.1.0) g.1.1)
made_kept Arm (_, (cond, inner)) g = (g.1.0, g.1.1)
made_kept OtherArms others g = g
made_kept Printing (_, (_, (_, (_, (_, (value, _)))))) g = subst BoundedSta (sym (sta_print value)) g.1.1.1.1.1.0
made_kept Block (_, (stmts, _)) g = stas_kept stmts g.1.0
made_kept Expression (first, more) g = or_kept first more g.0 g.1
made_kept OrNext (_, e) g = g.1
made_kept Conjunction (first, more) g = and_kept first more g.0 g.1
made_kept AndNext (_, e) g = g.1
made_kept Comparison (a, None) g = g.0
made_kept Comparison (a, Some b) g = subst BoundedExp (sym (exp_compare a.at b.0 a b.1)) (near_exp a g.0, g.0, g.1)
made_kept Compared (op, b) g = g.1
made_kept CmpSign x g = tt
made_kept Sum (first, more) g = arith_kept first more g.0 g.1
made_kept SumNext (op, e) g = g.1
made_kept SumSign x g = tt
made_kept Product (first, more) g = arith_kept first more g.0 g.1
made_kept ProductNext (op, e) g = g.1
made_kept ProductSign x g = tt
made_kept Unary (None, e) g = g.1
made_kept Unary (Some sign, e) g = subst BoundedExp (sym (exp_unary sign.0 sign.1 e)) (g.0, g.1)
made_kept UnarySign (inl t) g = g.1.at
made_kept UnarySign (inr t) g = g.1.at
made_kept Primary (inl e) g = g
made_kept Primary (inr (inl e)) g = g
made_kept Primary (inr (inr e)) g = g
made_kept Literal (inl t) g = subst BoundedExp (sym (exp_number t.at (pos (value_of t.text)))) (g.1.at, g.1.number g.0)
made_kept Literal (inr (inl t)) g = subst BoundedExp (sym (exp_truth t.at true)) g.1.at
made_kept Literal (inr (inr t)) g = subst BoundedExp (sym (exp_truth t.at false)) g.1.at
made_kept Use (route, None) g = subst BoundedExp (sym (exp_path route.at route)) (g.0.at, g.0)
made_kept Use (route, Some args) g = subst BoundedExp (sym (exp_call route.at route args)) (g.0.at, g.0, exps_kept args g.1)
made_kept Route (inl (name, None)) g = record { at = g.0.1.at; «module» = tt; name = g.0.1.text }
made_kept Route (inl (first, Some name)) g = record { at = g.0.1.at; «module» = g.0.1.text; name = g.1 }
made_kept Route (inr (root, (name, None))) g = record { at = g.0.1.at; «module» = tt; name = g.1.0 }
made_kept Route (inr (root, (first, Some name))) g = record { at = g.0.1.at; «module» = g.1.0; name = g.1.1 }
made_kept Member (_, name) g = g.1.1.text
made_kept Arguments (_, (args, _)) g = else_args args g.1.0
made_kept Args (first, more) g = g
made_kept OtherArgs (more, _) g = g.0
made_kept Group (left, (e, _)) g = subst BoundedExp (sym (exp_group left.at e)) (g.0.1.at, g.1.0)

-- ---- Tokens.

front_fine : (a b : List Lexeme) → AllFine (a ++ b) → AllFine a
front_fine [] b l = tt
front_fine (t ∷ a) b l = (l.0, front_fine a b l.1)

back_fine : (a b : List Lexeme) → AllFine (a ++ b) → AllFine b
back_fine [] b l = l
back_fine (t ∷ a) b l = back_fine a b l.1

pub relative_near : (base at : At) → IsNear at → IsNear (relative base at)
relative_near base at h = (let a = h.line in record { line = omega (arith, a); column = by (at.line == base.line) })
  where
    by : (b : Bool) → (if b then at.column - base.column else at.column) ≤ most + 1
    by true = (let c = h.column in omega (arith, c))
    by false = h.column

pub seen_fine : (base : At) (u : List Lexeme) → AllFine u → AllFine (seen base u)
seen_fine base [] l = tt
seen_fine base (t ∷ u) l = (record { at = relative_near base t.at l.0.at; text = l.0.text; number = l.0.number }, seen_fine base u l.1)

pub matched_kept : {s : Shape} {g : Grammar s} {u : List Lexeme} {x : Val s} → Matches s g u x → AllFine u → Good g x
matched_kept (m-tok e) l = (e, l.0)
matched_kept m-empty l = tt
matched_kept (m-seq {a} {b} m n) l = (matched_kept m (front_fine a b l), matched_kept n (back_fine a b l))
matched_kept (m-left m) l = matched_kept m l
matched_kept (m-right m) l = matched_kept m l
matched_kept m-none l = tt
matched_kept (m-some m) l = matched_kept m l
matched_kept m-stop l = tt
matched_kept (m-turn {a} {b} m n) l = (matched_kept m (front_fine a b l), matched_kept n (back_fine a b l))
matched_kept m-tail_stop l = (tt, tt)
matched_kept (m-tail_last e m) l = (tt, matched_kept m l.1)
matched_kept (m-tail_turn {a} {b} e m n) l = let r = matched_kept n (back_fine a b l.1) in ((matched_kept m (front_fine a b l.1), r.0), r.1)
matched_kept (m-ahead m) l = matched_kept m l
matched_kept (m-not_ahead m) l = matched_kept m l
matched_kept (m-here {t} {a} m) l = (l, matched_kept m (seen_fine t.at (t ∷ a) l))
matched_kept (m-nt {n} {x} m) l = made_kept n x (matched_kept m l)
