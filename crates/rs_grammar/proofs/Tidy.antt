-- The trees that forms make are tidy.
use Rattle.std.proofs.Common.{◌≡◌, ℕ, inl, inr, List, [], ◌∷◌, ◌++◌, map, Option, Some, None, refl, sym, ap, ◌∙◌, subst, unwrap_or, true, false, is_some, pos}
use Rattle.rs_tree.specs.Kinds.{kind_of}
use Rattle.rs_tree.specs.Plain.{exp, expressions, operations, optional, statements, choices, definition, sta}
use Rattle.rs_tree.specs.Equations.{exp_number, exp_truth, exp_path, exp_call, exp_group, exp_unary, exp_arith, exp_compare, exp_and, exp_or, sta_let, sta_assign, sta_return, sta_eval, sta_print, sta_while, sta_if}
use Rattle.rs_tree.specs.declared.kind.Kind.{Kind}
use Rattle.rs_tree.specs.declared.kind.Kind.TheVariants as k
use Rattle.rs_tree.specs.declared.place.At.{At}
use Rattle.rs_tree.specs.declared.token.Token.{Token}
use Rattle.rs_tree.specs.declared.tree.ArithOp.{ArithOp}
use Rattle.rs_tree.specs.declared.tree.Expr.{Expr}
use Rattle.rs_tree.specs.declared.tree.Item as item
use Rattle.rs_tree.specs.Words.{value_of}
use Rattle.rs_tree.specs.declared.tree.Placed.{Placed}
use Rattle.rs_tree.specs.declared.tree.Stmt.{Stmt}
use Rattle.rs_tree.specs.declared.tree.Stmt.TheVariants as stmt
use Rattle.rs_grammar.specs.declared.sited.Sited.{Sited}
use Rattle.rs_grammar.specs.Lexeme.{Lexeme, kind_of_text, lexemes, seen}
use Rattle.rs_grammar.specs.Grammar.{Rule, Text, Part, Contents, Item, Definition, Constant, Function, Marker, Parameters, Params, OtherParams, Param, TypeName, Gives, Braced, Body, Rest, Worded, Statement, Binding, Typing, Returning, Loop, Choice, Arm, OtherArms, Printing, Block, Expression, OrNext, Conjunction, AndNext, Comparison, Compared, CmpSign, Sum, SumNext, SumSign, Product, ProductNext, ProductSign, Unary, UnarySign, Primary, Literal, Use, Route, Member, Arguments, Args, OtherArgs, Group, Section, Module, Alone, Tree, Shape, Val, shape, one, two, Grammar, Tok, Empty, Seq, Alt, Opt, Rep, Tail, Ahead, Here, Nt, rule, made, or_of, and_of, arith_of, else_none, else_nothing, Matches, m-tok, m-empty, m-seq, m-left, m-right, m-none, m-some, m-stop, m-turn, m-tail_stop, m-tail_last, m-tail_turn, m-ahead, m-not_ahead, m-here, m-nt}
use Rattle.rs_grammar.specs.Correct.{FitsCrate, placed_in, modules_of, items_of}
use Rattle.rs_grammar.specs.Tidy.{IsNamed, IsNameOfLanguage, Throughout, PathNamed, ExpNamed, ExpsNamed, OperandsNamed, OptionNamed, StaNamed, StasNamed, ArmsNamed, ParamNamed, DefinitionNamed}

abbrev OnOption : {X : Type 0} → (X → Type 0) → Option X → Type 0
OnOption P None = Unit {0}
OnOption P (Some x) = P x

abbrev EachExp : List Expr → Type 0
EachExp = Throughout (λ e. ExpNamed (exp e))

abbrev ItemNamed : item.Item → Type 0
ItemNamed i = IsNameOfLanguage i.name × DefinitionNamed (definition i.body)

abbrev SitedNamed : Sited → Type 0
SitedNamed s = ItemNamed s.placed.item

abbrev SectionNamed : Section → Type 0
SectionNamed (Module at name items) = IsNameOfLanguage name × Throughout SitedNamed items
SectionNamed (Alone s) = SitedNamed s

abbrev InnerNamed : List Stmt × Option Expr → Type 0
InnerNamed p = StasNamed (statements p.0) × OptionNamed (optional p.1)

abbrev ArmNamed : Expr × List Stmt → Type 0
ArmNamed a = ExpNamed (exp a.0) × StasNamed (statements a.1)

-- what a form's tree names has names of the language
abbrev Named : (n : Rule) → Tree n → Type 0
Named Text x = Throughout SectionNamed x
Named Part x = SectionNamed x
Named Contents x = SectionNamed x
Named Item x = SitedNamed x
Named Definition x = ItemNamed x
Named Constant x = ItemNamed x
Named Function x = ItemNamed x
Named Marker x = Unit {0}
Named Parameters x = Throughout ParamNamed x
Named Params x = Throughout ParamNamed x
Named OtherParams x = Throughout ParamNamed x
Named Param x = ParamNamed x
Named TypeName x = Unit {0}
Named Gives x = Unit {0}
Named Braced x = InnerNamed x
Named Body x = InnerNamed x
Named Rest x = InnerNamed x
Named Worded x = StaNamed (sta x)
Named Statement x = StaNamed (sta x)
Named Binding x = StaNamed (sta x)
Named Typing x = Unit {0}
Named Returning x = StaNamed (sta x)
Named Loop x = StaNamed (sta x)
Named Choice x = StaNamed (sta x)
Named Arm x = ArmNamed x
Named OtherArms x = Throughout ArmNamed x.0 × OnOption (λ b. StasNamed (statements b)) x.1
Named Printing x = StaNamed (sta x)
Named Block x = StasNamed (statements x)
Named CmpSign x = Unit {0}
Named SumSign x = Unit {0}
Named ProductSign x = Unit {0}
Named UnarySign x = Unit {0}
Named Compared x = ExpNamed (exp x.1)
Named SumNext x = ExpNamed (exp x.1)
Named ProductNext x = ExpNamed (exp x.1)
Named Route x = PathNamed x
Named Member x = IsNameOfLanguage x
Named Arguments x = EachExp x
Named Args x = EachExp x
Named OtherArgs x = EachExp x
Named _ x = ExpNamed (exp x)

-- a token of this kind, which its text has
abbrev IsTok : Kind → Lexeme → Type 0
IsTok c t = (t.kind ≡ c) × (t.kind ≡ kind_of_text t.text)

-- the same of a form's value, whose tokens are of their kinds
abbrev Good : {s : Shape} → Grammar s → Val s → Type 0
Good (Tok c) t = IsTok c t
Good Empty x = Unit {0}
Good (Seq g h) x = Good g x.0 × Good h x.1
Good (Alt g h) (inl x) = Good g x
Good (Alt g h) (inr y) = Good h y
Good (Opt g) None = Unit {0}
Good (Opt g) (Some x) = Good g x
Good (Rep g) xs = Throughout (Good g) xs
Good (Tail c g h) x = Throughout (Good g) x.0 × OnOption (Good h) x.1
Good (Ahead p g h) (inl x) = IsTok (one p) x.0 × (IsTok (two p) x.1.0 × Good g x.1.1)
Good (Ahead p g h) (inr y) = Good h y
Good (Here g) x = Good g x.1
Good (Nt n) x = Named n x

name_kind : (found : Option Kind) → unwrap_or found k.Reserved ≡ k.Name → found ≡ Some k.Name
name_kind None e = absurd cc
name_kind (Some d) e = ap Some e

-- a token that is a name
name_of : (t : Lexeme) → IsTok k.Name t → IsNameOfLanguage t.text
name_of t g = name_kind (kind_of t.text) (sym g.1 ∙ g.0)

exps_named : (es : List Expr) → EachExp es → ExpsNamed (expressions es)
exps_named [] h = tt
exps_named (e ∷ es) h = (h.0, exps_named es h.1)

operands_named : (os : List (ArithOp × Expr)) → Throughout (λ o. ExpNamed (exp o.1)) os → OperandsNamed (operations os)
operands_named [] h = tt
operands_named (o ∷ os) h = (h.0, operands_named os h.1)

stas_named : (ss : List Stmt) → Throughout (λ s. StaNamed (sta s)) ss → StasNamed (statements ss)
stas_named [] h = tt
stas_named (s ∷ ss) h = (h.0, stas_named ss h.1)

arms_named : (cs : List (Expr × List Stmt)) (other : Option (List Stmt)) → Throughout ArmNamed cs → OnOption (λ b. StasNamed (statements b)) other → ArmsNamed (choices cs other)
arms_named [] None h o = tt
arms_named [] (Some b) h o = o
arms_named (c ∷ cs) other h o = (h.0.0, h.0.1, arms_named cs other h.1 o)

or_named : (first : Expr) (more : List Expr) → ExpNamed (exp first) → EachExp more → ExpNamed (exp (or_of first more))
or_named first [] p q = p
or_named first (e ∷ more) p q = subst ExpNamed (sym (exp_or first.at (first ∷ e ∷ more))) (p, exps_named (e ∷ more) q)

and_named : (first : Expr) (more : List Expr) → ExpNamed (exp first) → EachExp more → ExpNamed (exp (and_of first more))
and_named first [] p q = p
and_named first (e ∷ more) p q = subst ExpNamed (sym (exp_and first.at (first ∷ e ∷ more))) (p, exps_named (e ∷ more) q)

arith_named : (first : Expr) (more : List (ArithOp × Expr)) → ExpNamed (exp first) → Throughout (λ o. ExpNamed (exp o.1)) more → ExpNamed (exp (arith_of first more))
arith_named first [] p q = p
arith_named first (o ∷ more) p q = subst ExpNamed (sym (exp_arith first.at first (o ∷ more))) (p, operands_named (o ∷ more) q)

option_named : (o : Option Expr) → OnOption (λ e. ExpNamed (exp e)) o → OptionNamed (optional o)
option_named None h = tt
option_named (Some e) h = h

else_params : (o : Option (List _)) → OnOption (Throughout ParamNamed) o → Throughout ParamNamed (else_none o)
else_params None h = tt
else_params (Some xs) h = h

else_args : (o : Option (List Expr)) → OnOption EachExp o → EachExp (else_none o)
else_args None h = tt
else_args (Some xs) h = h

else_inner : (o : Option (List Stmt × Option Expr)) → OnOption InnerNamed o → InnerNamed (else_nothing o)
else_inner None h = (tt, tt)
else_inner (Some p) h = h

assign_named : (name : Lexeme) (value : Expr) → IsTok k.Name name → ExpNamed (exp value) → StaNamed (sta (stmt.Assign name.at name.text value))
assign_named name value g h = subst StaNamed (sym (sta_assign name.at name.text value)) (name_of name g, h)

eval_named : (value : Expr) → ExpNamed (exp value) → StaNamed (sta (stmt.Eval value))
eval_named value h = subst StaNamed (sym (sta_eval value)) h

made_named : (n : Rule) (x : Val (shape n)) → Good (rule n) x → Named n (made n x)
made_named Text x g = g
made_named Part (inl (_, (_, contents))) g = g.1.1
made_named Part (inr (inl (_, contents))) g = g.1
made_named Part (inr (inr item)) g = g
made_named Contents (name, (_, (items, _))) g = (name_of name g.0, g.1.1.0)
made_named Item (lexemes, i) g = g
made_named Definition (inl (_, (_, i))) g = g.1.1
made_named Definition (inr (inl (_, i))) g = g.1
made_named Definition (inr (inr i)) g = g
made_named Constant (name, (_, (t, (_, (value, _))))) g = (name_of name g.0, g.1.1.1.1.0)
made_named Function (marker, (pub_, (_, (name, (params, (gives, inner)))))) g = (name_of name g.1.1.1.0, (g.1.1.1.1.0, g.1.1.1.1.1.1.0, g.1.1.1.1.1.1.1))
made_named Marker x g = tt
made_named Parameters (_, (params, _)) g = else_params params g.1.0
made_named Params (first, more) g = g
made_named OtherParams (more, _) g = g.0
made_named Param (name, (_, t)) g = name_of name g.0
made_named TypeName (inl _) g = tt
made_named TypeName (inr _) g = tt
made_named Gives x g = tt
made_named Braced (_, (inner, _)) g = g.1.0
made_named Body rest g = else_inner rest g
made_named Rest (inl (s, more)) g = ((g.0, g.1.0), g.1.1)
made_named Rest (inr (inl (name, (_, (value, (_, more)))))) g = ((assign_named name value g.0 g.1.1.0, g.1.1.1.1.0), g.1.1.1.1.1)
made_named Rest (inr (inr (e, None))) g = (tt, g.0)
made_named Rest (inr (inr (e, Some (_, more)))) g = ((eval_named e g.0, g.1.1.0), g.1.1.1)
made_named Worded (inl s) g = g
made_named Worded (inr (inl s)) g = g
made_named Worded (inr (inr (inl s))) g = g
made_named Worded (inr (inr (inr (inl s)))) g = g
made_named Worded (inr (inr (inr (inr s)))) g = g
made_named Statement (inl s) g = g
made_named Statement (inr (inl (name, (_, (value, _))))) g = assign_named name value g.0 g.1.1.0
made_named Statement (inr (inr (e, _))) g = eval_named e g.0
made_named Binding (_, (mut_, (name, (t, (_, (value, _)))))) g = subst StaNamed (sym (sta_let (is_some mut_) name.at name.text t value)) (name_of name g.1.1.0, g.1.1.1.1.1.0)
made_named Typing x g = tt
made_named Returning (word, (value, _)) g = subst StaNamed (sym (sta_return word.at value)) (option_named value g.1.0)
made_named Loop (_, (cond, inner)) g = subst StaNamed (sym (sta_while cond inner)) (g.1.0, g.1.1)
made_named Choice (first, others) g = subst StaNamed (sym (sta_if (first ∷ others.0) others.1)) (arms_named (first ∷ others.0) others.1 (g.0, g.1.0) g.1.1)
made_named Arm (_, (cond, inner)) g = (g.1.0, g.1.1)
made_named OtherArms others g = g
made_named Printing (_, (_, (_, (_, (_, (value, _)))))) g = subst StaNamed (sym (sta_print value)) g.1.1.1.1.1.0
made_named Block (_, (stmts, _)) g = stas_named stmts g.1.0
made_named Expression (first, more) g = or_named first more g.0 g.1
made_named OrNext (_, e) g = g.1
made_named Conjunction (first, more) g = and_named first more g.0 g.1
made_named AndNext (_, e) g = g.1
made_named Comparison (a, None) g = g.0
made_named Comparison (a, Some b) g = subst ExpNamed (sym (exp_compare a.at b.0 a b.1)) (g.0, g.1)
made_named Compared (op, b) g = g.1
made_named CmpSign x g = tt
made_named Sum (first, more) g = arith_named first more g.0 g.1
made_named SumNext (op, e) g = g.1
made_named SumSign x g = tt
made_named Product (first, more) g = arith_named first more g.0 g.1
made_named ProductNext (op, e) g = g.1
made_named ProductSign x g = tt
made_named Unary (None, e) g = g.1
made_named Unary (Some sign, e) g = subst ExpNamed (sym (exp_unary sign.0 sign.1 e)) g.1
made_named UnarySign x g = tt
made_named Primary (inl e) g = g
made_named Primary (inr (inl e)) g = g
made_named Primary (inr (inr e)) g = g
made_named Literal (inl t) g = subst ExpNamed (sym (exp_number t.at (pos (value_of t.text)))) tt
made_named Literal (inr (inl t)) g = subst ExpNamed (sym (exp_truth t.at true)) tt
made_named Literal (inr (inr t)) g = subst ExpNamed (sym (exp_truth t.at false)) tt
made_named Use (route, None) g = subst ExpNamed (sym (exp_path route.at route)) g.0
made_named Use (route, Some args) g = subst ExpNamed (sym (exp_call route.at route args)) (g.0, exps_named args g.1)
made_named Route (inl (name, None)) g = (tt, name_of name g.0)
made_named Route (inl (first, Some name)) g = (name_of first g.0, g.1)
made_named Route (inr (root, (name, None))) g = (tt, g.1.0)
made_named Route (inr (root, (first, Some name))) g = (g.1.0, g.1.1)
made_named Member (_, name) g = name_of name g.1
made_named Arguments (_, (args, _)) g = else_args args g.1.0
made_named Args (first, more) g = g
made_named OtherArgs (more, _) g = g.0
made_named Group (left, (e, _)) g = subst ExpNamed (sym (exp_group left.at e)) g.1.0

-- tokens have the kinds of their texts
abbrev Lawful : List Lexeme → Type 0
Lawful = Throughout (λ t. t.kind ≡ kind_of_text t.text)

front_lawful : (a b : List Lexeme) → Lawful (a ++ b) → Lawful a
front_lawful [] b l = tt
front_lawful (t ∷ a) b l = (l.0, front_lawful a b l.1)

back_lawful : (a b : List Lexeme) → Lawful (a ++ b) → Lawful b
back_lawful [] b l = l
back_lawful (t ∷ a) b l = back_lawful a b l.1

seen_lawful : (base : At) (u : List Lexeme) → Lawful u → Lawful (seen base u)
seen_lawful base [] l = tt
seen_lawful base (t ∷ u) l = (l.0, seen_lawful base u l.1)

lexemes_lawful : (ts : List Token) → Lawful (lexemes ts)
lexemes_lawful [] = tt
lexemes_lawful (t ∷ ts) = (refl, lexemes_lawful ts)

pub matched_good : {s : Shape} {g : Grammar s} {u : List Lexeme} {x : Val s} → Matches s g u x → Lawful u → Good g x
matched_good (m-tok e) l = (e, l.0)
matched_good m-empty l = tt
matched_good (m-seq {a} {b} m n) l = (matched_good m (front_lawful a b l), matched_good n (back_lawful a b l))
matched_good (m-left m) l = matched_good m l
matched_good (m-right m) l = matched_good m l
matched_good m-none l = tt
matched_good (m-some m) l = matched_good m l
matched_good m-stop l = tt
matched_good (m-turn {a} {b} m n) l = (matched_good m (front_lawful a b l), matched_good n (back_lawful a b l))
matched_good m-tail_stop l = (tt, tt)
matched_good (m-tail_last e m) l = (tt, matched_good m l.1)
matched_good (m-tail_turn {a} {b} e m n) l = let r = matched_good n (back_lawful a b l.1) in ((matched_good m (front_lawful a b l.1), r.0), r.1)
matched_good (m-ahead m) l = matched_good m l
matched_good (m-not_ahead m) l = matched_good m l
matched_good (m-here {t} {a} m) l = matched_good m (seen_lawful t.at (t ∷ a) l)
matched_good (m-nt {n} {x} m) l = made_named n x (matched_good m l)

-- the trees of a text's sections
pub modules_named : (xs : List Section) → Throughout SectionNamed xs → Throughout IsNameOfLanguage (modules_of xs)
modules_named [] h = tt
modules_named (Module at name items ∷ xs) h = (h.0.0, modules_named xs h.1)
modules_named (Alone s ∷ xs) h = modules_named xs h.1

in_named : (name : List ℕ) (ss : List Sited) (more : List Placed) → Throughout SitedNamed ss → Throughout IsNamed more → Throughout IsNamed (map (placed_in name) ss ++ more)
in_named name [] more h k = k
in_named name (s ∷ ss) more h k = (record { name = h.0.0; body = h.0.1 }, in_named name ss more h.1 k)

pub items_named : (xs : List Section) → Throughout SectionNamed xs → Throughout IsNamed (items_of xs)
items_named [] h = tt
items_named (Module at name items ∷ xs) h = in_named name items (items_of xs) h.0.1 (items_named xs h.1)
items_named (Alone s ∷ xs) h = (record { name = h.0.0; body = h.0.1 }, items_named xs h.1)

pub sections_named : (ts : List Token) {xs : List Section} → FitsCrate (lexemes ts) xs → Throughout SectionNamed xs
sections_named ts m = matched_good m (lexemes_lawful ts)
