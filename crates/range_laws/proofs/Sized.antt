-- The trees that are made of tokens are no larger than the tokens are many.
use Rattle.std.proofs.Common.{◌≡◌, ℕ, ◌+◌, ◌≤◌, inl, inr, List, [], ◌∷◌, length, Option, Some, None, refl, ap, is_some, arith, length-append}
use Rattle.std.proofs.lemmas.List.{length-map}
use Rattle.rs_tree.specs.Plain.{exp, expressions, operations, optional, statements, choices, definition, sta}
use Rattle.rs_tree.specs.Equations.{exp_number, exp_truth, exp_path, exp_call, exp_group, exp_unary, exp_arith, exp_compare, exp_and, exp_or, sta_let, sta_assign, sta_return, sta_eval, sta_print, sta_while, sta_if}
use Rattle.std.specs.Prelude.{pos, true, false}
use Rattle.rs_tree.specs.declared.tree.ArithOp.{ArithOp}
use Rattle.rs_tree.specs.declared.tree.Expr.{Expr}
use Rattle.rs_tree.specs.declared.tree.Item as item
use Rattle.rs_tree.specs.declared.tree.Stmt.{Stmt}
use Rattle.rs_tree.specs.Words.{value_of}
use Rattle.rs_grammar.specs.declared.sited.Sited.{Sited}
use Rattle.rs_grammar.specs.Lexeme.{Lexeme, moved}
use Rattle.rs_grammar.specs.Grammar.{lexeme, nothing, both, either, maybe, many, placed, tree, Rule, Text, Part, Contents, Item, Definition, Constant, Function, Marker, Parameters, Params, OtherParams, Param, TypeName, Gives, Braced, Body, Rest, Worded, Statement, Binding, Typing, Returning, Loop, Choice, Arm, OtherArms, Printing, Block, Expression, OrNext, Conjunction, AndNext, Comparison, Compared, CmpSign, Sum, SumNext, SumSign, Product, ProductNext, ProductSign, Unary, UnarySign, Primary, Literal, Use, Route, Member, Arguments, Args, OtherArgs, Group, Section, Module, Alone, Tree, Shape, Val, shape, Grammar, made, or_of, and_of, arith_of, Matches, m-tok, m-empty, m-seq, m-left, m-right, m-none, m-some, m-stop, m-turn, m-tail_stop, m-tail_last, m-tail_turn, m-ahead, m-not_ahead, m-here, m-nt}
use Rattle.range_laws.specs.Sizes.{size, size_all, size_by, size_in, sta_size, stas_size, arms_size, definition_size}

-- the sum over a list
abbrev pub total : {X : Type 0} → (X → ℕ) → List X → ℕ
total f [] = 0
total f (x ∷ xs) = f x + total f xs

abbrev over : {X : Type 0} → (X → ℕ) → Option X → ℕ
over f None = 0
over f (Some x) = f x

abbrev exp_size : Expr → ℕ
exp_size e = size (exp e)

-- with the sign before it
abbrev next_size : Expr → ℕ
next_size e = exp_size e + 1

abbrev stmt_size : Stmt → ℕ
stmt_size s = sta_size (sta s)

abbrev block_size : List Stmt → ℕ
block_size ss = stas_size (statements ss)

abbrev operand_size : ArithOp × Expr → ℕ
operand_size o = exp_size o.1 + 1

abbrev arm_size : Expr × List Stmt → ℕ
arm_size a = exp_size a.0 + block_size a.1 + 1

-- an item is written with a token at least beside what is in it
abbrev pub item_size : item.Item → ℕ
item_size i = definition_size (definition i.body) + 1

abbrev pub sited_size : Sited → ℕ
sited_size s = item_size s.placed.item

abbrev pub section_size : Section → ℕ
section_size (Module at name items) = total sited_size items + 1
section_size (Alone s) = sited_size s

abbrev inner_size : List Stmt × Option Expr → ℕ
inner_size p = block_size p.0 + size_in (optional p.1)

-- how large a form's tree is
abbrev tree_size : (n : Rule) → Tree n → ℕ
tree_size Text x = total section_size x
tree_size Part x = section_size x
tree_size Contents x = section_size x
tree_size Item x = sited_size x
tree_size Definition x = item_size x
tree_size Constant x = item_size x
tree_size Function x = item_size x
tree_size Marker x = 0
tree_size Parameters x = length x
tree_size Params x = length x
tree_size OtherParams x = length x
tree_size Param x = 1
tree_size TypeName x = 0
tree_size Gives x = 0
tree_size Braced x = inner_size x
tree_size Body x = inner_size x
tree_size Rest x = inner_size x
tree_size Worded x = stmt_size x
tree_size Statement x = stmt_size x
tree_size Binding x = stmt_size x
tree_size Typing x = 0
tree_size Returning x = stmt_size x
tree_size Loop x = stmt_size x
tree_size Choice x = stmt_size x
tree_size Arm x = arm_size x
tree_size OtherArms x = total arm_size x.0 + over (λ b. block_size b + 1) x.1
tree_size Printing x = stmt_size x
tree_size Block x = block_size x + 1
tree_size CmpSign x = 1
tree_size SumSign x = 1
tree_size ProductSign x = 1
tree_size UnarySign x = 1
tree_size OrNext x = next_size x
tree_size AndNext x = next_size x
tree_size Compared x = exp_size x.1 + 1
tree_size SumNext x = operand_size x
tree_size ProductNext x = operand_size x
tree_size Route x = 1
tree_size Member x = 0
tree_size Arguments x = total exp_size x
tree_size Args x = total exp_size x
tree_size OtherArgs x = total exp_size x
tree_size _ x = exp_size x

-- how many tokens a form's value counts for
abbrev measure : (s : Shape) → Val s → ℕ
measure lexeme x = 1
measure nothing x = 0
measure (both s t) x = measure s x.0 + measure t x.1
measure (either s t) (inl x) = measure s x
measure (either s t) (inr y) = measure t y
measure (maybe s) x = over (measure s) x
measure (many s) xs = total (measure s) xs
measure (placed s) x = measure s x.1
measure (tree n) x = tree_size n x

exps_size : (es : List Expr) → size_all (expressions es) ≡ total exp_size es
exps_size [] = refl
exps_size (e ∷ es) = ap (λ n. exp_size e + n) (exps_size es)

operands_size : (os : List (ArithOp × Expr)) → size_by (operations os) ≡ total operand_size os
operands_size [] = refl
operands_size (o ∷ os) = (let r = operands_size os in omega (arith, r))

stas_total : (ss : List Stmt) → stas_size (statements ss) ≡ total stmt_size ss
stas_total [] = refl
stas_total (s ∷ ss) = ap (λ n. stmt_size s + n) (stas_total ss)

arms_total : (cs : List (Expr × List Stmt)) (other : Option (List Stmt)) → arms_size (choices cs other) ≡ total arm_size cs + over (λ b. block_size b + 1) other
arms_total [] None = refl
arms_total [] (Some b) = omega arith
arms_total (c ∷ cs) other = (let r = arms_total cs other in omega (arith, r))

params_total : {X : Type 0} (xs : List X) → total (λ x. 1) xs ≡ length xs
params_total [] = refl
params_total (x ∷ xs) = (let r = params_total xs in omega (arith, r))

next_total : (es : List Expr) → size_all (expressions es) ≤ total next_size es
next_total [] = omega arith
next_total (e ∷ es) = (let r = next_total es in omega (arith, r))

or_size : (first : Expr) (more : List Expr) → exp_size (or_of first more) ≤ exp_size first + total next_size more
or_size first [] = omega arith
or_size first (e ∷ more) = (let q = ap size (exp_or first.at (first ∷ e ∷ more)) in let r = next_total more in omega (arith, q, r))

and_size : (first : Expr) (more : List Expr) → exp_size (and_of first more) ≤ exp_size first + total next_size more
and_size first [] = omega arith
and_size first (e ∷ more) = (let q = ap size (exp_and first.at (first ∷ e ∷ more)) in let r = next_total more in omega (arith, q, r))

arith_size : (first : Expr) (more : List (ArithOp × Expr)) → exp_size (arith_of first more) ≤ exp_size first + total operand_size more
arith_size first [] = omega arith
arith_size first (o ∷ more) = (let q = ap size (exp_arith first.at first (o ∷ more)) in let r = operands_size (o ∷ more) in omega (arith, q, r))

made_small : (n : Rule) (x : Val (shape n)) → tree_size n (made n x) ≤ measure (shape n) x
made_small Text x = omega arith
made_small Part (inl (_, (_, contents))) = omega arith
made_small Part (inr (inl (_, contents))) = omega arith
made_small Part (inr (inr item)) = omega arith
made_small Contents (name, (_, (items, _))) = omega arith
made_small Item (lexemes, i) = omega arith
made_small Definition (inl (_, (_, i))) = omega arith
made_small Definition (inr (inl (_, i))) = omega arith
made_small Definition (inr (inr i)) = omega arith
made_small Constant (name, (_, (t, (_, (value, _))))) = omega arith
made_small Function (marker, (pub_, (_, (name, (params, (gives, inner)))))) = omega arith
made_small Marker x = omega arith
made_small Parameters (_, (None, _)) = omega arith
made_small Parameters (_, (Some params, _)) = omega arith
made_small Params (first, more) = omega arith
made_small OtherParams (more, _) = (let r = params_total more in omega (arith, r))
made_small Param (name, (_, t)) = omega arith
made_small TypeName (inl _) = omega arith
made_small TypeName (inr _) = omega arith
made_small Gives x = omega arith
made_small Braced (_, (inner, _)) = omega arith
made_small Body None = omega arith
made_small Body (Some rest) = omega arith
made_small Rest (inl (s, more)) = omega arith
made_small Rest (inr (inl (name, (_, (value, (_, more)))))) = (let q = ap sta_size (sta_assign name.at name.text value) in omega (arith, q))
made_small Rest (inr (inr (e, None))) = omega arith
made_small Rest (inr (inr (e, Some (_, more)))) = (let q = ap sta_size (sta_eval e) in omega (arith, q))
made_small Worded (inl s) = omega arith
made_small Worded (inr (inl s)) = omega arith
made_small Worded (inr (inr (inl s))) = omega arith
made_small Worded (inr (inr (inr (inl s)))) = omega arith
made_small Worded (inr (inr (inr (inr s)))) = omega arith
made_small Statement (inl s) = omega arith
made_small Statement (inr (inl (name, (_, (value, _))))) = (let q = ap sta_size (sta_assign name.at name.text value) in omega (arith, q))
made_small Statement (inr (inr (e, _))) = (let q = ap sta_size (sta_eval e) in omega (arith, q))
made_small Binding (_, (mut_, (name, (t, (_, (value, _)))))) = (let q = ap sta_size (sta_let (is_some mut_) name.at name.text t value) in omega (arith, q))
made_small Typing x = omega arith
made_small Returning (word, (None, _)) = (let q = ap sta_size (sta_return word.at None) in omega (arith, q))
made_small Returning (word, (Some value, _)) = (let q = ap sta_size (sta_return word.at (Some value)) in omega (arith, q))
made_small Loop (_, (cond, inner)) = (let q = ap sta_size (sta_while cond inner) in omega (arith, q))
made_small Choice (first, others) = (let q = ap sta_size (sta_if (first ∷ others.0) others.1) in let r = arms_total (first ∷ others.0) others.1 in omega (arith, q, r))
made_small Arm (_, (cond, inner)) = omega arith
made_small OtherArms (arms, None) = omega arith
made_small OtherArms (arms, Some b) = omega arith
made_small Printing (_, (_, (_, (_, (_, (value, _)))))) = (let q = ap sta_size (sta_print value) in omega (arith, q))
made_small Block (_, (stmts, _)) = (let r = stas_total stmts in omega (arith, r))
made_small Expression (first, more) = or_size first more
made_small OrNext (_, e) = omega arith
made_small Conjunction (first, more) = and_size first more
made_small AndNext (_, e) = omega arith
made_small Comparison (a, None) = omega arith
made_small Comparison (a, Some b) = (let q = ap size (exp_compare a.at b.0 a b.1) in omega (arith, q))
made_small Compared (op, b) = omega arith
made_small CmpSign (inl x) = omega arith
made_small CmpSign (inr (inl x)) = omega arith
made_small CmpSign (inr (inr (inl x))) = omega arith
made_small CmpSign (inr (inr (inr (inl x)))) = omega arith
made_small CmpSign (inr (inr (inr (inr (inl x))))) = omega arith
made_small CmpSign (inr (inr (inr (inr (inr x))))) = omega arith
made_small Sum (first, more) = arith_size first more
made_small SumNext (op, e) = omega arith
made_small SumSign (inl x) = omega arith
made_small SumSign (inr x) = omega arith
made_small Product (first, more) = arith_size first more
made_small ProductNext (op, e) = omega arith
made_small ProductSign (inl x) = omega arith
made_small ProductSign (inr (inl x)) = omega arith
made_small ProductSign (inr (inr x)) = omega arith
made_small Unary (None, e) = omega arith
made_small Unary (Some sign, e) = (let q = ap size (exp_unary sign.0 sign.1 e) in omega (arith, q))
made_small UnarySign (inl x) = omega arith
made_small UnarySign (inr x) = omega arith
made_small Primary (inl e) = omega arith
made_small Primary (inr (inl e)) = omega arith
made_small Primary (inr (inr e)) = omega arith
made_small Literal (inl t) = (let q = ap size (exp_number t.at (pos (value_of t.text))) in omega (arith, q))
made_small Literal (inr (inl t)) = (let q = ap size (exp_truth t.at true) in omega (arith, q))
made_small Literal (inr (inr t)) = (let q = ap size (exp_truth t.at false) in omega (arith, q))
made_small Use (route, None) = (let q = ap size (exp_path route.at route) in omega (arith, q))
made_small Use (route, Some args) = (let q = ap size (exp_call route.at route args) in let r = exps_size args in omega (arith, q, r))
made_small Route (inl (name, None)) = omega arith
made_small Route (inl (first, Some name)) = omega arith
made_small Route (inr (root, (name, None))) = omega arith
made_small Route (inr (root, (first, Some name))) = omega arith
made_small Member x = omega arith
made_small Arguments (_, (None, _)) = omega arith
made_small Arguments (_, (Some args, _)) = omega arith
made_small Args (first, more) = omega arith
made_small OtherArgs (more, _) = omega arith
made_small Group (left, (e, _)) = (let q = ap size (exp_group left.at e) in omega (arith, q))

-- the tokens of a form are as many as its value counts for
pub matched_small : {s : Shape} {g : Grammar s} {u : List Lexeme} {x : Val s} → Matches s g u x → measure s x ≤ length u
matched_small (m-tok e) = omega arith
matched_small m-empty = omega arith
matched_small (m-seq {a} {b} m n) = (let p = matched_small m in let q = matched_small n in let l = length-append a b in omega (arith, p, q, l))
matched_small (m-left m) = matched_small m
matched_small (m-right m) = matched_small m
matched_small m-none = omega arith
matched_small (m-some m) = matched_small m
matched_small m-stop = omega arith
matched_small (m-turn {a} {b} m n) = (let p = matched_small m in let q = matched_small n in let l = length-append a b in omega (arith, p, q, l))
matched_small m-tail_stop = omega arith
matched_small (m-tail_last e m) = (let p = matched_small m in omega (arith, p))
matched_small (m-tail_turn {a} {b} e m n) = (let p = matched_small m in let q = matched_small n in let l = length-append a b in omega (arith, p, q, l))
matched_small (m-ahead m) = matched_small m
matched_small (m-not_ahead m) = matched_small m
matched_small (m-here {t} {a} m) = (let p = matched_small m in let l = length-map (t ∷ a) (moved t.at) in omega (arith, p, l))
matched_small (m-nt {n} {x} m) = (let p = matched_small m in let q = made_small n x in omega (arith, p, q))
