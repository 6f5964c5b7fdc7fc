-- Where expressions and items stand.
use Rattle.std.proofs.Common.{◌≡◌, ℕ, zero, ◌-◌, ◌==◌, false, true, if◌then◌else◌, ◌⊎◌, inl, inr, List, [], ◌∷◌, ◌++◌, map, Some, None, refl, sym, ap, ◌∙◌, subst, arith}
use Rattle.std.specs.List.{Contains}
use Rattle.std.proofs.lemmas.List.Elements.{Contains-append_right}
use Rattle.std.proofs.lemmas.Bool.Decides.{nat_tests}
use Rattle.rs_tree.specs.Kinds.{code, same_kind}
use Rattle.rs_tree.specs.declared.kind.Kind.{Kind}
use Rattle.rs_tree.specs.declared.kind.Kind.TheVariants as k
use Rattle.rs_tree.specs.declared.place.At.{At}
use Rattle.rs_tree.specs.declared.tree.ArithOp.{ArithOp}
use Rattle.rs_tree.specs.declared.tree.Expr.{Expr}
use Rattle.rs_tree.specs.declared.tree.Item as item
use Rattle.rs_tree.specs.declared.tree.Path as path
use Rattle.rs_tree.specs.declared.tree.Placed.{Placed}
use Rattle.rs_grammar.specs.declared.named.Named.{Named}
use Rattle.rs_grammar.specs.declared.sited.Sited.{Sited}
use Rattle.rs_grammar.specs.Lexeme.{Lexeme, name_place, next_place, nowhere, relative, seen}
use Rattle.rs_grammar.specs.Grammar.{Section, Module, Alone, Rep, Opt, Tok, Nt, Part, Contents, Item, Definition, Constant, Function, Marker, Expression, Conjunction, Comparison, Sum, Product, Unary, Primary, Literal, Use, Route, Group, or_of, and_of, arith_of, Matches, m-tok, m-seq, m-left, m-right, m-none, m-some, m-stop, m-turn, m-ahead, m-not_ahead, m-here, m-nt}
use Rattle.rs_grammar.specs.Correct.{FitsCrate, placed_in, name_in, items_of, names_of}
use Rattle.rs_grammar.specs.Tidy.{Throughout}
use Rattle.rs_grammar.specs.Places.{ExpressionsBegin, IsItemAt, NamesTwiceStand}

-- expressions, from the primary up

on : (a b : List Lexeme) (at : At) → next_place a ≡ Some at → next_place (a ++ b) ≡ Some at
on [] b at e = absurd cc
on (t ∷ a) b at e = e

or_at : (first : Expr) (more : List Expr) → (or_of first more).at ≡ first.at
or_at first [] = refl
or_at first (e ∷ more) = refl

and_at : (first : Expr) (more : List Expr) → (and_of first more).at ≡ first.at
and_at first [] = refl
and_at first (e ∷ more) = refl

arith_at : (first : Expr) (more : List (ArithOp × Expr)) → (arith_of first more).at ≡ first.at
arith_at first [] = refl
arith_at first (o ∷ more) = refl

literal : {u : List Lexeme} {e : Expr} → Matches _ (Nt Literal) u e → next_place u ≡ Some e.at
literal (m-nt (m-left (m-tok i))) = refl
literal (m-nt (m-right (m-left (m-tok i)))) = refl
literal (m-nt (m-right (m-right (m-tok i)))) = refl

route : {u : List Lexeme} {p : path.Path} → Matches _ (Nt Route) u p → next_place u ≡ Some p.at
route (m-nt (m-left (m-seq (m-tok i) m-none))) = refl
route (m-nt (m-left (m-seq (m-tok i) (m-some m)))) = refl
route (m-nt (m-right (m-seq (m-tok i) (m-seq m m-none)))) = refl
route (m-nt (m-right (m-seq (m-tok i) (m-seq m (m-some n))))) = refl

path_use : {u : List Lexeme} {e : Expr} → Matches _ (Nt Use) u e → next_place u ≡ Some e.at
path_use (m-nt (m-seq {a} {b} {x} m m-none)) = on a b x.at (route m)
path_use (m-nt (m-seq {a} {b} {x} m (m-some n))) = on a b x.at (route m)

group : {u : List Lexeme} {e : Expr} → Matches _ (Nt Group) u e → next_place u ≡ Some e.at
group (m-nt (m-seq (m-tok i) (m-seq m (m-tok j)))) = refl

primary : {u : List Lexeme} {e : Expr} → Matches _ (Nt Primary) u e → next_place u ≡ Some e.at
primary (m-nt (m-left m)) = literal m
primary (m-nt (m-right (m-left m))) = path_use m
primary (m-nt (m-right (m-right m))) = group m

unary : {u : List Lexeme} {e : Expr} → Matches _ (Nt Unary) u e → next_place u ≡ Some e.at
unary (m-nt (m-seq m-none m)) = primary m
unary (m-nt (m-seq (m-some (m-nt (m-left (m-tok i)))) m)) = refl
unary (m-nt (m-seq (m-some (m-nt (m-right (m-tok i)))) m)) = refl

product : {u : List Lexeme} {e : Expr} → Matches _ (Nt Product) u e → next_place u ≡ Some e.at
product (m-nt (m-seq {a} {b} {x} {y} m n)) = on a b x.at (unary m) ∙ ap Some (sym (arith_at x y))

sum : {u : List Lexeme} {e : Expr} → Matches _ (Nt Sum) u e → next_place u ≡ Some e.at
sum (m-nt (m-seq {a} {b} {x} {y} m n)) = on a b x.at (product m) ∙ ap Some (sym (arith_at x y))

comparison : {u : List Lexeme} {e : Expr} → Matches _ (Nt Comparison) u e → next_place u ≡ Some e.at
comparison (m-nt (m-seq {a} {b} {x} m m-none)) = on a b x.at (sum m)
comparison (m-nt (m-seq {a} {b} {x} m (m-some n))) = on a b x.at (sum m)

conjunction : {u : List Lexeme} {e : Expr} → Matches _ (Nt Conjunction) u e → next_place u ≡ Some e.at
conjunction (m-nt (m-seq {a} {b} {x} {y} m n)) = on a b x.at (comparison m) ∙ ap Some (sym (and_at x y))

expression : {u : List Lexeme} {e : Expr} → Matches _ (Nt Expression) u e → next_place u ≡ Some e.at
expression (m-nt (m-seq {a} {b} {x} {y} m n)) = on a b x.at (conjunction m) ∙ ap Some (sym (or_at x y))

pub expressions_begin : ExpressionsBegin
expressions_begin tokens e m = expression m

-- the first name of an item is its own

skip : (t : Lexeme) (ts : List Lexeme) (c : Kind) → t.kind ≡ c → same_kind c k.Name ≡ false → name_place (t ∷ ts) ≡ name_place ts
skip t ts c e f = ap (λ d. if same_kind d k.Name then t.at else name_place ts) e ∙ ap (λ b. if b then t.at else name_place ts) f

own : (t : Lexeme) (ts : List Lexeme) → t.kind ≡ k.Name → same_kind k.Name k.Name ≡ true → name_place (t ∷ ts) ≡ t.at
own t ts e f = ap (λ d. if same_kind d k.Name then t.at else name_place ts) e ∙ ap (λ b. if b then t.at else name_place ts) f

name_itself : same_kind k.Name k.Name ≡ true
unfolding code
name_itself = refl

pub_is_none : same_kind k.Pub k.Name ≡ false
unfolding code
pub_is_none = refl

const_is_none : same_kind k.Const k.Name ≡ false
unfolding code
const_is_none = refl

fn_is_none : same_kind k.Fn k.Name ≡ false
unfolding code
fn_is_none = refl

hash_is_none : same_kind k.Hash k.Name ≡ false
unfolding code
hash_is_none = refl

left_is_none : same_kind k.LeftBracket k.Name ≡ false
unfolding code
left_is_none = refl

inline_is_none : same_kind k.Inline k.Name ≡ false
unfolding code
inline_is_none = refl

right_is_none : same_kind k.RightBracket k.Name ≡ false
unfolding code
right_is_none = refl

constant : {u : List Lexeme} {x : item.Item} → Matches _ (Nt Constant) u x → name_place u ≡ x.at
constant (m-nt (m-seq (m-tok {t} i) (m-seq (m-tok {t = v} j) (m-seq {a} m (m-seq (m-tok {t = w} l) (m-seq {a = e} n (m-tok {t = z} o))))))) = own t (v ∷ (a ++ w ∷ (e ++ z ∷ []))) i name_itself

marked : {a : List Lexeme} {x : _} (b : List Lexeme) → Matches _ (Opt (Nt Marker)) a x → name_place (a ++ b) ≡ name_place b
marked b m-none = refl
marked b (m-some (m-nt (m-seq (m-tok {t} i) (m-seq (m-tok {t = v} j) (m-seq (m-tok {t = w} l) (m-tok {t = z} n)))))) =
    skip t (v ∷ w ∷ z ∷ b) k.Hash i hash_is_none ∙ skip v (w ∷ z ∷ b) k.LeftBracket j left_is_none ∙ skip w (z ∷ b) k.Inline l inline_is_none ∙ skip z b k.RightBracket n right_is_none

published : {a : List Lexeme} {x : _} (b : List Lexeme) → Matches _ (Opt (Tok k.Pub)) a x → name_place (a ++ b) ≡ name_place b
published b m-none = refl
published b (m-some (m-tok {t} i)) = skip t b k.Pub i pub_is_none

function : {u : List Lexeme} {x : item.Item} → Matches _ (Nt Function) u x → name_place u ≡ x.at
function (m-nt (m-seq m (m-seq {a = b} n (m-seq (m-tok {t} i) (m-seq (m-tok {t = v} j) (m-seq {a = c} o (m-seq {a = d} {b = e} p q))))))) =
    marked (b ++ t ∷ v ∷ (c ++ (d ++ e))) m ∙ published (t ∷ v ∷ (c ++ (d ++ e))) n ∙ skip t (v ∷ (c ++ (d ++ e))) k.Fn i fn_is_none ∙ own v (c ++ (d ++ e)) j name_itself

definition : {u : List Lexeme} {x : item.Item} → Matches _ (Nt Definition) u x → name_place u ≡ x.at
definition (m-nt (m-ahead (m-seq (m-tok {t} i) (m-seq {b = a} (m-tok {t = v} j) m)))) = skip t (v ∷ a) k.Pub i pub_is_none ∙ skip v a k.Const j const_is_none ∙ constant m
definition (m-nt (m-not_ahead (m-left (m-seq {b = a} (m-tok {t} i) m)))) = skip t a k.Const i const_is_none ∙ constant m
definition (m-nt (m-not_ahead (m-right m))) = function m

-- as it is seen

relative_nowhere : (base : At) → relative base nowhere ≡ nowhere
relative_nowhere base = let l : zero - base.line ≡ 0 = omega arith in let c = column base.line base.column in λ i. record { line = l i; column = c i }
  where
    column : (l c : ℕ) → (if zero == l then zero - c else zero) ≡ 0
    column l c = grind (arith, nat_tests)

name_seen : (base : At) (u : List Lexeme) → name_place (seen base u) ≡ relative base (name_place u)
name_seen base [] = sym (relative_nowhere base)
name_seen base (t ∷ u) = go (same_kind t.kind k.Name) (name_seen base u)
  where
    go : (b : _) → name_place (seen base u) ≡ relative base (name_place u) → (if b then relative base t.at else name_place (seen base u)) ≡ relative base (if b then t.at else name_place u)
    go true e = refl
    go false e = e

abbrev Stands : Sited → Type 0
Stands s = s.placed.item.at ≡ relative s.placed.start s.at

sited : {u : List Lexeme} {s : Sited} → Matches _ (Nt Item) u s → Stands s
sited (m-nt (m-here {t} {a} m)) = sym (definition m) ∙ name_seen t.at (t ∷ a)

-- the items of a text

items : {u : List Lexeme} {ss : List Sited} → Matches _ (Rep (Nt Item)) u ss → Throughout Stands ss
items m-stop = tt
items (m-turn m n) = (sited m, items n)

abbrev AllStand : Section → Type 0
AllStand (Module at name ss) = Throughout Stands ss
AllStand (Alone s) = Stands s

contents : {u : List Lexeme} {x : Section} → Matches _ (Nt Contents) u x → AllStand x
contents (m-nt (m-seq (m-tok i) (m-seq (m-tok j) (m-seq m (m-tok l))))) = items m

part : {u : List Lexeme} {x : Section} → Matches _ (Nt Part) u x → AllStand x
part (m-nt (m-ahead (m-seq (m-tok i) (m-seq (m-tok j) m)))) = contents m
part (m-nt (m-not_ahead (m-left (m-seq (m-tok i) m)))) = contents m
part (m-nt (m-not_ahead (m-right m))) = sited m

parts : {u : List Lexeme} {xs : List Section} → Matches _ (Rep (Nt Part)) u xs → Throughout AllStand xs
parts m-stop = tt
parts (m-turn m n) = (part m, parts n)

text : {u : List Lexeme} {xs : List Section} → FitsCrate u xs → Throughout AllStand xs
text (m-nt m) = parts m

abbrev IsFound : List Placed → Named → Type 0
IsFound all d = (d.module ≡ None) ⊎ IsItemAt all d.at d.name

found_in : (all : List Placed) (name : List ℕ) (ss : List Sited) (more : List Placed) (ds : List Named) → Throughout Stands ss → ((p : Placed) → Contains (map (placed_in name) ss ++ more) p → Contains all p)
    → (((p : Placed) → Contains more p → Contains all p) → Throughout (IsFound all) ds) → Throughout (IsFound all) (map (name_in name) ss ++ ds)
found_in all name [] more ds h within later = later within
found_in all name (s ∷ ss) more ds h within later = (
  inr (record { placed = placed_in name s; listed = within (placed_in name s) (0, omega arith, refl); text = refl; place = h.0 }),
  found_in all name ss more ds h.1 (λ p c. within p (Contains-append_right (placed_in name s ∷ []) (map (placed_in name) ss ++ more) p c)) later,
)

found : (all : List Placed) (xs : List Section) → Throughout AllStand xs → ((p : Placed) → Contains (items_of xs) p → Contains all p) → Throughout (IsFound all) (names_of xs)
found all [] h within = tt
found all (Module at name ss ∷ xs) h within = (inl refl, found_in all name ss (items_of xs) (names_of xs) h.0 within (λ w. found all xs h.1 w))
found all (Alone s ∷ xs) h within = found_in all [] (s ∷ []) (items_of xs) (names_of xs) (h.0, tt) within (λ w. found all xs h.1 w)

one_of : {X : Type 0} (P : X → Type 0) (before : List X) (x : X) (rest : List X) → Throughout P (before ++ x ∷ rest) → P x
one_of P [] x rest h = h.0
one_of P (b ∷ before) x rest h = one_of P before x rest h.1

pub names_twice_stand : NamesTwiceStand
names_twice_stand tokens at name twice =
    let all = items_of twice.sections in
    let d = twice.twice in
    let f = one_of (IsFound all) d.first.before d.named d.first.rest (subst (Throughout (IsFound all)) d.first.parts (found all twice.sections (text twice.fit) (λ p c. c))) in
    elim f [ inl e ↦ inl e | inr i ↦ inr (record { placed = i.placed; listed = i.listed; text = i.text ∙ sym d.text; place = i.place ∙ ap (relative i.placed.start) (sym d.place) }) ]
