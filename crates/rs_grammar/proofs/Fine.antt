-- The tables fit the grammar, and one token ahead is enough, or two.
use Rattle.std.proofs.Common.{◌≡◌, ℕ, Bool, true, false, not, ◌&&◌, refl, [], ◌∷◌, eq-eqb}
use Rattle.std.proofs.lemmas.Bool.{agree_below, agree_below_at}
use Rattle.rs_tree.specs.Kinds.{code}
use Rattle.rs_tree.specs.declared.kind.Kind.TheVariants as k
use Rattle.rs_grammar.specs.Lexeme.{Lexeme}
use Rattle.rs_grammar.specs.Grammar.{Rule, Pair, PubMod, PubConst, NameAssign, Text, Part, Contents, Item, Definition, Constant, Function, Marker, Parameters, Params, OtherParams, Param, TypeName, Gives, Braced, Body, Rest, Worded, Statement, Binding, Typing, Returning, Loop, Choice, Arm, OtherArms, Printing, Block, Expression, OrNext, Conjunction, AndNext, Comparison, Compared, CmpSign, Sum, SumNext, SumSign, Product, ProductNext, ProductSign, Unary, UnarySign, Primary, Literal, Use, Route, Member, Arguments, Args, OtherArgs, Group, Nt, rule, IsFront, f-tok, f-first, f-rest, f-left, f-right, f-some, f-not_ahead, f-here, f-nt, m-none}
use Rattle.rs_grammar.specs.Sets.{pair, pair_of}
use Rattle.rs_grammar.specs.Fine.{Within, Apart, IsFine}
use Rattle.rs_grammar.proofs.Begins.{same_kind_of}

within : (p q : ℕ → Bool) → agree_below (λ k. p k && not (q k)) (λ k. false) 48 ≡ true → Within p q
within p q e k l h = go (p k) (q k) h (agree_below_at (λ k. p k && not (q k)) (λ k. false) 48 k e l)
  where
    go : (a b : Bool) → a ≡ true → (a && not b) ≡ false → b ≡ true
    go true true h e = refl
    go true false h e = absurd cc
    go false b h e = absurd cc

apart : (p q : ℕ → Bool) → agree_below (λ k. p k && q k) (λ k. false) 48 ≡ true → Apart p q
apart p q e k l h = go (p k) (q k) h (agree_below_at (λ k. p k && q k) (λ k. false) 48 k e l)
  where
    go : (a b : Bool) → a ≡ true → (a && b) ≡ false → b ≡ false
    go true true h e = absurd cc
    go true false h e = refl
    go false b h e = absurd cc

by_pair : (n : Rule) → (pair PubMod (rule n) ≡ true → pair_of PubMod n ≡ true) → (pair PubConst (rule n) ≡ true → pair_of PubConst n ≡ true) → (pair NameAssign (rule n) ≡ true → pair_of NameAssign n ≡ true)
    → (p : Pair) → pair p (rule n) ≡ true → pair_of p n ≡ true
by_pair n a b c PubMod = a
by_pair n a b c PubConst = b
by_pair n a b c NameAssign = c

-- `pub` is a front of a function, and so of an item
function_front : (t : Lexeme) → code t.kind ≡ code k.Pub → IsFront _ (Nt Function) (t ∷ [])
function_front t e = f-nt {n = Function} (f-rest m-none (f-first (f-some (f-tok (same_kind_of t.kind k.Pub (eq-eqb _ _ e))))))

item_front : (t : Lexeme) → code t.kind ≡ code k.Pub → IsFront _ (Nt Item) (t ∷ [])
item_front t e = f-nt {n = Item} (f-here (f-nt {n = Definition} (f-not_ahead (f-right (function_front _ e)))))

-- a name is a front of an expression
name_front : (t : Lexeme) → code t.kind ≡ code k.Name → IsFront _ (Nt Expression) (t ∷ [])
name_front t e = f-nt {n = Expression} (f-first (f-nt {n = Conjunction} (f-first (f-nt {n = Comparison} (f-first (f-nt {n = Sum} (f-first (f-nt {n = Product} (f-first (f-nt {n = Unary}
    (f-rest m-none (f-nt {n = Primary} (f-right (f-left (f-nt {n = Use} (f-first (f-nt {n = Route} (f-left (f-first (f-tok (same_kind_of t.kind k.Name (eq-eqb _ _ e))))))))))))))))))))))

pub fine : (n : Rule) → IsFine n
unfolding code
fine Text = record { begins = within _ _ refl; goes_on = within _ _ refl; empties = λ e. e; shorts = λ e. e; pairs = by_pair _ (λ e. e) (λ e. e) (λ e. e); parts = (refl, apart _ _ refl, tt) }
fine Part = record { begins = within _ _ refl; goes_on = within _ _ refl; empties = λ e. e; shorts = λ e. e; pairs = by_pair _ (λ e. e) (λ e. e) (λ e. e); parts = (refl, refl, (λ t e. f-right (item_front t e)), tt, (refl, refl, apart _ _ refl, (apart _ _ refl, tt, tt), tt)) }
fine Contents = record { begins = within _ _ refl; goes_on = within _ _ refl; empties = λ e. e; shorts = λ e. e; pairs = by_pair _ (λ e. e) (λ e. e) (λ e. e); parts = (apart _ _ refl, tt, (apart _ _ refl, tt, (apart _ _ refl, (refl, apart _ _ refl, tt), tt))) }
fine Item = record { begins = within _ _ refl; goes_on = within _ _ refl; empties = λ e. e; shorts = λ e. e; pairs = by_pair _ (λ e. e) (λ e. e) (λ e. e); parts = (refl, tt) }
fine Definition = record { begins = within _ _ refl; goes_on = within _ _ refl; empties = λ e. e; shorts = λ e. e; pairs = by_pair _ (λ e. e) (λ e. e) (λ e. e); parts = (refl, refl, (λ t e. f-right (function_front t e)), tt, (refl, refl, apart _ _ refl, (apart _ _ refl, tt, tt), tt)) }
fine Constant = record { begins = within _ _ refl; goes_on = within _ _ refl; empties = λ e. e; shorts = λ e. e; pairs = by_pair _ (λ e. e) (λ e. e) (λ e. e); parts = (apart _ _ refl, tt, (apart _ _ refl, tt, (apart _ _ refl, tt, (apart _ _ refl, tt, (apart _ _ refl, tt, tt))))) }
fine Function = record { begins = within _ _ refl; goes_on = within _ _ refl; empties = λ e. e; shorts = λ e. e; pairs = by_pair _ (λ e. e) (λ e. e) (λ e. e); parts = (apart _ _ refl, (refl, tt), (apart _ _ refl, (refl, tt), (apart _ _ refl, tt, (apart _ _ refl, tt, (apart _ _ refl, tt, (apart _ _ refl, (refl, tt), tt)))))) }
fine Marker = record { begins = within _ _ refl; goes_on = within _ _ refl; empties = λ e. e; shorts = λ e. e; pairs = by_pair _ (λ e. e) (λ e. e) (λ e. e); parts = (apart _ _ refl, tt, (apart _ _ refl, tt, (apart _ _ refl, tt, tt))) }
fine Parameters = record { begins = within _ _ refl; goes_on = within _ _ refl; empties = λ e. e; shorts = λ e. e; pairs = by_pair _ (λ e. e) (λ e. e) (λ e. e); parts = (apart _ _ refl, tt, (apart _ _ refl, (refl, tt), tt)) }
fine Params = record { begins = within _ _ refl; goes_on = within _ _ refl; empties = λ e. e; shorts = λ e. e; pairs = by_pair _ (λ e. e) (λ e. e) (λ e. e); parts = (apart _ _ refl, tt, tt) }
fine OtherParams = record { begins = within _ _ refl; goes_on = within _ _ refl; empties = λ e. e; shorts = λ e. e; pairs = by_pair _ (λ e. e) (λ e. e) (λ e. e); parts = (refl, refl, apart _ _ refl, tt, tt) }
fine Param = record { begins = within _ _ refl; goes_on = within _ _ refl; empties = λ e. e; shorts = λ e. e; pairs = by_pair _ (λ e. e) (λ e. e) (λ e. e); parts = (apart _ _ refl, tt, (apart _ _ refl, tt, tt)) }
fine TypeName = record { begins = within _ _ refl; goes_on = within _ _ refl; empties = λ e. e; shorts = λ e. e; pairs = by_pair _ (λ e. e) (λ e. e) (λ e. e); parts = (refl, refl, apart _ _ refl, tt, tt) }
fine Gives = record { begins = within _ _ refl; goes_on = within _ _ refl; empties = λ e. e; shorts = λ e. e; pairs = by_pair _ (λ e. e) (λ e. e) (λ e. e); parts = (apart _ _ refl, tt, tt) }
fine Braced = record { begins = within _ _ refl; goes_on = within _ _ refl; empties = λ e. e; shorts = λ e. e; pairs = by_pair _ (λ e. e) (λ e. e) (λ e. e); parts = (apart _ _ refl, tt, (apart _ _ refl, tt, tt)) }
fine Body = record { begins = within _ _ refl; goes_on = within _ _ refl; empties = λ e. e; shorts = λ e. e; pairs = by_pair _ (λ e. e) (λ e. e) (λ e. e); parts = (refl, tt) }
fine Rest = record { begins = within _ _ refl; goes_on = within _ _ refl; empties = λ e. e; shorts = λ e. e; pairs = by_pair _ (λ e. e) (λ e. e) (λ e. e); parts = (refl, refl, apart _ _ refl, (apart _ _ refl, tt, tt), (refl, refl, (λ t e. f-first (name_front t e)), (apart _ _ refl, tt, (apart _ _ refl, tt, tt)), (apart _ _ refl, tt, (refl, (apart _ _ refl, tt, tt))))) }
fine Worded = record { begins = within _ _ refl; goes_on = within _ _ refl; empties = λ e. e; shorts = λ e. e; pairs = by_pair _ (λ e. e) (λ e. e) (λ e. e); parts = (refl, refl, apart _ _ refl, tt, (refl, refl, apart _ _ refl, tt, (refl, refl, apart _ _ refl, tt, (refl, refl, apart _ _ refl, tt, tt)))) }
fine Statement = record { begins = within _ _ refl; goes_on = within _ _ refl; empties = λ e. e; shorts = λ e. e; pairs = by_pair _ (λ e. e) (λ e. e) (λ e. e); parts = (refl, refl, apart _ _ refl, tt, (refl, refl, (λ t e. f-first (name_front t e)), (apart _ _ refl, tt, tt), (apart _ _ refl, tt, tt))) }
fine Binding = record { begins = within _ _ refl; goes_on = within _ _ refl; empties = λ e. e; shorts = λ e. e; pairs = by_pair _ (λ e. e) (λ e. e) (λ e. e); parts = (apart _ _ refl, tt, (apart _ _ refl, (refl, tt), (apart _ _ refl, tt, (apart _ _ refl, (refl, tt), (apart _ _ refl, tt, (apart _ _ refl, tt, tt)))))) }
fine Typing = record { begins = within _ _ refl; goes_on = within _ _ refl; empties = λ e. e; shorts = λ e. e; pairs = by_pair _ (λ e. e) (λ e. e) (λ e. e); parts = (apart _ _ refl, tt, tt) }
fine Returning = record { begins = within _ _ refl; goes_on = within _ _ refl; empties = λ e. e; shorts = λ e. e; pairs = by_pair _ (λ e. e) (λ e. e) (λ e. e); parts = (apart _ _ refl, tt, (apart _ _ refl, (refl, tt), tt)) }
fine Loop = record { begins = within _ _ refl; goes_on = within _ _ refl; empties = λ e. e; shorts = λ e. e; pairs = by_pair _ (λ e. e) (λ e. e) (λ e. e); parts = (apart _ _ refl, tt, (apart _ _ refl, tt, tt)) }
fine Choice = record { begins = within _ _ refl; goes_on = within _ _ refl; empties = λ e. e; shorts = λ e. e; pairs = by_pair _ (λ e. e) (λ e. e) (λ e. e); parts = (apart _ _ refl, tt, tt) }
fine Arm = record { begins = within _ _ refl; goes_on = within _ _ refl; empties = λ e. e; shorts = λ e. e; pairs = by_pair _ (λ e. e) (λ e. e) (λ e. e); parts = (apart _ _ refl, tt, (apart _ _ refl, tt, tt)) }
fine OtherArms = record { begins = within _ _ refl; goes_on = within _ _ refl; empties = λ e. e; shorts = λ e. e; pairs = by_pair _ (λ e. e) (λ e. e) (λ e. e); parts = (refl, refl, apart _ _ refl, tt, tt) }
fine Printing = record { begins = within _ _ refl; goes_on = within _ _ refl; empties = λ e. e; shorts = λ e. e; pairs = by_pair _ (λ e. e) (λ e. e) (λ e. e); parts = (apart _ _ refl, tt, (apart _ _ refl, tt, (apart _ _ refl, tt, (apart _ _ refl, tt, (apart _ _ refl, tt, (apart _ _ refl, tt, (apart _ _ refl, tt, tt))))))) }
fine Block = record { begins = within _ _ refl; goes_on = within _ _ refl; empties = λ e. e; shorts = λ e. e; pairs = by_pair _ (λ e. e) (λ e. e) (λ e. e); parts = (apart _ _ refl, tt, (apart _ _ refl, (refl, apart _ _ refl, tt), tt)) }
fine Expression = record { begins = within _ _ refl; goes_on = within _ _ refl; empties = λ e. e; shorts = λ e. e; pairs = by_pair _ (λ e. e) (λ e. e) (λ e. e); parts = (apart _ _ refl, tt, (refl, apart _ _ refl, tt)) }
fine OrNext = record { begins = within _ _ refl; goes_on = within _ _ refl; empties = λ e. e; shorts = λ e. e; pairs = by_pair _ (λ e. e) (λ e. e) (λ e. e); parts = (apart _ _ refl, tt, tt) }
fine Conjunction = record { begins = within _ _ refl; goes_on = within _ _ refl; empties = λ e. e; shorts = λ e. e; pairs = by_pair _ (λ e. e) (λ e. e) (λ e. e); parts = (apart _ _ refl, tt, (refl, apart _ _ refl, tt)) }
fine AndNext = record { begins = within _ _ refl; goes_on = within _ _ refl; empties = λ e. e; shorts = λ e. e; pairs = by_pair _ (λ e. e) (λ e. e) (λ e. e); parts = (apart _ _ refl, tt, tt) }
fine Comparison = record { begins = within _ _ refl; goes_on = within _ _ refl; empties = λ e. e; shorts = λ e. e; pairs = by_pair _ (λ e. e) (λ e. e) (λ e. e); parts = (apart _ _ refl, tt, (refl, tt)) }
fine Compared = record { begins = within _ _ refl; goes_on = within _ _ refl; empties = λ e. e; shorts = λ e. e; pairs = by_pair _ (λ e. e) (λ e. e) (λ e. e); parts = (apart _ _ refl, tt, tt) }
fine CmpSign = record { begins = within _ _ refl; goes_on = within _ _ refl; empties = λ e. e; shorts = λ e. e; pairs = by_pair _ (λ e. e) (λ e. e) (λ e. e); parts = (refl, refl, apart _ _ refl, tt, (refl, refl, apart _ _ refl, tt, (refl, refl, apart _ _ refl, tt, (refl, refl, apart _ _ refl, tt, (refl, refl, apart _ _ refl, tt, tt))))) }
fine Sum = record { begins = within _ _ refl; goes_on = within _ _ refl; empties = λ e. e; shorts = λ e. e; pairs = by_pair _ (λ e. e) (λ e. e) (λ e. e); parts = (apart _ _ refl, tt, (refl, apart _ _ refl, tt)) }
fine SumNext = record { begins = within _ _ refl; goes_on = within _ _ refl; empties = λ e. e; shorts = λ e. e; pairs = by_pair _ (λ e. e) (λ e. e) (λ e. e); parts = (apart _ _ refl, tt, tt) }
fine SumSign = record { begins = within _ _ refl; goes_on = within _ _ refl; empties = λ e. e; shorts = λ e. e; pairs = by_pair _ (λ e. e) (λ e. e) (λ e. e); parts = (refl, refl, apart _ _ refl, tt, tt) }
fine Product = record { begins = within _ _ refl; goes_on = within _ _ refl; empties = λ e. e; shorts = λ e. e; pairs = by_pair _ (λ e. e) (λ e. e) (λ e. e); parts = (apart _ _ refl, tt, (refl, apart _ _ refl, tt)) }
fine ProductNext = record { begins = within _ _ refl; goes_on = within _ _ refl; empties = λ e. e; shorts = λ e. e; pairs = by_pair _ (λ e. e) (λ e. e) (λ e. e); parts = (apart _ _ refl, tt, tt) }
fine ProductSign = record { begins = within _ _ refl; goes_on = within _ _ refl; empties = λ e. e; shorts = λ e. e; pairs = by_pair _ (λ e. e) (λ e. e) (λ e. e); parts = (refl, refl, apart _ _ refl, tt, (refl, refl, apart _ _ refl, tt, tt)) }
fine Unary = record { begins = within _ _ refl; goes_on = within _ _ refl; empties = λ e. e; shorts = λ e. e; pairs = by_pair _ (λ e. e) (λ e. e) (λ e. e); parts = (apart _ _ refl, (refl, tt), tt) }
fine UnarySign = record { begins = within _ _ refl; goes_on = within _ _ refl; empties = λ e. e; shorts = λ e. e; pairs = by_pair _ (λ e. e) (λ e. e) (λ e. e); parts = (refl, refl, apart _ _ refl, tt, tt) }
fine Primary = record { begins = within _ _ refl; goes_on = within _ _ refl; empties = λ e. e; shorts = λ e. e; pairs = by_pair _ (λ e. e) (λ e. e) (λ e. e); parts = (refl, refl, apart _ _ refl, tt, (refl, refl, apart _ _ refl, tt, tt)) }
fine Literal = record { begins = within _ _ refl; goes_on = within _ _ refl; empties = λ e. e; shorts = λ e. e; pairs = by_pair _ (λ e. e) (λ e. e) (λ e. e); parts = (refl, refl, apart _ _ refl, tt, (refl, refl, apart _ _ refl, tt, tt)) }
fine Use = record { begins = within _ _ refl; goes_on = within _ _ refl; empties = λ e. e; shorts = λ e. e; pairs = by_pair _ (λ e. e) (λ e. e) (λ e. e); parts = (apart _ _ refl, tt, (refl, tt)) }
fine Route = record { begins = within _ _ refl; goes_on = within _ _ refl; empties = λ e. e; shorts = λ e. e; pairs = by_pair _ (λ e. e) (λ e. e) (λ e. e); parts = (refl, refl, apart _ _ refl, (apart _ _ refl, tt, (refl, tt)), (apart _ _ refl, tt, (apart _ _ refl, tt, (refl, tt)))) }
fine Member = record { begins = within _ _ refl; goes_on = within _ _ refl; empties = λ e. e; shorts = λ e. e; pairs = by_pair _ (λ e. e) (λ e. e) (λ e. e); parts = (apart _ _ refl, tt, tt) }
fine Arguments = record { begins = within _ _ refl; goes_on = within _ _ refl; empties = λ e. e; shorts = λ e. e; pairs = by_pair _ (λ e. e) (λ e. e) (λ e. e); parts = (apart _ _ refl, tt, (apart _ _ refl, (refl, tt), tt)) }
fine Args = record { begins = within _ _ refl; goes_on = within _ _ refl; empties = λ e. e; shorts = λ e. e; pairs = by_pair _ (λ e. e) (λ e. e) (λ e. e); parts = (apart _ _ refl, tt, tt) }
fine OtherArgs = record { begins = within _ _ refl; goes_on = within _ _ refl; empties = λ e. e; shorts = λ e. e; pairs = by_pair _ (λ e. e) (λ e. e) (λ e. e); parts = (refl, refl, apart _ _ refl, tt, tt) }
fine Group = record { begins = within _ _ refl; goes_on = within _ _ refl; empties = λ e. e; shorts = λ e. e; pairs = by_pair _ (λ e. e) (λ e. e) (λ e. e); parts = (apart _ _ refl, tt, (apart _ _ refl, tt, tt)) }
