-- Which tokens a form may begin with, and which may go on after it is whole. Tables have it for the named
-- forms; `proofs/Fine.antt` checks them against the grammar.
use Rattle.std.specs.Prelude.{ℕ, Bool, true, false, ◌&&◌, ◌||◌, eqb, List, [], ◌∷◌}
use Rattle.rs_tree.specs.Kinds.{code}
use Rattle.rs_tree.specs.declared.kind.Kind.{Kind}
use Rattle.rs_grammar.specs.Lexeme.{Lexeme}
use Rattle.rs_grammar.specs.Grammar.{Rule, Shape, Pair, PubMod, PubConst, NameAssign, one, two, Grammar, Tok, Empty, Seq, Alt, Opt, Rep, Tail, Ahead, Here, Nt, Text, Part, Contents, Item, Definition, Constant, Function, Marker, Parameters, Params, OtherParams, Param, TypeName, Gives, Braced, Body, Rest, Worded, Statement, Binding, Typing, Returning, Loop, Choice, Arm, OtherArms, Printing, Block, Expression, OrNext, Conjunction, AndNext, Comparison, Compared, CmpSign, Sum, SumNext, SumSign, Product, ProductNext, ProductSign, Unary, UnarySign, Primary, Literal, Use, Route, Member, Arguments, Args, OtherArgs, Group}

-- how many kinds there are
abbrev pub kinds : ℕ
kinds = 48

abbrev pub has : ℕ → List ℕ → Bool
has c [] = false
has c (d ∷ []) = eqb c d
has c (d ∷ e ∷ ds) = eqb c d || has c (e ∷ ds)

-- the kinds, by their numbers, that a form may begin with
abbrev pub begin_of : Rule → List ℕ
begin_of Text = 5 ∷ 9 ∷ 14 ∷ 17 ∷ 27 ∷ []
begin_of Part = 5 ∷ 9 ∷ 14 ∷ 17 ∷ 27 ∷ []
begin_of Contents = 0 ∷ []
begin_of Item = 5 ∷ 9 ∷ 17 ∷ 27 ∷ []
begin_of Definition = 5 ∷ 9 ∷ 17 ∷ 27 ∷ []
begin_of Constant = 0 ∷ []
begin_of Function = 9 ∷ 17 ∷ 27 ∷ []
begin_of Marker = 27 ∷ []
begin_of Parameters = 21 ∷ []
begin_of Params = 0 ∷ []
begin_of OtherParams = 29 ∷ []
begin_of Param = 0 ∷ []
begin_of TypeName = 4 ∷ 10 ∷ []
begin_of Gives = 32 ∷ []
begin_of Braced = 23 ∷ []
begin_of Body = 0 ∷ 1 ∷ 6 ∷ 8 ∷ 11 ∷ 13 ∷ 16 ∷ 18 ∷ 19 ∷ 20 ∷ 21 ∷ 41 ∷ 45 ∷ []
begin_of Rest = 0 ∷ 1 ∷ 6 ∷ 8 ∷ 11 ∷ 13 ∷ 16 ∷ 18 ∷ 19 ∷ 20 ∷ 21 ∷ 41 ∷ 45 ∷ []
begin_of Worded = 11 ∷ 13 ∷ 16 ∷ 18 ∷ 20 ∷ []
begin_of Statement = 0 ∷ 1 ∷ 6 ∷ 8 ∷ 11 ∷ 13 ∷ 16 ∷ 18 ∷ 19 ∷ 20 ∷ 21 ∷ 41 ∷ 45 ∷ []
begin_of Binding = 13 ∷ []
begin_of Typing = 30 ∷ []
begin_of Returning = 18 ∷ []
begin_of Loop = 20 ∷ []
begin_of Choice = 11 ∷ []
begin_of Arm = 11 ∷ []
begin_of OtherArms = 7 ∷ []
begin_of Printing = 16 ∷ []
begin_of Block = 23 ∷ []
begin_of OrNext = 47 ∷ []
begin_of AndNext = 46 ∷ []
begin_of Compared = 34 ∷ 35 ∷ 36 ∷ 37 ∷ 38 ∷ 39 ∷ []
begin_of CmpSign = 34 ∷ 35 ∷ 36 ∷ 37 ∷ 38 ∷ 39 ∷ []
begin_of SumNext = 40 ∷ 41 ∷ []
begin_of SumSign = 40 ∷ 41 ∷ []
begin_of ProductNext = 42 ∷ 43 ∷ 44 ∷ []
begin_of ProductSign = 42 ∷ 43 ∷ 44 ∷ []
begin_of UnarySign = 41 ∷ 45 ∷ []
begin_of Primary = 0 ∷ 1 ∷ 6 ∷ 8 ∷ 19 ∷ 21 ∷ []
begin_of Literal = 1 ∷ 8 ∷ 19 ∷ []
begin_of Use = 0 ∷ 6 ∷ []
begin_of Route = 0 ∷ 6 ∷ []
begin_of Member = 31 ∷ []
begin_of Arguments = 21 ∷ []
begin_of OtherArgs = 29 ∷ []
begin_of Group = 21 ∷ []
begin_of _ = 0 ∷ 1 ∷ 6 ∷ 8 ∷ 19 ∷ 21 ∷ 41 ∷ 45 ∷ []

-- the kinds that may go on after a form that is whole
abbrev pub more_of : Rule → List ℕ
more_of Text = 5 ∷ 9 ∷ 14 ∷ 17 ∷ 27 ∷ []
more_of Params = 0 ∷ 29 ∷ []
more_of OtherParams = 0 ∷ 29 ∷ []
more_of Body = 0 ∷ 1 ∷ 6 ∷ 7 ∷ 8 ∷ 11 ∷ 13 ∷ 16 ∷ 18 ∷ 19 ∷ 20 ∷ 21 ∷ 28 ∷ 31 ∷ 33 ∷ 34 ∷ 35 ∷ 36 ∷ 37 ∷ 38 ∷ 39 ∷ 40 ∷ 41 ∷ 42 ∷ 43 ∷ 44 ∷ 45 ∷ 46 ∷ 47 ∷ []
more_of Rest = 0 ∷ 1 ∷ 6 ∷ 7 ∷ 8 ∷ 11 ∷ 13 ∷ 16 ∷ 18 ∷ 19 ∷ 20 ∷ 21 ∷ 28 ∷ 31 ∷ 33 ∷ 34 ∷ 35 ∷ 36 ∷ 37 ∷ 38 ∷ 39 ∷ 40 ∷ 41 ∷ 42 ∷ 43 ∷ 44 ∷ 45 ∷ 46 ∷ 47 ∷ []
more_of Worded = 7 ∷ []
more_of Statement = 7 ∷ []
more_of Choice = 7 ∷ []
more_of OtherArms = 7 ∷ []
more_of Expression = 21 ∷ 31 ∷ 34 ∷ 35 ∷ 36 ∷ 37 ∷ 38 ∷ 39 ∷ 40 ∷ 41 ∷ 42 ∷ 43 ∷ 44 ∷ 46 ∷ 47 ∷ []
more_of OrNext = 21 ∷ 31 ∷ 34 ∷ 35 ∷ 36 ∷ 37 ∷ 38 ∷ 39 ∷ 40 ∷ 41 ∷ 42 ∷ 43 ∷ 44 ∷ 46 ∷ []
more_of Conjunction = 21 ∷ 31 ∷ 34 ∷ 35 ∷ 36 ∷ 37 ∷ 38 ∷ 39 ∷ 40 ∷ 41 ∷ 42 ∷ 43 ∷ 44 ∷ 46 ∷ []
more_of AndNext = 21 ∷ 31 ∷ 34 ∷ 35 ∷ 36 ∷ 37 ∷ 38 ∷ 39 ∷ 40 ∷ 41 ∷ 42 ∷ 43 ∷ 44 ∷ []
more_of Comparison = 21 ∷ 31 ∷ 34 ∷ 35 ∷ 36 ∷ 37 ∷ 38 ∷ 39 ∷ 40 ∷ 41 ∷ 42 ∷ 43 ∷ 44 ∷ []
more_of Compared = 21 ∷ 31 ∷ 40 ∷ 41 ∷ 42 ∷ 43 ∷ 44 ∷ []
more_of Sum = 21 ∷ 31 ∷ 40 ∷ 41 ∷ 42 ∷ 43 ∷ 44 ∷ []
more_of SumNext = 21 ∷ 31 ∷ 42 ∷ 43 ∷ 44 ∷ []
more_of Product = 21 ∷ 31 ∷ 42 ∷ 43 ∷ 44 ∷ []
more_of ProductNext = 21 ∷ 31 ∷ []
more_of Unary = 21 ∷ 31 ∷ []
more_of Primary = 21 ∷ 31 ∷ []
more_of Use = 21 ∷ 31 ∷ []
more_of Route = 31 ∷ []
more_of Args = 0 ∷ 1 ∷ 6 ∷ 8 ∷ 19 ∷ 21 ∷ 29 ∷ 31 ∷ 34 ∷ 35 ∷ 36 ∷ 37 ∷ 38 ∷ 39 ∷ 40 ∷ 41 ∷ 42 ∷ 43 ∷ 44 ∷ 45 ∷ 46 ∷ 47 ∷ []
more_of OtherArgs = 0 ∷ 1 ∷ 6 ∷ 8 ∷ 19 ∷ 21 ∷ 29 ∷ 31 ∷ 34 ∷ 35 ∷ 36 ∷ 37 ∷ 38 ∷ 39 ∷ 40 ∷ 41 ∷ 42 ∷ 43 ∷ 44 ∷ 45 ∷ 46 ∷ 47 ∷ []
more_of _ = []

-- whether a form may have no token
abbrev pub empty_of : Rule → Bool
empty_of Text = true
empty_of OtherParams = true
empty_of Body = true
empty_of OtherArms = true
empty_of OtherArgs = true
empty_of _ = false

-- whether a form may have just one token
abbrev pub short_of : Rule → Bool
short_of OtherParams = true
short_of TypeName = true
short_of Body = true
short_of Rest = true
short_of Expression = true
short_of Conjunction = true
short_of Comparison = true
short_of CmpSign = true
short_of Sum = true
short_of SumSign = true
short_of Product = true
short_of ProductSign = true
short_of Unary = true
short_of UnarySign = true
short_of Primary = true
short_of Literal = true
short_of Use = true
short_of Route = true
short_of Args = true
short_of OtherArgs = true
short_of _ = false

-- whether a form may begin with these two tokens
abbrev pub pair_of : Pair → Rule → Bool
pair_of PubMod Text = true
pair_of PubConst Text = true
pair_of PubMod Part = true
pair_of PubConst Part = true
pair_of PubConst Item = true
pair_of PubConst Definition = true
pair_of NameAssign Body = true
pair_of NameAssign Rest = true
pair_of NameAssign Statement = true
pair_of _ _ = false

abbrev pub nullable : {s : Shape} → Grammar s → Bool
nullable (Tok c) = false
nullable Empty = true
nullable (Seq g h) = nullable g && nullable h
nullable (Alt g h) = nullable g || nullable h
nullable (Opt g) = true
nullable (Rep g) = true
nullable (Tail c g h) = true
nullable (Ahead p g h) = nullable h
nullable (Here g) = nullable g
nullable (Nt n) = empty_of n

-- the first of two parts, and the second where the first may be empty
abbrev pub in_either : Bool → Bool → Bool → Bool
in_either true a b = a || b
in_either false a b = a

abbrev pub first : {s : Shape} → Grammar s → ℕ → Bool
first (Tok c) k = eqb k (code c)
first Empty k = false
first (Seq g h) k = in_either (nullable g) (first g k) (first h k)
first (Alt g h) k = first g k || first h k
first (Opt g) k = first g k
first (Rep g) k = first g k
first (Tail c g h) k = eqb k (code c)
first (Ahead p g h) k = eqb k (code (one p)) || first h k
first (Here g) k = first g k
first (Nt n) k = has k (begin_of n)

abbrev pub short : {s : Shape} → Grammar s → Bool
short (Tok c) = true
short Empty = false
short (Seq g h) = (nullable g && short h) || (short g && nullable h)
short (Alt g h) = short g || short h
short (Opt g) = short g
short (Rep g) = short g
short (Tail c g h) = nullable g || nullable h
short (Ahead p g h) = short h
short (Here g) = short g
short (Nt n) = short_of n

abbrev pub more : {s : Shape} → Grammar s → ℕ → Bool
more (Tok c) k = false
more Empty k = false
more (Seq g h) k = more h k || (nullable h && (more g k || first h k))
more (Alt g h) k = more g k || more h k
more (Opt g) k = more g k || first g k
more (Rep g) k = more g k || first g k
more (Tail c g h) k = eqb k (code c) || (more g k || (more h k || (nullable h && (first g k || first h k))))
more (Ahead p g h) k = (more g k || (nullable g && first g k)) || (more h k || (short h && eqb k (code (two p))))
more (Here g) k = more g k
more (Nt n) k = has k (more_of n)

-- whether the next token is one of a set
abbrev pub next_in : (ℕ → Bool) → List Lexeme → Bool
next_in p [] = false
next_in p (t ∷ ts) = p (code t.kind)

-- whether the next two tokens are of these kinds
abbrev pub are_next : Kind → Kind → List Lexeme → Bool
are_next c d [] = false
are_next c d (t ∷ []) = false
are_next c d (t ∷ v ∷ u) = eqb (code t.kind) (code c) && eqb (code v.kind) (code d)

-- whether the next two tokens are the pair
abbrev pub next_pair : Pair → List Lexeme → Bool
next_pair p u = are_next (one p) (two p) u

-- whether a form may begin with the pair
abbrev pub pair : {s : Shape} → Pair → Grammar s → Bool
pair p (Tok c) = false
pair p Empty = false
pair p (Seq g h) = pair p g || ((first g (code (one p)) && first h (code (two p))) || (nullable g && pair p h))
pair p (Alt g h) = pair p g || pair p h
pair p (Opt g) = pair p g
pair p (Rep g) = pair p g || (first g (code (one p)) && first g (code (two p)))
pair p (Tail c g h) = eqb (code (one p)) (code c)
pair p (Ahead q g h) = (eqb (code (one p)) (code (one q)) && eqb (code (two p)) (code (two q))) || pair p h
pair p (Here g) = pair p g
pair p (Nt n) = pair_of p n
