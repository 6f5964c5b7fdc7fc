-- The grammar of the language (docs/LANGUAGE.md, "Grammar"), and what each of its forms stands for.
use Rattle.std.specs.Prelude.{◌≡◌, ℕ, pos, true, false, is_some, map, List, [], ◌∷◌, ◌++◌, Option, Some, None, ◌⊎◌}
use Rattle.std.proofs.Common.{inl, inr}
use Rattle.rs_tree.specs.Words.{value_of}
use Rattle.rs_tree.specs.declared.kind.Kind.{Kind}
use Rattle.rs_tree.specs.declared.kind.Kind.TheVariants as k
use Rattle.rs_tree.specs.declared.place.At.{At}
use Rattle.rs_tree.specs.declared.tree.Path as path
use Rattle.rs_tree.specs.declared.tree.Param as param
use Rattle.rs_tree.specs.declared.tree.Item as item
use Rattle.rs_tree.specs.declared.tree.Body.TheVariants as body
use Rattle.rs_tree.specs.declared.tree.Typ.{Typ}
use Rattle.rs_tree.specs.declared.tree.Typ.TheVariants as typ
use Rattle.rs_tree.specs.declared.tree.UnaryOp.{UnaryOp}
use Rattle.rs_tree.specs.declared.tree.UnaryOp.TheVariants as unary
use Rattle.rs_tree.specs.declared.tree.ArithOp.{ArithOp}
use Rattle.rs_tree.specs.declared.tree.ArithOp.TheVariants as arith
use Rattle.rs_tree.specs.declared.tree.CmpOp.{CmpOp}
use Rattle.rs_tree.specs.declared.tree.CmpOp.TheVariants as cmp
use Rattle.rs_tree.specs.declared.tree.Expr.{Expr}
use Rattle.rs_tree.specs.declared.tree.Form.{Form}
use Rattle.rs_tree.specs.declared.tree.Form.TheVariants as form
use Rattle.rs_tree.specs.declared.tree.Stmt.{Stmt}
use Rattle.rs_tree.specs.declared.tree.Stmt.TheVariants as stmt
use Rattle.rs_grammar.specs.declared.sited.Sited.{Sited}
use Rattle.rs_grammar.specs.Lexeme.{Lexeme, name_place, seen, start_of, token}

-- the forms that the grammar names
pub data Rule : Type 0 where
  Text Part Contents Item Definition Constant Function Marker Parameters Params OtherParams Param TypeName Gives Braced : Rule
  Body Rest Worded Statement Binding Typing Returning Loop Choice Arm OtherArms Printing Block : Rule
  Expression OrNext Conjunction AndNext Comparison Compared CmpSign Sum SumNext SumSign Product ProductNext ProductSign : Rule
  Unary UnarySign Primary Literal Use Route Member Arguments Args OtherArgs Group : Rule

-- what stands in a text: a module, with the place and the text of its name and its items, or an item
pub data Section : Type 0 where
  Module : (at : At) (name : List ℕ) (items : List Sited) → Section
  Alone : (item : Sited) → Section

-- the tree of a form
abbrev pub Tree : Rule → Type 0
Tree Text = List Section
Tree Part = Section
Tree Contents = Section
Tree Item = Sited
Tree Definition = item.Item
Tree Constant = item.Item
Tree Function = item.Item
Tree Marker = Unit {0}
Tree Parameters = List param.Param
Tree Params = List param.Param
Tree OtherParams = List param.Param
Tree Param = param.Param
Tree TypeName = Typ
Tree Gives = Typ
Tree Braced = List Stmt × Option Expr
Tree Body = List Stmt × Option Expr
Tree Rest = List Stmt × Option Expr
Tree Worded = Stmt
Tree Statement = Stmt
Tree Binding = Stmt
Tree Typing = Typ
Tree Returning = Stmt
Tree Loop = Stmt
Tree Choice = Stmt
Tree Arm = Expr × List Stmt
Tree OtherArms = List (Expr × List Stmt) × Option (List Stmt)
Tree Printing = Stmt
Tree Block = List Stmt
Tree CmpSign = CmpOp
Tree SumSign = ArithOp
Tree ProductSign = ArithOp
Tree UnarySign = At × UnaryOp
Tree Compared = CmpOp × Expr
Tree SumNext = ArithOp × Expr
Tree ProductNext = ArithOp × Expr
Tree Route = path.Path
Tree Member = List ℕ
Tree Arguments = List Expr
Tree Args = List Expr
Tree OtherArgs = List Expr
Tree _ = Expr

-- what a part of a form is read as
pub data Shape : Type 0 where
  lexeme nothing : Shape
  both either : Shape → Shape → Shape
  maybe many placed : Shape → Shape
  tree : Rule → Shape

abbrev pub Val : Shape → Type 0
Val lexeme = Lexeme
Val nothing = Unit {0}
Val (both s t) = Val s × Val t
Val (either s t) = Val s ⊎ Val t
Val (maybe s) = Option (Val s)
Val (many s) = List (Val s)
Val (placed s) = List Lexeme × Val s
Val (tree n) = Tree n

-- two tokens that settle which of two forms it is
pub data Pair : Type 0 where
  PubMod PubConst NameAssign : Pair

abbrev pub one : Pair → Kind
one PubMod = k.Pub
one PubConst = k.Pub
one NameAssign = k.Name

abbrev pub two : Pair → Kind
two PubMod = k.Mod
two PubConst = k.Const
two NameAssign = k.Assign

-- Forms as a grammar writes them.
pub data Grammar : Shape → Type 0 where
  -- a token
  Tok : Kind → Grammar lexeme
  -- no token
  Empty : Grammar nothing
  -- g h
  Seq : {s t : Shape} → Grammar s → Grammar t → Grammar (both s t)
  -- g | h
  Alt : {s t : Shape} → Grammar s → Grammar t → Grammar (either s t)
  -- [ g ]
  Opt : {s : Shape} → Grammar s → Grammar (maybe s)
  -- { g }
  Rep : {s : Shape} → Grammar s → Grammar (many s)
  -- { c g } [ c h ]
  Tail : {s t : Shape} → Kind → Grammar s → Grammar t → Grammar (both (many s) (maybe t))
  -- one two g | h
  Ahead : {s t : Shape} → Pair → Grammar s → Grammar t → Grammar (either (both lexeme (both lexeme s)) t)
  -- g, its places relative to its first token; its value has the tokens as they stand in the text
  Here : {s : Shape} → Grammar s → Grammar (placed s)
  -- a form with a name
  Nt : (n : Rule) → Grammar (tree n)

infixr 20 ◌·◌
abbrev pub ◌·◌ : {s t : Shape} → Grammar s → Grammar t → Grammar (both s t)
g · h = Seq g h

abbrev pub shape : Rule → Shape
shape Text = many (tree Part)
shape Part = either (both lexeme (both lexeme (tree Contents))) (either (both lexeme (tree Contents)) (tree Item))
shape Contents = both lexeme (both lexeme (both (many (tree Item)) lexeme))
shape Item = placed (tree Definition)
shape Definition = either (both lexeme (both lexeme (tree Constant))) (either (both lexeme (tree Constant)) (tree Function))
shape Constant = both lexeme (both lexeme (both (tree TypeName) (both lexeme (both (tree Expression) lexeme))))
shape Function = both (maybe (tree Marker)) (both (maybe lexeme) (both lexeme (both lexeme (both (tree Parameters) (both (maybe (tree Gives)) (tree Braced))))))
shape Marker = both lexeme (both lexeme (both lexeme lexeme))
shape Parameters = both lexeme (both (maybe (tree Params)) lexeme)
shape Params = both (tree Param) (tree OtherParams)
shape OtherParams = both (many (tree Param)) (maybe nothing)
shape Param = both lexeme (both lexeme (tree TypeName))
shape TypeName = either lexeme lexeme
shape Gives = both lexeme (tree TypeName)
shape Braced = both lexeme (both (tree Body) lexeme)
shape Body = maybe (tree Rest)
shape Rest = either (both (tree Worded) (tree Body)) (either (both lexeme (both lexeme (both (tree Expression) (both lexeme (tree Body))))) (both (tree Expression) (maybe (both lexeme (tree Body)))))
shape Worded = either (tree Binding) (either (tree Returning) (either (tree Loop) (either (tree Choice) (tree Printing))))
shape Statement = either (tree Worded) (either (both lexeme (both lexeme (both (tree Expression) lexeme))) (both (tree Expression) lexeme))
shape Binding = both lexeme (both (maybe lexeme) (both lexeme (both (maybe (tree Typing)) (both lexeme (both (tree Expression) lexeme)))))
shape Typing = both lexeme (tree TypeName)
shape Returning = both lexeme (both (maybe (tree Expression)) lexeme)
shape Loop = both lexeme (both (tree Expression) (tree Block))
shape Choice = both (tree Arm) (tree OtherArms)
shape Arm = both lexeme (both (tree Expression) (tree Block))
shape OtherArms = both (many (tree Arm)) (maybe (tree Block))
shape Printing = both lexeme (both lexeme (both lexeme (both lexeme (both lexeme (both (tree Expression) (both lexeme lexeme))))))
shape Block = both lexeme (both (many (tree Statement)) lexeme)
shape Expression = both (tree Conjunction) (many (tree OrNext))
shape OrNext = both lexeme (tree Conjunction)
shape Conjunction = both (tree Comparison) (many (tree AndNext))
shape AndNext = both lexeme (tree Comparison)
shape Comparison = both (tree Sum) (maybe (tree Compared))
shape Compared = both (tree CmpSign) (tree Sum)
shape CmpSign = either lexeme (either lexeme (either lexeme (either lexeme (either lexeme lexeme))))
shape Sum = both (tree Product) (many (tree SumNext))
shape SumNext = both (tree SumSign) (tree Product)
shape SumSign = either lexeme lexeme
shape Product = both (tree Unary) (many (tree ProductNext))
shape ProductNext = both (tree ProductSign) (tree Unary)
shape ProductSign = either lexeme (either lexeme lexeme)
shape Unary = both (maybe (tree UnarySign)) (tree Primary)
shape UnarySign = either lexeme lexeme
shape Primary = either (tree Literal) (either (tree Use) (tree Group))
shape Literal = either lexeme (either lexeme lexeme)
shape Use = both (tree Route) (maybe (tree Arguments))
shape Route = either (both lexeme (maybe (tree Member))) (both lexeme (both (tree Member) (maybe (tree Member))))
shape Member = both lexeme lexeme
shape Arguments = both lexeme (both (maybe (tree Args)) lexeme)
shape Args = both (tree Expression) (tree OtherArgs)
shape OtherArgs = both (many (tree Expression)) (maybe nothing)
shape Group = both lexeme (both (tree Expression) lexeme)

-- The grammar, factored for reading from the left. Where it differs from the one that docs/LANGUAGE.md writes,
-- `written` below has the written rule; that both grammars say the same is a law (`specs/Written.antt`).
abbrev pub rule : (n : Rule) → Grammar (shape n)
rule Text = Rep (Nt Part)
-- ["pub"] "mod" .. | item
rule Part = Ahead PubMod (Nt Contents) (Alt (Tok k.Mod · Nt Contents) (Nt Item))
rule Contents = Tok k.Name · Tok k.LeftBrace · Rep (Nt Item) · Tok k.RightBrace
rule Item = Here (Nt Definition)
-- ["pub"] "const" .. | function
rule Definition = Ahead PubConst (Nt Constant) (Alt (Tok k.Const · Nt Constant) (Nt Function))
rule Constant = Tok k.Name · Tok k.Colon · Nt TypeName · Tok k.Assign · Nt Expression · Tok k.Semicolon
rule Function = Opt (Nt Marker) · Opt (Tok k.Pub) · Tok k.Fn · Tok k.Name · Nt Parameters · Opt (Nt Gives) · Nt Braced
rule Marker = Tok k.Hash · Tok k.LeftBracket · Tok k.Inline · Tok k.RightBracket
rule Parameters = Tok k.LeftParen · Opt (Nt Params) · Tok k.RightParen
rule Params = Nt Param · Nt OtherParams
-- { "," param } [","]
rule OtherParams = Tail k.Comma (Nt Param) Empty
rule Param = Tok k.Name · Tok k.Colon · Nt TypeName
rule TypeName = Alt (Tok k.Int) (Tok k.Bool)
rule Gives = Tok k.Arrow · Nt TypeName
rule Braced = Tok k.LeftBrace · Nt Body · Tok k.RightBrace
-- { stmt } [ expr ]
rule Body = Opt (Nt Rest)
-- the same, not empty
rule Rest = Alt (Nt Worded · Nt Body) (Ahead NameAssign (Nt Expression · Tok k.Semicolon · Nt Body) (Nt Expression · Opt (Tok k.Semicolon · Nt Body)))
rule Worded = Alt (Nt Binding) (Alt (Nt Returning) (Alt (Nt Loop) (Alt (Nt Choice) (Nt Printing))))
rule Statement = Alt (Nt Worded) (Ahead NameAssign (Nt Expression · Tok k.Semicolon) (Nt Expression · Tok k.Semicolon))
rule Binding = Tok k.Let · Opt (Tok k.Mut) · Tok k.Name · Opt (Nt Typing) · Tok k.Assign · Nt Expression · Tok k.Semicolon
rule Typing = Tok k.Colon · Nt TypeName
rule Returning = Tok k.Return · Opt (Nt Expression) · Tok k.Semicolon
rule Loop = Tok k.While · Nt Expression · Nt Block
rule Choice = Nt Arm · Nt OtherArms
rule Arm = Tok k.If · Nt Expression · Nt Block
-- { "else" arm } [ "else" block ]
rule OtherArms = Tail k.Else (Nt Arm) (Nt Block)
rule Printing = Tok k.Println · Tok k.Not · Tok k.LeftParen · Tok k.Text · Tok k.Comma · Nt Expression · Tok k.RightParen · Tok k.Semicolon
rule Block = Tok k.LeftBrace · Rep (Nt Statement) · Tok k.RightBrace
rule Expression = Nt Conjunction · Rep (Nt OrNext)
rule OrNext = Tok k.Or · Nt Conjunction
rule Conjunction = Nt Comparison · Rep (Nt AndNext)
rule AndNext = Tok k.And · Nt Comparison
rule Comparison = Nt Sum · Opt (Nt Compared)
rule Compared = Nt CmpSign · Nt Sum
rule CmpSign = Alt (Tok k.Equal) (Alt (Tok k.NotEqual) (Alt (Tok k.Less) (Alt (Tok k.Greater) (Alt (Tok k.AtMost) (Tok k.AtLeast)))))
rule Sum = Nt Product · Rep (Nt SumNext)
rule SumNext = Nt SumSign · Nt Product
rule SumSign = Alt (Tok k.Plus) (Tok k.Minus)
rule Product = Nt Unary · Rep (Nt ProductNext)
rule ProductNext = Nt ProductSign · Nt Unary
rule ProductSign = Alt (Tok k.Star) (Alt (Tok k.Slash) (Tok k.Percent))
rule Unary = Opt (Nt UnarySign) · Nt Primary
rule UnarySign = Alt (Tok k.Minus) (Tok k.Not)
rule Primary = Alt (Nt Literal) (Alt (Nt Use) (Nt Group))
rule Literal = Alt (Tok k.Number) (Alt (Tok k.True) (Tok k.False))
rule Use = Nt Route · Opt (Nt Arguments)
-- name ["::" name] | "crate" "::" name ["::" name]
rule Route = Alt (Tok k.Name · Opt (Nt Member)) (Tok k.Crate · Nt Member · Opt (Nt Member))
rule Member = Tok k.DoubleColon · Tok k.Name
rule Arguments = Tok k.LeftParen · Opt (Nt Args) · Tok k.RightParen
rule Args = Nt Expression · Nt OtherArgs
-- { "," expr } [","]
rule OtherArgs = Tail k.Comma (Nt Expression) Empty
rule Group = Tok k.LeftParen · Nt Expression · Tok k.RightParen

abbrev pub expr : At → Form → Expr
expr at f = record { at = at; form = f }

-- a chain of one operand is the operand
abbrev pub or_of : Expr → List Expr → Expr
or_of first [] = first
or_of first (e ∷ more) = expr first.at (form.Or (first ∷ e ∷ more))

abbrev pub and_of : Expr → List Expr → Expr
and_of first [] = first
and_of first (e ∷ more) = expr first.at (form.And (first ∷ e ∷ more))

abbrev pub arith_of : Expr → List (ArithOp × Expr) → Expr
arith_of first [] = first
arith_of first (e ∷ more) = expr first.at (form.Arith first (e ∷ more))

abbrev pub else_none : {X : Type 0} → Option (List X) → List X
else_none None = []
else_none (Some xs) = xs

abbrev pub else_nothing : Option (List Stmt × Option Expr) → List Stmt × Option Expr
else_nothing None = ([], None)
else_nothing (Some p) = p

abbrev pub else_unit : Option Typ → Typ
else_unit None = typ.Unit
else_unit (Some t) = t

abbrev pub before : Stmt → List Stmt × Option Expr → List Stmt × Option Expr
before s more = (s ∷ more.0, more.1)

abbrev pub public : item.Item → item.Item
public i = record i { public = true }

-- what a form's parts make
abbrev pub made : (n : Rule) → Val (shape n) → Tree n
made Text sections = sections
made Part (inl (_, (_, contents))) = contents
made Part (inr (inl (_, contents))) = contents
made Part (inr (inr item)) = Alone item
made Contents (name, (_, (items, _))) = Module name.at name.text items
made Item (lexemes, i) = record { at = name_place lexemes; placed = record { «module» = []; start = start_of lexemes; item = record i { tokens = map token (seen (start_of lexemes) lexemes) } } }
made Definition (inl (_, (_, i))) = public i
made Definition (inr (inl (_, i))) = i
made Definition (inr (inr i)) = i
made Constant (name, (_, (t, (_, (value, _))))) = record { public = false; name = name.text; at = name.at; tokens = []; body = body.Const t value }
made Function (marker, (pub_, (_, (name, (params, (gives, inner)))))) =
    record { public = is_some pub_; name = name.text; at = name.at; tokens = []; body = body.Func (is_some marker) params (else_unit gives) inner.0 inner.1 }
made Marker _ = tt
made Parameters (_, (params, _)) = else_none params
made Params (first, more) = first ∷ more
made OtherParams (more, _) = more
made Param (name, (_, t)) = record { at = name.at; name = name.text; typ = t }
made TypeName (inl _) = typ.Int
made TypeName (inr _) = typ.Bool
made Gives (_, t) = t
made Braced (_, (inner, _)) = inner
made Body rest = else_nothing rest
made Rest (inl (s, more)) = before s more
made Rest (inr (inl (name, (_, (value, (_, more)))))) = before (stmt.Assign name.at name.text value) more
made Rest (inr (inr (e, None))) = ([], Some e)
made Rest (inr (inr (e, Some (_, more)))) = before (stmt.Eval e) more
made Worded (inl s) = s
made Worded (inr (inl s)) = s
made Worded (inr (inr (inl s))) = s
made Worded (inr (inr (inr (inl s)))) = s
made Worded (inr (inr (inr (inr s)))) = s
made Statement (inl s) = s
made Statement (inr (inl (name, (_, (value, _))))) = stmt.Assign name.at name.text value
made Statement (inr (inr (e, _))) = stmt.Eval e
made Binding (_, (mut_, (name, (t, (_, (value, _)))))) = stmt.Let (is_some mut_) name.at name.text t value
made Typing (_, t) = t
made Returning (word, (value, _)) = stmt.Return word.at value
made Loop (_, (cond, inner)) = stmt.While cond inner
made Choice (first, others) = stmt.If (first ∷ others.0) others.1
made Arm (_, (cond, inner)) = (cond, inner)
made OtherArms others = others
made Printing (_, (_, (_, (_, (_, (value, _)))))) = stmt.Print value
made Block (_, (stmts, _)) = stmts
made Expression (first, more) = or_of first more
made OrNext (_, e) = e
made Conjunction (first, more) = and_of first more
made AndNext (_, e) = e
made Comparison (a, None) = a
made Comparison (a, Some b) = expr a.at (form.Compare b.0 a b.1)
made Compared (op, b) = (op, b)
made CmpSign (inl _) = cmp.Equal
made CmpSign (inr (inl _)) = cmp.NotEqual
made CmpSign (inr (inr (inl _))) = cmp.Less
made CmpSign (inr (inr (inr (inl _)))) = cmp.Greater
made CmpSign (inr (inr (inr (inr (inl _))))) = cmp.AtMost
made CmpSign (inr (inr (inr (inr (inr _))))) = cmp.AtLeast
made Sum (first, more) = arith_of first more
made SumNext (op, e) = (op, e)
made SumSign (inl _) = arith.Add
made SumSign (inr _) = arith.Sub
made Product (first, more) = arith_of first more
made ProductNext (op, e) = (op, e)
made ProductSign (inl _) = arith.Mul
made ProductSign (inr (inl _)) = arith.Div
made ProductSign (inr (inr _)) = arith.Rem
made Unary (None, e) = e
made Unary (Some sign, e) = expr sign.0 (form.Unary sign.1 e)
made UnarySign (inl t) = (t.at, unary.Negate)
made UnarySign (inr t) = (t.at, unary.Not)
made Primary (inl e) = e
made Primary (inr (inl e)) = e
made Primary (inr (inr e)) = e
made Literal (inl t) = expr t.at (form.Number (pos (value_of t.text)))
made Literal (inr (inl t)) = expr t.at (form.Truth true)
made Literal (inr (inr t)) = expr t.at (form.Truth false)
made Use (route, None) = expr route.at (form.Path route)
made Use (route, Some args) = expr route.at (form.Call route args)
made Route (inl (name, None)) = record { at = name.at; rooted = false; «module» = None; name = name.text }
made Route (inl (first, Some name)) = record { at = first.at; rooted = false; «module» = Some first.text; name = name }
made Route (inr (root, (name, None))) = record { at = root.at; rooted = true; «module» = None; name = name }
made Route (inr (root, (first, Some name))) = record { at = root.at; rooted = true; «module» = Some first; name = name }
made Member (_, name) = name.text
made Arguments (_, (args, _)) = else_none args
made Args (first, more) = first ∷ more
made OtherArgs (more, _) = more
made Group (left, (e, _)) = expr left.at (form.Group e)

-- The grammar as docs/LANGUAGE.md writes it, where a rule is another than the factored one. `Rest` is no rule of
-- it: none leads there.

abbrev pub second : {X Y : Type 0} → X × Y → Y
second p = p.1

abbrev pub held : {X Y : Type 0} → Option (X × Y) → Option Y
held None = None
held (Some p) = Some p.1

abbrev pub written_shape : Rule → Shape
written_shape Part = either (both (maybe lexeme) (both lexeme (tree Contents))) (tree Item)
written_shape Definition = either (both (maybe lexeme) (both lexeme (tree Constant))) (tree Function)
written_shape OtherParams = both (many (both lexeme (tree Param))) (maybe lexeme)
written_shape Body = both (many (tree Statement)) (maybe (tree Expression))
written_shape OtherArms = both (many (both lexeme (tree Arm))) (maybe (both lexeme (tree Block)))
written_shape Route = either lexeme (either (both lexeme (both lexeme lexeme)) (either (both lexeme (both lexeme lexeme)) (both lexeme (both lexeme (both lexeme (both lexeme lexeme))))))
written_shape OtherArgs = both (many (both lexeme (tree Expression))) (maybe lexeme)
written_shape n = shape n

abbrev pub written : (n : Rule) → Grammar (written_shape n)
-- ["pub"] "mod" contents | item
written Part = Alt (Opt (Tok k.Pub) · Tok k.Mod · Nt Contents) (Nt Item)
-- ["pub"] "const" constant | function
written Definition = Alt (Opt (Tok k.Pub) · Tok k.Const · Nt Constant) (Nt Function)
-- { "," param } [","]
written OtherParams = Rep (Tok k.Comma · Nt Param) · Opt (Tok k.Comma)
-- { stmt } [ expr ]
written Body = Rep (Nt Statement) · Opt (Nt Expression)
-- .. | name "=" expr ";" | expr ";"
written Statement = Alt (Nt Worded) (Alt (Tok k.Name · Tok k.Assign · Nt Expression · Tok k.Semicolon) (Nt Expression · Tok k.Semicolon))
-- { "else" arm } [ "else" block ]
written OtherArms = Rep (Tok k.Else · Nt Arm) · Opt (Tok k.Else · Nt Block)
-- name | name "::" name | "crate" "::" name | "crate" "::" name "::" name
written Route = Alt (Tok k.Name) (Alt (Tok k.Name · Tok k.DoubleColon · Tok k.Name) (Alt (Tok k.Crate · Tok k.DoubleColon · Tok k.Name) (Tok k.Crate · Tok k.DoubleColon · Tok k.Name · Tok k.DoubleColon · Tok k.Name)))
-- { "," expr } [","]
written OtherArgs = Rep (Tok k.Comma · Nt Expression) · Opt (Tok k.Comma)
written n = rule n

abbrev pub written_made : (n : Rule) → Val (written_shape n) → Tree n
written_made Part (inl (_, (_, contents))) = contents
written_made Part (inr item) = Alone item
written_made Definition (inl (None, (_, i))) = i
written_made Definition (inl (Some _, (_, i))) = public i
written_made Definition (inr i) = i
written_made OtherParams (turns, _) = map (second {X = Lexeme} {Y = param.Param}) turns
written_made Body parts = parts
written_made OtherArms (turns, last) = (map (second {X = Lexeme} {Y = Expr × List Stmt}) turns, held {X = Lexeme} {Y = List Stmt} last)
written_made Route (inl name) = record { at = name.at; rooted = false; «module» = None; name = name.text }
written_made Route (inr (inl (first, (_, name)))) = record { at = first.at; rooted = false; «module» = Some first.text; name = name.text }
written_made Route (inr (inr (inl (root, (_, name))))) = record { at = root.at; rooted = true; «module» = None; name = name.text }
written_made Route (inr (inr (inr (root, (_, (first, (_, name))))))) = record { at = root.at; rooted = true; «module» = Some first.text; name = name.text }
written_made OtherArgs (turns, _) = map (second {X = Lexeme} {Y = Expr}) turns
written_made n x = made n x

-- the two grammars
pub data Version : Type 0 where
  AsWritten Factored : Version

abbrev pub shape_in : Version → Rule → Shape
shape_in AsWritten n = written_shape n
shape_in Factored n = shape n

abbrev pub rule_in : (v : Version) (n : Rule) → Grammar (shape_in v n)
rule_in AsWritten n = written n
rule_in Factored n = rule n

abbrev pub made_in : (v : Version) (n : Rule) → Val (shape_in v n) → Tree n
made_in AsWritten n x = written_made n x
made_in Factored n x = made n x

-- the tokens are of the form, by one of the grammars, and are read as the value
pub data MatchesIn (v : Version) : (s : Shape) → Grammar s → List Lexeme → Val s → Type 0 where
  m-tok : {c : Kind} {t : Lexeme} → t.kind ≡ c → MatchesIn v _ (Tok c) (t ∷ []) t
  m-empty : MatchesIn v _ Empty [] tt
  m-seq : {s t : Shape} {g : Grammar s} {h : Grammar t} {a b : List Lexeme} {x : Val s} {y : Val t} → MatchesIn v _ g a x → MatchesIn v _ h b y → MatchesIn v _ (Seq g h) (a ++ b) (x, y)
  m-left : {s t : Shape} {g : Grammar s} {h : Grammar t} {a : List Lexeme} {x : Val s} → MatchesIn v _ g a x → MatchesIn v _ (Alt g h) a (inl x)
  m-right : {s t : Shape} {g : Grammar s} {h : Grammar t} {a : List Lexeme} {y : Val t} → MatchesIn v _ h a y → MatchesIn v _ (Alt g h) a (inr y)
  m-none : {s : Shape} {g : Grammar s} → MatchesIn v _ (Opt g) [] None
  m-some : {s : Shape} {g : Grammar s} {a : List Lexeme} {x : Val s} → MatchesIn v _ g a x → MatchesIn v _ (Opt g) a (Some x)
  m-stop : {s : Shape} {g : Grammar s} → MatchesIn v _ (Rep g) [] []
  m-turn : {s : Shape} {g : Grammar s} {a b : List Lexeme} {x : Val s} {xs : List (Val s)} → MatchesIn v _ g a x → MatchesIn v _ (Rep g) b xs → MatchesIn v _ (Rep g) (a ++ b) (x ∷ xs)
  m-tail_stop : {s t : Shape} {c : Kind} {g : Grammar s} {h : Grammar t} → MatchesIn v _ (Tail c g h) [] ([], None)
  m-tail_last : {s t : Shape} {c : Kind} {g : Grammar s} {h : Grammar t} {d : Lexeme} {a : List Lexeme} {y : Val t} → d.kind ≡ c → MatchesIn v _ h a y → MatchesIn v _ (Tail c g h) (d ∷ a) ([], Some y)
  m-tail_turn : {s t : Shape} {c : Kind} {g : Grammar s} {h : Grammar t} {d : Lexeme} {a b : List Lexeme} {x : Val s} {xs : List (Val s)} {y : Option (Val t)}
      → d.kind ≡ c → MatchesIn v _ g a x → MatchesIn v _ (Tail c g h) b (xs, y) → MatchesIn v _ (Tail c g h) (d ∷ (a ++ b)) (x ∷ xs, y)
  m-ahead : {s t : Shape} {p : Pair} {g : Grammar s} {h : Grammar t} {a : List Lexeme} {x : Val (both lexeme (both lexeme s))} → MatchesIn v _ (Seq (Tok (one p)) (Seq (Tok (two p)) g)) a x → MatchesIn v _ (Ahead p g h) a (inl x)
  m-not_ahead : {s t : Shape} {p : Pair} {g : Grammar s} {h : Grammar t} {a : List Lexeme} {y : Val t} → MatchesIn v _ h a y → MatchesIn v _ (Ahead p g h) a (inr y)
  m-here : {s : Shape} {g : Grammar s} {t : Lexeme} {a : List Lexeme} {x : Val s} → MatchesIn v _ g (seen t.at (t ∷ a)) x → MatchesIn v _ (Here g) (t ∷ a) (t ∷ a, x)
  m-nt : {n : Rule} {a : List Lexeme} {x : Val (shape_in v n)} → MatchesIn v _ (rule_in v n) a x → MatchesIn v _ (Nt n) a (made_in v n x)

-- the tokens are a front of the form, by one of the grammars
pub data IsFrontIn (v : Version) : (s : Shape) → Grammar s → List Lexeme → Type 0 where
  f-none : {s : Shape} {g : Grammar s} → IsFrontIn v _ g []
  f-tok : {c : Kind} {t : Lexeme} → t.kind ≡ c → IsFrontIn v _ (Tok c) (t ∷ [])
  f-first : {s t : Shape} {g : Grammar s} {h : Grammar t} {a : List Lexeme} → IsFrontIn v _ g a → IsFrontIn v _ (Seq g h) a
  f-rest : {s t : Shape} {g : Grammar s} {h : Grammar t} {a b : List Lexeme} {x : Val s} → MatchesIn v _ g a x → IsFrontIn v _ h b → IsFrontIn v _ (Seq g h) (a ++ b)
  f-left : {s t : Shape} {g : Grammar s} {h : Grammar t} {a : List Lexeme} → IsFrontIn v _ g a → IsFrontIn v _ (Alt g h) a
  f-right : {s t : Shape} {g : Grammar s} {h : Grammar t} {a : List Lexeme} → IsFrontIn v _ h a → IsFrontIn v _ (Alt g h) a
  f-some : {s : Shape} {g : Grammar s} {a : List Lexeme} → IsFrontIn v _ g a → IsFrontIn v _ (Opt g) a
  f-turn : {s : Shape} {g : Grammar s} {a : List Lexeme} → IsFrontIn v _ g a → IsFrontIn v _ (Rep g) a
  f-turns : {s : Shape} {g : Grammar s} {a b : List Lexeme} {x : Val s} → MatchesIn v _ g a x → IsFrontIn v _ (Rep g) b → IsFrontIn v _ (Rep g) (a ++ b)
  f-tail_last : {s t : Shape} {c : Kind} {g : Grammar s} {h : Grammar t} {d : Lexeme} {a : List Lexeme} → d.kind ≡ c → IsFrontIn v _ h a → IsFrontIn v _ (Tail c g h) (d ∷ a)
  f-tail_turn : {s t : Shape} {c : Kind} {g : Grammar s} {h : Grammar t} {d : Lexeme} {a : List Lexeme} → d.kind ≡ c → IsFrontIn v _ g a → IsFrontIn v _ (Tail c g h) (d ∷ a)
  f-tail_turns : {s t : Shape} {c : Kind} {g : Grammar s} {h : Grammar t} {d : Lexeme} {a b : List Lexeme} {x : Val s}
      → d.kind ≡ c → MatchesIn v _ g a x → IsFrontIn v _ (Tail c g h) b → IsFrontIn v _ (Tail c g h) (d ∷ (a ++ b))
  f-ahead : {s t : Shape} {p : Pair} {g : Grammar s} {h : Grammar t} {a : List Lexeme} → IsFrontIn v _ (Seq (Tok (one p)) (Seq (Tok (two p)) g)) a → IsFrontIn v _ (Ahead p g h) a
  f-not_ahead : {s t : Shape} {p : Pair} {g : Grammar s} {h : Grammar t} {a : List Lexeme} → IsFrontIn v _ h a → IsFrontIn v _ (Ahead p g h) a
  f-here : {s : Shape} {g : Grammar s} {t : Lexeme} {a : List Lexeme} → IsFrontIn v _ g (seen t.at (t ∷ a)) → IsFrontIn v _ (Here g) (t ∷ a)
  f-nt : {n : Rule} {a : List Lexeme} → IsFrontIn v _ (rule_in v n) a → IsFrontIn v _ (Nt n) a

-- by the factored grammar
abbrev pub Matches : (s : Shape) → Grammar s → List Lexeme → Val s → Type 0
Matches s g tokens x = MatchesIn Factored s g tokens x

abbrev pub IsFront : (s : Shape) → Grammar s → List Lexeme → Type 0
IsFront s g tokens = IsFrontIn Factored s g tokens
