-- The turns of a function's body, and the sequences that have a function of their own.
use Rattle.std.specs.Prelude.{◌≤◌, ◌<◌, length, List, [], ◌∷◌, ◌++◌, Option, Some, None, Result, Ok, Err}
use Rattle.std.proofs.Common.{inl, inr}
use Rattle.rs_tree.specs.declared.kind.Kind.TheVariants as k
use Rattle.rs_tree.specs.declared.tree.Expr.{Expr}
use Rattle.rs_tree.specs.declared.tree.Stmt.{Stmt}
use Rattle.rs_reader.specs.declared.fault.Fault.{Fault}
use Rattle.rs_reader.specs.declared.fault.Fault.TheVariants.{Syntax, Memory}
use Rattle.rs_parse.specs.declared.body.Turn.{Turn}
use Rattle.rs_parse.specs.declared.body.Turn.TheVariants.{Whole, Last}
use Rattle.rs_grammar.specs.Lexeme.{Lexeme}
use Rattle.rs_grammar.specs.Grammar.{lexeme, both, tree, Val, Grammar, Tok, Nt, ◌·◌, Body, Rest, Constant, Statement, Expression, made}
use Rattle.rs_grammar.specs.Parses.{Parses}

-- The statements of a body so far.
pub record BodyTurns (start : List Lexeme) (done : List Stmt) (now : List Lexeme) : Type 0 where
  pub ends : (y : List Stmt × Option Expr) (w : List Lexeme) → Parses _ (Nt Body) now (Some y) w → Parses _ (Nt Body) start (Some (done ++ y.0, y.1)) w
  pub fails : (w : List Lexeme) → Parses _ (Nt Body) now None w → Parses _ (Nt Body) start None w
  pub on : length now ≤ length start

-- One more statement of a body.
pub record OneMore (old : List Lexeme) (s : Stmt) (new : List Lexeme) : Type 0 where
  pub ends : (y : List Stmt × Option Expr) (w : List Lexeme) → Parses _ (Nt Body) new (Some y) w → Parses _ (Nt Rest) old (Some (s ∷ y.0, y.1)) w
  pub fails : (w : List Lexeme) → Parses _ (Nt Body) new None w → Parses _ (Nt Rest) old None w
  pub on : length new < length old

-- It, or the expression at the end.
abbrev pub ReadsOne : List Lexeme → Result Turn Fault → List Lexeme → Type 0
ReadsOne old (Ok (Whole s)) new = OneMore old s new
ReadsOne old (Ok (Last e)) new = Parses _ (Nt Rest) old (Some ([], Some e)) new
ReadsOne old (Err Syntax) new = Parses _ (Nt Rest) old None new
ReadsOne old (Err Memory) new = Unit {0}

-- name = e ;
abbrev pub assignment : Grammar (both lexeme (both lexeme (both (tree Expression) lexeme)))
assignment = Tok k.Name · Tok k.Assign · Nt Expression · Tok k.Semicolon

abbrev pub assigned : Val (both lexeme (both lexeme (both (tree Expression) lexeme))) → Stmt
assigned v = made Statement (inr (inl v))

-- e ;
abbrev pub evaluation : Grammar (both (tree Expression) lexeme)
evaluation = Nt Expression · Tok k.Semicolon

abbrev pub evaluated : Val (both (tree Expression) lexeme) → Stmt
evaluated v = made Statement (inr (inr v))

-- pub const ..
abbrev pub public_constant : Grammar (both lexeme (both lexeme (tree Constant)))
public_constant = Tok k.Pub · Tok k.Const · Nt Constant
