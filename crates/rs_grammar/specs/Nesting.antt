-- How deep brackets nest (docs/LANGUAGE.md, "Faults").
use Rattle.std.specs.Prelude.{◌≡◌, ℕ, ◌+◌, ◌-◌, ◌<◌, ◌≤◌, List, [], ◌∷◌, ◌++◌}
use Rattle.rs_tree.specs.declared.kind.Kind.{Kind}
use Rattle.rs_tree.specs.declared.kind.Kind.TheVariants as k
use Rattle.rs_tree.specs.declared.place.At.{At}
use Rattle.rs_grammar.specs.Lexeme.{Lexeme}

-- how many of `(` and `{` are open after a token, never below 0
abbrev pub open_after : ℕ → Kind → ℕ
open_after n k.LeftParen = n + 1
open_after n k.LeftBrace = n + 1
open_after n k.RightParen = n - 1
open_after n k.RightBrace = n - 1
open_after n _ = n

abbrev pub open_from : ℕ → List Lexeme → ℕ
open_from n [] = n
open_from n (t ∷ ts) = open_from (open_after n t.kind) ts

-- how many are open after these tokens
abbrev pub depth : List Lexeme → ℕ
depth tokens = open_from 0 tokens

-- nowhere are more than 64 open
abbrev pub IsShallow : List Lexeme → Type 0
IsShallow tokens = (before rest : List Lexeme) → tokens ≡ before ++ rest → depth before ≤ 64

-- the place of the first bracket with which more than 64 are open
pub record IsTooDeep (tokens : List Lexeme) (at : At) : Type 0 where
  pub before : List Lexeme
  pub bracket : Lexeme
  pub rest : List Lexeme
  pub parts : tokens ≡ before ++ bracket ∷ rest
  pub shallow : IsShallow before
  pub deep : 64 < depth (before ++ bracket ∷ [])
  pub place : at ≡ bracket.at
