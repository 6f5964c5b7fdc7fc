-- The numbers of two kinds differ.
use Rattle.std.proofs.Common.{◌≡◌, List, [], ◌∷◌, get_or, refl, sym, ap, ◌∙◌}
use Rattle.rs_tree.specs.Kinds.{code}
use Rattle.rs_tree.specs.declared.kind.Kind.{Kind}
use Rattle.rs_tree.specs.declared.kind.Kind.TheVariants as k

all : List Kind
all =
    k.Name ∷ k.Number ∷ k.Text ∷ k.Reserved ∷ k.Bool ∷ k.Const ∷ k.Crate ∷ k.Else ∷ k.False ∷
    k.Fn ∷ k.Int ∷ k.If ∷ k.Inline ∷ k.Let ∷ k.Mod ∷ k.Mut ∷ k.Println ∷ k.Pub ∷ k.Return ∷
    k.True ∷ k.While ∷ k.LeftParen ∷ k.RightParen ∷ k.LeftBrace ∷ k.RightBrace ∷ k.LeftBracket ∷
    k.RightBracket ∷ k.Hash ∷ k.Semicolon ∷ k.Comma ∷ k.Colon ∷ k.DoubleColon ∷ k.Arrow ∷
    k.Assign ∷ k.Equal ∷ k.NotEqual ∷ k.Less ∷ k.Greater ∷ k.AtMost ∷ k.AtLeast ∷ k.Plus ∷
    k.Minus ∷ k.Star ∷ k.Slash ∷ k.Percent ∷ k.Not ∷ k.And ∷ k.Or ∷ []

at_code : (kind : Kind) → get_or all (code kind) k.Name ≡ kind
unfolding all code
at_code k.Name = refl
at_code k.Number = refl
at_code k.Text = refl
at_code k.Reserved = refl
at_code k.Bool = refl
at_code k.Const = refl
at_code k.Crate = refl
at_code k.Else = refl
at_code k.False = refl
at_code k.Fn = refl
at_code k.Int = refl
at_code k.If = refl
at_code k.Inline = refl
at_code k.Let = refl
at_code k.Mod = refl
at_code k.Mut = refl
at_code k.Println = refl
at_code k.Pub = refl
at_code k.Return = refl
at_code k.True = refl
at_code k.While = refl
at_code k.LeftParen = refl
at_code k.RightParen = refl
at_code k.LeftBrace = refl
at_code k.RightBrace = refl
at_code k.LeftBracket = refl
at_code k.RightBracket = refl
at_code k.Hash = refl
at_code k.Semicolon = refl
at_code k.Comma = refl
at_code k.Colon = refl
at_code k.DoubleColon = refl
at_code k.Arrow = refl
at_code k.Assign = refl
at_code k.Equal = refl
at_code k.NotEqual = refl
at_code k.Less = refl
at_code k.Greater = refl
at_code k.AtMost = refl
at_code k.AtLeast = refl
at_code k.Plus = refl
at_code k.Minus = refl
at_code k.Star = refl
at_code k.Slash = refl
at_code k.Percent = refl
at_code k.Not = refl
at_code k.And = refl
at_code k.Or = refl

pub code_injective : (a b : Kind) → code a ≡ code b → a ≡ b
code_injective a b is = sym (at_code a) ∙ ap (λ n. get_or all n k.Name) is ∙ at_code b
