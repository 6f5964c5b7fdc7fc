-- The lines of a text's diagnostics, and what a clean build says of them.
use Rattle.std.specs.Prelude.{◌≡◌, ℕ, List, [], ◌∷◌, not, Some, is_some}
use Rattle.rs_tree.specs.declared.answers.Const.{Const}
use Rattle.rs_tree.specs.declared.tree.Crate.{Crate}
use Rattle.rs_text.specs.declared.fault.TextFault.{TextFault}
use Rattle.rs_lines.specs.Lines.{has_error, printed_all}
use Rattle.rs_lines.specs.declared.line.Line.{Line}
use Rattle.rs_const.specs.Constants.{AreValues}
use Rattle.rs_queries.specs.declared.compiled.CleanBuild.{CleanBuild}
use Rattle.rs_queries.specs.Diagnosed.{OfText, fault_line, tree_lines}
use Rattle.rs_queries.specs.Known.{constants_of}

-- the line of a fault
pub record IsFaultLine (fault : TextFault) (ls : List Line) : Type 0 where
  pub line : Line
  pub is : fault_line fault ≡ Some line
  pub alone : ls ≡ line ∷ []

-- the lines of a tree, whose constants have their values
pub record AreTreeLines (krate : Crate) (ls : List Line) : Type 0 where
  pub values : List Const
  pub are : AreValues (constants_of krate) values
  pub lines : ls ≡ tree_lines krate values

-- the line of a text's fault, where it has one, and the lines of its tree
abbrev pub AreLines : List ℕ → List Line → Type 0
AreLines bytes ls = OfText bytes (λ f. IsFaultLine f ls) (λ krate. AreTreeLines krate ls)

-- A clean build tells these lines, and has an image exactly where none of them is an error's.
pub record Tells (b : CleanBuild) (ls : List Line) : Type 0 where
  pub says : b.diags ≡ printed_all ls
  pub image : is_some b.image ≡ not (has_error ls)
