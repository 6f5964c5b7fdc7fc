-- Tokens in their ranges have byte forms.
use Rattle.std.proofs.Common.{List, [], ◌∷◌}
use Rattle.inc_wire.specs.Fits.{Each, FitsList}
use Rattle.inc_wire.specs.Forms.{list_form}
use Rattle.inc_wire.specs.Narrow.{read_back}
use Rattle.rs_tree.specs.declared.token.Token.{Token}
use Rattle.rs_forms.specs.Fits.{FitsToken}
use Rattle.rs_forms.specs.Forms.{token_form}
use Rattle.rs_lex.specs.Ranges.{AreInRange, EachInRange}
use Rattle.rs_text.specs.Laws.{TokensFit}

each_fits : (tokens : List Token) → EachInRange tokens → Each FitsToken tokens
each_fits [] in_range = tt
each_fits (token ∷ tokens) in_range = (record { line = in_range.0.line; column = in_range.0.column; text = in_range.0.text }, each_fits tokens in_range.1)

fits : (tokens : List Token) → AreInRange tokens → FitsList FitsToken tokens
fits tokens in_range = record { few = in_range.few; each = each_fits tokens in_range.each }

pub tokens_fit : TokensFit
tokens_fit = record {
  fit = fits;
  back = λ tokens read in_range is. read_back (FitsList FitsToken) (list_form token_form) tokens read (fits tokens in_range) is;
}
