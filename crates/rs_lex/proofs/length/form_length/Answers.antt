use Rattle.std.proofs.Common.{◌<◌, ◌∙◌, sym, arith}
use Rattle.std.specs.List.{prefix_len}
use Rattle.std.proofs.lemmas.List.Sums.{prefix_len-le-length}
use Rattle.rs_tree.specs.Words.{is_word_byte}
use Rattle.rs_lex.specs.Pieces.{is_mark}
use Rattle.rs_lex.proofs.Forms.{word_or_mark}
use Rattle.rs_lex.proofs.Fronts.{longest_front-found}
use Rattle.rs_lex.proofs.length.form_length.Goals as goal

pub returns-in-0-clause-within : goal.returns-in-0-clause-within
returns-in-0-clause-within c = rw c.mark_length.ensures (longest_front-found is_mark 4 c.args.rest.now).within

pub returns-in_default-clause-value : goal.returns-in_default-clause-value
returns-in_default-clause-value c =
    let is = c.word_length.ensures in
    let some : 0 < prefix_len is_word_byte c.args.rest.now = grind (arith, is, c.in_default) in
    is ∙ sym (word_or_mark c.args.rest.now some)

pub returns-in_default-clause-within : goal.returns-in_default-clause-within
returns-in_default-clause-within c = rw c.word_length.ensures (prefix_len-le-length is_word_byte c.args.rest.now)
