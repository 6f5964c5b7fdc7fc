use Rattle.range_laws.proofs.Whole.{text_bounded}
use Rattle.range_laws.proofs.trees.trees_are_bounded.Goals as goal

pub returns : goal.returns
returns c text krate short e = text_bounded c.texts_are_read.ensures.text text krate short e
