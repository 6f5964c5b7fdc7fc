use Rattle.std.proofs.Common.{◌∙◌, sym, arith}
use Rattle.rs_tree.proofs.Tables.{no_sign, sign_at_length}
use Rattle.rs_tree.proofs.sign.sign_of.Goals as goal

pub returns-in-len4 : goal.returns-in-len4
returns-in-len4 c = c.string_of.ensures ∙ sym (sign_at_length c.args.text.now 4 (omega arith))

pub returns-in_default : goal.returns-in_default
returns-in_default c = sym (no_sign c.args.text.now (omega arith) (omega arith) (omega arith))

pub returns-in_default-2 : goal.returns-in_default-2
returns-in_default-2 c = sym (no_sign c.args.text.now (omega arith) (omega arith) (omega arith))

pub returns-in_default-3 : goal.returns-in_default-3
returns-in_default-3 c = sym (no_sign c.args.text.now (omega arith) (omega arith) (omega arith))
