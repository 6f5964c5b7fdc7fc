use Rattle.std.proofs.Common.{Ok, sym, subst}
use Rattle.rs_lex.specs.Tokens.{HasTokens}
use Rattle.rs_text.specs.Text.{IsTextRefusal}
use Rattle.rs_text.proofs.Whole.{byte_so, read_so, refusal_so}
use Rattle.rs_text.proofs.text.read_text.Goals as goal

pub returns-in-Err-At-clause-fault : goal.returns-in-Err-At-clause-fault
returns-in-Err-At-clause-fault c = cc (byte_so c.args.text.now c.in-Err-At.field-0 _ c.in-Err-At.field-0-is c.in-Err-At.ensures.fault, c.in-Err-At.at-is)

pub returns-in-Ok-parse-clause-tree : goal.returns-in-Ok-parse-clause-tree
returns-in-Ok-parse-clause-tree c =
    sym (read_so c.args.text.now c.as_slice.result.now (Ok c.in-Ok-parse.tree) (subst (HasTokens c.args.text.now) (sym c.as_slice.ensures.value) c.in-Ok.ensures.tokens) c.in-Ok-parse.ensures.tree)

pub returns-clause-fault : goal.returns-clause-fault
returns-clause-fault c =
    subst (IsTextRefusal c.args.text.now) (sym c.fault_of.ensures)
    (refusal_so c.args.text.now c.as_slice.result.now _ (subst (HasTokens c.args.text.now) (sym c.as_slice.ensures.value) c.in-Ok.ensures.tokens) c.in_ok-end.ensures _ c.in-Err.ensures.fault)
