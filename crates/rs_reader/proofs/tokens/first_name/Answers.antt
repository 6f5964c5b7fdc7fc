use Rattle.std.proofs.Common.{sym, ◌∙◌}
use Rattle.rs_reader.proofs.Sighted.{name_later}
use Rattle.rs_reader.proofs.tokens.first_name.Goals as goal

pub loop-i-preserved : goal.loop-i-preserved
loop-i-preserved c = name_later c.args.tokens.now c.args.kinds.now c.loop-i.i c.requires c.loop-i-test.true _ (sym c.if-eq.ensures) ∙ c.loop-i.invariant
