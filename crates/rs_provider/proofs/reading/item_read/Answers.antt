use Rattle.std.proofs.Common.{◌∙◌}
use Rattle.std.proofs.lemmas.Result.{IfOk-weaker}
use Rattle.rs_provider.proofs.Readings.{item_read, no_item_read}
use Rattle.rs_provider.proofs.reading.item_read.Goals as goal

pub returns-in-None : goal.returns-in-None
returns-in-None c = no_item_read c.args.value.now _ (rw c.as_slice.ensures.value at c.in_ok-read_item.ensures) c.in-None.is

pub returns-in-Some : goal.returns-in-Some
returns-in-Some c = IfOk-weaker c.item_of-item.result _ _ (λ o is. is ∙ item_read c.args.value.now _ c.in-Some.tokens (rw c.as_slice.ensures.value at c.in_ok-read_item.ensures) c.in-Some.is) c.item_of-item.ensures
